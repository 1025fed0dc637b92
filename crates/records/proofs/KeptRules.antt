-- The rules that a record keeps, by their names.
use Rattle.std.proofs.Common.{◌≡◌, ℕ, ◌%◌, Bool, true, false, cond, not, ◌&&◌, ◌||◌, eqb, ltb, List, [], ◌∷◌, Some, None, Ok, Err, Option, refl, ap}
use Rattle.std.specs.Str.{bytes_eq}
use Rattle.names.specs.Names.{allowed}
use Rattle.names.specs.Units.{well_formed}
use Rattle.fields.specs.declared.version.Version.{Version}
use Rattle.fields.specs.declared.validate.Validation.{Validation}
use Rattle.fields.specs.declared.link.Link.TheVariants.{Left, Right, Child}
use Rattle.fields.specs.declared.timestamp.Time.TheVariants.{Creation, Modified}
use Rattle.fields.specs.declared.malformed.Flaw.{Flaw}
use Rattle.records.specs.declared.direntry.DirEntry.{DirEntry}
use Rattle.records.specs.Bytes.{byte_at}
use Rattle.fields.specs.Kinds.{is_storage, is_stream, is_root}
use Rattle.fields.specs.Versions.{strict}
use Rattle.records.specs.Fields.{name_length, name_in, end_in, kind_in, link_in, clsid_in, time_in, start_in, length_in}
use Rattle.records.specs.Rules.{Rule, first, judge, root_units, nil, nowhere, stray, rules, meaning, reads}

-- no rule of a list is broken
abbrev pub Kept : List Rule → Type 0
Kept [] = Unit {0}
Kept (r ∷ rs) = (r.broken ≡ false) × Kept rs

-- the first broken rule and the judgement say the same
pub judged_ok : {A : Type 0} (rs : List Rule) (x y : A) → judge rs x ≡ Ok y → Kept rs × (x ≡ y)
judged_ok [] x y e = (tt, cc)
judged_ok {A} (r ∷ rs) x y e = by_test r.broken refl (judged_ok rs x y) e
  where
    by_test : (t : Bool) → r.broken ≡ t → (judge rs x ≡ Ok y → Kept rs × (x ≡ y)) → cond t (Err r.flaw) (judge rs x) ≡ Ok y → ((r.broken ≡ false) × Kept rs) × (x ≡ y)
    by_test true q g h = cc
    by_test false q g h = let k = g h in ((q, k.0), k.1)

pub kept_judged : {A : Type 0} (rs : List Rule) (x : A) → Kept rs → judge rs x ≡ Ok x
kept_judged [] x k = refl
kept_judged (r ∷ rs) x k = rw k.0 (kept_judged rs x k.1)

pub kept_none : (rs : List Rule) → Kept rs → first rs ≡ None
kept_none [] k = refl
kept_none (r ∷ rs) k = rw k.0 (kept_none rs k.1)

pub judged_err : {A : Type 0} (rs : List Rule) (x : A) (f : Flaw) → judge rs x ≡ Err f → first rs ≡ Some f
judged_err [] x f e = cc
judged_err {A} (r ∷ rs) x f e = by_test r.broken (judged_err rs x f) e
  where
    by_test : (t : Bool) → (judge rs x ≡ Err f → first rs ≡ Some f) → cond t (Err r.flaw) (judge rs x) ≡ Err f → ◌≡◌ {A = Option Flaw} (cond t (Some r.flaw) (first rs)) (Some f)
    by_test true g h = let z : r.flaw ≡ f = cc in ap Some z
    by_test false g h = g h

-- each rule of a record, kept
pub record Holds (bs : List ℕ) (v : Version) (m : Validation) : Type 0 where
  pub short : ltb 64 (name_length bs) ≡ false
  pub even : not (eqb (name_length bs % 2) 0) ≡ false
  pub ended : (strict m && not (eqb (end_in bs) 0)) ≡ false
  pub utf16 : not (well_formed (name_in bs)) ≡ false
  pub kind : not (eqb (byte_at bs 66) 0 || (eqb (byte_at bs 66) 1 || (eqb (byte_at bs 66) 2 || eqb (byte_at bs 66) 5))) ≡ false
  pub root : (strict m && (is_root (kind_in bs) && not (bytes_eq (name_in bs) root_units))) ≡ false
  pub other : (not (is_root (kind_in bs)) && not (allowed (name_in bs))) ≡ false
  pub color : not (eqb (byte_at bs 67) 0 || eqb (byte_at bs 67) 1) ≡ false
  pub left : stray (link_in bs Left) ≡ false
  pub right : stray (link_in bs Right) ≡ false
  pub childless : (is_stream (kind_in bs) && not (eqb (link_in bs Child) nowhere)) ≡ false
  pub child : stray (link_in bs Child) ≡ false
  pub clsid : (strict m && (is_stream (kind_in bs) && not (bytes_eq (clsid_in bs) nil))) ≡ false
  pub creation : (strict m && (is_stream (kind_in bs) && not (eqb (time_in bs Creation) 0))) ≡ false
  pub modified : (strict m && (is_stream (kind_in bs) && not (eqb (time_in bs Modified) 0))) ≡ false
  pub start : (strict m && (is_storage (kind_in bs) && not (eqb (start_in bs) 0))) ≡ false
  pub length : (strict m && (is_storage (kind_in bs) && not (eqb (length_in bs v) 0))) ≡ false

module _ (bs : List ℕ) (v : Version) (m : Validation) where
  pub by_name : Kept (rules bs v m) → Holds bs v m
  by_name k = record {
    short = k.0;
    even = k.1.0;
    ended = k.1.1.0;
    utf16 = k.1.1.1.0;
    kind = k.1.1.1.1.0;
    root = k.1.1.1.1.1.0;
    other = k.1.1.1.1.1.1.0;
    color = k.1.1.1.1.1.1.1.0;
    left = k.1.1.1.1.1.1.1.1.0;
    right = k.1.1.1.1.1.1.1.1.1.0;
    childless = k.1.1.1.1.1.1.1.1.1.1.0;
    child = k.1.1.1.1.1.1.1.1.1.1.1.0;
    clsid = k.1.1.1.1.1.1.1.1.1.1.1.1.0;
    creation = k.1.1.1.1.1.1.1.1.1.1.1.1.1.0;
    modified = k.1.1.1.1.1.1.1.1.1.1.1.1.1.1.0;
    start = k.1.1.1.1.1.1.1.1.1.1.1.1.1.1.1.0;
    length = k.1.1.1.1.1.1.1.1.1.1.1.1.1.1.1.1.0;
  }

  pub in_order : Holds bs v m → Kept (rules bs v m)
  in_order h =
      (h.short, (h.even, (h.ended, (h.utf16, (h.kind, (h.root, (h.other, (h.color, (h.left, (h.right, (h.childless, (h.child, (h.clsid, (h.creation, (h.modified, (h.start, (h.length, tt)))))))))))))))))

  -- what is read keeps every rule, and is what the record means
  pub read_holds : (e : DirEntry) → reads bs v m ≡ Ok e → Holds bs v m × (meaning bs v ≡ e)
  read_holds e q = let j = judged_ok (rules bs v m) (meaning bs v) e q in (by_name j.0, j.1)

  pub holds_read : Holds bs v m → reads bs v m ≡ Ok (meaning bs v)
  holds_read h = kept_judged (rules bs v m) (meaning bs v) (in_order h)
