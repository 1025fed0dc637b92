-- What a record means that keeps the rules.
use Rattle.std.proofs.Common.{◌≡◌, ℕ, Bool, true, false, cond, not, ◌||◌, eqb, List, Some, None, Ok, Err, Result, MatchResult, sym, refl, subst}
use Rattle.std.proofs.lemmas.Bool.{eqb-true}
use Rattle.fields.specs.declared.objtype.ObjType.TheVariants.{Unallocated, Storage, Stream, Root}
use Rattle.fields.specs.declared.color.Color.TheVariants.{Red, Black}
use Rattle.fields.specs.declared.version.Version.{Version}
use Rattle.fields.specs.declared.validate.Validation.{Validation}
use Rattle.fields.specs.declared.malformed.Flaw.{Flaw}
use Rattle.records.specs.declared.direntry.DirEntry.{DirEntry}
use Rattle.records.specs.Bytes.{byte_at}
use Rattle.fields.specs.Kinds.{type_byte, color_byte}
use Rattle.records.specs.Fields.{kind_in, color_in}
use Rattle.records.specs.Rules.{about, first, rules, meaning, reads}
use Rattle.records.specs.Means.{Means}
use Rattle.records.proofs.KeptRules.{Holds, judged_ok, kept_none, judged_err, by_name}

-- the byte of a type that is kept
type_by : (a b c d : Bool) (x : ℕ) → (a ≡ true → x ≡ 0) → (b ≡ true → x ≡ 1) → (c ≡ true → x ≡ 2) → (d ≡ true → x ≡ 5) → not (a || (b || (c || d))) ≡ false → type_byte (cond b Storage (cond c Stream (cond d Root Unallocated))) ≡ x
type_by a true c d x p q r s k = sym (q refl)
type_by a false true d x p q r s k = sym (r refl)
type_by a false false true x p q r s k = sym (s refl)
type_by true false false false x p q r s k = sym (p refl)
type_by false false false false x p q r s k = cc

color_by : (a b : Bool) (x : ℕ) → (a ≡ true → x ≡ 0) → (b ≡ true → x ≡ 1) → not (a || b) ≡ false → color_byte (cond b Black Red) ≡ x
color_by a true x p q k = sym (q refl)
color_by true false x p q k = sym (p refl)
color_by false false x p q k = cc

module _ (bs : List ℕ) (v : Version) (m : Validation) where
  pub type_kept : Holds bs v m → type_byte (kind_in bs) ≡ byte_at bs 66
  type_kept h =
      type_by (eqb (byte_at bs 66) 0) (eqb (byte_at bs 66) 1) (eqb (byte_at bs 66) 2) (eqb (byte_at bs 66) 5) (byte_at bs 66)
      (eqb-true (byte_at bs 66) 0) (eqb-true (byte_at bs 66) 1) (eqb-true (byte_at bs 66) 2) (eqb-true (byte_at bs 66) 5) h.kind

  pub color_kept : Holds bs v m → color_byte (color_in bs) ≡ byte_at bs 67
  color_kept h = color_by (eqb (byte_at bs 67) 0) (eqb (byte_at bs 67) 1) (byte_at bs 67) (eqb-true (byte_at bs 67) 0) (eqb-true (byte_at bs 67) 1) h.color

  means_kept : Holds bs v m → Means bs v (meaning bs v)
  means_kept h = record {
    name = refl;
    kind = type_kept h;
    color = color_kept h;
    left = refl;
    right = refl;
    child = refl;
    clsid = refl;
    state = refl;
    creation = refl;
    modified = refl;
    start = refl;
    length = refl;
  }

  -- what reading answers
  accepted : (e : DirEntry) → Ok e ≡ reads bs v m → (first (rules bs v m) ≡ None) × Means bs v e
  accepted e q =
      let j = judged_ok (rules bs v m) (meaning bs v) e (sym q) in
      (kept_none (rules bs v m) j.0, subst (Means bs v) j.1 (means_kept (by_name bs v m j.0)))

  pub answered : (n : ℕ) (r : Result DirEntry Flaw) → r ≡ reads bs v m →
      MatchResult (about n r) (λ e. (first (rules bs v m) ≡ None) × Means bs v e) (λ x. (x.id ≡ n) × (first (rules bs v m) ≡ Some x.flaw))
  answered n (Ok e) q = accepted e q
  answered n (Err f) q = (refl, judged_err (rules bs v m) (meaning bs v) f (sym q))
