-- Strict reads a record exactly where an allowed entry stands in it.
use Rattle.std.proofs.Common.{◌≡◌, ℕ, ◌%◌, Bool, true, false, cond, not, ◌&&◌, ◌||◌, eqb, List, Ok, sym, refl, ap, ◌∙◌}
use Rattle.std.specs.Str.{bytes_eq}
use Rattle.std.proofs.lemmas.Slice.Eq.{bytes_eq-Decides}
use Rattle.std.proofs.lemmas.Bool.{le-ltb, eq-eqb, not-true, not-false}
use Rattle.names.specs.Names.{allowed}
use Rattle.names.specs.Units.{well_formed}
use Rattle.fields.specs.declared.objtype.ObjType.{ObjType}
use Rattle.fields.specs.declared.objtype.ObjType.TheVariants.{Unallocated, Storage, Stream, Root}
use Rattle.fields.specs.declared.color.Color.{Color}
use Rattle.fields.specs.declared.color.Color.TheVariants.{Red, Black}
use Rattle.fields.specs.declared.version.Version.{Version}
use Rattle.fields.specs.declared.validate.Validation.TheVariants.{Strict}
use Rattle.fields.specs.declared.link.Link.TheVariants.{Child}
use Rattle.fields.specs.declared.timestamp.Time.TheVariants.{Creation, Modified}
use Rattle.records.specs.declared.direntry.DirEntry.{DirEntry}
use Rattle.fields.specs.Kinds.{type_byte, color_byte, is_storage, is_stream, is_root}
use Rattle.records.specs.Fields.{name_length, name_in, end_in, kind_in, color_in, link_in, clsid_in, time_in, start_in, length_in}
use Rattle.records.specs.Rules.{root_units, nil, nowhere, stray, titled, meaning, reads}
use Rattle.records.specs.Allowed.{Allowed, Stands}
use Rattle.records.proofs.KeptRules.{Holds, holds_read}

-- a rule that holds of some entries only
quiet : (b t : Bool) → (b ≡ true → t ≡ true) → (b && not t) ≡ false
quiet true t h = ap not (h refl)
quiet false t h = refl

pub loud : (b t : Bool) → (b && not t) ≡ false → b ≡ true → t ≡ true
loud true t h e = not-false t h
loud false t h e = cc

-- the type and the colour of their own bytes
kind_from : ℕ → ObjType
kind_from x = cond (eqb x 1) Storage (cond (eqb x 2) Stream (cond (eqb x 5) Root Unallocated))

kind_back : (k : ObjType) → kind_from (type_byte k) ≡ k
unfolding kind_from
kind_back Unallocated = refl
kind_back Storage = refl
kind_back Stream = refl
kind_back Root = refl

pub type_tells : (j k : ObjType) → type_byte j ≡ type_byte k → j ≡ k
type_tells j k e = sym (kind_back j) ∙ ap kind_from e ∙ kind_back k

color_from : ℕ → Color
color_from x = cond (eqb x 1) Black Red

color_back : (c : Color) → color_from (color_byte c) ≡ c
unfolding color_from
color_back Red = refl
color_back Black = refl

pub color_tells : (c d : Color) → color_byte c ≡ color_byte d → c ≡ d
color_tells c d e = sym (color_back c) ∙ ap color_from e ∙ color_back d

type_fits : (k : ObjType) → not (eqb (type_byte k) 0 || (eqb (type_byte k) 1 || (eqb (type_byte k) 2 || eqb (type_byte k) 5))) ≡ false
type_fits Unallocated = refl
type_fits Storage = refl
type_fits Stream = refl
type_fits Root = refl

color_fits : (c : Color) → not (eqb (color_byte c) 0 || eqb (color_byte c) 1) ≡ false
color_fits Red = refl
color_fits Black = refl

-- a field that is taken away only where it is zero already
pub kept_or_zero : {A : Type 0} (b : Bool) (x z : A) → (b ≡ true → x ≡ z) → cond b z x ≡ x
kept_or_zero true x z h = sym (h refl)
kept_or_zero false x z h = refl

-- an entry stands there, and is allowed
module _ (bs : List ℕ) (v : Version) (e : DirEntry) (s : Stands bs v e) (a : Allowed v e) where
  kind_is : kind_in bs ≡ e.obj_type
  unfolding kind_from
  kind_is = ap kind_from s.kind ∙ kind_back e.obj_type

  color_is : color_in bs ≡ e.color
  unfolding color_from
  color_is = ap color_from s.color ∙ color_back e.color

  units_are : name_in bs ≡ e.name
  units_are = sym s.name

  -- a rule of a type, seen from the entry
  of_kind : (p : ObjType → Bool) (t : Bool) → (p e.obj_type ≡ true → t ≡ true) → (p (kind_in bs) && not t) ≡ false
  of_kind p t h = ap (λ k. p k && not t) kind_is ∙ quiet (p e.obj_type) t h

  other_name : (not (is_root e.obj_type) && not (allowed (name_in bs))) ≡ false
  other_name = quiet (not (is_root e.obj_type)) (allowed (name_in bs)) (λ h. ap allowed units_are ∙ a.other (not-true (is_root e.obj_type) h))

  rules_hold : Holds bs v Strict
  rules_hold = record {
    short = le-ltb 64 (name_length bs) s.short;
    even = ap not (eq-eqb (name_length bs % 2) 0 s.even);
    ended = ap not (eq-eqb (end_in bs) 0 s.ended);
    utf16 = ap not (ap well_formed units_are ∙ a.utf16);
    kind = ap (λ x. not (eqb x 0 || (eqb x 1 || (eqb x 2 || eqb x 5)))) s.kind ∙ type_fits e.obj_type;
    root = of_kind is_root (bytes_eq (name_in bs) root_units) (λ h. (bytes_eq-Decides (name_in bs) root_units).1 (units_are ∙ a.root h));
    other = ap (λ k. not (is_root k) && not (allowed (name_in bs))) kind_is ∙ other_name;
    color = ap (λ x. not (eqb x 0 || eqb x 1)) s.color ∙ color_fits e.color;
    left = ap stray s.left ∙ a.left;
    right = ap stray s.right ∙ a.right;
    childless = of_kind is_stream (eqb (link_in bs Child) nowhere) (λ h. eq-eqb (link_in bs Child) nowhere (s.child ∙ a.childless h));
    child = ap stray s.child ∙ a.child;
    clsid = of_kind is_stream (bytes_eq (clsid_in bs) nil) (λ h. (bytes_eq-Decides (clsid_in bs) nil).1 (s.clsid ∙ a.classless h));
    creation = of_kind is_stream (eqb (time_in bs Creation) 0) (λ h. eq-eqb (time_in bs Creation) 0 (s.creation ∙ a.uncreated h));
    modified = of_kind is_stream (eqb (time_in bs Modified) 0) (λ h. eq-eqb (time_in bs Modified) 0 (s.modified ∙ a.unmodified h));
    start = of_kind is_storage (eqb (start_in bs) 0) (λ h. eq-eqb (start_in bs) 0 (s.start ∙ a.startless h));
    length = of_kind is_storage (eqb (length_in bs v) 0) (λ h. eq-eqb (length_in bs v) 0 (s.length ∙ a.lengthless h));
  }

  -- what a type takes away was zero already
  mended : {A : Type 0} (p : ObjType → Bool) (x y z : A) → x ≡ y → (p e.obj_type ≡ true → y ≡ z) → cond (p (kind_in bs)) z x ≡ y
  mended p x y z q h = ap (λ k. cond (p k) z x) kind_is ∙ ap (cond (p e.obj_type) z) q ∙ kept_or_zero (p e.obj_type) y z h

  title_is : titled (kind_in bs) (name_in bs) ≡ e.name
  title_is = mended is_root (name_in bs) e.name root_units (sym s.name) (λ h. s.name ∙ (units_are ∙ a.root h))

  meaning_is : meaning bs v ≡ e
  meaning_is =
      let clsid = mended is_stream (clsid_in bs) e.clsid nil s.clsid a.classless in
      let creation = mended is_stream (time_in bs Creation) e.creation_time.0 0 s.creation a.uncreated in
      let modified = mended is_stream (time_in bs Modified) e.modified_time.0 0 s.modified a.unmodified in
      let start = mended is_storage (start_in bs) e.start_sector 0 s.start a.startless in
      let len = mended is_storage (length_in bs v) e.stream_len 0 s.length a.lengthless in
      λ i. record {
        name = title_is i;
        obj_type = kind_is i;
        color = color_is i;
        left_sibling = s.left i;
        right_sibling = s.right i;
        child = s.child i;
        clsid = clsid i;
        state_bits = s.state i;
        creation_time = record { 0 = creation i };
        modified_time = record { 0 = modified i };
        start_sector = start i;
        stream_len = len i;
      }

  pub standing_reads : reads bs v Strict ≡ Ok e
  standing_reads = holds_read bs v Strict rules_hold ∙ ap Ok meaning_is
