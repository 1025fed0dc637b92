-- What a name length gives.
use Rattle.std.proofs.Common.{◌≡◌, ℕ, ◌-◌, ◌*◌, ◌/◌, ◌%◌, ◌≤◌, true, false, cond, eqb, ltb, List, length, Ok, sym, refl, ap, ◌∙◌, arith}
use Rattle.std.proofs.lemmas.List.{length-take-le}
use Rattle.names.proofs.Worked.{examples as name-examples}
use Rattle.fields.specs.declared.version.Version.{Version}
use Rattle.fields.specs.declared.version.Version.TheVariants.{V3, V4}
use Rattle.fields.specs.declared.validate.Validation.{Validation}
use Rattle.fields.specs.declared.validate.Validation.TheVariants.{Strict}
use Rattle.fields.specs.declared.malformed.Flaw.TheVariants.{LongName, OddName}
use Rattle.records.specs.declared.direntry.DirEntry.{DirEntry}
use Rattle.records.specs.Bytes.{part}
use Rattle.fields.specs.Kinds.{is_root}
use Rattle.records.specs.Fields.{name_length, name_units, name_in, kind_in}
use Rattle.records.specs.Rules.{meaning, reads, root_units}
use Rattle.records.specs.Examples.{freed, Meets, Examples}
use Rattle.records.proofs.KeptRules.{read_holds}
use Rattle.records.proofs.UnitPairs.{length_units}

-- the name of a record that is no root's has as many units as its length says
units_told : (l n : ℕ) → l / 2 - 1 ≡ n → 2 * n ≤ 128 → (bs : List ℕ) (v : Version) (m : Validation) (e : DirEntry) → length bs ≡ 128 → is_root (kind_in bs) ≡ false → name_length bs ≡ l → reads bs v m ≡ Ok e → length e.name ≡ n
units_told l n c few bs v m e size root is q =
    let j = read_holds bs v m e q in
    let u : name_units bs ≡ n = ap (λ x. x / 2 - 1) is ∙ c in
    let p : length (part 0 (2 * name_units bs) bs) ≡ 2 * name_units bs = length-take-le (2 * name_units bs) bs (omega arith) in
    let k : length (name_in bs) ≡ n = length_units (name_units bs) (part 0 (2 * name_units bs) bs) p ∙ u in
    let t : (meaning bs v).name ≡ name_in bs = ap (λ b. cond b root_units (name_in bs)) root in
    ap (λ f. length f.name) (sym j.1) ∙ ap length t ∙ k

freed_read : (l : ℕ) (v : Version) → reads (freed l) v Strict ≡ Ok (meaning (freed l) v) → (e : DirEntry) × (reads (freed l) v Strict ≡ Ok e) × (length e.name ≡ length ((meaning (freed l) v).name))
freed_read l v q = (meaning (freed l) v, q, refl)

some_0 : (v : Version) → (e : DirEntry) × (reads (freed 0) v Strict ≡ Ok e) × (length e.name ≡ 0)
some_0 V3 = freed_read 0 V3 refl
some_0 V4 = freed_read 0 V4 refl

some_2 : (v : Version) → (e : DirEntry) × (reads (freed 2) v Strict ≡ Ok e) × (length e.name ≡ 0)
some_2 V3 = freed_read 2 V3 refl
some_2 V4 = freed_read 2 V4 refl

some_64 : (v : Version) → (e : DirEntry) × (reads (freed 64) v Strict ≡ Ok e) × (length e.name ≡ 31)
some_64 V3 = freed_read 64 V3 refl
some_64 V4 = freed_read 64 V4 refl

too_long : Meets 65 20
too_long bs v m is = let t : ltb 64 (name_length bs) ≡ true = ap (ltb 64) is in (LongName, rw t refl, refl)

is_odd : Meets 3 21
is_odd bs v m is =
    let t : ltb 64 (name_length bs) ≡ false = ap (ltb 64) is in
    let o : eqb (name_length bs % 2) 0 ≡ false = ap (λ x. eqb (x % 2) 0) is in
    (OddName, rw (t, o) refl, refl)

pub examples : Examples
examples = record {
  names = name-examples;
  empty = record { every = units_told 0 0 refl (omega arith); some = some_0 };
  null = record { every = units_told 2 0 refl (omega arith); some = some_2 };
  full = record { every = units_told 64 31 refl (omega arith); some = some_64 };
  long = too_long;
  odd = is_odd;
  free = refl;
}
