-- What is read, in either mode, is an entry that a record can hold and the format allows.
use Rattle.std.proofs.Common.{◌≡◌, ℕ, zero, suc, ◌*◌, ◌%◌, ◌<◌, ◌≤◌, Bool, true, cond, ◌&&◌, eqb, ltb, List, [], ◌∷◌, length, get_or, refl, arith}
use Rattle.std.proofs.lemmas.Bool.{cond-true, cond_both, ltb-true, ltb-false, and_parts, eqb-true, not-false}
use Rattle.std.proofs.lemmas.List.{length-take-le}
use Rattle.names.specs.Names.{allowed}
use Rattle.names.specs.Units.{well_formed}
use Rattle.fields.specs.declared.version.Version.{Version}
use Rattle.fields.specs.declared.version.Version.TheVariants.{V3, V4}
use Rattle.fields.specs.declared.validate.Validation.{Validation}
use Rattle.fields.specs.declared.link.Link.TheVariants.{Child}
use Rattle.fields.specs.declared.timestamp.Time.TheVariants.{Creation, Modified}
use Rattle.records.specs.Bytes.{part, u64_at}
use Rattle.fields.specs.Kinds.{is_storage, is_stream, is_root}
use Rattle.fields.specs.Versions.{cut}
use Rattle.records.specs.Fields.{name_length, name_units, name_in, kind_in, link_in, clsid_in, time_in, start_in, length_in}
use Rattle.records.specs.Rules.{root_units, nil, nowhere, meaning}
use Rattle.records.specs.Allowed.{IsRecord, Sized, Allowed, title_in}
use Rattle.records.proofs.KeptRules.{Holds}
use Rattle.records.proofs.NumbersBack.{zeros_small, part_below, small_part, unit_below, length_part}
use Rattle.records.proofs.UnitPairs.{length_units}
use Rattle.records.proofs.StrictExact.{loud}

-- a field that a type takes away
zeroed : (b : Bool) (x n : ℕ) → x < n → 0 < n → cond b 0 x < n
zeroed b x n h z = cond_both b 0 x (λ y. y < n) (λ e. z) (λ e. h)

cut_below : (v : Version) (n : ℕ) → n < 18446744073709551616 → cut v n < 18446744073709551616
cut_below V3 n h = omega arith
cut_below V4 n h = h

cut_twice : (v : Version) (n : ℕ) → cut v (cut v n) ≡ cut v n
cut_twice V3 n = omega arith
cut_twice V4 n = refl

pub cut_zero : (v : Version) → cut v 0 ≡ 0
cut_zero V3 = refl
cut_zero V4 = refl

-- the units of the root's name
fitting : List ℕ → Bool
fitting [] = true
fitting (x ∷ xs) = ltb x 65536 && fitting xs

fitting_small : (xs : List ℕ) → fitting xs ≡ true → (i : ℕ) → get_or xs i 0 < 65536
unfolding fitting
fitting_small [] h i = omega arith
fitting_small (x ∷ xs) h zero = ltb-true x 65536 (and_parts (ltb x 65536) (fitting xs) h).0
fitting_small (x ∷ xs) h (suc i) = fitting_small xs (and_parts (ltb x 65536) (fitting xs) h).1 i

pub root_small : (i : ℕ) → get_or root_units i 0 < 65536
unfolding fitting
root_small = fitting_small root_units refl

module _ (bs : List ℕ) (v : Version) (m : Validation) (r : IsRecord bs) (k : Holds bs v m) where
  pub short : name_length bs ≤ 64
  short = ltb-false 64 (name_length bs) k.short

  pub even : name_length bs % 2 ≡ 0
  even = eqb-true (name_length bs % 2) 0 (not-false (eqb (name_length bs % 2) 0) k.even)

  units_few : length (name_in bs) ≤ 31
  units_few =
      let h = short in
      let l = r.0 in
      let p : length (part 0 (2 * name_units bs) bs) ≡ 2 * name_units bs = length-take-le (2 * name_units bs) bs (omega arith) in
      let n = length_units (name_units bs) (part 0 (2 * name_units bs) bs) p in
      omega arith

  units_small : (i : ℕ) → get_or (name_in bs) i 0 < 65536
  units_small i = unit_below (part 0 (2 * name_units bs) bs) (small_part bs 0 (2 * name_units bs) r.1) i

  title_few : length (title_in bs) ≤ 31
  title_few = cond_both (is_root (kind_in bs)) root_units (name_in bs) (λ us. length us ≤ 31) (λ e. omega arith) (λ e. units_few)

  title_small : (i : ℕ) → get_or (title_in bs) i 0 < 65536
  title_small i = cond_both (is_root (kind_in bs)) root_units (name_in bs) (λ us. get_or us i 0 < 65536) (λ e. root_small i) (λ e. units_small i)

  pub read_sized : Sized (meaning bs v)
  read_sized = record {
    few = title_few;
    units = title_small;
    left = part_below bs 68 4 r (omega arith);
    right = part_below bs 72 4 r (omega arith);
    child = part_below bs 76 4 r (omega arith);
    clsid = cond_both (is_stream (kind_in bs)) nil (clsid_in bs) (λ xs. length xs ≡ 16) (λ e. refl) (λ e. let l = r.0 in length_part bs 80 16 (omega arith));
    octets = λ i. cond_both (is_stream (kind_in bs)) nil (clsid_in bs) (λ xs. get_or xs i 0 < 256) (λ e. zeros_small 16 i) (λ e. small_part bs 80 16 r.1 i);
    state = part_below bs 96 4 r (omega arith);
    creation = zeroed (is_stream (kind_in bs)) (time_in bs Creation) 18446744073709551616 (part_below bs 100 8 r (omega arith)) (omega arith);
    modified = zeroed (is_stream (kind_in bs)) (time_in bs Modified) 18446744073709551616 (part_below bs 108 8 r (omega arith)) (omega arith);
    start = zeroed (is_storage (kind_in bs)) (start_in bs) 4294967296 (part_below bs 116 4 r (omega arith)) (omega arith);
    length = zeroed (is_storage (kind_in bs)) (length_in bs v) 18446744073709551616 (cut_below v (u64_at bs 120) (part_below bs 120 8 r (omega arith))) (omega arith);
  }

  pub read_allowed : Allowed v (meaning bs v)
  read_allowed = record {
    utf16 = (cond_both (is_root (kind_in bs)) root_units (name_in bs) (λ us. well_formed us ≡ true) (λ e. refl) (λ e. not-false (well_formed (name_in bs)) k.utf16));
    root = λ h. cond-true (is_root (kind_in bs)) root_units (name_in bs) h;
    other = λ h. (rw h (loud true (allowed (name_in bs)) (rw h at k.other) refl));
    left = k.left;
    right = k.right;
    child = k.child;
    childless = λ h. eqb-true (link_in bs Child) nowhere (loud (is_stream (kind_in bs)) (eqb (link_in bs Child) nowhere) k.childless h);
    classless = cond-true (is_stream (kind_in bs)) nil (clsid_in bs);
    uncreated = cond-true (is_stream (kind_in bs)) 0 (time_in bs Creation);
    unmodified = cond-true (is_stream (kind_in bs)) 0 (time_in bs Modified);
    startless = cond-true (is_storage (kind_in bs)) 0 (start_in bs);
    lengthless = cond-true (is_storage (kind_in bs)) 0 (length_in bs v);
    room = cond_both (is_storage (kind_in bs)) 0 (length_in bs v) (λ n. cut v n ≡ n) (λ e. cut_zero v) (λ e. cut_twice v (u64_at bs 120));
  }
