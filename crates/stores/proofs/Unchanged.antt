-- A fault that changes nothing is one of those that may change something.
use Rattle.std.proofs.Common.{◌≡◌, ℕ, ◌<◌, List, [], get_or, sym, ap}
use Rattle.std.proofs.lemmas.List.{set-get_or, append-nil}
use Rattle.stores.specs.declared.fault.Fault.{Fault}
use Rattle.stores.specs.declared.fault.Layer.{Layer}
use Rattle.stores.specs.Faults.{At}
use Rattle.stores.specs.Meaning.{Meaning, Whole, with_record, with_growth}
use Rattle.stores.specs.Answers.{Inside, NotWritten, NotGrown}

same_record : (m : Meaning) (n : ℕ) → with_record m n (get_or m.records n []) ≡ m
same_record m n = ap (λ (rs : List (List ℕ)). record { version = m.version; records = rs; growth = m.growth; left = m.left; posted = m.posted }) (set-get_or m.records n [])

same_growth : (m : Meaning) → with_growth m [] m.left ≡ m
same_growth m = ap (λ (rs : List (List ℕ)). record { version = m.version; records = rs; growth = m.growth; left = m.left; posted = m.posted }) (append-nil m.records)

pub unwritten : (l : Layer) (p : Fault → Type 0) (m : Meaning) (n o k : ℕ) (f : Fault) → Whole m → At f n o → Inside m n o k → p f → NotWritten l p m n o k f m
unwritten l p m n o k f whole at inside pf = record {
  at = at;
  present = λ _. pf;
  free = λ i. (get_or m.records n [], whole.sized n i.0, sym (same_record m n));
  absent = λ out. absurd (out inside);
}

pub ungrown : (p : Fault → Type 0) (m : Meaning) (f : Fault) → At f 0 0 → p f → 0 < m.left → NotGrown p m m f
ungrown p m f at pf some = record { at = at; present = pf; some = some; free = ([], m.left, sym (same_growth m)) }
