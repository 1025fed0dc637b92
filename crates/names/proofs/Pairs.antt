-- A pair found in a table of pairs.
use Rattle.std.proofs.Common.{◌≡◌, ℕ, Bool, true, false, cond, Bor, eqb, List, [], ◌∷◌, refl, ap, ◌∙◌}
use Rattle.std.specs.List.{find}
use Rattle.std.specs.Prelude.{Option, Some, None, MatchOption}
use Rattle.std.specs.Option.{option_map}
use Rattle.names.specs.Foldings.{paired}

-- the second of the pair that was found, and c itself where none was
pub paired_found : (ps : List (ℕ × ℕ)) (c : ℕ) (r : Option (Bor (ℕ × ℕ))) (v : ℕ) (P : Bor (ℕ × ℕ) → Type 0) → option_map (λ p. p.now) r ≡ find (λ p. eqb p.0 c) ps → MatchOption r (v ≡ c) P → ((p : Bor (ℕ × ℕ)) → P p → v ≡ p.now.1) → v ≡ paired ps c
paired_found ps c r v P e m k = by_result r e m ∙ walked ps
  where
    second : Option (ℕ × ℕ) → ℕ
    second None = c
    second (Some p) = p.1

    by_result : (r : Option (Bor (ℕ × ℕ))) → option_map (λ p. p.now) r ≡ find (λ p. eqb p.0 c) ps → MatchOption r (v ≡ c) P → v ≡ second (find (λ p. eqb p.0 c) ps)
    by_result None e m = m ∙ ap second e
    by_result (Some p) e m = k p m ∙ ap second e

    walked : (qs : List (ℕ × ℕ)) → second (find (λ p. eqb p.0 c) qs) ≡ paired qs c
    walked [] = refl
    walked (q ∷ qs) = by_test (eqb q.0 c) (walked qs)
      where
        by_test : (b : Bool) → second (find (λ p. eqb p.0 c) qs) ≡ paired qs c → second (cond b (Some q) (find (λ p. eqb p.0 c) qs)) ≡ cond b q.1 (paired qs c)
        by_test true w = refl
        by_test false w = w
