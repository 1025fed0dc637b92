-- Two lists of texts, compared text by text.
use Rattle.std.proofs.Common.{◌≡◌, ℕ, ◌-◌, ◌<◌, Bool, List, [], ◌∷◌, length, get_or, map, take, drop, sym, ap, ap₂, ◌∙◌, arith}
use Rattle.std.specs.Bool.{Decides}
use Rattle.std.proofs.Math.Seq.{take-length}

rest_of : {X : Type 0} (x : X) (xs : List X) → take (length (x ∷ xs) - 1) xs ≡ xs
rest_of x xs = let e : length (x ∷ xs) - 1 ≡ length xs = omega arith in ap (λ n. take n xs) e ∙ take-length xs

-- where the first two are equal, the rest decides
pub first_equal : {X Y : Type 0} (f : X → List ℕ) (g : Y → List ℕ) (xs : List X) (ys : List Y) (d : X) (e : Y) (b : Bool) → 0 < length xs → 0 < length ys
    → f (get_or xs 0 d) ≡ g (get_or ys 0 e) → Decides b (map f (take (length xs - 1) (drop 1 xs)) ≡ map g (take (length ys - 1) (drop 1 ys))) → Decides b (map f xs ≡ map g ys)
first_equal f g [] ys d e b p q h r = absurd (omega arith)
first_equal f g (x ∷ xs) [] d e b p q h r = absurd (omega arith)
first_equal f g (x ∷ xs) (y ∷ ys) d e b p q h r = (
  λ t. ap₂ (λ u us. u ∷ us) h (ap (map f) (sym (rest_of x xs)) ∙ r.0 t ∙ ap (map g) (rest_of y ys)),
  λ m. r.1 (ap (map f) (rest_of x xs) ∙ ap (drop 1) m ∙ ap (map g) (sym (rest_of y ys))),
)
