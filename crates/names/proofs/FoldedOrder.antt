-- Two names of one length compared code point by code point: the answer for the names is the answer for what is left.
use Rattle.std.proofs.Common.{◌≡◌, ℕ, List, [], ◌∷◌, map, Ordering, Less, Equal, Greater, sym, refl, ap, ◌∙◌, ap₂}
use Rattle.std.specs.Cmp.Lexicographic.{slice_cmp}
use Rattle.std.specs.Ordering.{nat_cmp, ordering_then}
use Rattle.names.specs.Units.{codes}

-- what follows an answer that is not `Equal` does not matter
pub then_kept : (o p : Ordering) → (o ≡ Equal → ⊥) → o ≡ ordering_then o p
then_kept Less p n = refl
then_kept Equal p n = absurd (n refl)
then_kept Greater p n = refl

module _ (fold : ℕ → ℕ) where
  abbrev pub folded_cmp : List ℕ → List ℕ → Ordering
  folded_cmp left right = slice_cmp nat_cmp (map fold (codes left)) (map fold (codes right))

  module _ (left right : List ℕ) (whole : Ordering) (inv : folded_cmp left right ≡ whole) where
    -- a code point is left on either side
    both_go_on : (x y m n : ℕ) (more others : List ℕ) (o : Ordering) → codes left ≡ x ∷ codes more → codes right ≡ y ∷ codes others → m ≡ fold x → n ≡ fold y → o ≡ nat_cmp m n → ordering_then o (folded_cmp more others) ≡ whole
    both_go_on x y m n more others o e f p q r =
        ap (λ a. ordering_then a (folded_cmp more others)) (r ∙ ap₂ nat_cmp p q)
        ∙ ap₂ (λ xs ys. slice_cmp nat_cmp (map fold xs) (map fold ys)) (sym e) (sym f) ∙ inv

    pub equal_so_far : (x y m n : ℕ) (more others : List ℕ) → codes left ≡ x ∷ codes more → codes right ≡ y ∷ codes others → m ≡ fold x → n ≡ fold y → Equal ≡ nat_cmp m n → folded_cmp more others ≡ whole
    equal_so_far x y m n more others e f p q r = both_go_on x y m n more others Equal e f p q r

    pub decided : (x y m n : ℕ) (more others : List ℕ) (o : Ordering) → codes left ≡ x ∷ codes more → codes right ≡ y ∷ codes others → m ≡ fold x → n ≡ fold y → o ≡ nat_cmp m n → (o ≡ Equal → ⊥) → o ≡ whole
    decided x y m n more others o e f p q r d = then_kept o (folded_cmp more others) d ∙ both_go_on x y m n more others o e f p q r

    -- one side has come to its end
    pub right_ends : (x : ℕ) (xs : List ℕ) → codes left ≡ x ∷ xs → codes right ≡ [] → Greater ≡ whole
    right_ends x xs e f = ap₂ (λ xs ys. slice_cmp nat_cmp (map fold xs) (map fold ys)) (sym e) (sym f) ∙ inv

    pub left_ends : (y : ℕ) (ys : List ℕ) → codes left ≡ [] → codes right ≡ y ∷ ys → Less ≡ whole
    left_ends y ys e f = ap₂ (λ xs ys. slice_cmp nat_cmp (map fold xs) (map fold ys)) (sym e) (sym f) ∙ inv

    pub both_end : codes left ≡ [] → codes right ≡ [] → Equal ≡ whole
    both_end e f = ap₂ (λ xs ys. slice_cmp nat_cmp (map fold xs) (map fold ys)) (sym e) (sym f) ∙ inv
