-- The order of keys is total: it decides its relation, and is turned round, transitive and equal only at equal keys.
use Rattle.std.proofs.Common.{◌≡◌, ℕ, ◌<◌, List, [], ◌∷◌, Ordering, Less, Equal, Greater, sym, refl, ap, ◌∙◌, subst, ap₂, inl, inr, arith}
use Rattle.std.specs.Ordering.{MatchOrdering, nat_cmp, ordering_then}
use Rattle.std.specs.Cmp.Lexicographic.{slice_cmp}
use Rattle.std.specs.Cmp.{IsTotalOrder, one_rank, means, strict}
use Rattle.std.proofs.lemmas.Cmp.{ranked}
use Rattle.names.specs.Keys.{Key, key_of}
use Rattle.names.specs.Order.{order, First, shorter, lower, later, Before, OneOf, Ordered}

-- the answer for two lists tells which stands first
pub lexical_ranked : (xs ys : List ℕ) → MatchOrdering (slice_cmp nat_cmp xs ys) (First xs ys) (xs ≡ ys) (First ys xs)
lexical_ranked [] [] = refl
lexical_ranked [] (y ∷ ys) = shorter
lexical_ranked (x ∷ xs) [] = shorter
lexical_ranked (x ∷ xs) (y ∷ ys) = by_head (nat_cmp x y) (slice_cmp nat_cmp xs ys) (ranked x y _ refl) (lexical_ranked xs ys)
  where
    moved : {a b : ℕ} (e : a ≡ b) (as' bs : List ℕ) → First as' bs → First (a ∷ as') (b ∷ bs)
    moved {a} e as' bs f = subst (λ v. First (a ∷ as') (v ∷ bs)) e (later f)

    by_head : (o p : Ordering) → MatchOrdering o (x < y) (x ≡ y) (y < x) → MatchOrdering p (First xs ys) (xs ≡ ys) (First ys xs) → MatchOrdering (ordering_then o p) (First (x ∷ xs) (y ∷ ys)) (x ∷ xs ≡ y ∷ ys) (First (y ∷ ys) (x ∷ xs))
    by_head Less p h k = lower h
    by_head Equal Less h k = moved h xs ys k
    by_head Equal Equal h k = ap₂ (λ a b. a ∷ b) h k
    by_head Equal Greater h k = moved (sym h) ys xs k
    by_head Greater p h k = lower h

-- the answer for two keys tells which stands before
pub order_ranked : (j k : Key) → MatchOrdering (order j k) (Before j k) (j ≡ k) (Before k j)
order_ranked j k = by_units (nat_cmp j.units k.units) (slice_cmp nat_cmp j.folded k.folded) (ranked j.units k.units _ refl) (lexical_ranked j.folded k.folded)
  where
    by_units : (o p : Ordering) → MatchOrdering o (j.units < k.units) (j.units ≡ k.units) (k.units < j.units) → MatchOrdering p (First j.folded k.folded) (j.folded ≡ k.folded) (First k.folded j.folded) → MatchOrdering (ordering_then o p) (Before j k) (j ≡ k) (Before k j)
    by_units Less p h f = inl h
    by_units Equal Less h f = inr (h, f)
    by_units Equal Equal h f = λ i. record { units = h i; folded = f i }
    by_units Equal Greater h f = inr (sym h, f)
    by_units Greater p h f = inl h

-- a list does not stand before itself
pub first_irreflexive : {xs ys : List ℕ} → First xs ys → xs ≡ ys → ⊥
first_irreflexive shorter e = let z : ◌≡◌ {A = ℕ} 0 1 = cc in omega arith
first_irreflexive (lower {x} {y} h) e = let z : x ≡ y = cc in omega arith
first_irreflexive (later {x} {xs} {ys} f) e = let z : xs ≡ ys = cc in first_irreflexive f z

pub first_transitive : {xs ys zs : List ℕ} → First xs ys → First ys zs → First xs zs
first_transitive shorter (lower h) = shorter
first_transitive shorter (later f) = shorter
first_transitive (lower h) (lower k) = lower (omega arith)
first_transitive (lower h) (later f) = lower h
first_transitive (later f) (lower h) = lower h
first_transitive (later f) (later k) = later (first_transitive f k)

pub before_irreflexive : (j k : Key) → Before j k → j ≡ k → ⊥
before_irreflexive j k (inl h) e = let z : j.units ≡ k.units = ap (λ v. v.units) e in omega arith
before_irreflexive j k (inr (u, f)) e = first_irreflexive f (ap (λ v. v.folded) e)

before_irrefl : (k : Key) → ¬ (Before k k)
before_irrefl k b = before_irreflexive k k b refl

pub before_transitive : (i j k : Key) → Before i j → Before j k → Before i k
before_transitive i j k (inl h) (inl l) = inl (omega arith)
before_transitive i j k (inl h) (inr (u, f)) = inl (omega arith)
before_transitive i j k (inr (u, f)) (inl h) = inl (omega arith)
before_transitive i j k (inr (u, f)) (inr (v, g)) = inr (u ∙ v, first_transitive f g)

pub before_asymmetric : (j k : Key) → Before j k → Before k j → ⊥
before_asymmetric j k b c = before_irreflexive j j (before_transitive j k j b c) refl

-- so the answers are a total order
order_total : IsTotalOrder order
order_total = strict Before before_irrefl before_transitive order order_ranked

one_of : (j k : Key) → OneOf (Before j k) (j ≡ k) (Before k j)
one_of j k = by_answer (order j k) (order_ranked j k)
  where
    by_answer : (o : Ordering) → MatchOrdering o (Before j k) (j ≡ k) (Before k j) → OneOf (Before j k) (j ≡ k) (Before k j)
    by_answer Less h = inl (h, before_irreflexive j k h, before_asymmetric j k h)
    by_answer Equal h = inr (inl ((λ b. before_irreflexive j k b h), h, (λ b. before_irreflexive k j b (sym h))))
    by_answer Greater h = inr (inr ((λ b. before_asymmetric j k b h), (λ e. before_irreflexive k j h (sym e)), h))

-- names are totally ordered by every folding
pub names_ordered : (fold : ℕ → ℕ) → Ordered fold
names_ordered fold = record {
  told = λ a b. order_ranked (key_of fold a) (key_of fold b);
  total = λ a b. one_of (key_of fold a) (key_of fold b);
  transitive = λ a b c. before_transitive (key_of fold a) (key_of fold b) (key_of fold c);
  turned = λ a b. order_total.antisymm (key_of fold b) (key_of fold a);
  same = λ a b. (
    means Before before_irrefl before_transitive order order_ranked (key_of fold a) (key_of fold b) Equal,
    one_rank Before before_irrefl before_transitive (key_of fold a) (key_of fold b) _ Equal (order_ranked (key_of fold a) (key_of fold b)),
  );
}
