-- How one link answers for numbers that are added or given up.
use Rattle.std.proofs.Common.{◌≡◌, ℕ, ◌+◌, ◌<◌, ◌≤◌, ◌⊎◌, Some, None, Option, sym, refl, ap, ◌∙◌, subst, inl, inr, ⊎_elim, arith}
use Rattle.std.proofs.lemmas.Option.{none-some}
use Rattle.std.proofs.lemmas.Bool.{cases_lt, cases_eq}
use Rattle.cells.specs.Chains.{end_of, Link, Step}

pub which : {X : Type 0} (o : Option X) → (o ≡ None) ⊎ ((x : X) × (o ≡ Some x))
which None = inl refl
which (Some x) = inr (x, refl)

pub clash : {X : Type 0} {o : Option X} {x : X} → o ≡ None → o ≡ Some x → ⊥
clash {x = x} e f = none-some x (sym e ∙ f)

-- a link ends, or goes to a number with the property
pub ends : {p : ℕ → Type 0} {from : ℕ} (x : Option ℕ) → Link p from x → (x ≡ None) ⊎ ((i : ℕ) × (x ≡ Some i) × (from ≤ i) × p i)
ends None l = inl refl
ends (Some i) l = let s = l.stands i refl in inr (i, refl, s.0, s.1)

-- a link stands where the numbers that it passes do
pub kept_link : (p q : ℕ → Type 0) (from : ℕ) (x : Option ℕ) → ((i : ℕ) → x ≡ Some i → p i → q i) → ((j : ℕ) → from ≤ j → j < end_of x → q j → p j) → Link p from x → Link q from x
kept_link p q from x up down l = record {
  stands = λ i e. let s = l.stands i e in (s.0, up i e s.1);
  first = λ j a b h. l.first j a b (down j a b h);
}

-- the link to a new number f, out of a link that passes it
pub to_new : (p q : ℕ → Type 0) (from f : ℕ) (x : Option ℕ) → from ≤ f → f ≤ end_of x → q f → ((j : ℕ) → j < f → q j → p j) → Link p from x → Link q from (Some f)
to_new p q from f x a b here down l = record {
  stands = λ i e. let u : f ≡ i = cc in (omega arith, subst q u here);
  first = λ j h k s. l.first j h (omega arith) (down j k s);
}

-- and the link on from it
pub from_new : (p q : ℕ → Type 0) (from f : ℕ) (x : Option ℕ) → from ≤ f → f ≤ end_of x → (p f → ⊥) → ((i : ℕ) → x ≡ Some i → p i → q i) → ((j : ℕ) → f < j → q j → p j) → Link p from x → Link q (f + 1) x
from_new p q from f x a b free up down l = record {
  stands = λ i e. let s = l.stands i e in let g : end_of x ≡ i = ap end_of e in
      (⊎_elim (λ z. absurd (free (subst p (sym z) s.1))) (λ ne. let k : f + 1 ≤ i = omega arith in k) (cases_eq f i), up i e s.1);
  first = λ j h k s. l.first j (omega arith) k (down j (omega arith) s);
}

-- a link over a number f that is given up
pub over : (p q : ℕ → Type 0) (from f : ℕ) (x : Option ℕ) → from ≤ f → ((j : ℕ) → p j → (j ≡ f → ⊥) → q j) → ((j : ℕ) → q j → p j) → (q f → ⊥) → Link p from (Some f) → Link p (f + 1) x → Link q from x
over p q from f x a up down gone l m = record {
  stands = λ i e. let s = m.stands i e in (omega (arith, s.0), up i s.1 (λ z. omega (arith, s.0)));
  first = λ j h k s. ⊎_elim (λ b. l.first j h b (down j s)) (λ c. ⊎_elim (λ e. gone (subst q e s)) (λ ne. m.first j (omega arith) k (down j s)) (cases_eq j f)) (cases_lt j f);
}

-- of the links of a chain only the one at `before` passes f
pub beside : (p : ℕ → Type 0) (H N : ℕ → Option ℕ) (b f : ℕ) (before x : Option ℕ) → Step p H N b f before x → f ≤ end_of x → (i : ℕ) (y : Option ℕ) → p i → i < f → (before ≡ Some i → ⊥) → Link p (i + 1) y → end_of y < f
beside p H N b f before x step past i y here lt other l =
    ⊎_elim (λ s. absurd (s.2.first i (omega arith) (omega arith) here))
    (λ s. let k : s.0 < f = s.2 in
    ⊎_elim (λ k<y. ⊎_elim (λ i<k. absurd (l.first s.0 (omega arith) k<y s.3))
    (λ k≤i. ⊎_elim (λ e. absurd (other (s.1 ∙ ap Some (sym e)))) (λ ne. absurd (s.5.first i (omega arith) (omega arith) here)) (cases_eq i s.0)) (cases_lt i s.0)) (λ y≤k. omega arith) (cases_lt s.0 (end_of y))) step

-- nor does the head, where `before` is a number
pub below : (p : ℕ → Type 0) (H N : ℕ → Option ℕ) (b f : ℕ) (before x : Option ℕ) → Step p H N b f before x → (before ≡ None → ⊥) → (y : Option ℕ) → Link p 0 y → end_of y < f
below p H N b f before x step ne y l =
    ⊎_elim (λ s. absurd (ne s.0)) (λ s. let k : s.0 < f = s.2 in ⊎_elim (λ h. absurd (l.first s.0 (omega arith) h s.3)) (λ h. omega arith) (cases_lt s.0 (end_of y))) step
