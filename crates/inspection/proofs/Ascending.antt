-- A listing that ascends can be searched by halves, and still ascends with a name at the place that the search gives.
use Rattle.std.proofs.Common.{◌≡◌, ℕ, ◌<◌, ◌≤◌, ◌+◌, ◌-◌, ◌⊎◌, List, length, insert, slice_index_or, Result, Ok, Err, Ordering, Less, Equal, Greater, sym, refl, ap, ◌∙◌, subst, inl, inr, arith}
use Rattle.std.specs.Result.{MatchResult}
use Rattle.std.specs.Ordering.{MatchOrdering, ordering_index, ordering_reverse}
use Rattle.std.specs.List.Sorted.{IsNonDecreasingBy, IsBinarySearchResult}
use Rattle.std.proofs.lemmas.Bool.{cases_order}
use Rattle.std.proofs.lemmas.List.Edits.{get_or-insert_at, get_or-insert_below, get_or-insert_above, length-insert}
use Rattle.names.specs.declared.name.Name.{Name}
use Rattle.names.specs.Keys.{key_of}
use Rattle.names.specs.Order.{order, compared, OneOf, Precedes, Ordered}
use Rattle.inspection.specs.Listings.{Ascends, HasAt, Splits}

less_tells : (fold : ℕ → ℕ) (a b : List ℕ) → Ordered fold → compared fold a b ≡ Less → Precedes fold a b
less_tells fold a b o e = subst (λ r. MatchOrdering r (Precedes fold a b) (key_of fold a ≡ key_of fold b) (Precedes fold b a)) e (o.told a b)

first_alone : (P Q R : Type 0) → OneOf P Q R → P → (Q → ⊥) × (R → ⊥)
first_alone P Q R (inl h) p = (h.1, h.2)
first_alone P Q R (inr (inl h)) p = absurd (h.0 p)
first_alone P Q R (inr (inr h)) p = absurd (h.0 p)

told_less : (fold : ℕ → ℕ) (a b : List ℕ) → Ordered fold → Precedes fold a b → compared fold a b ≡ Less
told_less fold a b o p = by_answer (compared fold a b) (o.told a b) (first_alone _ _ _ (o.total a b) p)
  where
    by_answer : (r : Ordering) → MatchOrdering r (Precedes fold a b) (key_of fold a ≡ key_of fold b) (Precedes fold b a) → (key_of fold a ≡ key_of fold b → ⊥) × (Precedes fold b a → ⊥) → r ≡ Less
    by_answer Less h alone = refl
    by_answer Equal h alone = absurd (alone.0 h)
    by_answer Greater h alone = absurd (alone.1 h)

less_less : (fold : ℕ → ℕ) (a b c : List ℕ) → Ordered fold → compared fold a b ≡ Less → compared fold b c ≡ Less → compared fold a c ≡ Less
less_less fold a b c o l m = told_less fold a c o (o.transitive a b c (less_tells fold a b o l) (less_tells fold b c o m))

less_equal : (fold : ℕ → ℕ) (a b c : List ℕ) → Ordered fold → compared fold a b ≡ Less → compared fold b c ≡ Equal → compared fold a c ≡ Less
less_equal fold a b c o l e = sym (ap (order (key_of fold a)) ((o.same b c).0 e)) ∙ l

not_after : (r : Ordering) → ordering_index r ≤ 2
not_after Less = omega arith
not_after Equal = omega arith
not_after Greater = omega arith

-- among names that ascend, those before a name come first, then its equal, then those after it
rises : (fold : ℕ → ℕ) (ns : List Name) (us : List ℕ) → Ordered fold → Ascends fold ns → IsNonDecreasingBy (λ n. ordering_index (compared fold n us)) ns
rises fold ns us o up i j d le lt = by_place (cases_order i j)
  where
    at : ℕ → List ℕ
    at k = (slice_index_or ns k d)

    by_answer : (a b : List ℕ) (s : Ordering) → compared fold b us ≡ s → compared fold a b ≡ Less → ordering_index (compared fold a us) ≤ ordering_index s
    by_answer a b Less f l = rw (less_less fold a b us o l f) (omega arith)
    by_answer a b Equal f l = rw (less_equal fold a b us o l f) (omega arith)
    by_answer a b Greater f l = not_after (compared fold a us)

    by_place : (i ≡ j) ⊎ ((i < j) ⊎ (j < i)) → ordering_index (compared fold (at i) us) ≤ ordering_index (compared fold (at j) us)
    by_place (inl e) = rw e (omega arith)
    by_place (inr (inl l)) = by_answer (at i) (at j) _ refl (up i j d l lt)
    by_place (inr (inr g)) = absurd (omega arith)

-- what a search by halves answers, among names that ascend
pub searched : (fold : ℕ → ℕ) (ns : List Name) (us : List ℕ) (r : Result ℕ ℕ) → Ordered fold → Ascends fold ns → IsBinarySearchResult (λ n. compared fold n us) ns r → MatchResult r (HasAt fold ns us) (Splits fold ns us)
searched fold ns us (Ok i) o up h = h
searched fold ns us (Err i) o up h = let parts = h (rises fold ns us o up) in (λ k d l. parts.0 k d (omega arith) l, parts.1)

-- a name that is entered where it parts the others
pub entered_ascends : (fold : ℕ → ℕ) (ns : List Name) (p : ℕ) (n : Name) → Ordered fold → Ascends fold ns → p ≤ length ns → Splits fold ns n p → Ascends fold (insert ns p n)
entered_ascends fold ns p n o up at parts i j d lt within = by_places (cases_order i p) (cases_order j p)
  where
    new : List Name
    new = insert ns p n

    Stand : ℕ → ℕ → Type 0
    Stand i j = compared fold (slice_index_or new i d) (slice_index_or new j d) ≡ Less

    above : (k : ℕ) → p < k → slice_index_or new k d ≡ slice_index_or ns (k - 1) d
    above k h = let e : k - 1 + 1 ≡ k = omega arith in subst (λ m. slice_index_or new m d ≡ slice_index_or ns (k - 1) d) e (get_or-insert_above ns p n d (k - 1) (omega arith) at)

    below : (k : ℕ) → k < p → slice_index_or new k d ≡ slice_index_or ns k d
    below k h = get_or-insert_below ns p n d k h at

    there : (k : ℕ) → k ≡ p → slice_index_or new k d ≡ n
    there k h = rw h (get_or-insert_at ns p n d at)

    inside : j < length ns + 1
    inside = subst (λ m. j < m) (length-insert ns p n at) within

    pair : (a b : Name) → slice_index_or new i d ≡ a → slice_index_or new j d ≡ b → compared fold a b ≡ Less → Stand i j
    pair a b e f h = rw e (rw f h)

    by_places : (i ≡ p) ⊎ ((i < p) ⊎ (p < i)) → (j ≡ p) ⊎ ((j < p) ⊎ (p < j)) → Stand i j
    by_places (inl e) (inl f) = absurd (omega arith)
    by_places (inl e) (inr (inl f)) = absurd (omega arith)
    by_places (inl e) (inr (inr f)) = pair _ _ (there i e) (above j f) (o.turned (slice_index_or ns (j - 1) d) n ∙ ap ordering_reverse (parts.1 (j - 1) d (omega arith) (omega (arith, inside))))
    by_places (inr (inl e)) (inl f) = pair _ _ (below i e) (there j f) (parts.0 i d e)
    by_places (inr (inl e)) (inr (inl f)) = pair _ _ (below i e) (below j f) (up i j d lt (omega arith))
    by_places (inr (inl e)) (inr (inr f)) = pair _ _ (below i e) (above j f) (up i (j - 1) d (omega arith) (omega (arith, inside)))
    by_places (inr (inr e)) (inl f) = absurd (omega arith)
    by_places (inr (inr e)) (inr (inl f)) = absurd (omega arith)
    by_places (inr (inr e)) (inr (inr f)) = pair _ _ (above i e) (above j f) (up (i - 1) (j - 1) d (omega arith) (omega (arith, inside)))
