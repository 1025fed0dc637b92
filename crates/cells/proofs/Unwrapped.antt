-- The rules of a table are one fact: two proofs of them are equal, so what a ghost field says can be used.
use Rattle.std.proofs.Common.{◌≡◌, ℕ, ◌%◌, Bool, List, length, Some, None, Option}
use mathlib.Core.Bool.{Bool-set}
use mathlib.Core.Logic.{∥∥₁_elim}
use native.Mathlib.Nat.{ℕ_set}
use native.Mathlib.Bridge.{le_prop}
use Rattle.cells.specs.declared.cell.Entry.{Entry}
use Rattle.cells.specs.declared.cell.Cell.{Cell}
use Rattle.cells.specs.Chains.{Sits, Link, Chained}
use Rattle.cells.specs.Rules.{Dense, Rules}

absurd_prop : (p q : ⊥) → p ≡ q
absurd_prop p q = absurd p

sits_prop : {K : Type 0} (hash : K → ℕ) (n b : ℕ) (o : Option (Entry K)) → IsProp (Sits hash n b o)
sits_prop hash n b None p q = absurd p
sits_prop hash n b (Some e) p q = ℕ_set (hash e.key % n) b p q

link_prop : (p : ℕ → Type 0) (from : ℕ) (x : Option ℕ) → ((j : ℕ) → IsProp (p j)) → IsProp (Link p from x)
link_prop p from x each l m = λ i. record {
  stands = λ j e. (le_prop (l.stands j e).0 (m.stands j e).0 i, each j (l.stands j e).1 (m.stands j e).1 i);
  first = λ j a b h. absurd_prop (l.first j a b h) (m.first j a b h) i;
}

chained_prop : {K : Type 0} (hash : K → ℕ) (n : ℕ) (v : ℕ → Option (Entry K)) (H N : ℕ → Option ℕ) → IsProp (Chained hash n v H N)
chained_prop hash n v H N l m = λ i. record {
  heads = λ b h. link_prop (λ j. Sits hash n b (v j)) 0 (H b) (λ j. sits_prop hash n b (v j)) (l.heads b h) (m.heads b h) i;
  nexts = λ k e q. link_prop (λ j. Sits hash n (hash e.key % n) (v j)) _ (N k) (λ j. sits_prop hash n (hash e.key % n) (v j)) (l.nexts k e q) (m.nexts k e q) i;
}

dense_prop : {K : Type 0} (vs : List (Option (Entry K))) (count : ℕ) → IsProp (Dense vs count)
dense_prop vs count l m = λ i. record {
  size = le_prop l.size m.size i;
  taken = λ j h. Bool-set _ _ (l.taken j h) (m.taken j h) i;
  free = λ j h. Bool-set _ _ (l.free j h) (m.free j h) i;
}

module _ {K : Type 0} {hash : K → ℕ} {same : K → K → Bool} {cells : List (Cell K)} {count : ℕ} where
  pub rules_prop : IsProp (Rules hash same cells count)
  rules_prop l m = λ i. record {
    kept = record { chained = chained_prop hash (length cells) _ _ _ l.kept.chained m.kept.chained i };
    once = λ a b e f p q s. ℕ_set a b (l.once a b e f p q s) (m.once a b e f p q s) i;
    dense = dense_prop _ count l.dense m.dense i;
  }

  pub unwrap : ∥ Rules hash same cells count ∥₁ → Rules hash same cells count
  unwrap h = ∥∥₁_elim h rules_prop (λ r. r)
