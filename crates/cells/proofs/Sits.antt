-- What sits in a bucket.
use Rattle.std.proofs.Common.{◌≡◌, ℕ, ◌%◌, Some, None, Option, sym, refl}
use Rattle.std.proofs.lemmas.Option.{none-some}
use Rattle.cells.specs.declared.cell.Entry.{Entry}
use Rattle.cells.specs.Chains.{Sits}

pub sits_none : {K : Type 0} (hash : K → ℕ) (n b : ℕ) (o : Option (Entry K)) → Sits hash n b o → o ≡ None → ⊥
sits_none hash n b None h e = h
sits_none hash n b (Some x) h e = none-some x (sym e)

pub sits_at : {K : Type 0} (hash : K → ℕ) (n b : ℕ) (o : Option (Entry K)) (e : Entry K) → o ≡ Some e → Sits hash n b o → hash e.key % n ≡ b
sits_at hash n b o e q h = rw q at h

pub sits_put : {K : Type 0} (hash : K → ℕ) (n b : ℕ) (o : Option (Entry K)) (e : Entry K) → o ≡ Some e → hash e.key % n ≡ b → Sits hash n b o
sits_put hash n b o e q h = rw q h

pub sits_entry : {K : Type 0} (hash : K → ℕ) (n b : ℕ) (o : Option (Entry K)) → Sits hash n b o → (e : Entry K) × (o ≡ Some e) × (hash e.key % n ≡ b)
sits_entry hash n b None h = absurd h
sits_entry hash n b (Some e) h = (e, refl, h)
