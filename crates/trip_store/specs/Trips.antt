-- The faults of a store that is made to fail.
--
--   TripsOr p f              f is a fault of being made to fail, or one of p
--   Counts p due n o r w w'  a call with the answer r, which is a write where due holds, before which w writes still went
--                            through, and w' after it: it trips exactly where none does, and is counted; where one does,
--                            its fault is one of p, from below
use Rattle.std.specs.Prelude.{◌≡◌, ℕ, ◌-◌, ◌<◌, ◌⊎◌, IfErr, Err, Result}
use Rattle.stores.specs.declared.fault.Fault.{Fault}
use Rattle.stores.specs.declared.fault.Layer.TheVariants.{Trip}
use Rattle.stores.specs.declared.fault.Cause.TheVariants.{Tripped}
use Rattle.stores.specs.Faults.{tripped}

abbrev pub TripsOr : (Fault → Type 0) → Fault → Type 0
TripsOr p f = ((f.layer ≡ Trip) × (f.cause ≡ Tripped)) ⊎ p f

pub record Counts {T : Type 0} (p : Fault → Type 0) (due : Type 0) (n o : ℕ) (r : Result T Fault) (w w' : ℕ) : Type 0 where
  pub trips : due → w ≡ 0 → r ≡ Err (tripped Trip n o)
  pub passes : due → 0 < w → IfErr r p
  pub counts : due → w' ≡ w - 1
  pub rests : (due → ⊥) → w' ≡ w
