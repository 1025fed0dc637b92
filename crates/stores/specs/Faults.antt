-- Faults of a store, refusals to make one, and their numbers.
--
--   layer_number l, cause_number c  the numbers by which a fault is told
--   missing l n o                   the fault of the layer l that has no record n, or not so many bytes from the offset o on
--   tripped l n o                   the fault of the layer l that was made to fail at record n, offset o
--   unfit_number u                  the number of a refusal to make a store
--   At f n o                        the fault f tells of record n, offset o
--   all_of n                        all bytes of the record n
use Rattle.std.specs.Prelude.{◌≡◌, ℕ}
use Rattle.stores.specs.declared.fault.Layer.{Layer}
use Rattle.stores.specs.declared.fault.Layer.TheVariants.{Flat, Sector, Cache, Trip}
use Rattle.stores.specs.declared.fault.Cause.{Cause}
use Rattle.stores.specs.declared.fault.Cause.TheVariants.{NotThere, Tripped}
use Rattle.stores.specs.declared.fault.Fault.{Fault}
use Rattle.stores.specs.declared.span.Span.{Span}
use Rattle.stores.specs.declared.unfit.Unfit.{Unfit}
use Rattle.stores.specs.declared.unfit.Unfit.TheVariants.{FewCells, Repeated, Outside, BadCount}

abbrev pub layer_number : Layer → ℕ
layer_number Flat = 1
layer_number Sector = 2
layer_number Cache = 3
layer_number Trip = 4

abbrev pub cause_number : Cause → ℕ
cause_number NotThere = 1
cause_number Tripped = 2

abbrev pub missing : Layer → ℕ → ℕ → Fault
missing l n o = record { layer = l; cause = NotThere; id = n; offset = o }

abbrev pub tripped : Layer → ℕ → ℕ → Fault
tripped l n o = record { layer = l; cause = Tripped; id = n; offset = o }

abbrev pub At : Fault → ℕ → ℕ → Type 0
At f n o = (f.id ≡ n) × (f.offset ≡ o)

abbrev pub unfit_number : Unfit → ℕ
unfit_number FewCells = 17
unfit_number (Repeated p) = 53
unfit_number (Outside p) = 53
unfit_number BadCount = 53

abbrev pub all_of : ℕ → Span
all_of n = record { id = n; offset = 0; len = 128 }
