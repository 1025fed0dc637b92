use Rattle.std.proofs.Common.{◌<◌, ap, inl, arith}
use Rattle.stores.specs.declared.fault.Fault.{Fault}
use Rattle.stores.proofs.Unchanged.{ungrown}
use Rattle.trip_store.specs.Trips.{TripsOr}
use Rattle.trip_store.proofs.TripStoreRecordStore.grow.Goals as goal

pub returns-then-self-eq0-clause-answer : goal.returns-then-self-eq0-clause-answer
returns-then-self-eq0-clause-answer g c =
    let m = g.S.RecordStore.meaning c.args.self.now.inner in
    let some : 0 < m.left = omega (arith, c.growths_left.ensures) in
    let e = c.tripped.ensures in
    ungrown (TripsOr g.S.RecordStore.faults) m c.tripped.result (ap (λ (f : Fault). f.id) e, ap (λ (f : Fault). f.offset) e)
    (inl (ap (λ (f : Fault). f.layer) e, ap (λ (f : Fault). f.cause) e)) some
