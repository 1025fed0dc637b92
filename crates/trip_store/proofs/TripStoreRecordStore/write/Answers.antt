use Rattle.std.proofs.Common.{length, ap, inl, arith}
use Rattle.stores.specs.declared.fault.Fault.{Fault}
use Rattle.stores.specs.declared.fault.Layer.TheVariants.{Trip}
use Rattle.stores.specs.Answers.{Inside}
use Rattle.stores.proofs.Unchanged.{unwritten}
use Rattle.trip_store.specs.Trips.{TripsOr}
use Rattle.trip_store.proofs.TripStoreRecordStore.write.Goals as goal

pub returns-then-self-eq0-clause-answer : goal.returns-then-self-eq0-clause-answer
returns-then-self-eq0-clause-answer g c =
    let m = g.S.RecordStore.meaning c.args.self.now.inner in
    let there = c.in_ok-within.ensures in
    let inside : Inside m c.args.number c.args.offset (length c.args.bytes.now) = (omega (arith, there.0, c.record_count.ensures), there.1) in
    let e = c.tripped.ensures in
    unwritten Trip (TripsOr g.S.RecordStore.faults) m c.args.number c.args.offset (length c.args.bytes.now) c.tripped.result
    (g.met.S.RecordStore.whole c.args.self.now.inner) (ap (λ (f : Fault). f.id) e, ap (λ (f : Fault). f.offset) e) inside
    (inl (ap (λ (f : Fault). f.layer) e, ap (λ (f : Fault). f.cause) e))
