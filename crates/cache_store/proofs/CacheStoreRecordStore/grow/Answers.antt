use Rattle.cache_store.proofs.ThroughCopies.{grows_through}
use Rattle.cache_store.proofs.CacheStoreRecordStore.grow.Goals as goal

pub returns-clause-answer : goal.returns-clause-answer
returns-clause-answer g c =
    let m = g.S.RecordStore.meaning c.args.self.now.inner in
    rw c.forget_beyond.ensures (grows_through g.S.RecordStore.faults c.record_count.result c.args.self.now.copies.kept.items m _ c.grow.result
    c.record_count.ensures c.grow.ensures.answer)
