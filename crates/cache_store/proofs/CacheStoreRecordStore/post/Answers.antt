use Rattle.cache_store.proofs.ThroughCopies.{posts_through}
use Rattle.cache_store.proofs.CacheStoreRecordStore.post.Goals as goal

pub returns-clause-answer : goal.returns-clause-answer
returns-clause-answer g c = posts_through g.S.RecordStore.faults c.args.self.now.copies.kept.items _ _ c.post.result c.post.ensures.answer
