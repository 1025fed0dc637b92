use Rattle.std.proofs.Common.{sym, ◌∙◌}
use Rattle.cache_store.proofs.ThroughCopies.{length-laid}
use Rattle.cache_store.proofs.CacheStoreRecordStore.record_count.Goals as goal

pub returns : goal.returns
returns g c = c.record_count.ensures ∙ sym (length-laid c.args.self.now.copies.kept.items (g.S.RecordStore.meaning c.args.self.now.inner))
