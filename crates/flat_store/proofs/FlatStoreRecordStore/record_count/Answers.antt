use Rattle.std.proofs.Common.{sym}
use Rattle.flat_store.proofs.EndToEnd.{length-flat}
use Rattle.flat_store.proofs.FlatStoreRecordStore.record_count.Goals as goal

pub returns : goal.returns
returns c = let s = c.args.self.now in sym (length-flat s.version s.bytes.now s.count)
