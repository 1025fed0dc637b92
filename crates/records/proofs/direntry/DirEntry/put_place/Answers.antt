use Rattle.std.proofs.Common.{◌∙◌}
use Rattle.records.proofs.LowFirst.{low_first}
use Rattle.records.proofs.WritesInOrder.{after, last}
use Rattle.records.proofs.direntry.DirEntry.put_place.Goals as goal

pub returns : goal.returns
returns c =
    let e = c.args.self.now in
    after c.args.bytes.now c.put.new.bytes c.put-2.new.bytes _ _ _ 116 120 128 c.put.ensures.front (c.to_le_bytes.ensures ∙ low_first 4 e.start_sector)
    (last c.put.new.bytes c.put-2.new.bytes _ _ 120 128 c.put-2.ensures.front (c.to_le_bytes-2.ensures ∙ low_first 8 e.stream_len))
