use Rattle.std.proofs.Common.{refl, ◌∙◌}
use Rattle.records.proofs.LowFirst.{low_first}
use Rattle.records.proofs.WritesInOrder.{after, last}
use Rattle.records.proofs.direntry.DirEntry.put_stamps.Goals as goal

pub returns : goal.returns
returns c =
    let e = c.args.self.now in
    after c.args.bytes.now c.put.new.bytes c.put-4.new.bytes _ _ _ 80 96 116 c.put.ensures.front refl
    (after c.put.new.bytes c.put-2.new.bytes c.put-4.new.bytes _ _ _ 96 100 116 c.put-2.ensures.front (c.to_le_bytes.ensures ∙ low_first 4 e.state_bits)
    (after c.put-2.new.bytes c.put-3.new.bytes c.put-4.new.bytes _ _ _ 100 108 116 c.put-3.ensures.front (c.to_le_bytes-2.ensures ∙ low_first 8 e.creation_time.0)
    (last c.put-3.new.bytes c.put-4.new.bytes _ _ 108 116 c.put-4.ensures.front (c.to_le_bytes-3.ensures ∙ low_first 8 e.modified_time.0))))
