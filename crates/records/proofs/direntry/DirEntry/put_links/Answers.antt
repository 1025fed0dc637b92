use Rattle.std.proofs.Common.{◌∙◌}
use Rattle.records.proofs.LowFirst.{low_first}
use Rattle.records.proofs.WritesInOrder.{after, last}
use Rattle.records.proofs.direntry.DirEntry.put_links.Goals as goal

pub returns : goal.returns
returns c =
    let e = c.args.self.now in
    after c.args.bytes.now c.put.new.bytes c.put-3.new.bytes _ _ _ 68 72 80 c.put.ensures.front (c.to_le_bytes.ensures ∙ low_first 4 e.left_sibling)
    (after c.put.new.bytes c.put-2.new.bytes c.put-3.new.bytes _ _ _ 72 76 80 c.put-2.ensures.front (c.to_le_bytes-2.ensures ∙ low_first 4 e.right_sibling)
    (last c.put-2.new.bytes c.put-3.new.bytes _ _ 76 80 c.put-3.ensures.front (c.to_le_bytes-3.ensures ∙ low_first 4 e.child)))
