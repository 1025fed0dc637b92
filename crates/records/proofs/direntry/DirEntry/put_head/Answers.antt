use Rattle.std.proofs.Common.{◌+◌, ◌*◌, [], ◌∷◌, length, ap, ap₂, ◌∙◌}
use Rattle.records.specs.Bytes.{bytes_of}
use Rattle.records.proofs.LowFirst.{low_first}
use Rattle.records.proofs.WritesInOrder.{after, last}
use Rattle.records.proofs.direntry.DirEntry.put_head.Goals as goal

pub returns : goal.returns
returns c =
    after c.args.bytes.now c.put.new.bytes c.put-2.new.bytes _ _ _ 64 66 68 c.put.ensures.front (c.to_le_bytes.ensures ∙ low_first 2 (2 * (length c.units.result.now + 1)) ∙ ap (λ us. bytes_of 2 (2 * (length us + 1))) c.units.ensures.spelled)
    (last c.put.new.bytes c.put-2.new.bytes _ _ 66 68 c.put-2.ensures.front (ap₂ (λ k l. k ∷ l ∷ []) c.into.ensures c.into-2.ensures))
