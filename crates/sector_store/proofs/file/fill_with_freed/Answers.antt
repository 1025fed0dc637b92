use Rattle.std.proofs.Common.{◌≡◌, length, ap, ◌∙◌, arith}
use Rattle.stores.proofs.Freed.{length-freed}
use Rattle.sector_store.proofs.Filled.{length-filled, filled_more}
use Rattle.sector_store.proofs.file.fill_with_freed.Goals as goal

pub loop-i-preserved : goal.loop-i-preserved
loop-i-preserved c =
    let bs = c.args.bytes.now in
    let i = c.loop-i.i in
    let e = c.loop-i.invariant in
    let l : length c.loop-i.bytes ≡ length bs = ap length e ∙ length-filled bs c.args.at i (omega arith) in
    let f : length c.freed_record-freed.result ≡ 128 = ap length c.freed_record-freed.ensures ∙ length-freed in
    filled_more bs c.loop-i.bytes c.copy_in.new.bytes c.freed_record-freed.result c.args.at i e c.freed_record-freed.ensures
    (c.copy_in.ensures.copied (omega arith))
