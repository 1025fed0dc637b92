use Rattle.std.proofs.Common.{◌<◌, is_some, refl, ap, ◌∙◌, arith}
use Rattle.cells.specs.Maps.{size_of}
use Rattle.cells.proofs.Marking.{accepted, marking_all, marking_more}
use Rattle.cells.proofs.repeat.first_repeat.Goals as goal

pub loop-place-preserved : goal.loop-place-preserved
loop-place-preserved c =
    let frame = c.loop-place.invariant.0 in
    let marking = c.loop-place.invariant.1 in
    let room : c.loop-place.table.count < size_of c.loop-place.table =
    let n = marking.counted in let s = frame.size in let r = c.requires.room in let l = c.loop-place-test.true in omega arith in
    let done = accepted _ _ _ _ _ room c.insert.ensures.answer in (
      record { lender = c.insert.ensures.cells.lender ∙ frame.lender; size = c.insert.ensures.cells.size ∙ frame.size },
      marking_more _ _ _ _ marking _ c.loop-place-test.true refl _ done.puts _ (c.if-is_some.ensures ∙ ap is_some c.find.ensures) done.counts,
    )

pub returns-clause-place : goal.returns-clause-place
returns-clause-place c = marking_all _ _ _ _ c.loop-place.invariant.1 (omega arith)
