use Rattle.std.proofs.Common.{◌∙◌, ap, arith}
use Rattle.records.specs.Writing.{name_bytes}
use Rattle.records.proofs.WritesInOrder.{unit_more, units_all}
use Rattle.records.proofs.name_field.name_field.Goals as goal

pub loop-i-preserved : goal.loop-i-preserved
loop-i-preserved c =
    unit_more c.units-unit-items.result.now c.loop-i.field c.put.new.bytes c.to_le_bytes.result c.loop-i.i c.loop-i-test.true c.units-unit-items.ensures.few
    c.to_le_bytes.ensures c.loop-i.invariant c.put.ensures.front c.put.ensures.rest

pub returns : goal.returns
returns c =
    units_all c.units-unit-items.result.now c.loop-i.field c.loop-i.i c.units-unit-items.ensures.few (omega arith) c.loop-i.invariant
    ∙ ap name_bytes c.units-unit-items.ensures.spelled
