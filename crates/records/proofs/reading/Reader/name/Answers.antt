use Rattle.std.proofs.Common.{ap, ◌∙◌, rules}
use Rattle.records.specs.Steps.{and_then, spell_step}
use Rattle.records.proofs.UnitPairs.{spell_ok, spell_bad}
use Rattle.records.proofs.reading.Reader.name.Goals as goal

pub returns-then-is_well_formed : goal.returns-then-is_well_formed
returns-then-is_well_formed c =
    spell_ok c.args.self.now.bytes.now c.units-field.result c.in_ok-count.count c.in_ok-count.ensures.few c.units-field.ensures
    c.unwrap.result c.new.result (search rules) c.if-is_well_formed.ensures.value c.new.ensures (search rules)
    ∙ ap (λ r. and_then r (spell_step c.args.self.now.bytes.now)) c.in_ok-count.ensures.value

pub returns-else-is_well_formed : goal.returns-else-is_well_formed
returns-else-is_well_formed c =
    spell_bad c.args.self.now.bytes.now c.units-field.result c.in_ok-count.count c.in_ok-count.ensures.few c.units-field.ensures c.if-is_well_formed.ensures.value
    ∙ ap (λ r. and_then r (spell_step c.args.self.now.bytes.now)) c.in_ok-count.ensures.value
