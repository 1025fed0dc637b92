use Rattle.std.proofs.Common.{◌∙◌}
use Rattle.cells.specs.Maps.{lookup}
use Rattle.cells.proofs.Tables.{value_there, no_value}
use Rattle.cells.proofs.Unwrapped.{unwrap}
use Rattle.cells.proofs.table.Table.find.Goals as goal

pub returns-in_err-at : goal.returns-in_err-at
unfolding lookup
returns-in_err-at g c =
    let sound = unwrap c.args.self.now.sound in
    c.from_residual.ensures ∙ no_value g.met.K.Eq.laws sound _ c.in_err-at.ensures

pub returns : goal.returns
unfolding lookup
returns g c =
    let sound = unwrap c.args.self.now.sound in
    value_there g.met.K.Eq.laws sound _ _ c.in_ok-at.ensures _ c.value_at.ensures
