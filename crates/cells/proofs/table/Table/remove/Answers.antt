use Rattle.std.proofs.Common.{◌≡◌, refl, ap, ◌∙◌, arith, rules}
use Rattle.cells.specs.Chains.{valued}
use Rattle.cells.specs.Maps.{lookup}
use Rattle.cells.proofs.Tables.{below_count, no_value, remove_none, remove_there, size_held, value_there}
use Rattle.cells.proofs.Unwrapped.{unwrap}
use Rattle.cells.proofs.table.Table.remove.Goals as goal

pub returns-in_err-at : goal.returns-in_err-at
unfolding lookup
returns-in_err-at g c =
    let sound = unwrap c.args.self.now.sound in
    let d = remove_none g.met.K.Eq.laws sound _ c.in_err-at.ensures in
    record { cells = record { lender = refl; size = refl }; answer = c.from_residual.ensures ∙ no_value g.met.K.Eq.laws sound _ c.in_err-at.ensures; drops = d.0; counts = d.1 }

pub overflow_sub-last : goal.overflow_sub-last
overflow_sub-last g c =
    let sound = unwrap c.args.self.now.sound in
    let h = below_count g.met.K.Eq.laws sound _ _ c.in_ok-at.ensures in omega arith

pub take_out-gone-requires : goal.take_out-gone-requires
take_out-gone-requires g c =
    let sound = unwrap c.args.self.now.sound in
    let h = below_count g.met.K.Eq.laws sound _ _ c.in_ok-at.ensures in
    let s = size_held g.met.K.Eq.laws sound in
    record { kept = sound.kept; hole = c.in_ok-at.ensures.inside; last = omega arith }

pub invariant_of-self : goal.invariant_of-self
invariant_of-self g c =
    let sound = unwrap c.args.self.now.sound in
    record { sound = ∣ (remove_there g.met.K.Eq.laws sound _ _ c.in_ok-at.ensures _ c.take_out-gone.ensures.kept c.take_out-gone.ensures.held).0 ∣₁ }

pub returns : goal.returns
unfolding lookup
returns g c =
    let sound = unwrap c.args.self.now.sound in
    let d = remove_there g.met.K.Eq.laws sound _ _ c.in_ok-at.ensures _ c.take_out-gone.ensures.kept c.take_out-gone.ensures.held in
    record { cells = record { lender = refl; size = c.take_out-gone.auto.cells }; answer = value_there g.met.K.Eq.laws sound _ _ c.in_ok-at.ensures _ (let taken : c.map.result ≡ valued c.take_out-gone.result = search rules in taken ∙ ap valued c.take_out-gone.ensures.given); drops = d.1; counts = d.2 }
