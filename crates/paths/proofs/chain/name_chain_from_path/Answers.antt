use Rattle.std.proofs.Common.{◌≡◌, ◌≤◌, true, sym, subst, arith}
use Rattle.names.specs.Units.{well_formed}
use Rattle.paths.specs.Pieces.{AllWellFormed}
use Rattle.paths.proofs.Following.{followed}
use Rattle.paths.proofs.SpelledNames.{names_well_formed}
use Rattle.paths.proofs.chain.name_chain_from_path.Goals as goal

pub returns-clause-spelled : goal.returns-clause-spelled
returns-clause-spelled c =
    let us = c.args.path.now in
    let well : well_formed us ≡ true = sym c.if-not-is_well_formed.ensures.value in
    let few : c.follow.new.trail.most ≤ 64 = omega arith in
    let names = followed us c.follow.new.trail c.in_ok-follow.ensures few well in
    subst AllWellFormed (sym names.1) (names_well_formed us well)
