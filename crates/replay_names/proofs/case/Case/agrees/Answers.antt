use Rattle.std.proofs.Common.{subst, sym}
use Rattle.std.specs.Bool.{Decides}
use Rattle.replay_names.specs.Cases.{Agrees, LeadsTo, recorded}
use Rattle.replay_names.proofs.case.Case.agrees.Goals as goal

pub returns-in-Chain : goal.returns-in-Chain
returns-in-Chain g c =
    let told = subst (λ p. Decides c.leads_to.result (LeadsTo p (recorded c.in-Chain.names))) c.deref-in-Chain.ensures.value c.leads_to.ensures in
    subst (λ s. Agrees (g.F.Folding.folds c.args.folding.now) s c.leads_to.result) (sym c.in-Chain.is) told
