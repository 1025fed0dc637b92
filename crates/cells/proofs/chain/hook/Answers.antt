use Rattle.cells.proofs.Hooks.{hook_head, hook_next}
use Rattle.cells.proofs.chain.hook.Goals as goal

pub returns-in-Some : goal.returns-in-Some
returns-in-Some g c = hook_next _ _ _ _ _ _ (c.requires.inside _ c.in-Some.is) c.in-Some.is

pub returns-in-None : goal.returns-in-None
returns-in-None g c = hook_head _ _ _ _ _ c.requires.bucket c.in-None.is
