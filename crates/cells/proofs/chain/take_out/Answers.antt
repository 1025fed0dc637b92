use Rattle.std.proofs.Common.{get_or, None, sym, ap, ◌∙◌}
use Rattle.cells.specs.Chains.{held}
use Rattle.cells.proofs.Entries.{set_here, still_free}
use Rattle.cells.proofs.Fields.{length-held}
use Rattle.cells.proofs.Tables.{without_none}
use Rattle.cells.proofs.chain.take_out.Goals as goal

pub returns-in_default-clause-held : goal.returns-in_default-clause-held
returns-in_default-clause-held g c =
    without_none (held c.args.cells.now) (held c.give_up-gone.new.cells) (held c.give_up.new.cells) c.args.hole c.args.last (rw (length-held c.args.cells.now) c.requires.hole) c.give_up-gone.ensures.held c.give_up.ensures.held (sym c.in_default.is ∙ c.give_up.ensures.given)

pub put-requires-clause-free : goal.put-requires-clause-free
put-requires-clause-free g c =
    ap (λ vs. get_or vs c.args.hole None) c.give_up.ensures.held
    ∙ still_free (held c.give_up-gone.new.cells) c.args.hole c.args.last (ap (λ vs. get_or vs c.args.hole None) c.give_up-gone.ensures.held ∙ set_here (held c.args.cells.now) c.args.hole None (rw (length-held c.args.cells.now) c.requires.hole))
