use Rattle.std.proofs.Common.{ap, sym, ◌∙◌, rules}
use Rattle.std.proofs.lemmas.Slice.Eq.{bytes_eq-Decides}
use Rattle.replay_names.proofs.Spelled.{first_equal}
use Rattle.replay_names.proofs.case.+spell.Goals as goal

pub returns-then-eq : goal.returns-then-eq
returns-then-eq t c =
    let same = (bytes_eq-Decides _ _).0 (sym c.eq.ensures ∙ c.if-eq.true) in
    first_equal (λ p. p.units.now) (λ n. n.items) c.args.parts.now c.args.names.now _ c.name-item.result c.spell.result (search rules) (search rules)
    (same ∙ c.as_slice.ensures.value ∙ ap (λ n. n.items) c.name-item.is) c.spell.ensures
