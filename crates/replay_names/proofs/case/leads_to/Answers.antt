use Rattle.std.proofs.Common.{◌≡◌, ℕ, map, subst, sym, ap, ◌∙◌}
use Rattle.std.specs.Bool.{Decides}
use Rattle.std.proofs.lemmas.Simd.{map-map}
use Rattle.std.specs.Global.{Vec}
use Rattle.paths.specs.declared.Part.{Part}
use Rattle.paths.specs.Pieces.{Piece, resolved}
use Rattle.paths.specs.Chains.{names_of, piece_of}
use Rattle.replay_names.specs.Cases.{units_of, LeadsTo, recorded}
use Rattle.replay_names.proofs.case.leads_to.Goals as goal

pub returns-in-Ok-Some : goal.returns-in-Ok-Some
returns-in-Ok-Some c =
    let chain = c.in-Ok-Some.ensures.names in
    let units : map (λ (p : Part). p.units.now) c.names.result.now ≡ units_of (resolved c.args.path.now)
    = ap (map (λ (p : Part). p.units.now)) c.names.ensures ∙ sym (map-map (λ (p : Piece). p.units) piece_of (names_of c.in-Ok-Some.chain)) ∙ ap units_of chain.1 in
    let names : map (λ (n : Vec ℕ). n.items) c.deref.result.now ≡ map (λ (n : Vec ℕ). n.items) c.in-Ok-Some.names.items = ap (map (λ (n : Vec ℕ). n.items)) c.deref.ensures.value in
    subst (λ o. Decides c.spell.result (LeadsTo c.args.path.now (recorded o))) (sym c.in-Ok-Some.is-1) (
      λ t. (chain.0, sym units ∙ c.spell.ensures.0 t ∙ names),
      λ l. c.spell.ensures.1 (units ∙ l.1 ∙ sym names),
    )
