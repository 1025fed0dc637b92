use Rattle.std.proofs.Common.{subst, sym, length, ◌≤◌}
use Rattle.inspection.specs.Listings.{Ascends, Splits}
use Rattle.inspection.proofs.Ascending.{entered_ascends}
use Rattle.inspection.proofs.listing.Listing.enter.Goals as goal

pub invariant_of-self-in-Err : goal.invariant_of-self-in-Err
invariant_of-self-in-Err g c =
    let fold = g.F.Folding.folds c.self.inside.folding in
    let place = c.in-Err.place in
    let within = subst (λ ns. place ≤ length ns) c.as_slice.ensures.value c.in-Err.ensures.within in
    let parts = subst (λ ns. Splits fold ns c.units.result.now place) c.as_slice.ensures.value c.in-Err.ensures.place in
    let entered = entered_ascends fold c.self.inside.names.items place c.args.name c.names_are_ordered.ensures c.self.invariant within (subst (λ us. Splits fold c.self.inside.names.items us place) c.units.ensures.spelled parts) in
    subst (Ascends fold) (sym c.in_ok-insert-in-Err.ensures.items) entered
