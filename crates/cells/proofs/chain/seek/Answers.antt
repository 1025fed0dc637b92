use Rattle.std.proofs.Common.{◌≡◌, false, sym, ◌∙◌, ⊎_elim, arith, rules}
use Rattle.std.proofs.lemmas.Bool.{both_ways}
use Rattle.cells.proofs.Links.{which}
use Rattle.cells.proofs.Walks.{passed_start, passed_inside, passed_next, passed_all, found}
use Rattle.cells.proofs.chain.seek.Goals as goal

pub loop-at-init : goal.loop-at-init
loop-at-init g c = passed_start g.K.PartialEq.eq g.K.Key.hashed g.met.K.Key.agrees _ _ _ _ c.requires c.hash.ensures.tells (search rules) c.index-cells-bucket.is

pub offset_bounds-cells-at : goal.offset_bounds-cells-at
offset_bounds-cells-at g c = let h = passed_inside g.K.PartialEq.eq g.K.Key.hashed g.met.K.Key.agrees _ _ _ _ c.loop-at.invariant (sym c.in-Some.ensures) in omega arith

pub bounds-cells-at : goal.bounds-cells-at
bounds-cells-at g c = passed_inside g.K.PartialEq.eq g.K.Key.hashed g.met.K.Key.agrees _ _ _ _ c.loop-at.invariant (sym c.in-Some.ensures)

pub returns-then-is_some_and : goal.returns-then-is_some_and
returns-then-is_some_and g c =
    ⊎_elim (λ none. absurd (let never : c.is_some_and.result ≡ false = search rules in both_ways _ never c.if-is_some_and.true))
    (λ some. found g.K.PartialEq.eq g.K.Key.hashed g.met.K.Key.agrees _ _ _ _ _ _ c.loop-at.invariant (sym c.in-Some.ensures) c.index-cells-at.is some.1 (search rules))
    (which c.index-cells-at.result.entry)

pub loop-at-preserved : goal.loop-at-preserved
loop-at-preserved g c = (passed_next g.K.PartialEq.eq g.K.Key.hashed g.met.K.Key.agrees _ _ _ _ _ c.requires (omega arith) c.loop-at.invariant (sym c.in-Some.ensures) c.index-cells-at.is (λ x e. search rules)).0

pub loop-at-smaller : goal.loop-at-smaller
loop-at-smaller g c = (passed_next g.K.PartialEq.eq g.K.Key.hashed g.met.K.Key.agrees _ _ _ _ _ c.requires (omega arith) c.loop-at.invariant (sym c.in-Some.ensures) c.index-cells-at.is (λ x e. search rules)).1

pub returns : goal.returns
returns g c = passed_all g.K.PartialEq.eq g.K.Key.hashed g.met.K.Key.agrees _ _ _ (omega arith) c.loop-at.invariant (sym c.get.ensures ∙ c.in_default.is)
