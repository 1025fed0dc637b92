use Rattle.std.proofs.Common.{◌<◌, ◌≤◌, ℕ, List, ◌∷◌, [], ◌++◌, map, length, sym, ap, ◌∙◌, append_assoc, arith, rules}
use Rattle.std.proofs.lemmas.List.{length-map, map_push, append-nil}
use Rattle.names.specs.Units.{codes}
use Rattle.names.specs.declared.key.NameKey.{NameKey}
use Rattle.names.proofs.CodePoints.{codes_few}
use Rattle.names.proofs.KeyFilling.{so_far, one_more, room}
use Rattle.names.proofs.key.name_key.Given as given
use Rattle.names.proofs.key.name_key.Goals as goal

-- a code point is left, so a place is left
place : (g : given.Over) (c : goal.After-fold g) → c.loop-code.count < 31
place g c =
    let few : length c.args.name.now ≤ 31 = search rules in
    let count = ap (λ (k : NameKey). k.code_count) c.loop-code.invariant.held in
    omega (arith, length-map c.loop-code.yielded (g.F.Folding.folds c.args.folding.now), room c.args.name.now c.loop-code.yielded (codes c.loop-code.code-iterator.units.now) c.in-Some.code _ few c.loop-code.invariant.left c.in-Some.ensures.steps.first)

pub offset_bounds-codes-count : goal.offset_bounds-codes-count
offset_bounds-codes-count g c = omega (arith, place g c)

pub bounds-codes-count : goal.bounds-codes-count
bounds-codes-count g c = place g c

pub overflow_add-count : goal.overflow_add-count
overflow_add-count g c = omega (arith, place g c)

pub loop-code-preserved : goal.loop-code-preserved
loop-code-preserved g c =
    let fold = g.F.Folding.folds c.args.folding.now in
    let n = length c.args.name.now in
    let before = c.loop-code.yielded in
    let few : length c.args.name.now ≤ 31 = search rules in
    let fits : length (map fold before) < 31 = rw (length-map before fold) (room _ _ _ _ _ few c.loop-code.invariant.left c.in-Some.ensures.steps.first) in
    record {
      held = one_more n _ (map fold before) c.fold.result fits c.loop-code.invariant.held ∙ ap (so_far n) (ap (λ x. map fold before ++ x ∷ []) c.fold.ensures ∙ sym (map_push fold before c.in-Some.code));
      left = append_assoc before (c.in-Some.code ∷ []) _ ∙ ap (λ cs. before ++ cs) (sym c.in-Some.ensures.steps.first) ∙ c.loop-code.invariant.left;
    }

pub overflow_cast-result-2 : goal.overflow_cast-result-2
overflow_cast-result-2 g c =
    let few : length c.args.name.now ≤ 31 = search rules in
    let count = ap (λ (k : NameKey). k.code_count) c.loop-code.invariant.held in
    let all = ap length (sym (append-nil c.loop-code.yielded) ∙ ap (λ cs. c.loop-code.yielded ++ cs) (sym c.in-None.ensures.steps.first.0) ∙ c.loop-code.invariant.left) in
    omega (arith, length-map c.loop-code.yielded (g.F.Folding.folds c.args.folding.now), codes_few c.args.name.now)

pub returns : goal.returns
returns g c =
    let fold = g.F.Folding.folds c.args.folding.now in
    let all = sym (append-nil c.loop-code.yielded) ∙ ap (λ cs. c.loop-code.yielded ++ cs) (sym c.in-None.ensures.steps.first.0) ∙ c.loop-code.invariant.left in
    let key : List ℕ → NameKey = λ us. record { unit_count = length us; code_count = c.loop-code.count; codes = c.loop-code.codes } in
    ap key c.units-units.ensures.spelled ∙ c.loop-code.invariant.held ∙ ap (λ cs. so_far (length c.args.name.now) (map fold cs)) all
