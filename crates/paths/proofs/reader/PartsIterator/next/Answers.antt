use Rattle.std.proofs.Common.{◌≡◌, ◌+◌, ◌≤◌, ◌∷◌, length, take, drop, sym, refl, ap, ◌∙◌, eqb, arith, rules}
use Rattle.std.proofs.lemmas.List.{take_rest, length-drop, length-take-le}
use Rattle.std.specs.List.{position_or_len}
use Rattle.paths.specs.declared.Parts.{Parts}
use Rattle.paths.specs.Chains.{left}
use Rattle.paths.proofs.Cutting.{pieces_next}
use Rattle.paths.proofs.reader.PartsIterator.next.Goals as goal

pub returns : goal.returns
returns c =
    let us = c.args.self.now.path.now in
    let start = c.args.self.now.at in
    let n = c.until_separator-len.result in
    let inside : start ≤ length us = search rules in
    let rest : c.in_ok-rest.rest.now ≡ drop start us = search (rules, take_rest) in
    let whole : n ≡ position_or_len (λ u. eqb u 47) (drop start us) = c.until_separator-len.ensures.value ∙ ap (position_or_len (λ u. eqb u 47)) rest in
    let after : Parts = record { path = c.args.self.now.path; at = start + n + 1 } in
    let steps : left c.args.self.now ≡ record { place = start; units = take n c.in_ok-rest.rest.now } ∷ left after =
    pieces_next us start n inside whole ∙ ap (λ vs. record { place = start; units = take n vs } ∷ left after) (sym rest)
    in
    let long : length (take n c.in_ok-rest.rest.now) ≡ n = length-take-le n c.in_ok-rest.rest.now c.until_separator-len.ensures.within in
    let room = ap length rest in
    record {
      steps = steps;
      goes = record { on = λ _. let fewer = ap length steps in (tt, tt, omega arith); keeps = tt; rests = λ _. tt };
      path = refl;
      lent = record {
        inside = omega (arith, length-drop start us, c.until_separator-len.ensures.within);
        units = ap (take n) rest ∙ ap (λ k. take k (drop start us)) (sym long);
      };
    }
