use Rattle.std.proofs.Common.{◌≡◌, not, rules, tests}
use Rattle.std.proofs.lemmas.Iterator.Search.{all_from_yields_List}
use Rattle.names.specs.Units.{surrogate, well_formed}
use Rattle.names.proofs.CodePoints.{next_codes}
use Rattle.names.proofs.Spelling.{decides_spelling, codes-spelled}
use Rattle.names.proofs.utf16.is_well_formed.Goals as goal

pub returns : goal.returns
returns c =
    let us = c.args.units.now in
    let value : c.all.result ≡ well_formed us = all_from_yields_List (λ x. not (surrogate x)) c.all.new.self _ c.all.result c.all.ensures.ran (next_codes us c.code_points.ensures) (λ x b q k. search (rules, tests)) in
    record { value = value; spells = decides_spelling us _ value; only = λ cs s. codes-spelled s }
