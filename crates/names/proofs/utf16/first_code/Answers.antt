use Rattle.std.proofs.Common.{◌≡◌, ◌<◌, ◌≤◌, false, ◌&&◌, ◌⊎◌, length, get_or, sym, arith, rules}
use Rattle.std.proofs.lemmas.List.{nil_from_length}
use Rattle.names.specs.Units.{high, low}
use Rattle.names.proofs.CodePoints.{codes_of_pair, codes_of_single, rest_shorter}
use Rattle.names.proofs.utf16.first_code.Goals as goal
use Rattle.names.proofs.utf16.first_code.Goals.{then-units-lt2, in-len2-up+else-is_pair}

pub returns-in-empty : goal.returns-in-empty
returns-in-empty c =
    let none = nil_from_length c.args.units.now (search rules) in record { codes = none; shorter = none }

pub returns-in-len2-up : goal.returns-in-len2-up
returns-in-len2-up c =
    let two : 2 ≤ length c.args.units.now = search rules in
    record {
      codes = codes_of_pair c.args.units.now _ two (sym c.if-is_pair.ensures) c.join.ensures;
      shorter = rest_shorter c.args.units.now 2 (omega arith) two;
    }

pub returns-in-len1-up : goal.returns-in-len1-up
returns-in-len1-up c =
    let one : 1 ≤ length c.args.units.now = search rules in
    let alone : (length c.args.units.now < 2) ⊎ ((high (get_or c.args.units.now 0 0) && low (get_or c.args.units.now 1 0)) ≡ false) = search rules in
    record {
      codes = codes_of_single c.args.units.now _ one alone c.from.ensures;
      shorter = rest_shorter c.args.units.now 1 (omega arith) one;
    }
