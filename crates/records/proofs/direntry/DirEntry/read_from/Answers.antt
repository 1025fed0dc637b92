use Rattle.std.proofs.Common.{◌≡◌, ap, ◌∙◌, rules}
use Rattle.records.specs.Rules.{about}
use Rattle.records.proofs.JudgedInSteps.{entry_judged}
use Rattle.records.proofs.AcceptedMeans.{answered}
use Rattle.records.proofs.direntry.DirEntry.read_from.Goals as goal

pub returns : goal.returns
returns c =
    let k : c.map_err.result ≡ about c.args.id c.entry.result = search rules in
    let q = c.entry.ensures ∙ entry_judged c.args.bytes.now c.args.version c.args.validation in
    record { answer = k ∙ ap (about c.args.id) q; means = rw k (answered c.args.bytes.now c.args.version c.args.validation c.args.id c.entry.result q) }
