use Rattle.std.proofs.Common.{ℕ, ◌+◌, ◌*◌, ◌∙◌, [], ap, get_or, rules}
use Rattle.records.specs.Bytes.{units_of}
use Rattle.records.proofs.MadeFromFn.{made_of}
use Rattle.records.proofs.UnitPairs.{units_read}
use Rattle.records.proofs.reading.Reader.units.Goals as goal

pub returns : goal.returns
returns c =
    let ps = c.as_chunks.result.0.now in
    units_read c.part-field.result c.from_fn.result ps (search rules) c.from_fn.ensures.items.long c.as_chunks.ensures.front
    (made_of _ (λ (k : ℕ). get_or (get_or ps k []) 0 0 + get_or (get_or ps k []) 1 0 * 256) _ 32 (λ i y q h k. search rules) c.from_fn.result c.from_fn.ensures.items)
    ∙ ap units_of c.part-field.ensures
