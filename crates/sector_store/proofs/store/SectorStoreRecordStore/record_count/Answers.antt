use Rattle.std.proofs.Common.{ℕ, ◌*◌, sym, ap, ◌∙◌}
use Rattle.sector_store.specs.Wholes.{length-sectored}
use Rattle.sector_store.proofs.store.SectorStoreRecordStore.record_count.Goals as goal

pub returns : goal.returns
returns c =
    let s = c.args.self.now in
    ap (λ (k : ℕ). s.used * k) c.growth_size.ensures ∙ sym (length-sectored s.version s.bytes.now s.sectors.now s.used s.room)
