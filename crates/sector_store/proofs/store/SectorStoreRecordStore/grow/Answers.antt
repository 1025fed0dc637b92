use Rattle.std.proofs.Common.{◌≡◌, ℕ, ◌+◌, ◌<◌, List, ap, ◌∙◌, arith}
use Rattle.fields.specs.Versions.{records_per_sector}
use Rattle.sector_store.specs.Sectors.{start, sectored, sector_beside, filled}
use Rattle.sector_store.proofs.Changed.{next_fits, sector_grown, beside_grown}
use Rattle.sector_store.proofs.store.SectorStoreRecordStore.grow.Goals as goal

pub fill_with_freed-requires : goal.fill_with_freed-requires
fill_with_freed-requires c =
    let s = c.args.self.now in
    let lt : s.used < s.room = omega (arith, c.growths_left.ensures, c.if-growths_left-eq0.false) in
    rw (c.start-at.ensures, c.dir_entries_per_sector-count.ensures) (next_fits s.version _ _ s.used s.room s.laid lt)

pub returns : goal.returns
returns c =
    let s = c.args.self.now in
    let lt : s.used < s.room = omega (arith, c.growths_left.ensures, c.if-growths_left-eq0.false) in
    let e : c.fill_with_freed.new.bytes ≡ filled s.bytes.now (start s.version s.sectors.now s.used) (records_per_sector s.version)
    = c.fill_with_freed.ensures ∙ ap (λ (p : ℕ). filled s.bytes.now p c.dir_entries_per_sector-count.result) c.start-at.ensures
    ∙ ap (filled s.bytes.now (start s.version s.sectors.now s.used)) c.dir_entries_per_sector-count.ensures in
    record {
      beside = ap (λ (ys : List ℕ). sector_beside s.bytes.ghost_name s.version ys s.sectors.now) e
          ∙ beside_grown s.bytes.ghost_name s.version s.bytes.now s.sectors.now s.used s.room s.laid lt;
      answer = (
        omega (arith, lt),
        ap (λ (ys : List ℕ). sectored s.version ys s.sectors.now (s.used + 1) s.room) e
            ∙ sector_grown s.version s.bytes.now s.sectors.now s.used s.room s.laid lt,
      );
    }
