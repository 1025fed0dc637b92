use Rattle.std.proofs.Common.{◌≡◌, ℕ, List, length, Some, Ok, ap, ◌∙◌, arith, rules}
use lib.Seq.{paste}
use Rattle.records.specs.Bytes.{bytes_of}
use Rattle.sector_store.specs.Sectors.{count_place, sectored, sector_beside}
use Rattle.sector_store.proofs.Changed.{room_numbered, count_within, sector_posted, beside_posted}
use Rattle.sector_store.proofs.store.SectorStoreRecordStore.post.Goals as goal

pub returns-in-Ok-Some : goal.returns-in-Ok-Some
returns-in-Ok-Some c =
    let s = c.args.self.now in
    let bs = s.bytes.now in
    let p = c.in-Ok-Some.place in
    let hc : count_place s.version (length bs) ≡ Ok (Some p) = search rules in
    let b : c.to_le_bytes-count.result ≡ bytes_of 4 s.used = search rules in
    let lc : length c.to_le_bytes-count.result ≡ 4 = ap length b in
    let w = count_within s.version (length bs) p hc in
    let e : c.copy_in.new.bytes ≡ paste bs p c.to_le_bytes-count.result (length c.to_le_bytes-count.result) = c.copy_in.ensures.copied (omega (arith, lc, w.0, w.1)) in
    record {
      beside = ap (λ (ys : List ℕ). sector_beside s.bytes.ghost_name s.version ys s.sectors.now) e
          ∙ beside_posted s.bytes.ghost_name s.version bs s.sectors.now c.to_le_bytes-count.result p hc lc;
      answer = ap (λ (ys : List ℕ). sectored s.version ys s.sectors.now s.used s.room) e
          ∙ sector_posted s.version bs s.sectors.now c.to_le_bytes-count.result s.used s.room p s.laid hc
          (omega (arith, room_numbered s.version _ _ s.used s.room s.laid, s.laid.few)) b;
    }
