use Rattle.std.proofs.Common.{◌≡◌, ℕ, ◌+◌, ◌*◌, ◌<◌, List, length, ap, ◌∙◌, arith}
use lib.Seq.{paste}
use Rattle.fields.specs.Versions.{records_per_sector}
use Rattle.sector_store.specs.Sectors.{place, sectored, sector_beside}
use Rattle.sector_store.specs.Wholes.{length-sectored}
use Rattle.sector_store.proofs.Changed.{place_fits, index_listed, sector_written, beside_written}
use Rattle.sector_store.proofs.store.SectorStoreRecordStore.write.Goals as goal

pub place-requires : goal.place-requires
place-requires c =
    let s = c.args.self.now in
    let lt : c.args.number < s.used * records_per_sector s.version
    = omega (arith, c.in_ok-within.ensures.0, c.record_count.ensures, length-sectored s.version s.bytes.now s.sectors.now s.used s.room) in
    index_listed s.version _ _ s.used s.room c.args.number s.laid lt

pub overflow_add-at : goal.overflow_add-at
overflow_add-at c =
    let s = c.args.self.now in
    let there = c.in_ok-within.ensures in
    let lt : c.args.number < s.used * records_per_sector s.version
    = omega (arith, there.0, c.record_count.ensures, length-sectored s.version s.bytes.now s.sectors.now s.used s.room) in
    omega (arith, there.1, c.place.ensures, place_fits s.version _ _ s.used s.room c.args.number s.laid lt)

pub returns : goal.returns
returns c =
    let s = c.args.self.now in
    let bs = s.bytes.now in
    let xs = c.args.bytes.now in
    let there = c.in_ok-within.ensures in
    let l = length-sectored s.version bs s.sectors.now s.used s.room in
    let lt : c.args.number < s.used * records_per_sector s.version = omega (arith, there.0, c.record_count.ensures, l) in
    let f = place_fits s.version _ _ s.used s.room c.args.number s.laid lt in
    let e : c.copy_in.new.bytes ≡ paste bs (place s.version s.sectors.now c.args.number + c.args.offset) xs (length xs)
    = c.copy_in.ensures.copied (omega (arith, there.1, c.place.ensures, f)) ∙ ap (λ (p : ℕ). paste bs (p + c.args.offset) xs (length xs)) c.place.ensures in
    record {
      beside = ap (λ (ys : List ℕ). sector_beside s.bytes.ghost_name s.version ys s.sectors.now) e
          ∙ beside_written s.bytes.ghost_name s.version bs s.sectors.now xs s.used s.room c.args.number c.args.offset s.laid lt there.1;
      answer = (
        (omega (arith, lt, l), there.1),
        ap (λ (ys : List ℕ). sectored s.version ys s.sectors.now s.used s.room) e
            ∙ sector_written s.version bs s.sectors.now xs s.used s.room c.args.number c.args.offset s.laid lt there.1,
      );
    }
