use Rattle.std.proofs.Common.{◌*◌, ◌<◌, sym, ap, ◌∙◌, arith}
use Rattle.fields.specs.Versions.{records_per_sector}
use Rattle.stores.specs.Places.{record_at}
use Rattle.sector_store.specs.Wholes.{length-sectored}
use Rattle.sector_store.proofs.Changed.{get_or-sectored, place_fits, index_listed}
use Rattle.sector_store.proofs.store.SectorStoreRecordStore.read.Goals as goal

pub place-at-requires : goal.place-at-requires
place-at-requires c =
    let s = c.args.self.now in
    let lt : c.args.number < s.used * records_per_sector s.version
    = omega (arith, simp c.all_of.ensures at c.in_ok-within.ensures.0, c.record_count.ensures, length-sectored s.version s.bytes.now s.sectors.now s.used s.room) in
    index_listed s.version _ _ s.used s.room c.args.number s.laid lt

pub copy_record-requires : goal.copy_record-requires
copy_record-requires c =
    let s = c.args.self.now in
    let lt : c.args.number < s.used * records_per_sector s.version
    = omega (arith, simp c.all_of.ensures at c.in_ok-within.ensures.0, c.record_count.ensures, length-sectored s.version s.bytes.now s.sectors.now s.used s.room) in
    omega (arith, c.place-at.ensures, place_fits s.version _ _ s.used s.room c.args.number s.laid lt)

pub returns-clause-answer : goal.returns-clause-answer
returns-clause-answer c =
    let s = c.args.self.now in
    let l = length-sectored s.version s.bytes.now s.sectors.now s.used s.room in
    let lt : c.args.number < s.used * records_per_sector s.version
    = omega (arith, simp c.all_of.ensures at c.in_ok-within.ensures.0, c.record_count.ensures, l) in
    record {
      there = omega (arith, lt, l);
      is = c.copy_record.ensures ∙ ap (record_at s.bytes.now) c.place-at.ensures
          ∙ sym (get_or-sectored s.version s.bytes.now s.sectors.now s.used s.room c.args.number lt);
    }
