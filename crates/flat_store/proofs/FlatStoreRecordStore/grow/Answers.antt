use Rattle.std.proofs.Common.{◌≡◌, ℕ, ◌+◌, ◌<◌, List, length, ap, ◌∙◌, arith}
use lib.Seq.{paste}
use Rattle.stores.specs.Meaning.{freed}
use Rattle.stores.proofs.Freed.{length-freed}
use Rattle.flat_store.specs.Flat.{place, room, flat, flat_beside}
use Rattle.flat_store.specs.Wholes.{room_fits}
use Rattle.flat_store.proofs.EndToEnd.{flat_grown, flat_beside_written}
use Rattle.flat_store.proofs.FlatStoreRecordStore.grow.Goals as goal

pub returns : goal.returns
returns c =
    let s = c.args.self.now in
    let bs = s.bytes.now in
    let lt : s.count < room bs = omega (arith, c.growths_left.ensures, c.if-growths_left-eq0.false) in
    let e0 : length c.freed_record.result ≡ 128 = ap length c.freed_record.ensures ∙ length-freed in
    let e1 : c.copy_in.new.bytes ≡ paste bs (place s.count) c.freed_record.result (length c.freed_record.result) = c.copy_in.ensures.copied (omega (arith, room_fits bs, e0)) in
    let e : c.copy_in.new.bytes ≡ paste bs (place s.count) freed (length freed) = e1 ∙ ap (λ (r : List ℕ). paste bs (place s.count) r (length r)) c.freed_record.ensures in
    record {
      beside = ap (flat_beside s.bytes.ghost_name) e ∙ flat_beside_written s.bytes.ghost_name bs freed (place s.count) (omega (arith, length-freed));
      answer = (omega arith, ap (λ (b : List ℕ). flat s.version b (s.count + 1)) e ∙ flat_grown s.version bs s.count lt);
    }
