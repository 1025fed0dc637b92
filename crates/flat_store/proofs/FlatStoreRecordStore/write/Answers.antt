use Rattle.std.proofs.Common.{◌≡◌, ◌+◌, ◌≤◌, List, length, ap, ◌∙◌, ℕ, sym, arith}
use lib.Seq.{paste}
use Rattle.std.proofs.lemmas.Result.{err_from_is_err_and}
use Rattle.stores.specs.declared.fault.Layer.TheVariants.{Flat}
use Rattle.stores.proofs.NotThere.{not_there}
use Rattle.flat_store.specs.Flat.{place, room, flat, flat_beside}
use Rattle.flat_store.specs.Wholes.{room_fits}
use Rattle.flat_store.proofs.EndToEnd.{length-flat, flat-written, flat_beside_written}
use Rattle.flat_store.proofs.FlatStoreRecordStore.write.Goals as goal

pub returns-in_err-within-clause-answer : goal.returns-in_err-within-clause-answer
returns-in_err-within-clause-answer c =
    let s = c.args.self.now in
    let p = err_from_is_err_and c.from_residual.result c.from_residual.ensures.1 in
    rw (p.1, p.2) (not_there Flat (λ _. ⊥) (flat s.version s.bytes.now s.count) c.args.number c.args.offset (length c.args.bytes.now) s.count _
    (sym (length-flat s.version s.bytes.now s.count)) c.in_err-within.ensures)

pub returns : goal.returns
returns c =
    let s = c.args.self.now in
    let bs = s.bytes.now in
    let xs = c.args.bytes.now in
    let there = c.in_ok-within.ensures in
    let ins : place c.args.number + c.args.offset + length xs ≤ place (room bs) = omega (arith, there.0, there.1, s.fits) in
    let e : c.copy_in.new.bytes ≡ paste bs (place c.args.number + c.args.offset) xs (length xs) = c.copy_in.ensures.copied (omega (arith, room_fits bs)) in
    record {
      beside = ap (flat_beside s.bytes.ghost_name) e ∙ flat_beside_written s.bytes.ghost_name bs xs (place c.args.number + c.args.offset) ins;
      answer = (
        (rw (length-flat s.version bs s.count) there.0, there.1),
        ap (λ (b : List ℕ). flat s.version b s.count) e ∙ flat-written s.version bs xs s.count c.args.number c.args.offset s.fits there.0 there.1,
      );
    }
