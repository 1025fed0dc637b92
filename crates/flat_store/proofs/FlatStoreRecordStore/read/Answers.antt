use Rattle.std.proofs.Common.{◌<◌, sym, ◌∙◌}
use Rattle.std.proofs.lemmas.Result.{err_from_is_err_and}
use Rattle.stores.specs.declared.fault.Layer.TheVariants.{Flat}
use Rattle.stores.proofs.NotThere.{not_given}
use Rattle.flat_store.specs.Flat.{flat}
use Rattle.flat_store.proofs.EndToEnd.{length-flat, get_or-flat}
use Rattle.flat_store.proofs.FlatStoreRecordStore.read.Goals as goal

pub returns-in_err-within-clause-answer : goal.returns-in_err-within-clause-answer
returns-in_err-within-clause-answer c =
    let s = c.args.self.now in
    let p = err_from_is_err_and c.from_residual.result c.from_residual.ensures.1 in
    rw (p.1, p.2) (not_given Flat (λ _. ⊥) (flat s.version s.bytes.now s.count) c.args.number c.all_of.result s.count _
    c.all_of.ensures (sym (length-flat s.version s.bytes.now s.count)) c.in_err-within.ensures)

pub returns-clause-answer : goal.returns-clause-answer
returns-clause-answer c =
    let s = c.args.self.now in
    let lt : c.args.number < s.count = simp c.all_of.ensures at c.in_ok-within.ensures.0 in
    record {
      there = rw (length-flat s.version s.bytes.now s.count) lt;
      is = c.copy_record.ensures ∙ sym (get_or-flat s.version s.bytes.now s.count c.args.number lt);
    }
