use Rattle.std.proofs.Common.{◌<◌, length, sym, ap, ◌∙◌, arith}
use Rattle.std.proofs.lemmas.Result.{err_from_is_err_and}
use Rattle.stores.specs.declared.fault.Layer.TheVariants.{Cache}
use Rattle.stores.proofs.NotThere.{not_given}
use Rattle.cache_store.specs.Copies.{laid}
use Rattle.cache_store.proofs.LaidOver.{lacking, found_first, get_or_hit, get_or_miss}
use Rattle.cache_store.proofs.ThroughCopies.{length-laid, not_given_through, kept_same}
use Rattle.cache_store.proofs.CacheStoreRecordStore.read.Goals as goal

pub returns-in_err-within-clause-answer : goal.returns-in_err-within-clause-answer
returns-in_err-within-clause-answer g c =
    let xs = c.args.self.now.copies.kept.items in
    let m = g.S.RecordStore.meaning c.args.self.now.inner in
    let p = err_from_is_err_and c.from_residual.result c.from_residual.ensures.1 in
    rw (p.1, p.2) (not_given Cache g.S.RecordStore.faults (laid xs m) c.args.number c.all_of.result c.record_count.result _
    c.all_of.ensures (c.record_count.ensures ∙ sym (length-laid xs m)) c.in_err-within.ensures)

pub returns-in-Some-clause-answer : goal.returns-in-Some-clause-answer
returns-in-Some-clause-answer g c =
    let xs = c.args.self.now.copies.kept.items in
    let m = g.S.RecordStore.meaning c.args.self.now.inner in
    let there : c.args.number < length m.records = omega (arith, simp c.all_of.ensures at c.in_ok-within.ensures.0, c.record_count.ensures) in
    record {
      there = omega (arith, length-laid xs m);
      is = c.copy_record.ensures ∙ sym (get_or_hit xs m.records c.args.number c.in-Some.place (found_first xs c.args.number c.in-Some.place (sym c.in-Some.ensures)) there);
    }

pub returns-in_err-read-clause-answer : goal.returns-in_err-read-clause-answer
returns-in_err-read-clause-answer g c =
    let m = g.S.RecordStore.meaning c.args.self.now.inner in
    let p = err_from_is_err_and c.from_residual-in_err-read.result c.from_residual-in_err-read.ensures.1 in
    let there : c.args.number < length m.records = omega (arith, simp c.all_of.ensures at c.in_ok-within.ensures.0, c.record_count.ensures) in
    rw (p.1, p.2) (not_given_through g.S.RecordStore.layer Cache g.S.RecordStore.faults c.args.self.now.copies.kept.items m c.args.number _ there c.in_err-read.ensures.answer)

pub returns-clause-kept : goal.returns-clause-kept
returns-clause-kept g c =
    let m = g.S.RecordStore.meaning c.args.self.now.inner in
    let b = c.in_ok-read.ensures in
    ap (laid c.keep.new.self.kept.items) b.kept ∙ kept_same c.args.self.now.copies.kept.items _ m c.args.number c.read.new.into b.answer.is c.keep.ensures

pub returns-clause-answer : goal.returns-clause-answer
returns-clause-answer g c =
    let xs = c.args.self.now.copies.kept.items in
    let m = g.S.RecordStore.meaning c.args.self.now.inner in
    let b = c.in_ok-read.ensures in
    record {
      there = omega (arith, b.answer.there, length-laid xs m);
      is = b.answer.is ∙ sym (get_or_miss xs m.records c.args.number (lacking xs c.args.number (sym c.in_default.ensures)));
    }
