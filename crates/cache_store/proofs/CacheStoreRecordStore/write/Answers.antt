use Rattle.std.proofs.Common.{◌<◌, List, length, sym, ap, ◌∙◌, arith}
use Rattle.std.proofs.lemmas.Result.{err_from_is_err_and}
use Rattle.stores.specs.declared.fault.Layer.TheVariants.{Cache}
use Rattle.stores.specs.Answers.{Inside}
use Rattle.stores.proofs.NotThere.{not_there}
use Rattle.cache_store.specs.declared.copied.Copied.{Copied}
use Rattle.cache_store.specs.Copies.{laid, patched}
use Rattle.cache_store.proofs.LaidOver.{lacking, found_first}
use Rattle.cache_store.proofs.ThroughCopies.{length-laid, laid-patched, laid_through, not_written_through}
use Rattle.cache_store.proofs.CacheStoreRecordStore.write.Goals as goal

pub returns-in_err-within-clause-answer : goal.returns-in_err-within-clause-answer
returns-in_err-within-clause-answer g c =
    let xs = c.args.self.now.copies.kept.items in
    let m = g.S.RecordStore.meaning c.args.self.now.inner in
    let p = err_from_is_err_and c.from_residual.result c.from_residual.ensures.1 in
    rw (p.1, p.2) (not_there Cache g.S.RecordStore.faults (laid xs m) c.args.number c.args.offset (length c.args.bytes.now) c.record_count.result _
    (c.record_count.ensures ∙ sym (length-laid xs m)) c.in_err-within.ensures)

pub returns-in_err-write-clause-answer : goal.returns-in_err-write-clause-answer
returns-in_err-write-clause-answer g c =
    let s = c.args.self.now in
    let m = g.S.RecordStore.meaning s.inner in
    let p = err_from_is_err_and c.from_residual-in_err-write.result c.from_residual-in_err-write.ensures.1 in
    let there = c.in_ok-within.ensures in
    let inside : Inside m c.args.number c.args.offset (length c.args.bytes.now) = (omega (arith, there.0, c.record_count.ensures), there.1) in
    rw (p.1, p.2) (not_written_through g.S.RecordStore.layer Cache g.S.RecordStore.faults s.copies.kept.items m (g.S.RecordStore.meaning c.write.new.self)
    c.args.number c.args.offset (length c.args.bytes.now) _ s.copies.sized (g.met.S.RecordStore.whole s.inner) inside c.in_err-write.ensures.answer)

pub returns-in-Some-clause-answer : goal.returns-in-Some-clause-answer
returns-in-Some-clause-answer g c =
    let xs = c.args.self.now.copies.kept.items in
    let m = g.S.RecordStore.meaning c.args.self.now.inner in
    let there = c.in_ok-within.ensures in
    let lt : c.args.number < length m.records = omega (arith, there.0, c.record_count.ensures) in
    let f = found_first xs c.args.number c.in-Some.place (sym c.in-Some.ensures) in (
      (omega (arith, lt, length-laid xs m), there.1),
      ap (λ (ys : List Copied). laid ys (g.S.RecordStore.meaning c.write.new.self)) c.patch.ensures
          ∙ ap (laid (patched xs c.in-Some.place c.args.offset c.args.bytes.now)) c.in_ok-write.ensures.answer.1
          ∙ laid-patched xs m c.args.number c.in-Some.place c.args.offset c.args.bytes.now f lt,
    )

pub returns-in_default-clause-answer : goal.returns-in_default-clause-answer
returns-in_default-clause-answer g c =
    let xs = c.args.self.now.copies.kept.items in
    let m = g.S.RecordStore.meaning c.args.self.now.inner in
    let there = c.in_ok-within.ensures in
    let lt : c.args.number < length m.records = omega (arith, there.0, c.record_count.ensures) in (
      (omega (arith, lt, length-laid xs m), there.1),
      ap (laid xs) c.in_ok-write.ensures.answer.1
          ∙ laid_through xs m c.args.number c.args.offset c.args.bytes.now (lacking xs c.args.number (sym c.in_default.ensures)),
    )
