use Rattle.std.proofs.Common.{sym, refl, arith}
use Rattle.cells.specs.Maps.{lookup}
use Rattle.cells.proofs.Entries.{none_of}
use Rattle.cells.proofs.Tables.{insert_there, insert_new, no_value, size_held}
use Rattle.cells.proofs.Unwrapped.{unwrap}
use Rattle.cells.proofs.table.Table.insert.Goals as goal

pub replace-requires-clause-kept : goal.replace-requires-clause-kept
replace-requires-clause-kept g c = (unwrap c.args.self.now.sound).kept

pub invariant_of-self : goal.invariant_of-self
invariant_of-self g c =
    let sound = unwrap c.args.self.now.sound in
    record { sound = ∣ (insert_there g.met.K.Eq.laws sound _ _ c.in-Some.ensures _ _ c.replace.ensures.kept c.replace.ensures.held).0 ∣₁ }

pub returns-then-free-self-clause-answer : goal.returns-then-free-self-clause-answer
unfolding lookup
returns-then-free-self-clause-answer g c =
    let sound = unwrap c.args.self.now.sound in
    record { absent = sym (no_value g.met.K.Eq.laws sound _ c.in-None.ensures); full = c.if-free-self.true; stays = refl; counts = refl }

pub put-requires : goal.put-requires
put-requires g c =
    let sound = unwrap c.args.self.now.sound in
    let s = size_held g.met.K.Eq.laws sound in
    record { kept = sound.kept; inside = let l = c.if-free-self.false in omega arith; free = none_of _ (sound.dense.free _ (omega arith)) }

pub overflow_add-self : goal.overflow_add-self
overflow_add-self g c =
    let sound = unwrap c.args.self.now.sound in
    let s = size_held g.met.K.Eq.laws sound in let l = c.if-free-self.false in omega arith

pub invariant_of-self-in-None : goal.invariant_of-self-in-None
invariant_of-self-in-None g c =
    let sound = unwrap c.args.self.now.sound in
    let s = size_held g.met.K.Eq.laws sound in let l = c.if-free-self.false in
    record { sound = ∣ (insert_new g.met.K.Eq.laws sound _ c.in-None.ensures _ _ (omega arith) c.put.ensures.kept c.put.ensures.held).0 ∣₁ }

pub returns-in-Some-clause-answer : goal.returns-in-Some-clause-answer
unfolding lookup
returns-in-Some-clause-answer g c =
    let sound = unwrap c.args.self.now.sound in
    let d = insert_there g.met.K.Eq.laws sound _ _ c.in-Some.ensures _ _ c.replace.ensures.kept c.replace.ensures.held in
    record { puts = d.1; counts = d.2 }

pub returns-else-free-self-clause-answer : goal.returns-else-free-self-clause-answer
unfolding lookup
returns-else-free-self-clause-answer g c =
    let sound = unwrap c.args.self.now.sound in
    let s = size_held g.met.K.Eq.laws sound in let l = c.if-free-self.false in
    let d = insert_new g.met.K.Eq.laws sound _ c.in-None.ensures _ _ (omega arith) c.put.ensures.kept c.put.ensures.held in
    record { puts = d.1; counts = d.2 }
