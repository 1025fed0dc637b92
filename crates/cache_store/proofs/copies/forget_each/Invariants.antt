use Rattle.std.proofs.Common.{◌≡◌, ◌++◌, map, take, drop}
use Rattle.cache_store.specs.Copies.{forgotten}
use Rattle.cache_store.proofs.copies.forget_each.Given as goal

abbrev pub invariant-loop-copied : goal.invariant-loop-copied
invariant-loop-copied l =
    l.copies ≡ map (forgotten l.count) (take l.copied-index l.initial.copies) ++ drop l.copied-index l.initial.copies
