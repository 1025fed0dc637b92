use Rattle.cells.specs.Maps.{SameCells, lookup}
use Rattle.cells.proofs.Marking.{Marking}
use Rattle.cells.proofs.repeat.first_repeat.Given as goal

abbrev pub invariant-loop-place : goal.invariant-loop-place
invariant-loop-place l = SameCells l.initial.table.cells l.table.cells × Marking l.numbers (lookup l.table) l.table.count l.place
