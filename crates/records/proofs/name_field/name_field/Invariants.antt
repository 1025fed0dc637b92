use Rattle.std.proofs.Common.{◌≡◌, ◌-◌, ◌*◌, take, drop, replicate}
use Rattle.records.specs.Bytes.{unit_bytes}
use Rattle.records.proofs.name_field.name_field.Given as goal

abbrev pub invariant-loop-i : goal.invariant-loop-i
invariant-loop-i l = (take (2 * l.i) l.field ≡ unit_bytes (take l.i l.unit-items)) × (drop (2 * l.i) l.field ≡ replicate (64 - 2 * l.i) 0)
