-- Recorded answers, and when the port gives them.
--
--   units_of ps      the units of the names of a path
--   recorded ns      the recorded names, or none, as lists of units
--   LeadsTo p a      the path p leads to the recorded names a, or, where a is none, is refused as above the root
--   Agrees fold c b  b tells whether the port answers the case c as it was recorded
--   one_more n       a count and one more, as far as a count goes
--   counted t c b    a tally with the case c counted, which agrees if b
use Rattle.std.specs.Prelude.{◌≡◌, ℕ, ◌+◌, Bool, cond, List, map, min, Some, None, Option, Decides}
use Rattle.std.specs.Global.{Vec}
use Rattle.names.specs.Keys.{key_of}
use Rattle.names.specs.Order.{compared}
use Rattle.paths.specs.Pieces.{Piece, resolved, path_refusal}
use Rattle.paths.specs.declared.PathError.TheVariants.{AboveRoot}
use Rattle.replay_names.specs.declared.case.Case.{Case}
use Rattle.replay_names.specs.declared.case.Case.TheVariants.{Compare, Key, Chain}
use Rattle.replay_names.specs.declared.tally.Tally.{Tally}

abbrev pub units_of : List Piece → List (List ℕ)
units_of ps = map (λ p. p.units) ps

abbrev pub LeadsTo : List ℕ → Option (List (List ℕ)) → Type 0
LeadsTo p None = path_refusal p ≡ Some AboveRoot
LeadsTo p (Some ns) = (path_refusal p ≡ None) × (units_of (resolved p) ≡ ns)

abbrev pub recorded : Option (Vec (Vec ℕ)) → Option (List (List ℕ))
recorded None = None
recorded (Some ns) = Some (map (λ n. n.items) ns.items)

abbrev pub Agrees : (ℕ → ℕ) → Case → Bool → Type 0
Agrees fold (Compare l r o) b = Decides b (compared fold l.items r.items ≡ o)
Agrees fold (Key l r s) b = (k : Bool) × Decides k (key_of fold l.items ≡ key_of fold r.items) × Decides b (k ≡ s)
Agrees fold (Chain p ns) b = Decides b (LeadsTo p.items (recorded ns))

abbrev pub one_more : ℕ → ℕ
one_more n = min (n + 1) 0xffff_ffff

abbrev pub counted : Tally → Case → Bool → Tally
counted t (Compare l r o) b = record { compared = one_more t.compared; keyed = t.keyed; chained = t.chained; differing = cond b t.differing (one_more t.differing) }
counted t (Key l r s) b = record { compared = t.compared; keyed = one_more t.keyed; chained = t.chained; differing = cond b t.differing (one_more t.differing) }
counted t (Chain p ns) b = record { compared = t.compared; keyed = t.keyed; chained = one_more t.chained; differing = cond b t.differing (one_more t.differing) }
