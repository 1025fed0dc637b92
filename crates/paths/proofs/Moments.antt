-- The most names that a path holds at any moment are those that some of its fronts leave.
use Rattle.std.proofs.Common.{◌≡◌, ℕ, zero, suc, ◌+◌, ◌-◌, ◌<◌, ◌≤◌, max, Bool, true, false, cond, ◌⊎◌, List, [], ◌∷◌, length, take, refl, ◌∙◌, inl, inr, arith}
use Rattle.std.proofs.lemmas.Bool.{cases_lt}
use Rattle.paths.specs.Pieces.{Piece, Walk, nothing, parent, climb, enter_at, enter, walk, deepest, Most}
use Rattle.paths.proofs.Following.{deepest_least}

-- how many names a walk leaves, from d names on
abbrev height : ℕ → Walk → ℕ
height d w = d - w.ups + length w.names

-- the names before what is left of a path, by the kind of its first piece
abbrev next : ℕ → Piece → ℕ
next d p = cond (nothing p.units) d (cond (parent p.units) (d - 1) (d + 1))

height-next : (d : ℕ) (p : Piece) (qs : List Piece) → height d (walk (p ∷ qs)) ≡ height (next d p) (walk qs)
height-next d p qs = by_kind (nothing p.units) (parent p.units)
  where
    entered : (u : ℕ) (ns : List Piece) → d - (enter_at u p ns).ups + length (enter_at u p ns).names ≡ d + 1 - u + length ns
    entered zero ns = omega arith
    entered (suc k) ns = omega arith

    by_kind : (a b : Bool) → height d (cond a (walk qs) (cond b (climb (walk qs)) (enter p (walk qs)))) ≡ height (cond a d (cond b (d - 1) (d + 1))) (walk qs)
    by_kind true b = refl
    by_kind false true = omega arith
    by_kind false false = entered (walk qs).ups (walk qs).names

deepest-next : (d : ℕ) (p : Piece) (ps : List Piece) → deepest d (p ∷ ps) ≡ max d (deepest (next d p) ps)
deepest-next d p ps = by_kind (nothing p.units) (parent p.units)
  where
    by_kind : (a b : Bool) → max d (cond a (deepest d ps) (cond b (deepest (d - 1) ps) (deepest (d + 1) ps))) ≡ max d (deepest (cond a d (cond b (d - 1) (d + 1))) ps)
    by_kind true b = refl
    by_kind false true = refl
    by_kind false false = refl

never_above : (d : ℕ) (ps : List Piece) (n : ℕ) → height d (walk (take n ps)) ≤ deepest d ps
never_above d ps zero = omega (arith, deepest_least d ps)
never_above d [] (suc n) = omega arith
never_above d (p ∷ ps) (suc n) =
    let e = height-next d p (take n ps) in
    let h = never_above (next d p) ps n in
    let m = deepest-next d p ps in
    omega arith

some_front : (d : ℕ) (ps : List Piece) → (n : ℕ) × (height d (walk (take n ps)) ≡ deepest d ps)
some_front d [] = (0, omega arith)
some_front d (p ∷ ps) = pick (some_front (next d p) ps) (cases_lt d (deepest (next d p) ps))
  where
    pick : (n : ℕ) × (height (next d p) (walk (take n ps)) ≡ deepest (next d p) ps) → (d < deepest (next d p) ps) ⊎ (deepest (next d p) ps ≤ d) → (n : ℕ) × (height d (walk (take n (p ∷ ps))) ≡ deepest d (p ∷ ps))
    pick (n, e) (inl h) = (suc n, height-next d p (take n ps) ∙ e ∙ (let m = deepest-next d p ps in omega arith))
    pick (n, e) (inr h) = (0, (let m = deepest-next d p ps in omega arith))

pub most_held : (ps : List Piece) → Most ps (deepest 0 ps)
most_held ps = record {
  never_more = λ n. let h = never_above 0 ps n in omega arith;
  reached = let f = some_front 0 ps in (f.0, (let e = f.1 in omega arith));
}
