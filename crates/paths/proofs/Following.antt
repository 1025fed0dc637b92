-- A path followed piece by piece: what the whole path does is what its rest does from the names met so far on.
use Rattle.std.proofs.Common.{◌≡◌, ℕ, zero, suc, ◌+◌, ◌-◌, ◌<◌, ◌≤◌, max, Bool, true, false, cond, ltb, List, [], ◌∷◌, ◌++◌, map, length, take, set, Some, None, sym, refl, ap, ◌∙◌, subst, ap₂, append_assoc, arith}
use Rattle.std.proofs.lemmas.List.{length_push, length-set, length-take-le, take-take, take_all, take-append-le, take-map, take_more_set, map_push, append-nil}
use Rattle.std.specs.Prelude.{All}
use Rattle.std.proofs.lemmas.List.Elements.{All-take, All-push}
use Rattle.std.proofs.lemmas.Bool.{lt-ltb, le-ltb}
use Rattle.paths.specs.declared.Component.{Component}
use Rattle.paths.specs.declared.Component.TheVariants.{CurDir, ParentDir, Normal}
use Rattle.paths.specs.declared.PathError.TheVariants.{TooManyNames}
use Rattle.paths.specs.declared.Part.{Part}
use Rattle.paths.specs.declared.trail.Trail.{Trail}
use Rattle.paths.specs.Pieces.{Piece, nothing, parent, kind_of, climb, enter_at, enter, walk, deepest, cut, resolved, path_refusal}
use Rattle.names.specs.Units.{well_formed}
use Rattle.paths.specs.Chains.{piece_of, Stands}
use Rattle.paths.specs.Trails.{entered, shortened, Onward}

-- what a kind says of a piece
kind : Bool → Bool → Component
kind a b = cond a CurDir (cond b ParentDir Normal)

kinds_parent : (a b : Bool) → ParentDir ≡ kind a b → (a ≡ false) × (b ≡ true)
unfolding kind
kinds_parent true b e = (cc, cc)
kinds_parent false true e = (refl, refl)
kinds_parent false false e = (refl, cc)

kinds_name : (a b : Bool) → Normal ≡ kind a b → (a ≡ false) × (b ≡ false)
unfolding kind
kinds_name true b e = (cc, cc)
kinds_name false true e = (refl, cc)
kinds_name false false e = (refl, refl)

-- from d names on there are at least d names at some moment
pub deepest_least : (d : ℕ) (ps : List Piece) → d ≤ deepest d ps
deepest_least d [] = omega arith
deepest_least d (p ∷ ps) = omega arith

enter_ups : (u : ℕ) (p : Piece) (ns : List Piece) → (enter_at u p ns).ups ≡ u - 1
enter_ups zero p ns = refl
enter_ups (suc k) p ns = omega arith

-- `..`, and a name, before what is left
walk_up : (p : Piece) (ps : List Piece) → ParentDir ≡ kind_of p.units → walk (p ∷ ps) ≡ climb (walk ps)
unfolding kind
walk_up p ps k = let b = kinds_parent (nothing p.units) (parent p.units) k in rw b.0 (rw b.1 refl)

walk_down : (p : Piece) (ps : List Piece) → Normal ≡ kind_of p.units → walk (p ∷ ps) ≡ enter p (walk ps)
unfolding kind
walk_down p ps k = let b = kinds_name (nothing p.units) (parent p.units) k in rw b.0 (rw b.1 refl)

deepest_up : (d : ℕ) (p : Piece) (ps : List Piece) → ParentDir ≡ kind_of p.units → deepest d (p ∷ ps) ≡ max d (deepest (d - 1) ps)
unfolding kind
deepest_up d p ps k = let b = kinds_parent (nothing p.units) (parent p.units) k in rw b.0 (rw b.1 refl)

deepest_down : (d : ℕ) (p : Piece) (ps : List Piece) → Normal ≡ kind_of p.units → deepest d (p ∷ ps) ≡ max d (deepest (d + 1) ps)
unfolding kind
deepest_down d p ps k = let b = kinds_name (nothing p.units) (parent p.units) k in rw b.0 (rw b.1 refl)

-- the names that a list of names and what is left after one more name leave
enter_names : (n u : ℕ) (stack : List Piece) (p : Piece) (ns : List Piece) → length stack ≡ n → u ≤ n + 1 → take (n - (enter_at u p ns).ups) stack ++ (enter_at u p ns).names ≡ take (n + 1 - u) (stack ++ p ∷ []) ++ ns
enter_names n zero stack p ns l h =
    let m = length_push stack p in
    rw (take_all (n - 0) stack (omega arith)) (rw (take_all (n + 1 - 0) (stack ++ p ∷ []) (omega arith)) (sym (append_assoc stack (p ∷ []) ns)))
enter_names n (suc k) stack p ns l h =
    let e : n + 1 - suc k ≡ n - k = omega arith in
    rw e (ap (λ s. s ++ ns) (sym (take-append-le (n - k) stack (p ∷ []) (omega arith))))

module _ (us : List ℕ) (all : List Piece) (p : Piece) (rest : List Piece) (t : Trail) (o : Onward us all (p ∷ rest) t) where
  -- each name stands where it says
  abbrev Lent : List Part → Type 0
  Lent ps = All (λ q. Stands q us) ps

  -- `..` after a name
  pub onward_up : ParentDir ≡ kind_of p.units → 0 < t.len → Onward us all rest (shortened t)
  onward_up k l =
      let c = o.counted in
      let r = o.room in
      let w = walk_up p rest k in
      let ups : (walk all).ups ≡ (walk rest).ups + 1 - t.len = o.ups ∙ ap (λ v. v.ups - t.len) w in
      let names : (walk rest).ups ≤ t.len - 1 → (walk all).names ≡ take (t.len - 1 - (walk rest).ups) (take (t.len - 1) o.stack) ++ (walk rest).names =
      λ h.
      let e : t.len - 1 - (walk rest).ups ≡ t.len - ((walk rest).ups + 1) = omega arith in
      let f : (walk (p ∷ rest)).ups ≤ t.len = rw w (omega arith) in
      o.names f ∙ ap (λ v. take (t.len - v.ups) o.stack ++ v.names) w
      ∙ ap (λ s. s ++ (walk rest).names) (ap (λ n. take n o.stack) (sym e) ∙ sym (take-take (t.len - 1 - (walk rest).ups) (t.len - 1) o.stack (omega arith)))
      in
      let fewer : take (t.len - 1) (take t.len t.names) ≡ take (t.len - 1) t.names = take-take (t.len - 1) t.len t.names (omega arith) in
      record {
        stack = take (t.len - 1) o.stack;
        counted = length-take-le (t.len - 1) o.stack (omega arith);
        room = omega arith;
        ups = omega arith;
        names = names;
        long = o.long;
        within = let n = o.within in omega arith;
        deep = let n = o.within in let d = o.deep in let e = deepest_up t.len p rest k in omega arith;
        held = λ v. let b = o.held v in record {
          pieces = ap (map piece_of) (sym fewer) ∙ sym (take-map piece_of (t.len - 1) (take t.len t.names)) ∙ ap (take (t.len - 1)) b.pieces;
          lent = subst Lent fewer (All-take (λ q. Stands q us) (t.len - 1) (take t.len t.names) b.lent);
        };
      }

  down_ups : Normal ≡ kind_of p.units → (walk all).ups ≡ (walk rest).ups - (t.len + 1)
  down_ups k = let u : (walk all).ups ≡ (enter_at (walk rest).ups p (walk rest).names).ups - t.len = o.ups ∙ ap (λ v. v.ups - t.len) (walk_down p rest k) in let v = enter_ups (walk rest).ups p (walk rest).names in omega arith

  down_names : Normal ≡ kind_of p.units → (walk rest).ups ≤ t.len + 1 → (walk all).names ≡ take (t.len + 1 - (walk rest).ups) (o.stack ++ p ∷ []) ++ (walk rest).names
  down_names k l =
      let w = walk_down p rest k in
      let v = enter_ups (walk rest).ups p (walk rest).names in
      let f : (walk (p ∷ rest)).ups ≤ t.len = rw w (omega arith) in
      o.names f ∙ ap (λ v. take (t.len - v.ups) o.stack ++ v.names) w ∙ enter_names t.len (walk rest).ups o.stack p (walk rest).names o.counted l

  -- a name
  pub onward_down : (q : Part) → Normal ≡ kind_of p.units → piece_of q ≡ p → Stands q us → Onward us all rest (entered t q)
  onward_down q k e s =
      let c = o.counted in
      let r = o.room in
      record {
        stack = o.stack ++ p ∷ [];
        counted = length_push o.stack p ∙ ap (λ n. n + 1) c;
        room = omega arith;
        ups = down_ups k;
        names = down_names k;
        long = still_long (ltb t.len 64);
        within = omega arith;
        deep = let n = o.within in let d = o.deep in let f = deepest_down t.len p rest k in let m = deepest_least (t.len + 1) rest in omega arith;
        held = λ v.
            let long = o.long in
            let b = o.held (omega arith) in
            let more : take (t.len + 1) (cond (ltb t.len 64) (set t.names t.len q) t.names) ≡ take t.len t.names ++ q ∷ [] =
            rw (lt-ltb t.len 64 (omega arith)) (take_more_set t.names t.len q (omega arith))
            in
            record {
              pieces = ap (map piece_of) more ∙ map_push piece_of (take t.len t.names) q ∙ ap₂ (λ ns n. ns ++ n ∷ []) b.pieces e;
              lent = subst Lent (sym more) (All-push (λ x. Stands x us) (take t.len t.names) q b.lent s);
            };
      }
    where
      still_long : (b : Bool) → length (cond b (set t.names t.len q) t.names) ≡ 64
      still_long true = length-set t.names t.len q ∙ o.long
      still_long false = o.long

-- the pieces that are left, once the first of them was read
pub onward_read : (us : List ℕ) (all ps : List Piece) (p : Piece) (rest : List Piece) (t : Trail) → ps ≡ p ∷ rest → Onward us all ps t → Onward us all (p ∷ rest) t
onward_read us all ps p rest t e o = subst (λ qs. Onward us all qs t) e o

-- at the end of a path that never held too many names
pub followed : (us : List ℕ) (t : Trail) → Onward us (cut 0 us) [] t → t.most ≤ 64 → well_formed us ≡ true → (path_refusal us ≡ None) × (map piece_of (take t.len t.names) ≡ resolved us)
followed us t o v w =
    let n = o.within in
    let u : (walk (cut 0 us)).ups ≡ 0 = omega (arith, o.ups) in
    let d : deepest 0 (cut 0 us) ≤ 64 = omega (arith, o.deep) in (
      rw w (rw u (rw (le-ltb 64 (deepest 0 (cut 0 us)) d) refl)),
      (o.held v).pieces ∙ sym (o.names (omega arith) ∙ append-nil _ ∙ take_all (t.len - 0) o.stack (omega (arith, o.counted))),
    )

-- at the end of one that did
pub followed_over : (us : List ℕ) (t : Trail) → Onward us (cut 0 us) [] t → 64 < t.most → well_formed us ≡ true → path_refusal us ≡ Some TooManyNames
followed_over us t o v w =
    let n = o.within in
    let u : (walk (cut 0 us)).ups ≡ 0 = omega (arith, o.ups) in
    let d : 64 < deepest 0 (cut 0 us) = omega (arith, o.deep) in rw w (rw u (rw (lt-ltb 64 (deepest 0 (cut 0 us)) d) refl))
