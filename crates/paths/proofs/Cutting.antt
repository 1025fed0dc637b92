-- The pieces of a path from one separator to the next.
use Rattle.std.proofs.Common.{◌≡◌, ℕ, suc, ◌+◌, ◌<◌, ◌≤◌, Bool, true, false, cond, not, eqb, ltb, leb, ◌⊎◌, List, [], ◌∷◌, length, take, drop, sym, refl, ap, ◌∙◌, ap₂, inl, inr, ⊎_elim, arith}
use Rattle.std.specs.Prelude.{Option}
use Rattle.std.specs.Option.{unwrap_or}
use Rattle.std.specs.List.{position, position_or_len}
use Rattle.std.proofs.lemmas.List.Sums.{prefix_len-le-length}
use Rattle.std.proofs.lemmas.List.{drop-drop, length-drop}
use Rattle.std.proofs.lemmas.Bool.{lt-ltb, le-ltb, le-leb, lt-leb, cases_lt}
use Rattle.paths.specs.Pieces.{Piece, cut, longer}
use Rattle.paths.specs.Chains.{pieces_from}

-- how many units stand before the first separator
abbrev pub until_separator : List ℕ → ℕ
until_separator us = position_or_len (λ u. eqb u 47) us

-- the place of the first separator, or the end of the units where there is none
pub place_or_end : (us : List ℕ) (r : Option ℕ) → r ≡ position (λ u. eqb u 47) us → unwrap_or r (length us) ≡ until_separator us
place_or_end us r e = ap (λ o. unwrap_or o (length us)) e ∙ by_order (cases_lt (until_separator us) (length us))
  where
    by_order : (until_separator us < length us) ⊎ (length us ≤ until_separator us) → unwrap_or (position (λ u. eqb u 47) us) (length us) ≡ until_separator us
    by_order (inl h) = rw (lt-ltb _ _ h) refl
    by_order (inr h) =
        let most = prefix_len-le-length (λ u. not (eqb u 47)) us in
        let all : length us ≡ until_separator us = omega arith in rw (le-ltb _ _ h) all

-- the first piece, and what is cut after it
abbrev rest : ℕ → List ℕ → ℕ → List Piece
rest at us n = cond (ltb n (length us)) (cut (at + n + 1) (drop (n + 1) us)) []

-- one unit more in front moves the place and not what is cut after it
rest_later : (at u : ℕ) (us : List ℕ) (n : ℕ) → rest (at + 1) us n ≡ rest at (u ∷ us) (suc n)
rest_later at u us n = ⊎_elim inside past (cases_lt n (length us))
  where
    inside : n < length us → rest (at + 1) us n ≡ rest at (u ∷ us) (suc n)
    inside h =
        let l : ltb (suc n) (length (u ∷ us)) ≡ true = lt-ltb _ _ (omega arith) in
        let e : at + suc n + 1 ≡ at + 1 + n + 1 = omega arith in
        let f : suc n + 1 ≡ suc (n + 1) = omega arith in rw (l, lt-ltb n (length us) h, e, f) refl

    past : length us ≤ n → rest (at + 1) us n ≡ rest at (u ∷ us) (suc n)
    past h =
        let l : ltb (suc n) (length (u ∷ us)) ≡ false = le-ltb _ _ (omega arith) in rw (l, le-ltb n (length us) h) refl

cut_front : (at : ℕ) (us : List ℕ) → cut at us ≡ record { place = at; units = take (until_separator us) us } ∷ rest at us (until_separator us)
cut_front at [] = refl
cut_front at (u ∷ us) = by_test (eqb u 47) (cut_front (at + 1) us)
  where
    by_test : (b : Bool) → cut (at + 1) us ≡ record { place = at + 1; units = take (until_separator us) us } ∷ rest (at + 1) us (until_separator us)
        → cond b (record { place = at; units = [] } ∷ cut (at + 1) us) (longer at u (cut (at + 1) us))
        ≡ record { place = at; units = take (cond (not b) (1 + until_separator us) 0) (u ∷ us) } ∷ rest at (u ∷ us) (cond (not b) (1 + until_separator us) 0)
    by_test true ih = let l : ltb 0 (length (u ∷ us)) ≡ true = lt-ltb _ _ (omega arith) in let e : at + 0 + 1 ≡ at + 1 = omega arith in rw (l, e) refl
    by_test false ih =
        let one : 1 + until_separator us ≡ suc (until_separator us) = omega arith in
        rw one (ap (longer at u) ih ∙ ap (λ ps. record { place = at; units = u ∷ take (until_separator us) us } ∷ ps) (rest_later at u us (until_separator us)))

-- the piece that begins at a place within the path, and those from the place after its end on
pub pieces_next : (us : List ℕ) (start n : ℕ) → start ≤ length us → n ≡ position_or_len (λ u. eqb u 47) (drop start us) → pieces_from us start ≡ record { place = start; units = take n (drop start us) } ∷ pieces_from us (start + n + 1)
pieces_next us start n h e =
    rw (le-leb start (length us) h) (cut_front start (drop start us) ∙ ap₂ (λ k ps. record { place = start; units = take k (drop start us) } ∷ ps) (sym e) (after (cases_lt (until_separator (drop start us)) (length (drop start us)))))
  where
    after : (until_separator (drop start us) < length (drop start us)) ⊎ (length (drop start us) ≤ until_separator (drop start us)) → rest start (drop start us) (until_separator (drop start us)) ≡ pieces_from us (start + n + 1)
    after (inl l) =
        let m = length-drop start us in
        let p : leb (start + n + 1) (length us) ≡ true = le-leb _ _ (omega arith) in
        let q : start + (until_separator (drop start us) + 1) ≡ start + n + 1 = omega arith in
        let s : start + until_separator (drop start us) + 1 ≡ start + n + 1 = omega arith in
        rw (lt-ltb _ _ l, p, s) (ap (cut (start + n + 1)) (drop-drop _ start us ∙ ap (λ k. drop k us) q))
    after (inr l) =
        let m = length-drop start us in
        let p : leb (start + n + 1) (length us) ≡ false = lt-leb _ _ (omega arith) in rw (le-ltb _ _ l, p) refl

-- a path has at most one piece more than units
pub few_pieces : (at : ℕ) (us : List ℕ) → length (cut at us) ≤ length us + 1
few_pieces at [] = omega arith
few_pieces at (u ∷ us) = by_test (eqb u 47) (few_pieces (at + 1) us)
  where
    same : (ps : List Piece) → length (longer at u ps) ≡ length ps
    same [] = refl
    same (p ∷ ps) = refl

    by_test : (b : Bool) → length (cut (at + 1) us) ≤ length us + 1 → length (cond b (record { place = at; units = [] } ∷ cut (at + 1) us) (longer at u (cut (at + 1) us))) ≤ length (u ∷ us) + 1
    by_test true h = omega arith
    by_test false h = rw same (omega arith)
