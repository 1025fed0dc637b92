-- The names of a well-formed path are well formed: a separator is no surrogate, so no pair is cut apart.
use Rattle.std.proofs.Common.{◌≡◌, ℕ, zero, suc, ◌+◌, Bool, true, false, cond, ◌&&◌, eqb, leb, List, [], ◌∷◌, arith}
use Rattle.std.proofs.lemmas.Bool.{and_parts, ne_eqb, leb-true}
use Rattle.std.specs.List.{AllByRecursion}
use Rattle.names.specs.Units.{high, low, surrogate, joined, well_formed, Spells, nothing, single, pair}
use Rattle.paths.specs.Pieces.{Piece, longer, cut, enter_at, walk, AllWellFormed}
use Rattle.paths.specs.Pieces.{nothing as dropped, parent}
use Rattle.names.proofs.Spelling.{spells_codes, spelled_well}

-- pieces that all spell something
abbrev AllSpelled : List Piece → Type 0
AllSpelled ps = AllByRecursion (λ p. (cs : List ℕ) × Spells p.units cs) ps

not_separator : (b : Bool) (u : ℕ) → (leb 0xd800 u && b) ≡ true → eqb u 47 ≡ false
not_separator b u h = let l = leb-true 0xd800 u (and_parts (leb 0xd800 u) b h).0 in ne_eqb u 47 (λ e. omega arith)

-- one unit, and a pair, before the first piece
longer_single : (at u : ℕ) (ps : List Piece) → surrogate u ≡ false → AllSpelled ps → AllSpelled (longer at u ps)
longer_single at u [] n a = tt
longer_single at u (p ∷ ps) n (s, a) = ((u ∷ s.0, single n s.1), a)

longer_pair : (at h l : ℕ) (ps : List Piece) → high h ≡ true → low l ≡ true → AllSpelled ps → AllSpelled (longer at h (longer (at + 1) l ps))
longer_pair at h l [] a b s = tt
longer_pair at h l (p ∷ ps) a b (s, r) = ((joined h l ∷ s.0, pair a b s.1), r)

spelled_pieces : (at : ℕ) {us cs : List ℕ} → Spells us cs → AllSpelled (cut at us)
spelled_pieces at nothing = (([], nothing), tt)
spelled_pieces at (single {u} {us} {cs} n s) = by_test (eqb u 47) (spelled_pieces (at + 1) s)
  where
    by_test : (b : Bool) → AllSpelled (cut (at + 1) us) → AllSpelled (cond b (record { place = at; units = [] } ∷ cut (at + 1) us) (longer at u (cut (at + 1) us)))
    by_test true a = (([], nothing), a)
    by_test false a = longer_single at u (cut (at + 1) us) n a
spelled_pieces at (pair {h} {l} {us} {cs} a b s) =
    rw (not_separator (leb h 0xdbff) h a) (rw (not_separator_low l b) (longer_pair at h l (cut (at + 1 + 1) us) a b (spelled_pieces (at + 1 + 1) s)))
  where
    not_separator_low : (u : ℕ) → low u ≡ true → eqb u 47 ≡ false
    not_separator_low u h = let m = leb-true 0xdc00 u (and_parts (leb 0xdc00 u) (leb u 0xdfff) h).0 in ne_eqb u 47 (λ e. omega arith)

-- the names that are left are among the pieces
spelled_names : (ps : List Piece) → AllSpelled ps → AllWellFormed (walk ps).names
spelled_names [] a = tt
spelled_names (p ∷ ps) (s, a) = by_kind (dropped p.units) (parent p.units) (spelled_names ps a)
  where
    entered : (u : ℕ) (ns : List Piece) → AllWellFormed ns → AllWellFormed (enter_at u p ns).names
    entered zero ns w = (spelled_well s.1, w)
    entered (suc k) ns w = w

    by_kind : (x y : Bool) → AllWellFormed (walk ps).names → AllWellFormed (cond x (walk ps) (cond y (record { ups = (walk ps).ups + 1; names = (walk ps).names }) (enter_at (walk ps).ups p (walk ps).names))).names
    by_kind true y w = w
    by_kind false true w = w
    by_kind false false w = entered (walk ps).ups (walk ps).names w

pub names_well_formed : (us : List ℕ) → well_formed us ≡ true → AllWellFormed (walk (cut 0 us)).names
names_well_formed us w = spelled_names (cut 0 us) (spelled_pieces 0 (spells_codes us w))
