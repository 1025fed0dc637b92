-- Parts of a path as its reader and a chain of names hold them.
--
--   no_piece     what stands where there is no piece
--   piece_of p   the piece that a `Part` is
--   Stands p us  a part is the piece of us at its place
--   left r       the pieces that a reader has yet to give
--   names_of c   the names of a chain, from the root down, as parts
--   chained c    the names of a chain, from the root down
use Rattle.std.specs.Prelude.{◌≡◌, ℕ, ◌+◌, ◌≤◌, cond, List, [], map, length, take, drop, nat_le}
use Rattle.paths.specs.declared.Part.{Part}
use Rattle.paths.specs.declared.Parts.{Parts}
use Rattle.paths.specs.declared.NameChain.{NameChain}
use Rattle.paths.specs.Pieces.{Piece, cut}

abbrev pub no_piece : Piece
no_piece = record { place = 0; units = [] }

abbrev pub piece_of : Part → Piece
piece_of p = record { place = p.place; units = p.units.now }

pub record Stands (p : Part) (us : List ℕ) : Type 0 where
  pub inside : p.place + length p.units.now ≤ length us
  pub units : p.units.now ≡ take (length p.units.now) (drop p.place us)

-- past the end of the units no piece is left; at the end there is one, which is empty
abbrev pub pieces_from : List ℕ → ℕ → List Piece
pieces_from us at = cond (nat_le at (length us)) (cut at (drop at us)) []

abbrev pub left : Parts → List Piece
left r = pieces_from r.path.now r.at

abbrev pub names_of : NameChain → List Part
names_of c = take c.len c.names

abbrev pub chained : NameChain → List Piece
chained c = map piece_of (names_of c)
