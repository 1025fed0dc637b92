-- A path on the way: what is known of the names met so far.
--
--   entered t p           one name more: it is kept while there is room for 64
--   shortened t           one name less
--   Holds us stack t      the names of a trail are those in stack, each where it stands in us
--   Onward us all rest t  of the pieces `all` of a path, those before `rest` were followed: what the whole path does
--                         is what rest does from the names of the trail on
use Rattle.std.specs.Prelude.{◌≡◌, ℕ, ◌+◌, ◌-◌, ◌≤◌, max, cond, List, All, ◌++◌, map, length, take, nat_lt, slice_set}
use Rattle.paths.specs.declared.Part.{Part}
use Rattle.paths.specs.declared.trail.Trail.{Trail}
use Rattle.paths.specs.Pieces.{Piece, walk, deepest}
use Rattle.paths.specs.Chains.{piece_of, Stands}

abbrev pub entered : Trail → Part → Trail
entered t p = record {
  names = cond (nat_lt t.len 64) (slice_set t.names t.len p) t.names;
  len = t.len + 1;
  most = max t.most (t.len + 1);
}

abbrev pub shortened : Trail → Trail
shortened t = record { names = t.names; len = t.len - 1; most = t.most }

pub record Holds (us : List ℕ) (stack : List Piece) (t : Trail) : Type 0 where
  pub pieces : map piece_of (take t.len t.names) ≡ stack
  pub lent : All (λ p. Stands p us) (take t.len t.names)

pub record Onward (us : List ℕ) (all rest : List Piece) (t : Trail) : Type 0 where
  pub stack : List Piece
  pub counted : length stack ≡ t.len
  pub room : t.len + length rest ≤ length all
  pub ups : (walk all).ups ≡ (walk rest).ups - t.len
  pub names : (walk rest).ups ≤ t.len → (walk all).names ≡ take (t.len - (walk rest).ups) stack ++ (walk rest).names
  pub long : length t.names ≡ 64
  pub within : t.len ≤ t.most
  pub deep : max t.most (deepest t.len rest) ≡ deepest 0 all
  pub held : t.most ≤ 64 → Holds us stack t
