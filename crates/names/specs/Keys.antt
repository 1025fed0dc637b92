-- A name's key: how names are told apart.
--
--   Key             a unit count and a list of folded code points
--   key_of fold us  the key of the name us under a folding
--   keyed k         the key that a `NameKey` holds in place
--   in_place k      the `NameKey` of a key: its codes, then zeros up to 31
--   same_key j k    whether two `NameKey`s hold the same key
use Rattle.std.specs.Prelude.{ℕ, Bool, ◌&&◌, List, map, length, take, ◌==◌}
use Rattle.std.specs.Str.{bytes_eq}
use Rattle.names.specs.declared.key.NameKey.{NameKey}
use Rattle.names.specs.Padding.{padded}
use Rattle.names.specs.Units.{codes}

pub record Key : Type 0 where
  pub units : ℕ
  pub folded : List ℕ

abbrev pub key_of : (ℕ → ℕ) → List ℕ → Key
key_of fold us = record { units = length us; folded = map fold (codes us) }

abbrev pub keyed : NameKey → Key
keyed k = record { units = k.unit_count; folded = take k.code_count k.codes }

abbrev pub in_place : Key → NameKey
in_place k = record { unit_count = k.units; code_count = length k.folded; codes = padded 31 k.folded }

abbrev pub same_key : NameKey → NameKey → Bool
same_key j k = ((keyed j).units == (keyed k).units) && bytes_eq (keyed j).folded (keyed k).folded
