-- The record of an entry: each of its 128 bytes.
--
--   name_bytes us  the name field: the name's units, then nulls up to 32 units
--   head_bytes e   name length in bytes, with the null; type; colour
--   link_bytes e   left, right, child
--   stamp_bytes e  CLSID, state bits, creation time, modified time
--   place_bytes e  start sector, length
--   written e      the whole record
use Rattle.std.specs.Prelude.{ℕ, ◌+◌, ◌*◌, List, [], ◌∷◌, ◌++◌, length}
use Rattle.names.specs.Padding.{padded}
use Rattle.records.specs.declared.direntry.DirEntry.{DirEntry}
use Rattle.records.specs.Bytes.{bytes_of, unit_bytes}
use Rattle.fields.specs.Kinds.{type_byte, color_byte}

abbrev pub name_bytes : List ℕ → List ℕ
name_bytes us = unit_bytes (padded 32 us)

abbrev pub head_bytes : DirEntry → List ℕ
head_bytes e = bytes_of 2 (2 * (length e.name + 1)) ++ (type_byte e.obj_type ∷ color_byte e.color ∷ [])

abbrev pub link_bytes : DirEntry → List ℕ
link_bytes e = bytes_of 4 e.left_sibling ++ (bytes_of 4 e.right_sibling ++ bytes_of 4 e.child)

abbrev pub stamp_bytes : DirEntry → List ℕ
stamp_bytes e = e.clsid ++ (bytes_of 4 e.state_bits ++ (bytes_of 8 e.creation_time.0 ++ bytes_of 8 e.modified_time.0))

abbrev pub place_bytes : DirEntry → List ℕ
place_bytes e = bytes_of 4 e.start_sector ++ bytes_of 8 e.stream_len

abbrev pub written : DirEntry → List ℕ
written e = name_bytes e.name ++ (head_bytes e ++ (link_bytes e ++ (stamp_bytes e ++ place_bytes e)))
