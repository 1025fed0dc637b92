-- What the format asks of a record and of an entry, as a relation between the two.
--
--   IsRecord bs        bs are 128 bytes
--   Sized e            each field of an entry fits its place in a record
--   Allowed v e        what the format asks of an entry, as far as a record is refused for it: of any name, of the
--                      root's, of links, of streams, of storages, and that version 3 has room for its length
--   Nameable us        units that may be the name of a storage or a stream
--   Fit v e            an entry that fits a record and is allowed
--   Stands bs v e      an entry stands in a record: each field at its offset, as it is
--   title_in bs        the units of a record's name, the root's given
--   zero_if b n xs     n zeros where b holds, else xs
--   length_bytes v bs  the eight bytes of what counts of a length
--   canonical bs v     the bytes of a record put in order: nothing after the name, zeros where the type has no such field
use Rattle.std.specs.Prelude.{◌≡◌, ℕ, ◌+◌, ◌*◌, ◌%◌, ◌^◌, ◌<◌, ◌≤◌, Bool, true, false, cond, List, [], ◌∷◌, ◌++◌, length, replicate, slice_index}
use Rattle.names.specs.Names.{allowed}
use Rattle.names.specs.Units.{well_formed}
use Rattle.fields.specs.declared.version.Version.{Version}
use Rattle.fields.specs.declared.version.Version.TheVariants.{V3, V4}
use Rattle.records.specs.declared.direntry.DirEntry.{DirEntry}
use Rattle.records.specs.Bytes.{part, byte_at, u32_at, u64_at, bytes_of}
use Rattle.fields.specs.Kinds.{type_byte, color_byte, is_storage, is_stream, is_root}
use Rattle.fields.specs.Versions.{cut}
use Rattle.records.specs.Fields.{name_length, name_in, end_in, kind_in}
use Rattle.records.specs.Rules.{root_units, nil, nowhere, stray}
use Rattle.records.specs.Writing.{name_bytes}

abbrev pub IsRecord : List ℕ → Type 0
IsRecord bs = (length bs ≡ 128) × ((i : ℕ) → slice_index bs i < 256)

pub record Sized (e : DirEntry) : Type 0 where
  pub few : length e.name ≤ 31
  pub units : (i : ℕ) → slice_index e.name i < 2 ^ 16
  pub left : e.left_sibling < 2 ^ 32
  pub right : e.right_sibling < 2 ^ 32
  pub child : e.child < 2 ^ 32
  pub clsid : length e.clsid ≡ 16
  pub octets : (i : ℕ) → slice_index e.clsid i < 2 ^ 8
  pub state : e.state_bits < 2 ^ 32
  pub creation : e.creation_time.0 < 2 ^ 64
  pub modified : e.modified_time.0 < 2 ^ 64
  pub start : e.start_sector < 2 ^ 32
  pub length : e.stream_len < 2 ^ 64

pub record Allowed (v : Version) (e : DirEntry) : Type 0 where
  -- every name
  pub utf16 : well_formed e.name ≡ true
  -- the root's name, and any other
  pub root : is_root e.obj_type ≡ true → e.name ≡ root_units
  pub other : is_root e.obj_type ≡ false → allowed e.name ≡ true
  -- links
  pub left : stray e.left_sibling ≡ false
  pub right : stray e.right_sibling ≡ false
  pub child : stray e.child ≡ false
  -- a stream has no child, no CLSID and no times
  pub childless : is_stream e.obj_type ≡ true → e.child ≡ nowhere
  pub classless : is_stream e.obj_type ≡ true → e.clsid ≡ nil
  pub uncreated : is_stream e.obj_type ≡ true → e.creation_time.0 ≡ 0
  pub unmodified : is_stream e.obj_type ≡ true → e.modified_time.0 ≡ 0
  -- a storage has no start sector and no length
  pub startless : is_storage e.obj_type ≡ true → e.start_sector ≡ 0
  pub lengthless : is_storage e.obj_type ≡ true → e.stream_len ≡ 0
  -- version 3 has 32 bits of a length
  pub room : cut v e.stream_len ≡ e.stream_len

pub record Nameable (us : List ℕ) : Type 0 where
  pub few : length us ≤ 31
  pub units : (i : ℕ) → slice_index us i < 2 ^ 16
  pub utf16 : well_formed us ≡ true
  pub allowed : allowed us ≡ true

abbrev pub Fit : Version → DirEntry → Type 0
Fit v e = Sized e × Allowed v e

pub record Stands (bs : List ℕ) (v : Version) (e : DirEntry) : Type 0 where
  -- the name length counts bytes of units
  pub short : name_length bs ≤ 64
  pub even : name_length bs % 2 ≡ 0
  -- the name stands before a null
  pub name : e.name ≡ name_in bs
  pub ended : end_in bs ≡ 0
  pub kind : byte_at bs 66 ≡ type_byte e.obj_type
  pub color : byte_at bs 67 ≡ color_byte e.color
  pub left : u32_at bs 68 ≡ e.left_sibling
  pub right : u32_at bs 72 ≡ e.right_sibling
  pub child : u32_at bs 76 ≡ e.child
  pub clsid : part 80 16 bs ≡ e.clsid
  pub state : u32_at bs 96 ≡ e.state_bits
  pub creation : u64_at bs 100 ≡ e.creation_time.0
  pub modified : u64_at bs 108 ≡ e.modified_time.0
  pub start : u32_at bs 116 ≡ e.start_sector
  pub length : cut v (u64_at bs 120) ≡ e.stream_len

abbrev pub title_in : List ℕ → List ℕ
title_in bs = cond (is_root (kind_in bs)) root_units (name_in bs)

abbrev pub zero_if : Bool → ℕ → List ℕ → List ℕ
zero_if b n xs = cond b (replicate n 0) xs

abbrev pub length_bytes : Version → List ℕ → List ℕ
length_bytes V3 bs = part 120 4 bs ++ replicate 4 0
length_bytes V4 bs = part 120 8 bs

abbrev pub canonical : List ℕ → Version → List ℕ
canonical bs v =
    name_bytes (title_in bs)
    ++ ((bytes_of 2 (2 * (length (title_in bs) + 1)) ++ (byte_at bs 66 ∷ byte_at bs 67 ∷ []))
    ++ ((part 68 4 bs ++ (part 72 4 bs ++ part 76 4 bs))
    ++ ((zero_if (is_stream (kind_in bs)) 16 (part 80 16 bs) ++ (part 96 4 bs
    ++ (zero_if (is_stream (kind_in bs)) 8 (part 100 8 bs) ++ zero_if (is_stream (kind_in bs)) 8 (part 108 8 bs))))
    ++ (zero_if (is_storage (kind_in bs)) 4 (part 116 4 bs) ++ zero_if (is_storage (kind_in bs)) 8 (length_bytes v bs)))))
