-- The fields of a record: 128 bytes, each field at its offset.
--
--   name_length bs  the name length in bytes: the name's units and the null after them, two bytes each
--   name_units bs   how many units the name has, before its null; a length of 0 stands for none too
--   name_in bs      the units of the name
--   end_in bs       the unit after the name
--   kind_in bs      the type that stands there; unallocated where the byte stands for none
--   color_in bs     the colour that stands there; red where the byte stands for none
--   link_in bs l    a link
--   clsid_in bs     the 16 bytes of the CLSID
--   state_in bs     the state bits
--   time_in bs t    a time
--   start_in bs     the start sector
--   length_in bs v  what counts of the stream's length
use Rattle.std.specs.Prelude.{ℕ, ◌-◌, ◌*◌, ◌/◌, cond, List, ◌==◌}
use Rattle.fields.specs.declared.objtype.ObjType.{ObjType}
use Rattle.fields.specs.declared.objtype.ObjType.TheVariants.{Unallocated, Storage, Stream, Root}
use Rattle.fields.specs.declared.color.Color.{Color}
use Rattle.fields.specs.declared.color.Color.TheVariants.{Red, Black}
use Rattle.fields.specs.declared.version.Version.{Version}
use Rattle.fields.specs.declared.link.Link.{Link}
use Rattle.fields.specs.declared.timestamp.Time.{Time}
use Rattle.records.specs.Bytes.{part, byte_at, u16_at, u32_at, u64_at, units_of}
use Rattle.fields.specs.Offsets.{link_offset, time_offset}
use Rattle.fields.specs.Versions.{cut}

abbrev pub name_length : List ℕ → ℕ
name_length bs = u16_at bs 64

abbrev pub name_units : List ℕ → ℕ
name_units bs = name_length bs / 2 - 1

abbrev pub name_in : List ℕ → List ℕ
name_in bs = units_of (part 0 (2 * name_units bs) bs)

abbrev pub end_in : List ℕ → ℕ
end_in bs = u16_at bs (2 * name_units bs)

abbrev pub kind_in : List ℕ → ObjType
kind_in bs = cond (byte_at bs 66 == 1) Storage (cond (byte_at bs 66 == 2) Stream (cond (byte_at bs 66 == 5) Root Unallocated))

abbrev pub color_in : List ℕ → Color
color_in bs = cond (byte_at bs 67 == 1) Black Red

abbrev pub link_in : List ℕ → Link → ℕ
link_in bs l = u32_at bs (link_offset l)

abbrev pub clsid_in : List ℕ → List ℕ
clsid_in bs = part 80 16 bs

abbrev pub state_in : List ℕ → ℕ
state_in bs = u32_at bs 96

abbrev pub time_in : List ℕ → Time → ℕ
time_in bs t = u64_at bs (time_offset t)

abbrev pub start_in : List ℕ → ℕ
start_in bs = u32_at bs 116

abbrev pub length_in : List ℕ → Version → ℕ
length_in bs v = cut v (u64_at bs 120)
