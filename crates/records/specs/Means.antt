-- What an accepted record means, field by field.
--
--   Means bs v e  the entry e is what the record bs means: each field of e stands in bs at its offset, but for what
--                 the type gives (a root's name) or takes away (a stream's CLSID and times, a storage's start and
--                 length), and version 3 has the low 32 bits of the length
use Rattle.std.specs.Prelude.{◌≡◌, ℕ, cond, List}
use Rattle.fields.specs.declared.version.Version.{Version}
use Rattle.records.specs.declared.direntry.DirEntry.{DirEntry}
use Rattle.records.specs.Bytes.{part, byte_at, u32_at, u64_at}
use Rattle.fields.specs.Kinds.{type_byte, color_byte, is_storage, is_stream, is_root}
use Rattle.fields.specs.Versions.{cut}
use Rattle.records.specs.Fields.{name_in}
use Rattle.records.specs.Rules.{root_units, nil}

pub record Means (bs : List ℕ) (v : Version) (e : DirEntry) : Type 0 where
  pub name : e.name ≡ cond (is_root e.obj_type) root_units (name_in bs)
  pub kind : type_byte e.obj_type ≡ byte_at bs 66
  pub color : color_byte e.color ≡ byte_at bs 67
  pub left : e.left_sibling ≡ u32_at bs 68
  pub right : e.right_sibling ≡ u32_at bs 72
  pub child : e.child ≡ u32_at bs 76
  pub clsid : e.clsid ≡ cond (is_stream e.obj_type) nil (part 80 16 bs)
  pub state : e.state_bits ≡ u32_at bs 96
  pub creation : e.creation_time.0 ≡ cond (is_stream e.obj_type) 0 (u64_at bs 100)
  pub modified : e.modified_time.0 ≡ cond (is_stream e.obj_type) 0 (u64_at bs 108)
  pub start : e.start_sector ≡ cond (is_storage e.obj_type) 0 (u32_at bs 116)
  pub length : e.stream_len ≡ cond (is_storage e.obj_type) 0 (cut v (u64_at bs 120))
