-- Types and colours, and the bytes that stand for them.
--
--   type_byte k, type_of b          the byte of a type, and the type of a byte, if it has one
--   color_byte c, color_of b        the byte of a colour, and the colour of a byte, if it has one
--   is_storage, is_stream, is_root  whether a type is that one
use Rattle.std.specs.Prelude.{ℕ, Bool, true, false, cond, Some, None, Option, ◌==◌}
use Rattle.fields.specs.declared.objtype.ObjType.{ObjType}
use Rattle.fields.specs.declared.objtype.ObjType.TheVariants.{Unallocated, Storage, Stream, Root}
use Rattle.fields.specs.declared.color.Color.{Color}
use Rattle.fields.specs.declared.color.Color.TheVariants.{Red, Black}

abbrev pub type_byte : ObjType → ℕ
type_byte Unallocated = 0
type_byte Storage = 1
type_byte Stream = 2
type_byte Root = 5

abbrev pub type_of : ℕ → Option ObjType
type_of b = cond (b == 0) (Some Unallocated) (cond (b == 1) (Some Storage) (cond (b == 2) (Some Stream) (cond (b == 5) (Some Root) None)))

abbrev pub color_byte : Color → ℕ
color_byte Red = 0
color_byte Black = 1

abbrev pub color_of : ℕ → Option Color
color_of b = cond (b == 0) (Some Red) (cond (b == 1) (Some Black) None)

abbrev pub is_storage : ObjType → Bool
is_storage Unallocated = false
is_storage Storage = true
is_storage Stream = false
is_storage Root = false

abbrev pub is_stream : ObjType → Bool
is_stream Unallocated = false
is_stream Storage = false
is_stream Stream = true
is_stream Root = false

abbrev pub is_root : ObjType → Bool
is_root Unallocated = false
is_root Storage = false
is_root Stream = false
is_root Root = true
