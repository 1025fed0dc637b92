-- Entries as they are made, and with a link changed.
--
--   fresh n k t      a new entry: black, without links, CLSID or state bits, with the time t as both of its times
--   blank            the entry of a record that is free: nothing but empty links
--   new_root         the root of an empty directory
--   linked e l x     the entry e with x for its link l
--   link_of l k x y  x where l and k are one link, else y
use Rattle.std.specs.Prelude.{ℕ, cond, []}
use Rattle.names.specs.declared.name.Name.{Name}
use Rattle.fields.specs.declared.objtype.ObjType.{ObjType}
use Rattle.fields.specs.declared.objtype.ObjType.TheVariants.{Unallocated, Root}
use Rattle.fields.specs.declared.color.Color.TheVariants.{Red, Black}
use Rattle.fields.specs.declared.timestamp.Timestamp.{Timestamp}
use Rattle.fields.specs.declared.link.Link.{Link}
use Rattle.fields.specs.declared.link.Link.TheVariants.{Left, Right, Child}
use Rattle.records.specs.declared.direntry.DirEntry.{DirEntry}
use Rattle.fields.specs.Kinds.{is_storage}
use Rattle.records.specs.Rules.{root_units, nil, nowhere}

abbrev pub fresh : Name → ObjType → Timestamp → DirEntry
fresh n k t = record {
  name = n;
  obj_type = k;
  color = Black;
  left_sibling = nowhere;
  right_sibling = nowhere;
  child = nowhere;
  clsid = nil;
  state_bits = 0;
  creation_time = t;
  modified_time = t;
  start_sector = cond (is_storage k) 0 0xffff_fffe;
  stream_len = 0;
}

abbrev pub blank : DirEntry
blank = record {
  name = [];
  obj_type = Unallocated;
  color = Red;
  left_sibling = nowhere;
  right_sibling = nowhere;
  child = nowhere;
  clsid = nil;
  state_bits = 0;
  creation_time = record { 0 = 0 };
  modified_time = record { 0 = 0 };
  start_sector = 0;
  stream_len = 0;
}

abbrev pub new_root : DirEntry
new_root = fresh root_units Root (record { 0 = 0 })

abbrev pub link_of : Link → Link → ℕ → ℕ → ℕ
link_of Left Left x y = x
link_of Left Right x y = y
link_of Left Child x y = y
link_of Right Left x y = y
link_of Right Right x y = x
link_of Right Child x y = y
link_of Child Left x y = y
link_of Child Right x y = y
link_of Child Child x y = x

abbrev pub linked : DirEntry → Link → ℕ → DirEntry
linked e l x = record {
  name = e.name;
  obj_type = e.obj_type;
  color = e.color;
  left_sibling = link_of l Left x e.left_sibling;
  right_sibling = link_of l Right x e.right_sibling;
  child = link_of l Child x e.child;
  clsid = e.clsid;
  state_bits = e.state_bits;
  creation_time = e.creation_time;
  modified_time = e.modified_time;
  start_sector = e.start_sector;
  stream_len = e.stream_len;
}
