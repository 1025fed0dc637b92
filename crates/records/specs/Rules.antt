-- The rules of a record, in the order in which they are looked at, and what a record means that keeps them.
--
--   Rule, rule f b        a flaw, and whether the record has it
--   root_units            the root's name
--   nil                   the CLSID that stands for none
--   nowhere               the link that stands for none
--   stray x               x is neither a number that a record can have nor the link that stands for none
--   name_rules bs m       the rules of the name by itself
--   type_rules bs         the rule of the type's byte
--   title_rules k us m    the rules of a name us of an entry of type k
--   color_rules bs        the rule of the colour's byte
--   link_rules bs k       the rules of the three links
--   stamp_rules bs k m    the rules of CLSID and times
--   place_rules bs k v m  the rules of start sector and length
--   rules bs v m          all of them
--   first rs              the first flaw that the record has
--   judge rs x            x where the record has no flaw, else the first flaw
--   titled k n            the name of an entry of type k that is named n in its record: the root's is given
--   meaning bs v          the entry that a record means, in either mode
--   reads bs v m          what reading a record gives
--   about n r             the same, with the record's number put to a flaw
use Rattle.std.specs.Prelude.{ℕ, ◌%◌, Bool, cond, not, ◌&&◌, ◌||◌, List, [], ◌∷◌, ◌++◌, replicate, Some, None, Ok, Err, Option, Result, ◌==◌, nat_lt}
use Rattle.std.specs.Str.{bytes_eq}
use Rattle.names.specs.declared.name.Name.{Name}
use Rattle.names.specs.Names.{allowed}
use Rattle.names.specs.Units.{well_formed}
use Rattle.fields.specs.declared.objtype.ObjType.{ObjType}
use Rattle.fields.specs.declared.version.Version.{Version}
use Rattle.fields.specs.declared.validate.Validation.{Validation}
use Rattle.fields.specs.declared.link.Link.TheVariants.{Left, Right, Child}
use Rattle.fields.specs.declared.timestamp.Time.TheVariants.{Creation, Modified}
use Rattle.fields.specs.declared.malformed.Flaw.{Flaw}
use Rattle.fields.specs.declared.malformed.Flaw.TheVariants.{LongName, OddName, NoNull, BadUtf16, BadType, RootName, ForbiddenUnit, BadColor, BadLink, StreamChild, StreamClsid, StreamTime, StorageStart, StorageLength}
use Rattle.fields.specs.declared.malformed.Malformed.{Malformed}
use Rattle.records.specs.declared.direntry.DirEntry.{DirEntry}
use Rattle.records.specs.Bytes.{byte_at}
use Rattle.fields.specs.Kinds.{is_storage, is_stream, is_root}
use Rattle.fields.specs.Versions.{strict}
use Rattle.records.specs.Fields.{name_length, name_in, end_in, kind_in, color_in, link_in, clsid_in, state_in, time_in, start_in, length_in}

pub record Rule : Type 0 where
  pub flaw : Flaw
  pub broken : Bool

abbrev pub rule : Flaw → Bool → Rule
rule f b = record { flaw = f; broken = b }

abbrev pub first : List Rule → Option Flaw
first [] = None
first (r ∷ rs) = cond r.broken (Some r.flaw) (first rs)

abbrev pub judge : {A : Type 0} → List Rule → A → Result A Flaw
judge [] x = Ok x
judge (r ∷ rs) x = cond r.broken (Err r.flaw) (judge rs x)

-- Root Entry
abbrev pub root_units : List ℕ
root_units = 82 ∷ 111 ∷ 111 ∷ 116 ∷ 32 ∷ 69 ∷ 110 ∷ 116 ∷ 114 ∷ 121 ∷ []

abbrev pub nil : List ℕ
nil = replicate 16 0

abbrev pub nowhere : ℕ
nowhere = 0xffff_ffff

abbrev pub stray : ℕ → Bool
stray x = nat_lt 0xffff_fffa x && not (x == 0xffff_ffff)

abbrev pub name_rules : List ℕ → Validation → List Rule
name_rules bs m =
    rule LongName (nat_lt 64 (name_length bs))
    ∷ rule OddName (not (name_length bs % 2 == 0))
    ∷ rule NoNull (strict m && not (end_in bs == 0))
    ∷ rule BadUtf16 (not (well_formed (name_in bs)))
    ∷ []

abbrev pub type_rules : List ℕ → List Rule
type_rules bs = rule BadType (not (byte_at bs 66 == 0 || (byte_at bs 66 == 1 || (byte_at bs 66 == 2 || byte_at bs 66 == 5)))) ∷ []

abbrev pub title_rules : ObjType → List ℕ → Validation → List Rule
title_rules k us m =
    rule RootName (strict m && (is_root k && not (bytes_eq us root_units)))
    ∷ rule ForbiddenUnit (not (is_root k) && not (allowed us))
    ∷ []

abbrev pub color_rules : List ℕ → List Rule
color_rules bs = rule BadColor (not (byte_at bs 67 == 0 || byte_at bs 67 == 1)) ∷ []

abbrev pub link_rules : List ℕ → ObjType → List Rule
link_rules bs k =
    rule (BadLink Left) (stray (link_in bs Left))
    ∷ rule (BadLink Right) (stray (link_in bs Right))
    ∷ rule StreamChild (is_stream k && not (link_in bs Child == nowhere))
    ∷ rule (BadLink Child) (stray (link_in bs Child))
    ∷ []

abbrev pub stamp_rules : List ℕ → ObjType → Validation → List Rule
stamp_rules bs k m =
    rule StreamClsid (strict m && (is_stream k && not (bytes_eq (clsid_in bs) nil)))
    ∷ rule (StreamTime Creation) (strict m && (is_stream k && not (time_in bs Creation == 0)))
    ∷ rule (StreamTime Modified) (strict m && (is_stream k && not (time_in bs Modified == 0)))
    ∷ []

abbrev pub place_rules : List ℕ → ObjType → Version → Validation → List Rule
place_rules bs k v m =
    rule StorageStart (strict m && (is_storage k && not (start_in bs == 0)))
    ∷ rule StorageLength (strict m && (is_storage k && not (length_in bs v == 0)))
    ∷ []

abbrev pub rules : List ℕ → Version → Validation → List Rule
rules bs v m =
    name_rules bs m ++ (type_rules bs ++ (title_rules (kind_in bs) (name_in bs) m ++ (color_rules bs
    ++ (link_rules bs (kind_in bs) ++ (stamp_rules bs (kind_in bs) m ++ place_rules bs (kind_in bs) v m)))))

abbrev pub titled : ObjType → Name → Name
titled k n = cond (is_root k) root_units n

abbrev pub meaning : List ℕ → Version → DirEntry
meaning bs v = record {
  name = titled (kind_in bs) (name_in bs);
  obj_type = kind_in bs;
  color = color_in bs;
  left_sibling = link_in bs Left;
  right_sibling = link_in bs Right;
  child = link_in bs Child;
  clsid = cond (is_stream (kind_in bs)) nil (clsid_in bs);
  state_bits = state_in bs;
  creation_time = record { 0 = cond (is_stream (kind_in bs)) 0 (time_in bs Creation) };
  modified_time = record { 0 = cond (is_stream (kind_in bs)) 0 (time_in bs Modified) };
  start_sector = cond (is_storage (kind_in bs)) 0 (start_in bs);
  stream_len = cond (is_storage (kind_in bs)) 0 (length_in bs v);
}

abbrev pub reads : List ℕ → Version → Validation → Result DirEntry Flaw
reads bs v m = judge (rules bs v m) (meaning bs v)

abbrev pub about : ℕ → Result DirEntry Flaw → Result DirEntry Malformed
about n (Ok e) = Ok e
about n (Err f) = Err (record { id = n; flaw = f })
