-- An entry stands in its own record.
use Rattle.std.proofs.Common.{◌≡◌, ℕ, zero, suc, ◌+◌, ◌-◌, ◌*◌, ◌<◌, ◌≤◌, List, [], ◌∷◌, ◌++◌, length, get_or, take, drop, replicate, sym, refl, ap, ◌∙◌, arith}
use Rattle.std.proofs.lemmas.List.{append_assoc, length-append, drop-drop, drop_at, take_at, get_or-append_right}
use Rattle.names.specs.Padding.{padded}
use Rattle.fields.specs.declared.objtype.ObjType.{ObjType}
use Rattle.fields.specs.declared.objtype.ObjType.TheVariants.{Unallocated, Storage, Stream, Root}
use Rattle.fields.specs.declared.color.Color.{Color}
use Rattle.fields.specs.declared.color.Color.TheVariants.{Red, Black}
use Rattle.fields.specs.declared.version.Version.{Version}
use Rattle.records.specs.declared.direntry.DirEntry.{DirEntry}
use Rattle.records.specs.Bytes.{number, bytes_of, part, byte_at, u16_at, units_of, unit_bytes}
use Rattle.fields.specs.Kinds.{type_byte, color_byte}
use Rattle.fields.specs.Versions.{cut}
use Rattle.records.specs.Fields.{name_length, name_units, name_in, end_in}
use Rattle.records.specs.Writing.{name_bytes, head_bytes, link_bytes, stamp_bytes, place_bytes, written}
use Rattle.records.specs.Allowed.{IsRecord, Sized, Stands}
use Rattle.records.proofs.NumbersBack.{number_bytes, units_back, length_unit_bytes, small_append, small_cons, small_bytes, small_units}
use Rattle.records.proofs.WritesInOrder.{unit_bytes-append, length-padded}

-- past a front of known length
skip : (xs ys : List ℕ) (w k : ℕ) → length xs ≡ w → drop (w + k) (xs ++ ys) ≡ drop k ys
skip xs ys w k h = sym (drop-drop k w (xs ++ ys)) ∙ ap (drop k) (drop_at xs ys w h)

-- a name field: the name, then at least one null
module _ (us rest : List ℕ) (few : length us ≤ 31) where
  field_splits : name_bytes us ++ rest ≡ unit_bytes us ++ (unit_bytes (replicate (32 - length us) 0) ++ rest)
  field_splits = ap (λ l. l ++ rest) (unit_bytes-append us (replicate (32 - length us) 0)) ∙ append_assoc (unit_bytes us) (unit_bytes (replicate (32 - length us) 0)) rest

  pub field_long : length (name_bytes us) ≡ 64
  field_long = let p = length-padded us few in let b = length_unit_bytes (padded 32 us) in omega arith

  pub field_name : ((i : ℕ) → get_or us i 0 < 65536) → units_of (part 0 (2 * length us) (name_bytes us ++ rest)) ≡ us
  field_name small =
      ap (λ l. units_of (take (2 * length us) l)) field_splits
      ∙ ap units_of (take_at (unit_bytes us) (unit_bytes (replicate (32 - length us) 0) ++ rest) (2 * length us) (length_unit_bytes us))
      ∙ units_back us small

  nulls : (n : ℕ) → 1 ≤ n → u16_at (unit_bytes (replicate n 0) ++ rest) 0 ≡ 0
  nulls zero h = absurd (omega arith)
  nulls (suc n) h = refl

  pub field_ends : u16_at (name_bytes us ++ rest) (2 * length us) ≡ 0
  field_ends =
      ap (λ l. number (take 2 (drop (2 * length us) l))) field_splits
      ∙ ap (λ l. number (take 2 l)) (drop_at (unit_bytes us) (unit_bytes (replicate (32 - length us) 0) ++ rest) (2 * length us) (length_unit_bytes us))
      ∙ nulls (32 - length us) (omega arith)

module _ (v : Version) (e : DirEntry) (s : Sized e) where
  behind_name : List ℕ
  behind_name = head_bytes e ++ (link_bytes e ++ (stamp_bytes e ++ place_bytes e))

  behind_clsid : List ℕ
  behind_clsid = bytes_of 4 e.state_bits ++ (bytes_of 8 e.creation_time.0 ++ (bytes_of 8 e.modified_time.0 ++ place_bytes e))

  -- behind the name field
  early : (k : ℕ) → drop (64 + k) (written e) ≡ drop k behind_name
  unfolding behind_name
  early k = skip (name_bytes e.name) (head_bytes e ++ (link_bytes e ++ (stamp_bytes e ++ place_bytes e))) 64 k (field_long e.name [] s.few)

  stamps_split : stamp_bytes e ++ place_bytes e ≡ e.clsid ++ behind_clsid
  unfolding behind_clsid
  stamps_split = append_assoc e.clsid (bytes_of 4 e.state_bits ++ (bytes_of 8 e.creation_time.0 ++ bytes_of 8 e.modified_time.0)) (place_bytes e)

  at_clsid : drop 80 (written e) ≡ e.clsid ++ behind_clsid
  unfolding behind_name
  at_clsid = early 16 ∙ stamps_split

  -- behind the CLSID
  late : (k : ℕ) → drop (80 + (16 + k)) (written e) ≡ drop k behind_clsid
  late k = sym (drop-drop (16 + k) 80 (written e)) ∙ ap (drop (16 + k)) at_clsid ∙ skip e.clsid behind_clsid 16 k s.clsid

  size_is : name_length (written e) ≡ 2 * (length e.name + 1)
  unfolding behind_name
  size_is = let f = s.few in ap (λ l. number (take 2 l)) (early 0) ∙ number_bytes 2 (2 * (length e.name + 1)) (omega arith)

  count_is : name_units (written e) ≡ length e.name
  count_is = let z = size_is in omega arith

  name_is : name_in (written e) ≡ e.name
  unfolding behind_name
  name_is = ap (λ n. units_of (part 0 (2 * n) (written e))) count_is ∙ field_name e.name (head_bytes e ++ (link_bytes e ++ (stamp_bytes e ++ place_bytes e))) s.few s.units

  ends : end_in (written e) ≡ 0
  ends = ap (λ n. u16_at (written e) (2 * n)) count_is ∙ field_ends e.name (head_bytes e ++ (link_bytes e ++ (stamp_bytes e ++ place_bytes e))) s.few

  byte_at_written : (k : ℕ) → byte_at (written e) (64 + k) ≡ get_or (head_bytes e ++ (link_bytes e ++ (stamp_bytes e ++ place_bytes e))) k 0
  byte_at_written k =
      let z : 64 + k - 64 ≡ k = omega arith in
      get_or-append_right (name_bytes e.name) (head_bytes e ++ (link_bytes e ++ (stamp_bytes e ++ place_bytes e))) 64 (64 + k) 0 (field_long e.name [] s.few) (omega arith)
      ∙ ap (λ i. get_or (head_bytes e ++ (link_bytes e ++ (stamp_bytes e ++ place_bytes e))) i 0) z

  kind_small : (k : ObjType) → type_byte k < 256
  kind_small Unallocated = omega arith
  kind_small Storage = omega arith
  kind_small Stream = omega arith
  kind_small Root = omega arith

  color_small : (c : Color) → color_byte c < 256
  color_small Red = omega arith
  color_small Black = omega arith

  stamps_small : (i : ℕ) → get_or (stamp_bytes e) i 0 < 256
  stamps_small =
      small_append e.clsid (bytes_of 4 e.state_bits ++ (bytes_of 8 e.creation_time.0 ++ bytes_of 8 e.modified_time.0)) s.octets
      (small_append (bytes_of 4 e.state_bits) (bytes_of 8 e.creation_time.0 ++ bytes_of 8 e.modified_time.0) (small_bytes 4 e.state_bits)
      (small_append (bytes_of 8 e.creation_time.0) (bytes_of 8 e.modified_time.0) (small_bytes 8 e.creation_time.0) (small_bytes 8 e.modified_time.0)))

  head_small : (i : ℕ) → get_or (head_bytes e) i 0 < 256
  head_small =
      small_append (bytes_of 2 (2 * (length e.name + 1))) (type_byte e.obj_type ∷ color_byte e.color ∷ []) (small_bytes 2 (2 * (length e.name + 1)))
      (small_cons (type_byte e.obj_type) (color_byte e.color ∷ []) (kind_small e.obj_type) (small_cons (color_byte e.color) [] (color_small e.color) (λ i. omega arith)))

  links_small : (i : ℕ) → get_or (link_bytes e) i 0 < 256
  links_small =
      small_append (bytes_of 4 e.left_sibling) (bytes_of 4 e.right_sibling ++ bytes_of 4 e.child) (small_bytes 4 e.left_sibling)
      (small_append (bytes_of 4 e.right_sibling) (bytes_of 4 e.child) (small_bytes 4 e.right_sibling) (small_bytes 4 e.child))

  place_small : (i : ℕ) → get_or (place_bytes e) i 0 < 256
  place_small = small_append (bytes_of 4 e.start_sector) (bytes_of 8 e.stream_len) (small_bytes 4 e.start_sector) (small_bytes 8 e.stream_len)

  pub written_record : IsRecord (written e)
  written_record =
      let n = field_long e.name [] s.few in
      let a = length-append (name_bytes e.name) (head_bytes e ++ (link_bytes e ++ (stamp_bytes e ++ place_bytes e))) in
      let b = length-append (stamp_bytes e) (place_bytes e) in
      let c = length-append e.clsid (bytes_of 4 e.state_bits ++ (bytes_of 8 e.creation_time.0 ++ bytes_of 8 e.modified_time.0)) in
      let d = s.clsid in (
        omega arith,
        small_append (name_bytes e.name) (head_bytes e ++ (link_bytes e ++ (stamp_bytes e ++ place_bytes e))) (small_units (padded 32 e.name))
            (small_append (head_bytes e) (link_bytes e ++ (stamp_bytes e ++ place_bytes e)) head_small
            (small_append (link_bytes e) (stamp_bytes e ++ place_bytes e) links_small (small_append (stamp_bytes e) (place_bytes e) stamps_small place_small))),
      )

  pub written_stands : cut v e.stream_len ≡ e.stream_len → Stands (written e) v e
  unfolding behind_name behind_clsid
  written_stands room = record {
    short = let z = size_is in let f = s.few in omega arith;
    even = let z = size_is in omega arith;
    name = sym name_is;
    ended = ends;
    kind = byte_at_written 2;
    color = byte_at_written 3;
    left = ap (λ l. number (take 4 l)) (early 4) ∙ number_bytes 4 e.left_sibling s.left;
    right = ap (λ l. number (take 4 l)) (early 8) ∙ number_bytes 4 e.right_sibling s.right;
    child = ap (λ l. number (take 4 l)) (early 12) ∙ number_bytes 4 e.child s.child;
    clsid = ap (take 16) at_clsid ∙ take_at e.clsid behind_clsid 16 s.clsid;
    state = ap (λ l. number (take 4 l)) (late 0) ∙ number_bytes 4 e.state_bits s.state;
    creation = ap (λ l. number (take 8 l)) (late 4) ∙ number_bytes 8 e.creation_time.0 s.creation;
    modified = ap (λ l. number (take 8 l)) (late 12) ∙ number_bytes 8 e.modified_time.0 s.modified;
    start = ap (λ l. number (take 4 l)) (late 20) ∙ number_bytes 4 e.start_sector s.start;
    length = ap (cut v) (ap (λ l. number (take 8 l)) (late 24) ∙ number_bytes 8 e.stream_len s.length) ∙ room;
  }
