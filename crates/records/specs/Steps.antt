-- The reader's way through the rules, for the contracts of its own parts: each part is judged once those before it are.
--
--   and_then r f                                                  the second part, where the first was read
--   count_step, spell_step, link_step, child_step                 single fields
--   unset_step m same none f                                      a field that a type does not have: none is read, and
--                                                                 Strict refuses with f what is not the same as none
--   name_steps, head_steps, link_steps, stamp_steps, place_steps  the parts of a record
--   entry_steps                                                   the whole record
use Rattle.std.specs.Prelude.{ℕ, ◌*◌, Bool, if◌then◌else◌, not, ◌&&◌, List, [], ◌∷◌, take, Ok, Err, Result, ok_or, ◌==◌}
use Rattle.std.specs.Str.{bytes_eq}
use Rattle.names.specs.declared.name.Name.{Name}
use Rattle.names.specs.Units.{well_formed}
use Rattle.fields.specs.declared.objtype.ObjType.{ObjType}
use Rattle.fields.specs.declared.version.Version.{Version}
use Rattle.fields.specs.declared.validate.Validation.{Validation}
use Rattle.fields.specs.declared.link.Link.{Link}
use Rattle.fields.specs.declared.link.Link.TheVariants.{Left, Right, Child}
use Rattle.fields.specs.declared.timestamp.Time.TheVariants.{Creation, Modified}
use Rattle.fields.specs.declared.malformed.Flaw.{Flaw}
use Rattle.fields.specs.declared.malformed.Flaw.TheVariants.{BadUtf16, BadType, BadColor, BadLink, StreamChild, StreamClsid, StreamTime, StorageStart, StorageLength}
use Rattle.records.specs.declared.direntry.DirEntry.{DirEntry}
use Rattle.records.specs.declared.reading.Head.{Head}
use Rattle.records.specs.declared.reading.Links.{Links}
use Rattle.records.specs.declared.reading.Stamps.{Stamps}
use Rattle.records.specs.declared.reading.Place.{Place}
use Rattle.records.specs.Bytes.{part, byte_at, units_of}
use Rattle.fields.specs.Kinds.{type_of, color_of, is_storage, is_stream}
use Rattle.fields.specs.Versions.{strict}
use Rattle.records.specs.Fields.{name_units, link_in, clsid_in, state_in, time_in, start_in, length_in}
use Rattle.records.specs.Rules.{rule, judge, nil, nowhere, stray, name_rules, title_rules, titled}

abbrev pub and_then : {A B : Type 0} → Result A Flaw → (A → Result B Flaw) → Result B Flaw
and_then (Ok a) f = f a
and_then (Err e) f = Err e

abbrev pub count_step : List ℕ → Validation → Result ℕ Flaw
count_step bs m = judge (take 3 (name_rules bs m)) (name_units bs)

abbrev pub spell_step : List ℕ → ℕ → Result Name Flaw
spell_step bs n = judge (rule BadUtf16 (not (well_formed (units_of (part 0 (2 * n) bs)))) ∷ []) (units_of (part 0 (2 * n) bs))

abbrev pub link_step : List ℕ → Link → Result ℕ Flaw
link_step bs l = judge (rule (BadLink l) (stray (link_in bs l)) ∷ []) (link_in bs l)

abbrev pub child_step : List ℕ → ObjType → Result ℕ Flaw
child_step bs k = judge (rule StreamChild (is_stream k && not (link_in bs Child == nowhere)) ∷ rule (BadLink Child) (stray (link_in bs Child)) ∷ []) (link_in bs Child)

abbrev pub unset_step : {A : Type 0} → Validation → Bool → A → Flaw → Result A Flaw
unset_step m same none f = judge (rule f (strict m && not same) ∷ []) none

abbrev pub name_steps : List ℕ → Validation → Result Name Flaw
name_steps bs m = and_then (count_step bs m) (spell_step bs)

abbrev pub head_steps : List ℕ → Validation → Result Head Flaw
head_steps bs m =
    and_then (name_steps bs m) (λ n.
    and_then (ok_or (type_of (byte_at bs 66)) BadType) (λ k.
    and_then (judge (title_rules k n m) (titled k n)) (λ t.
    and_then (ok_or (color_of (byte_at bs 67)) BadColor) (λ c.
    Ok (record { name = t; obj_type = k; color = c })))))

abbrev pub link_steps : List ℕ → ObjType → Result Links Flaw
link_steps bs k =
    and_then (link_step bs Left) (λ l.
    and_then (link_step bs Right) (λ r.
    and_then (child_step bs k) (λ c.
    Ok (record { left = l; right = r; child = c }))))

-- a stream has none of the three
abbrev pub stamp_steps : List ℕ → ObjType → Validation → Result Stamps Flaw
stamp_steps bs k m =
    if is_stream k then
    and_then (unset_step m (bytes_eq (clsid_in bs) nil) nil StreamClsid) (λ i.
    and_then (unset_step m (time_in bs Creation == 0) (record { 0 = 0 }) (StreamTime Creation)) (λ c.
    and_then (unset_step m (time_in bs Modified == 0) (record { 0 = 0 }) (StreamTime Modified)) (λ t.
    Ok (record { clsid = i; creation = c; modified = t }))))
    else
    Ok (record { clsid = clsid_in bs; creation = record { 0 = time_in bs Creation }; modified = record { 0 = time_in bs Modified } })

-- a storage has neither
abbrev pub place_steps : List ℕ → ObjType → Version → Validation → Result Place Flaw
place_steps bs k v m =
    if is_storage k then
    and_then (unset_step m (start_in bs == 0) 0 StorageStart) (λ s.
    and_then (unset_step m (length_in bs v == 0) 0 StorageLength) (λ n.
    Ok (record { start = s; length = n })))
    else
    Ok (record { start = start_in bs; length = length_in bs v })

abbrev pub entry_steps : List ℕ → Version → Validation → Result DirEntry Flaw
entry_steps bs v m =
    and_then (head_steps bs m) (λ h.
    and_then (link_steps bs h.obj_type) (λ l.
    and_then (stamp_steps bs h.obj_type m) (λ s.
    and_then (place_steps bs h.obj_type v m) (λ p.
    Ok (record {
      name = h.name;
      obj_type = h.obj_type;
      color = h.color;
      left_sibling = l.left;
      right_sibling = l.right;
      child = l.child;
      clsid = s.clsid;
      state_bits = state_in bs;
      creation_time = s.creation;
      modified_time = s.modified;
      start_sector = p.start;
      stream_len = p.length;
    })))))
