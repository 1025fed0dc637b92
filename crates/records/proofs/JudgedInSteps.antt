-- A record that is judged part by part is judged by all of the rules in their order.
use Rattle.std.proofs.Common.{◌≡◌, ℕ, zero, Bool, true, false, cond, not, ◌&&◌, ◌||◌, ◌==◌, List, [], ◌∷◌, ◌++◌, take, drop, Some, None, Ok, Err, Result, ok_or, refl, ap, ◌∙◌}
use Rattle.std.specs.Str.{bytes_eq}
use Rattle.std.proofs.lemmas.Bool.{eqb-true}
use Rattle.names.specs.declared.name.Name.{Name}
use Rattle.fields.specs.declared.objtype.ObjType.{ObjType}
use Rattle.fields.specs.declared.objtype.ObjType.TheVariants.{Unallocated, Storage, Stream, Root}
use Rattle.fields.specs.declared.color.Color.{Color}
use Rattle.fields.specs.declared.color.Color.TheVariants.{Red, Black}
use Rattle.fields.specs.declared.version.Version.{Version}
use Rattle.fields.specs.declared.validate.Validation.{Validation}
use Rattle.fields.specs.declared.validate.Validation.TheVariants.{Permissive, Strict}
use Rattle.fields.specs.declared.link.Link.TheVariants.{Left, Right, Child}
use Rattle.fields.specs.declared.timestamp.Time.TheVariants.{Creation, Modified}
use Rattle.fields.specs.declared.timestamp.Timestamp.{Timestamp}
use Rattle.fields.specs.declared.malformed.Flaw.{Flaw}
use Rattle.fields.specs.declared.malformed.Flaw.TheVariants.{BadType, BadColor, StreamClsid, StreamTime, StorageStart, StorageLength}
use Rattle.records.specs.declared.direntry.DirEntry.{DirEntry}
use Rattle.records.specs.declared.reading.Head.{Head}
use Rattle.records.specs.declared.reading.Links.{Links}
use Rattle.records.specs.declared.reading.Stamps.{Stamps}
use Rattle.records.specs.declared.reading.Place.{Place}
use Rattle.fields.specs.Kinds.{type_of, color_of, is_storage, is_stream}
use Rattle.fields.specs.Versions.{strict}
use Rattle.records.specs.Bytes.{byte_at}
use Rattle.records.specs.Fields.{name_units, name_in, kind_in, color_in, link_in, clsid_in, state_in, time_in, start_in, length_in}
use Rattle.records.specs.Rules.{Rule, rule, judge, nil, name_rules, type_rules, title_rules, color_rules, link_rules, stamp_rules, place_rules, titled, meaning, reads}
use Rattle.records.specs.Steps.{and_then, spell_step, unset_step, name_steps, head_steps, link_steps, stamp_steps, place_steps, entry_steps}

-- two parts, one after the other
pub then_judge : {A B : Type 0} (p q : List Rule) (a : A) (f : A → Result B Flaw) (b : B) → f a ≡ judge q b → and_then (judge p a) f ≡ judge (p ++ q) b
then_judge [] q a f b e = e
then_judge {A} {B} (r ∷ p) q a f b e = by_test r.broken (then_judge p q a f b e)
  where
    by_test : (t : Bool) → and_then (judge p a) f ≡ judge (p ++ q) b → and_then (cond t (Err r.flaw) (judge p a)) f ≡ cond t (Err r.flaw) (judge (p ++ q) b)
    by_test true g = refl
    by_test false g = g

-- a rule that is not looked at
lenient : {A : Type 0} (m : Validation) (f : Flaw) (rs : List Rule) (x : A) → Ok x ≡ judge rs x → Ok x ≡ judge (rule f (strict m && false) ∷ rs) x
lenient Permissive f rs x e = e
lenient Strict f rs x e = e

-- the type and the colour of a byte that is not zero, and the rule on it
type_if : (q r s : Bool) → ok_or (cond q (Some Storage) (cond r (Some Stream) (cond s (Some Root) None))) BadType ≡ judge (rule BadType (not (q || (r || s))) ∷ []) (cond q Storage (cond r Stream (cond s Root Unallocated)))
type_if true r s = refl
type_if false true s = refl
type_if false false true = refl
type_if false false false = refl

color_if : (q : Bool) → ok_or (cond q (Some Black) None) BadColor ≡ judge (rule BadColor (not q) ∷ []) (cond q Black Red)
color_if true = refl
color_if false = refl

module _ (bs : List ℕ) (v : Version) (m : Validation) where
  name_judged : name_steps bs m ≡ judge (name_rules bs m) (name_in bs)
  name_judged = then_judge (take 3 (name_rules bs m)) (drop 3 (name_rules bs m)) (name_units bs) (spell_step bs) (name_in bs) refl

  head_in : Head
  head_in = record { name = titled (kind_in bs) (name_in bs); obj_type = kind_in bs; color = color_in bs }

  links_in : Links
  links_in = record { left = link_in bs Left; right = link_in bs Right; child = link_in bs Child }

  stamps_in : Stamps
  stamps_in = record {
    clsid = cond (is_stream (kind_in bs)) nil (clsid_in bs);
    creation = record { 0 = cond (is_stream (kind_in bs)) 0 (time_in bs Creation) };
    modified = record { 0 = cond (is_stream (kind_in bs)) 0 (time_in bs Modified) };
  }

  place_in : Place
  place_in = record { start = cond (is_storage (kind_in bs)) 0 (start_in bs); length = cond (is_storage (kind_in bs)) 0 (length_in bs v) }

  head_rules : List Rule
  head_rules = name_rules bs m ++ (type_rules bs ++ (title_rules (kind_in bs) (name_in bs) m ++ color_rules bs))

  type_judged : ok_or (type_of (byte_at bs 66)) BadType ≡ judge (type_rules bs) (kind_in bs)
  type_judged = by_test (byte_at bs 66 == 0) refl
    where
      by_test : (p : Bool) → (byte_at bs 66 == 0) ≡ p → ok_or (type_of (byte_at bs 66)) BadType ≡ judge (type_rules bs) (kind_in bs)
      by_test true e = let z = eqb-true (byte_at bs 66) 0 e in rw z refl
      by_test false e = rw e (type_if (byte_at bs 66 == 1) (byte_at bs 66 == 2) (byte_at bs 66 == 5))

  color_judged : ok_or (color_of (byte_at bs 67)) BadColor ≡ judge (color_rules bs) (color_in bs)
  color_judged = by_test (byte_at bs 67 == 0) refl
    where
      by_test : (p : Bool) → (byte_at bs 67 == 0) ≡ p → ok_or (color_of (byte_at bs 67)) BadColor ≡ judge (color_rules bs) (color_in bs)
      by_test true e = let z = eqb-true (byte_at bs 67) 0 e in rw z refl
      by_test false e = rw e (color_if (byte_at bs 67 == 1))

  -- a head, from its parts on
  head_after : Result Name Flaw → Result ObjType Flaw → Result Color Flaw → Result Head Flaw
  head_after r s u = and_then r (λ n. and_then s (λ k. and_then (judge (title_rules k n m) (titled k n)) (λ t. and_then u (λ c. Ok (record { name = t; obj_type = k; color = c })))))

  head_judged : head_steps bs m ≡ judge head_rules head_in
  unfolding head_rules head_in head_after
  head_judged =
      (λ i. head_after (name_judged i) (type_judged i) (color_judged i))
      ∙ then_judge (name_rules bs m) (type_rules bs ++ (title_rules (kind_in bs) (name_in bs) m ++ color_rules bs)) (name_in bs) _ head_in
      (then_judge (type_rules bs) (title_rules (kind_in bs) (name_in bs) m ++ color_rules bs) (kind_in bs) _ head_in
      (then_judge (title_rules (kind_in bs) (name_in bs) m) (color_rules bs) (titled (kind_in bs) (name_in bs)) _ head_in (then_judge (color_rules bs) [] (color_in bs) _ head_in refl)))

  links_judged : link_steps bs (kind_in bs) ≡ judge (link_rules bs (kind_in bs)) links_in
  unfolding links_in
  links_judged =
      then_judge (take 1 (link_rules bs (kind_in bs))) (drop 1 (link_rules bs (kind_in bs))) (link_in bs Left) _ links_in
      (then_judge (take 1 (drop 1 (link_rules bs (kind_in bs)))) (drop 2 (link_rules bs (kind_in bs))) (link_in bs Right) _ links_in
      (then_judge (drop 2 (link_rules bs (kind_in bs))) [] (link_in bs Child) _ links_in refl))

  -- the rules of stamps and place, of a type that has them or not
  stamp_rules_if : Bool → List Rule
  stamp_rules_if b =
      rule StreamClsid (strict m && (b && not (bytes_eq (clsid_in bs) nil)))
      ∷ rule (StreamTime Creation) (strict m && (b && not (time_in bs Creation == 0)))
      ∷ rule (StreamTime Modified) (strict m && (b && not (time_in bs Modified == 0)))
      ∷ []

  place_rules_if : Bool → List Rule
  place_rules_if b =
      rule StorageStart (strict m && (b && not (start_in bs == 0)))
      ∷ rule StorageLength (strict m && (b && not (length_in bs v == 0)))
      ∷ []

  stamps_judged : stamp_steps bs (kind_in bs) m ≡ judge (stamp_rules bs (kind_in bs) m) stamps_in
  unfolding stamps_in stamp_rules_if
  stamps_judged = by_stream (is_stream (kind_in bs))
    where
      by_stream : (b : Bool) →
          cond b
          (and_then {B = Stamps} (unset_step m (bytes_eq (clsid_in bs) nil) nil StreamClsid) (λ i.
          and_then (unset_step {A = Timestamp} m (time_in bs Creation == 0) (record { 0 = 0 }) (StreamTime Creation)) (λ c.
          and_then (unset_step {A = Timestamp} m (time_in bs Modified == 0) (record { 0 = 0 }) (StreamTime Modified)) (λ t.
          Ok (record { clsid = i; creation = c; modified = t })))))
          (Ok (record { clsid = clsid_in bs; creation = record { 0 = time_in bs Creation }; modified = record { 0 = time_in bs Modified } }))
          ≡ judge (stamp_rules_if b) (record { clsid = cond b nil (clsid_in bs); creation = record { 0 = cond b 0 (time_in bs Creation) }; modified = record { 0 = cond b 0 (time_in bs Modified) } })
      by_stream true =
          let none : Timestamp = record { 0 = 0 } in
          let all : Stamps = record { clsid = nil; creation = none; modified = none } in
          then_judge (take 1 (stamp_rules_if true)) (drop 1 (stamp_rules_if true)) nil _ all
          (then_judge (take 1 (drop 1 (stamp_rules_if true))) (drop 2 (stamp_rules_if true)) none _ all
          (then_judge (drop 2 (stamp_rules_if true)) [] none _ all refl))
      by_stream false =
          let all : Stamps = record { clsid = clsid_in bs; creation = record { 0 = time_in bs Creation }; modified = record { 0 = time_in bs Modified } } in
          lenient m StreamClsid (drop 1 (stamp_rules_if false)) all (lenient m (StreamTime Creation) (drop 2 (stamp_rules_if false)) all (lenient m (StreamTime Modified) [] all refl))

  place_judged : place_steps bs (kind_in bs) v m ≡ judge (place_rules bs (kind_in bs) v m) place_in
  unfolding place_in place_rules_if
  place_judged = by_storage (is_storage (kind_in bs))
    where
      by_storage : (b : Bool) →
          cond b
          (and_then {B = Place} (unset_step {A = ℕ} m (start_in bs == 0) 0 StorageStart) (λ s.
          and_then (unset_step {A = ℕ} m (length_in bs v == 0) 0 StorageLength) (λ n.
          Ok (record { start = s; length = n }))))
          (Ok (record { start = start_in bs; length = length_in bs v }))
          ≡ judge (place_rules_if b) (record { start = cond b 0 (start_in bs); length = cond b 0 (length_in bs v) })
      by_storage true =
          let all : Place = record { start = 0; length = 0 } in
          then_judge (take 1 (place_rules_if true)) (drop 1 (place_rules_if true)) zero _ all (then_judge (drop 1 (place_rules_if true)) [] zero _ all refl)
      by_storage false =
          let all : Place = record { start = start_in bs; length = length_in bs v } in
          lenient m StorageStart (drop 1 (place_rules_if false)) all (lenient m StorageLength [] all refl)

  -- all of the parts, from a head on
  entry_of : Head → Links → Stamps → Place → DirEntry
  entry_of h l s p = record {
    name = h.name;
    obj_type = h.obj_type;
    color = h.color;
    left_sibling = l.left;
    right_sibling = l.right;
    child = l.child;
    clsid = s.clsid;
    state_bits = state_in bs;
    creation_time = s.creation;
    modified_time = s.modified;
    start_sector = p.start;
    stream_len = p.length;
  }

  pub entry_judged : entry_steps bs v m ≡ reads bs v m
  unfolding head_rules head_in links_in stamps_in place_in entry_of
  entry_judged =
      ap (λ r. and_then r (λ h. and_then (link_steps bs h.obj_type) (λ l. and_then (stamp_steps bs h.obj_type m) (λ s. and_then (place_steps bs h.obj_type v m) (λ p. Ok (entry_of h l s p)))))) head_judged
      ∙ then_judge head_rules (link_rules bs (kind_in bs) ++ (stamp_rules bs (kind_in bs) m ++ place_rules bs (kind_in bs) v m)) head_in _ (meaning bs v)
      (ap (λ r. and_then r (λ l. and_then (stamp_steps bs (kind_in bs) m) (λ s. and_then (place_steps bs (kind_in bs) v m) (λ p. Ok (entry_of head_in l s p))))) links_judged
      ∙ then_judge (link_rules bs (kind_in bs)) (stamp_rules bs (kind_in bs) m ++ place_rules bs (kind_in bs) v m) links_in _ (meaning bs v)
      (ap (λ r. and_then r (λ s. and_then (place_steps bs (kind_in bs) v m) (λ p. Ok (entry_of head_in links_in s p)))) stamps_judged
      ∙ then_judge (stamp_rules bs (kind_in bs) m) (place_rules bs (kind_in bs) v m) stamps_in _ (meaning bs v)
      (ap (λ r. and_then r (λ p. Ok (entry_of head_in links_in stamps_in p))) place_judged
      ∙ then_judge (place_rules bs (kind_in bs) v m) [] place_in _ (meaning bs v) refl)))
