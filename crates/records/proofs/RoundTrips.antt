-- The laws of reading and writing.
use Rattle.std.proofs.Common.{◌≡◌, ℕ, ◌+◌, ◌*◌, ◌/◌, ◌%◌, ◌<◌, Bool, true, false, cond, List, [], ◌∷◌, ◌++◌, length, replicate, Ok, sym, refl, ap, ◌∙◌, subst, arith}
use Rattle.fields.specs.declared.version.Version.{Version}
use Rattle.fields.specs.declared.version.Version.TheVariants.{V3, V4}
use Rattle.fields.specs.declared.validate.Validation.{Validation}
use Rattle.fields.specs.declared.validate.Validation.TheVariants.{Permissive, Strict}
use Rattle.fields.specs.declared.timestamp.Time.TheVariants.{Creation, Modified}
use Rattle.records.specs.declared.direntry.DirEntry.{DirEntry}
use Rattle.records.specs.Bytes.{number, bytes_of, part, u64_at}
use Rattle.fields.specs.Kinds.{is_storage, is_stream}
use Rattle.fields.specs.Versions.{cut}
use Rattle.records.specs.Fields.{kind_in, time_in, start_in, length_in}
use Rattle.records.specs.Rules.{meaning, reads}
use Rattle.records.specs.Writing.{name_bytes, written}
use Rattle.records.specs.Allowed.{IsRecord, Allowed, Stands, zero_if, length_bytes, canonical, title_in}
use Rattle.records.specs.Laws.{StrictIsExact, WrittenReadsBack, StrictInPermissive, RewrittenIsCanonical, RecordsTell}
use Rattle.records.proofs.KeptRules.{Holds, read_holds, holds_read}
use Rattle.records.proofs.AcceptedMeans.{type_kept, color_kept}
use Rattle.records.proofs.NumbersAt.{number_more}
use Rattle.records.proofs.NumbersBack.{bytes_back, part_below}
use Rattle.records.proofs.StrictExact.{standing_reads, type_tells, color_tells}
use Rattle.records.proofs.WrittenStands.{written_record, written_stands}
use Rattle.records.proofs.ReadAllowed.{read_sized, read_allowed}
use Rattle.records.proofs.ReadStands.{read_stands}

pub exact : StrictIsExact
exact bs v e r = (
  (λ q.
      let j = read_holds bs v Strict e q in
      subst (λ f. Stands bs v f × Allowed v f) j.1 (read_stands bs v r j.0, read_allowed bs v Strict r j.0)),
  (λ h. standing_reads bs v e h.0 h.1),
)

pub reads_back : WrittenReadsBack
reads_back v e s = (written_record v e s, λ a. standing_reads (written e) v e (written_stands v e s a.room) a)

-- the rules that hold of Strict alone are kept in Permissive anyway
pub permissive : StrictInPermissive
permissive bs v e q =
    let r = read_holds bs v Strict e q in
    let h = r.0 in
    let p : Holds bs v Permissive = record {
      short = h.short;
      even = h.even;
      ended = refl;
      utf16 = h.utf16;
      kind = h.kind;
      root = refl;
      other = h.other;
      color = h.color;
      left = h.left;
      right = h.right;
      childless = h.childless;
      child = h.child;
      clsid = refl;
      creation = refl;
      modified = refl;
      start = refl;
      length = refl;
    } in
    holds_read bs v Permissive p ∙ ap Ok r.1

-- bytes, or zeros where the type has no such field
field_back : (b : Bool) (x w : ℕ) (xs : List ℕ) → bytes_of w 0 ≡ replicate w 0 → bytes_of w x ≡ xs → bytes_of w (cond b 0 x) ≡ zero_if b w xs
field_back true x w xs z h = z
field_back false x w xs z h = h

-- the low half of eight bytes
halves : (bs : List ℕ) → IsRecord bs → number (part 120 8 bs) % 4294967296 ≡ number (part 120 4 bs)
halves bs r =
    let l = r.0 in
    let a = number_more bs 120 121 7 (omega arith) refl in
    let b = number_more bs 121 122 6 (omega arith) refl in
    let c = number_more bs 122 123 5 (omega arith) refl in
    let d = number_more bs 123 124 4 (omega arith) refl in
    let e = number_more bs 120 121 3 (omega arith) refl in
    let f = number_more bs 121 122 2 (omega arith) refl in
    let g = number_more bs 122 123 1 (omega arith) refl in
    let h = number_more bs 123 124 0 (omega arith) refl in
    let s : number (part 120 4 bs) < 4294967296 = part_below bs 120 4 r (omega arith) in
    let w : number (part 120 8 bs) ≡ number (part 120 4 bs) + number (part 124 4 bs) * 4294967296 = omega arith in
    omega arith

low_bytes : (x : ℕ) → x < 4294967296 → bytes_of 8 x ≡ bytes_of 4 x ++ replicate 4 0
low_bytes x h = let z : x / 256 / 256 / 256 / 256 ≡ 0 = omega arith in ap (λ y. bytes_of 4 x ++ bytes_of 4 y) z

length_back : (v : Version) (bs : List ℕ) → IsRecord bs → bytes_of 8 (cut v (u64_at bs 120)) ≡ length_bytes v bs
length_back V3 bs r =
    ap (bytes_of 8) (halves bs r) ∙ low_bytes (number (part 120 4 bs)) (part_below bs 120 4 r (omega arith)) ∙ ap (λ l. l ++ replicate 4 0) (bytes_back bs 120 4 r (omega arith))
length_back V4 bs r = bytes_back bs 120 8 r (omega arith)

module _ (bs : List ℕ) (v : Version) (m : Validation) (r : IsRecord bs) (k : Holds bs v m) where
  rewritten : written (meaning bs v) ≡ canonical bs v
  rewritten =
      let kind = type_kept bs v m k in
      let color = color_kept bs v m k in
      let left = bytes_back bs 68 4 r (omega arith) in
      let right = bytes_back bs 72 4 r (omega arith) in
      let child = bytes_back bs 76 4 r (omega arith) in
      let state = bytes_back bs 96 4 r (omega arith) in
      let creation = field_back (is_stream (kind_in bs)) (time_in bs Creation) 8 (part 100 8 bs) refl (bytes_back bs 100 8 r (omega arith)) in
      let modified = field_back (is_stream (kind_in bs)) (time_in bs Modified) 8 (part 108 8 bs) refl (bytes_back bs 108 8 r (omega arith)) in
      let start = field_back (is_storage (kind_in bs)) (start_in bs) 4 (part 116 4 bs) refl (bytes_back bs 116 4 r (omega arith)) in
      let len = field_back (is_storage (kind_in bs)) (length_in bs v) 8 (length_bytes v bs) refl (length_back v bs r) in
      λ i.
      name_bytes (title_in bs)
      ++ ((bytes_of 2 (2 * (length (title_in bs) + 1)) ++ (kind i ∷ color i ∷ []))
      ++ ((left i ++ (right i ++ child i))
      ++ ((zero_if (is_stream (kind_in bs)) 16 (part 80 16 bs) ++ (state i ++ (creation i ++ modified i)))
      ++ (start i ++ len i))))

pub canonical_again : RewrittenIsCanonical
canonical_again bs v m e r q =
    let j = read_holds bs v m e q in
    let w : written e ≡ canonical bs v = subst (λ f. written f ≡ canonical bs v) j.1 (rewritten bs v m r j.0) in
    let b : reads (written e) v Strict ≡ Ok e = subst (λ f. reads (written f) v Strict ≡ Ok f) j.1 ((reads_back v (meaning bs v) (read_sized bs v m r j.0)).1 (read_allowed bs v m r j.0)) in
    (w, subst (λ l. reads l v Strict ≡ Ok e) w b)

-- one entry at most stands in a record
stands_once : (bs : List ℕ) (v : Version) (e f : DirEntry) → Stands bs v e → Stands bs v f → e ≡ f
stands_once bs v e f s t =
    let name = s.name ∙ sym t.name in
    let kind = type_tells e.obj_type f.obj_type (sym s.kind ∙ t.kind) in
    let color = color_tells e.color f.color (sym s.color ∙ t.color) in
    let left = sym s.left ∙ t.left in
    let right = sym s.right ∙ t.right in
    let child = sym s.child ∙ t.child in
    let clsid = sym s.clsid ∙ t.clsid in
    let state = sym s.state ∙ t.state in
    let creation = sym s.creation ∙ t.creation in
    let modified = sym s.modified ∙ t.modified in
    let start = sym s.start ∙ t.start in
    let len = sym s.length ∙ t.length in
    λ i. record {
      name = name i;
      obj_type = kind i;
      color = color i;
      left_sibling = left i;
      right_sibling = right i;
      child = child i;
      clsid = clsid i;
      state_bits = state i;
      creation_time = record { 0 = creation i };
      modified_time = record { 0 = modified i };
      start_sector = start i;
      stream_len = len i;
    }

pub tells : RecordsTell
tells e f s t q = stands_once (written e) V4 e f (written_stands V4 e s refl) (subst (λ l. Stands l V4 f) (sym q) (written_stands V4 f t refl))
