-- What Strict reads stands in the record as it is.
use Rattle.std.proofs.Common.{◌≡◌, ℕ, Bool, false, cond, not, ◌&&◌, eqb, List, sym, refl}
use Rattle.std.specs.Str.{bytes_eq}
use Rattle.std.proofs.lemmas.Slice.Eq.{bytes_eq-Decides}
use Rattle.std.proofs.lemmas.Bool.{eqb-true, not-false}
use Rattle.fields.specs.declared.version.Version.{Version}
use Rattle.fields.specs.declared.validate.Validation.TheVariants.{Strict}
use Rattle.fields.specs.declared.timestamp.Time.TheVariants.{Creation, Modified}
use Rattle.fields.specs.Kinds.{is_storage, is_stream, is_root}
use Rattle.records.specs.Fields.{name_in, end_in, kind_in, clsid_in, time_in, start_in, length_in}
use Rattle.records.specs.Rules.{root_units, nil, meaning}
use Rattle.records.specs.Allowed.{IsRecord, Stands}
use Rattle.records.proofs.KeptRules.{Holds}
use Rattle.records.proofs.AcceptedMeans.{type_kept, color_kept}
use Rattle.records.proofs.StrictExact.{loud, kept_or_zero}
use Rattle.records.proofs.ReadAllowed.{short, even}

module _ (bs : List ℕ) (v : Version) (r : IsRecord bs) (k : Holds bs v Strict) where
  -- a field that a type takes away, where the rule on it is kept
  zero_there : (b : Bool) (x : ℕ) → (b && not (eqb x 0)) ≡ false → x ≡ cond b 0 x
  zero_there b x h = sym (kept_or_zero b x 0 (λ e. eqb-true x 0 (loud b (eqb x 0) h e)))

  pub read_stands : Stands bs v (meaning bs v)
  read_stands = record {
    short = short bs v Strict r k;
    even = even bs v Strict r k;
    name = kept_or_zero (is_root (kind_in bs)) (name_in bs) root_units (λ h. (bytes_eq-Decides (name_in bs) root_units).0 (loud (is_root (kind_in bs)) (bytes_eq (name_in bs) root_units) k.root h));
    ended = eqb-true (end_in bs) 0 (not-false (eqb (end_in bs) 0) k.ended);
    kind = sym (type_kept bs v Strict k);
    color = sym (color_kept bs v Strict k);
    left = refl;
    right = refl;
    child = refl;
    clsid = sym (kept_or_zero (is_stream (kind_in bs)) (clsid_in bs) nil (λ h. (bytes_eq-Decides (clsid_in bs) nil).0 (loud (is_stream (kind_in bs)) (bytes_eq (clsid_in bs) nil) k.clsid h)));
    state = refl;
    creation = zero_there (is_stream (kind_in bs)) (time_in bs Creation) k.creation;
    modified = zero_there (is_stream (kind_in bs)) (time_in bs Modified) k.modified;
    start = zero_there (is_storage (kind_in bs)) (start_in bs) k.start;
    length = zero_there (is_storage (kind_in bs)) (length_in bs v) k.length;
  }
