-- One link changed in a record.
use Rattle.std.proofs.Common.{◌≡◌, ℕ, ◌+◌, List, [], ◌++◌, length, take, drop, sym, ap, ◌∙◌, subst, ap₂}
use Rattle.std.proofs.Math.Seq.{take-append-add}
use Rattle.std.proofs.lemmas.List.{append_assoc, drop-drop, drop_at}
use Rattle.fields.specs.declared.link.Link.TheVariants.{Left, Right, Child}
use Rattle.records.specs.declared.direntry.DirEntry.{DirEntry}
use Rattle.records.specs.Bytes.{bytes_of}
use Rattle.records.specs.Writing.{name_bytes, head_bytes, link_bytes, stamp_bytes, place_bytes, written}
use Rattle.records.specs.Allowed.{Sized}
use Rattle.records.specs.Laws.{RelinkedInPlace}
use Rattle.records.proofs.WrittenStands.{field_long}

module _ (e : DirEntry) (s : Sized e) where
  rest : List ℕ
  rest = head_bytes e ++ (link_bytes e ++ (stamp_bytes e ++ place_bytes e))

  long : length (name_bytes e.name) ≡ 64
  long = field_long e.name [] s.few

  -- a part put in behind the name field, k bytes from it
  put_in : (k j : ℕ) (new : List ℕ) → name_bytes e.name ++ (take k rest ++ (new ++ drop j rest)) ≡ take (64 + k) (written e) ++ (new ++ drop (64 + j) (written e))
  unfolding rest
  put_in k j new =
      let front : take (64 + k) (written e) ≡ name_bytes e.name ++ take k rest =
      subst (λ w. take (w + k) (written e) ≡ name_bytes e.name ++ take k rest) long (take-append-add (name_bytes e.name) rest k) in
      let back : drop (64 + j) (written e) ≡ drop j rest = sym (drop-drop j 64 (written e)) ∙ ap (drop j) (drop_at (name_bytes e.name) rest 64 long) in
      sym (append_assoc (name_bytes e.name) (take k rest) (new ++ drop j rest)) ∙ ap₂ (λ f b. f ++ (new ++ b)) (sym front) (sym back)

pub relinked : RelinkedInPlace
unfolding rest
relinked e Left x s = put_in e s 4 8 (bytes_of 4 x)
relinked e Right x s = put_in e s 8 12 (bytes_of 4 x)
relinked e Child x s = put_in e s 12 16 (bytes_of 4 x)
