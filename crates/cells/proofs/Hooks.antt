-- A link of a bucket's chain, written at a place of it.
use Rattle.std.proofs.Common.{◌≡◌, ℕ, ◌<◌, List, length, get_or, set, Some, None, Option, sym, refl, ap, ◌∙◌, subst}
use Rattle.std.proofs.lemmas.Option.{same_Some}
use lib.Seq.{map-set_same}
use Rattle.std.proofs.lemmas.List.{length-set}
use Rattle.cells.specs.declared.cell.Cell.{Cell}
use Rattle.cells.specs.Chains.{next_at, Hooked}
use Rattle.cells.proofs.Links.{clash}
use Rattle.cells.proofs.Fields.{heads_set, head_set, nexts_set, next_set}

module _ {K : Type 0} where
  pub hook_head : (cells : List (Cell K)) (b : ℕ) (before x : Option ℕ) (r : Cell K) → b < length cells → before ≡ None → Hooked cells (set cells b (record { entry = (get_or cells b r).entry; next = (get_or cells b r).next; head = x })) b before x
  hook_head cells b before x r h z =
      let c : Cell K = record { entry = (get_or cells b r).entry; next = (get_or cells b r).next; head = x } in
      record {
        size = length-set cells b c;
        same = map-set_same (λ (y : Cell K). y.entry) cells b c r refl;
        heads = λ j ne. heads_set cells b c j (ne z);
        nexts = λ j _. ap (λ l. get_or l j None) (map-set_same (λ (y : Cell K). y.next) cells b c r refl);
        head = λ _. head_set cells b c h;
        next = λ i e. absurd (clash z e);
      }

  pub hook_next : (cells : List (Cell K)) (b i : ℕ) (before x : Option ℕ) (r : Cell K) → i < length cells → before ≡ Some i → Hooked cells (set cells i (record { entry = (get_or cells i r).entry; next = x; head = (get_or cells i r).head })) b before x
  hook_next cells b i before x r h e =
      let c : Cell K = record { entry = (get_or cells i r).entry; next = x; head = (get_or cells i r).head } in
      record {
        size = length-set cells i c;
        same = map-set_same (λ (y : Cell K). y.entry) cells i c r refl;
        heads = λ j _. ap (λ l. get_or l j None) (map-set_same (λ (y : Cell K). y.head) cells i c r refl);
        nexts = λ j o. nexts_set cells i c j (λ u. o (e ∙ ap Some (sym u)));
        head = λ z. absurd (clash z e);
        next = λ k u. let q : i ≡ k = same_Some _ _ (sym e ∙ u) in subst (λ m. next_at (set cells i c) m ≡ x) q (next_set cells i c h);
      }
