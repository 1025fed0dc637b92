-- What the cells hold after one of them is taken, given up, or gets another value; and the chains stand.
use Rattle.std.proofs.Common.{◌≡◌, ℕ, ◌%◌, ◌^◌, ◌<◌, ◌≤◌, List, length, get_or, set, Some, None, Option, sym, refl, ap, ◌∙◌, subst, ⊎_elim, arith}
use lib.Seq.{map-set, map-set_same}
use Rattle.std.proofs.lemmas.List.{get_or-map, length-set, get_or-set_same, get_or-set_other, set-get_or}
use Rattle.std.proofs.lemmas.Bool.{cases_eq}
use Rattle.cells.specs.declared.cell.Entry.{Entry}
use Rattle.cells.specs.declared.cell.Cell.{Cell}
use Rattle.cells.specs.Chains.{held, head_at, next_at, revalued, Sits, Chained, Kept, Between, Hooked}
use Rattle.cells.proofs.Fields.{held_read, length-held, nexts_set, next_set}
use Rattle.cells.proofs.Gaps.{not_before}
use Rattle.cells.proofs.Rechained.{put_chained, gone_chained, revalued_chained}

module _ {K : Type 0} (hash : K → ℕ) where
  pub put_all : (cells new : List (Cell K)) (h f : ℕ) (before x : Option ℕ) (e : Entry K) (r : Cell K) → Kept hash cells → length cells ≤ 2 ^ 64 → f < length cells → get_or (held cells) f None ≡ None → h ≡ hash e.key → Between hash cells (h % length cells) f before x →
      Hooked (set cells f (record { entry = Some e; next = x; head = (get_or cells f r).head })) new (h % length cells) before (Some f) →
      Kept hash new × (held new ≡ set (held cells) f (Some e))
  put_all cells new h f before x e r kept few inside free q gap hooked =
      let n : ℕ = length cells in
      let c : Cell K = record { entry = Some e; next = x; head = (get_or cells f r).head } in
      let size : length new ≡ length cells = hooked.size ∙ length-set cells f c in
      let holds : held new ≡ set (held cells) f (Some e) = hooked.same ∙ map-set (λ (y : Cell K). y.entry) cells f c in
      let heads : (j : ℕ) → head_at (set cells f c) j ≡ head_at cells j = λ j. ap (λ l. get_or l j None) (map-set_same (λ (y : Cell K). y.head) cells f c r refl) in
      let done : Chained hash n (λ j. get_or (held new) j None) (head_at new) (next_at new) =
      put_chained hash n (λ j. get_or (held cells) j None) (λ j. get_or (held new) j None) (head_at cells) (head_at new) (next_at cells) (next_at new) (h % n) f before x e
      kept.chained (omega arith) inside gap.step gap.past (ap (λ y. y % n) (sym q))
      (λ j ne. ap (λ l. get_or l j None) holds ∙ get_or-set_other (held cells) f j (Some e) None ne)
      (λ j ne. hooked.heads j ne ∙ heads j)
      free (ap (λ l. get_or l f None) holds ∙ get_or-set_same (held cells) f (Some e) None (rw (length-held cells) inside))
      (λ j ne o. hooked.nexts j o ∙ nexts_set cells f c j ne)
      hooked.head hooked.next
      (hooked.nexts f (not_before hash cells (h % n) f before x gap) ∙ next_set cells f c inside) in
      (record { chained = subst (λ m. Chained hash m (λ j. get_or (held new) j None) (head_at new) (next_at new)) (sym size) done }, holds)

  pub gone_all : (cells new : List (Cell K)) (h f : ℕ) (before x : Option ℕ) (e : Entry K) (r : Cell K) → Kept hash cells → length cells ≤ 2 ^ 64 → f < length cells → r ≡ get_or cells f r → r.entry ≡ Some e → h ≡ hash e.key → Between hash cells (h % length cells) f before x →
      Hooked (set cells f (record { entry = None; next = r.next; head = r.head })) new (h % length cells) before r.next →
      Kept hash new × (held new ≡ set (held cells) f None)
  gone_all cells new h f before x e r kept few inside is taken q gap hooked =
      let n : ℕ = length cells in
      let c : Cell K = record { entry = None; next = r.next; head = r.head } in
      let size : length new ≡ length cells = hooked.size ∙ length-set cells f c in
      let holds : held new ≡ set (held cells) f None = hooked.same ∙ map-set (λ (y : Cell K). y.entry) cells f c in
      let heads : (j : ℕ) → head_at (set cells f c) j ≡ head_at cells j = λ j. ap (λ l. get_or l j None) (map-set_same (λ (y : Cell K). y.head) cells f c r (ap (λ (y : Cell K). y.head) is)) in
      let nexts : (j : ℕ) → next_at (set cells f c) j ≡ next_at cells j = λ j. ap (λ l. get_or l j None) (map-set_same (λ (y : Cell K). y.next) cells f c r (ap (λ (y : Cell K). y.next) is)) in
      let on : next_at cells f ≡ r.next = get_or-map (λ (y : Cell K). y.next) cells f r None inside ∙ ap (λ (y : Cell K). y.next) (sym is) in
      let done : Chained hash n (λ j. get_or (held new) j None) (head_at new) (next_at new) =
      gone_chained hash n (λ j. get_or (held cells) j None) (λ j. get_or (held new) j None) (head_at cells) (head_at new) (next_at cells) (next_at new) (h % n) f before x e
      kept.chained (omega arith) inside gap.step gap.past (ap (λ y. y % n) (sym q))
      (λ j ne. ap (λ l. get_or l j None) holds ∙ get_or-set_other (held cells) f j None None ne)
      (λ j ne. hooked.heads j ne ∙ heads j)
      (held_read cells f r inside is ∙ taken) (ap (λ l. get_or l f None) holds ∙ get_or-set_same (held cells) f None None (rw (length-held cells) inside))
      (λ j o. hooked.nexts j o ∙ nexts j)
      (λ z. hooked.head z ∙ sym on) (λ i z. hooked.next i z ∙ sym on) in
      (record { chained = subst (λ m. Chained hash m (λ j. get_or (held new) j None) (head_at new) (next_at new)) (sym size) done }, holds)

  pub revalued_all : (cells : List (Cell K)) (f value : ℕ) (e : Entry K) (r : Cell K) → Kept hash cells → f < length cells → r ≡ get_or cells f r → r.entry ≡ Some e →
      let c : Cell K = record { entry = Some (record { key = e.key; value = value }); next = r.next; head = r.head } in
      Kept hash (set cells f c) × (held (set cells f c) ≡ set (held cells) f (revalued (get_or (held cells) f None) value))
  revalued_all cells f value e r kept inside is q =
      let y : Entry K = record { key = e.key; value = value } in
      let c : Cell K = record { entry = Some y; next = r.next; head = r.head } in
      let was : get_or (held cells) f None ≡ Some e = held_read cells f r inside is ∙ q in
      let holds : held (set cells f c) ≡ set (held cells) f (Some y) = map-set (λ (z : Cell K). z.entry) cells f c in
      let here : get_or (held (set cells f c)) f None ≡ Some y = ap (λ l. get_or l f None) holds ∙ get_or-set_same (held cells) f (Some y) None (rw (length-held cells) inside) in
      let others : (j : ℕ) → (j ≡ f → ⊥) → get_or (held (set cells f c)) j None ≡ get_or (held cells) j None = λ j ne. ap (λ l. get_or l j None) holds ∙ get_or-set_other (held cells) f j (Some y) None ne in
      let n : ℕ = length cells in
      let done : Chained hash n (λ j. get_or (held (set cells f c)) j None) (head_at (set cells f c)) (next_at (set cells f c)) =
      revalued_chained hash n (λ j. get_or (held cells) j None) (λ j. get_or (held (set cells f c)) j None) (head_at cells) (head_at (set cells f c)) (next_at cells) (next_at (set cells f c)) kept.chained
      (λ j. ap (λ l. get_or l j None) (map-set_same (λ (z : Cell K). z.head) cells f c r (ap (λ (z : Cell K). z.head) is)))
      (λ j. ap (λ l. get_or l j None) (map-set_same (λ (z : Cell K). z.next) cells f c r (ap (λ (z : Cell K). z.next) is)))
      (λ b j s. ⊎_elim (λ u. subst (Sits hash n b) (sym (ap (λ i. get_or (held (set cells f c)) i None) u ∙ here)) (subst (Sits hash n b) (ap (λ i. get_or (held cells) i None) u ∙ was) s)) (λ ne. subst (Sits hash n b) (sym (others j ne)) s) (cases_eq j f))
      (λ b j s. ⊎_elim (λ u. subst (Sits hash n b) (sym (ap (λ i. get_or (held cells) i None) u ∙ was)) (subst (Sits hash n b) (ap (λ i. get_or (held (set cells f c)) i None) u ∙ here) s)) (λ ne. subst (Sits hash n b) (others j ne) s) (cases_eq j f))
      (λ i z p. ⊎_elim (λ u. (e, ap (λ k. get_or (held cells) k None) u ∙ was, ap (λ (o : Entry K). o.key) (let w : Some y ≡ Some z = sym here ∙ ap (λ k. get_or (held (set cells f c)) k None) (sym u) ∙ p in let v : y ≡ z = cc in v))) (λ ne. (z, sym (others i ne) ∙ p, refl)) (cases_eq i f)) in (
        record { chained = subst (λ m. Chained hash m (λ j. get_or (held (set cells f c)) j None) (head_at (set cells f c)) (next_at (set cells f c))) (sym (length-set cells f c)) done },
        holds ∙ ap (λ o. set (held cells) f (revalued o value)) (sym was),
      )

pub gone_none : {K : Type 0} (cells : List (Cell K)) (f : ℕ) (r : Cell K) → f < length cells → r ≡ get_or cells f r → r.entry ≡ None → held cells ≡ set (held cells) f None
gone_none {K} cells f r h is z = subst (λ o. held cells ≡ set (held cells) f o) (held_read cells f r h is ∙ z) (sym (set-get_or (held cells) f None))

pub revalued_none : {K : Type 0} (cells : List (Cell K)) (f value : ℕ) (r : Cell K) → f < length cells → r ≡ get_or cells f r → r.entry ≡ None → held cells ≡ set (held cells) f (revalued (get_or (held cells) f None) value)
revalued_none cells f value r h is z =
    let free : get_or (held cells) f None ≡ None = held_read cells f r h is ∙ z in
    gone_none cells f r h is z ∙ ap (λ o. set (held cells) f (revalued o value)) (sym free)
