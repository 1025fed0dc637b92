-- The chains stand after a cell is taken, given up, or gets another value.
use Rattle.std.proofs.Common.{◌≡◌, ℕ, ◌+◌, ◌%◌, ◌^◌, ◌<◌, ◌≤◌, ◌⊎◌, Some, None, Option, sym, ap, ◌∙◌, subst, inl, inr, ⊎_elim, arith}
use Rattle.std.proofs.lemmas.Option.{same_Some}
use Rattle.std.proofs.lemmas.Bool.{cases_lt, cases_eq}
use Rattle.cells.specs.declared.cell.Entry.{Entry}
use Rattle.cells.specs.Chains.{end_of, Sits, Link, Chained, Step}
use Rattle.cells.proofs.Sits.{sits_none, sits_at, sits_put}
use Rattle.cells.proofs.Links.{which, clash, ends, kept_link, to_new, from_new, over, beside, below}

module _ {K : Type 0} (hash : K → ℕ) (n : ℕ) (v w : ℕ → Option (Entry K)) (H H' N N' : ℕ → Option ℕ) (b f : ℕ) (before x : Option ℕ) (e : Entry K)
    (kept : Chained hash n v H N) (few : n ≤ 2 ^ 64) (inside : f < n)
    (step : Step (λ j. Sits hash n b (v j)) H N b f before x) (past : f ≤ end_of x)
    (bucket : hash e.key % n ≡ b) (others : (j : ℕ) → (j ≡ f → ⊥) → w j ≡ v j)
    (heads : (j : ℕ) → (before ≡ None → j ≡ b → ⊥) → H' j ≡ H j) where
  stays : (c j : ℕ) → (j ≡ f → ⊥) → Sits hash n c (w j) → Sits hash n c (v j)
  stays c j ne s = subst (Sits hash n c) (others j ne) s

  stays' : (c j : ℕ) → (j ≡ f → ⊥) → Sits hash n c (v j) → Sits hash n c (w j)
  stays' c j ne s = subst (Sits hash n c) (sym (others j ne)) s

  module _ (free : v f ≡ None) (new : w f ≡ Some e)
      (nexts : (j : ℕ) → (j ≡ f → ⊥) → (before ≡ Some j → ⊥) → N' j ≡ N j)
      (head : before ≡ None → H' b ≡ Some f) (next : (i : ℕ) → before ≡ Some i → N' i ≡ Some f) (on : N' f ≡ x) where
    up : (c j : ℕ) → Sits hash n c (v j) → Sits hash n c (w j)
    up c j s = stays' c j (λ q. sits_none hash n c (v j) s (ap v q ∙ free)) s

    other : (c j : ℕ) → (c ≡ b → ⊥) → Sits hash n c (w j) → Sits hash n c (v j)
    other c j ne s = stays c j (λ q. ne (sym (sits_at hash n c (w j) e (ap w q ∙ new) s) ∙ bucket)) s

    here : Sits hash n b (w f)
    here = sits_put hash n b (w f) e new bucket

    -- the hooked link
    hooked : (from : ℕ) → from ≤ f → Link (λ j. Sits hash n b (v j)) from x → Link (λ j. Sits hash n b (w j)) from (Some f)
    hooked from le l = to_new _ _ from f x le past here (λ j lt s. stays b j (λ q. omega arith) s) l

    -- the new cell's
    onward : (from : ℕ) → from ≤ f → Link (λ j. Sits hash n b (v j)) from x → Link (λ j. Sits hash n b (w j)) (f + 1) x
    onward from le l = from_new _ _ from f x le past (λ s. sits_none hash n b (v f) s free) (λ i _. up b i) (λ j lt s. stays b j (λ q. omega arith) s) l

    -- any other
    apart : (c from : ℕ) (y : Option ℕ) → ((c ≡ b) → (f < from) ⊎ (end_of y ≤ f)) → Link (λ j. Sits hash n c (v j)) from y → Link (λ j. Sits hash n c (w j)) from y
    apart c from y ok l = kept_link _ _ from y (λ i _. up c i) (λ j a k s. ⊎_elim (λ q. ⊎_elim (λ lt. stays c j (λ z. omega arith) s) (λ le. stays c j (λ z. omega arith) s) (ok q)) (λ ne. other c j ne s) (cases_eq c b)) l

    old_entry : (i : ℕ) (y : Entry K) → (i ≡ f → ⊥) → w i ≡ Some y → v i ≡ Some y
    old_entry i y ne q = sym (others i ne) ∙ q

    -- a link from i goes past f only at `before`
    clear : (i : ℕ) (y : Entry K) → v i ≡ Some y → (i ≡ f → ⊥) → (before ≡ Some i → ⊥) → Link (λ j. Sits hash n (hash y.key % n) (v j)) (i + 1) (N i) → hash y.key % n ≡ b → (f < i + 1) ⊎ (end_of (N i) ≤ f)
    clear i y vi ne o l q =
        ⊎_elim (λ lt. let k : end_of (N i) < f = beside (λ j. Sits hash n b (v j)) H N b f before x step past i (N i) (sits_put hash n b (v i) y vi q) lt o (subst (λ c. Link (λ j. Sits hash n c (v j)) (i + 1) (N i)) q l) in inr (omega arith))
        (λ le. inl (omega arith)) (cases_lt i f)

    new_heads : (c : ℕ) → c < n → Link (λ j. Sits hash n c (w j)) 0 (H' c)
    new_heads c lt =
        ⊎_elim (λ z. ⊎_elim (λ q. subst (λ d. Link (λ j. Sits hash n d (w j)) 0 (H' d)) (sym q) (subst (λ y. Link (λ j. Sits hash n b (w j)) 0 y) (sym (head z))
        (⊎_elim (λ s. hooked 0 (omega arith) s.2) (λ s. absurd (clash z s.1)) step)))
        (λ ne. subst (λ y. Link (λ j. Sits hash n c (w j)) 0 y) (sym (heads c (λ _ q. ne q))) (apart c 0 (H c) (λ q. absurd (ne q)) (kept.heads c lt))) (cases_eq c b))
        (λ some. subst (λ y. Link (λ j. Sits hash n c (w j)) 0 y) (sym (heads c (λ z _. clash z some.1)))
        (apart c 0 (H c) (λ q. let k : end_of (H c) < f = below (λ j. Sits hash n b (v j)) H N b f before x step (λ z. clash z some.1) (H c) (subst (λ d. Link (λ j. Sits hash n d (v j)) 0 (H c)) q (kept.heads c lt)) in inr (omega arith)) (kept.heads c lt))) (which before)

    plain : (i : ℕ) (y : Entry K) → v i ≡ Some y → (i ≡ f → ⊥) → (before ≡ Some i → ⊥) → Link (λ j. Sits hash n (hash y.key % n) (w j)) (i + 1) (N' i)
    plain i y vi ne o =
        let l = kept.nexts i y vi in
        subst (λ z. Link (λ j. Sits hash n (hash y.key % n) (w j)) (i + 1) z) (sym (nexts i ne o)) (apart (hash y.key % n) (i + 1) (N i) (clear i y vi ne o l) l)

    hooked_next : (i k : ℕ) (y : Entry K) → v i ≡ Some y → i ≡ k → before ≡ Some k → k < f → Sits hash n b (v k) → Link (λ j. Sits hash n b (v j)) (k + 1) x → Link (λ j. Sits hash n (hash y.key % n) (w j)) (i + 1) (N' i)
    hooked_next i k y vi at is lt sits l =
        let bk : b ≡ hash y.key % n = sym (sits_at hash n b (v k) y (ap v (sym at) ∙ vi) sits) in
        subst (λ c. Link (λ j. Sits hash n c (w j)) (i + 1) (N' i)) bk (subst (λ m. Link (λ j. Sits hash n b (w j)) (m + 1) (N' m)) (sym at) (subst (λ z. Link (λ j. Sits hash n b (w j)) (k + 1) z) (sym (next k is)) (hooked (k + 1) (omega arith) l)))

    new_nexts : (i : ℕ) (y : Entry K) → w i ≡ Some y → Link (λ j. Sits hash n (hash y.key % n) (w j)) (i + 1) (N' i)
    new_nexts i y q =
        ⊎_elim (λ at. let t : Some e ≡ Some y = sym new ∙ ap w (sym at) ∙ q in let u : e ≡ y = cc in
        let bk : b ≡ hash y.key % n = sym bucket ∙ ap (λ (z : Entry K). hash z.key % n) u in
        subst (λ c. Link (λ j. Sits hash n c (w j)) (i + 1) (N' i)) bk (subst (λ k. Link (λ j. Sits hash n b (w j)) (k + 1) (N' k)) (sym at) (subst (λ z. Link (λ j. Sits hash n b (w j)) (f + 1) z) (sym on)
        (⊎_elim (λ s. onward 0 (omega arith) s.2) (λ s. onward (s.0 + 1) (omega (arith, s.2)) s.5) step))))
        (λ ne. let vi = old_entry i y ne q in
        ⊎_elim (λ s. plain i y vi ne (λ u. clash s.0 u))
        (λ s. ⊎_elim (λ at. hooked_next i s.0 y vi at s.1 s.2 s.3 s.5)
        (λ no'. plain i y vi ne (λ u. no' (same_Some _ _ (sym u ∙ s.1)))) (cases_eq i s.0)) step) (cases_eq i f)

    pub put_chained : Chained hash n w H' N'
    put_chained = record { heads = new_heads; nexts = new_nexts }

  -- f is given up: what linked to it links to what it linked to
  module _ (taken : v f ≡ Some e) (gone : w f ≡ None)
      (nexts : (j : ℕ) → (before ≡ Some j → ⊥) → N' j ≡ N j)
      (head : before ≡ None → H' b ≡ N f) (next : (i : ℕ) → before ≡ Some i → N' i ≡ N f) where
    left : (c j : ℕ) → Sits hash n c (w j) → Sits hash n c (v j)
    left c j s = stays c j (λ q. sits_none hash n c (w j) s (ap w q ∙ gone)) s

    at_f : Sits hash n b (v f)
    at_f = sits_put hash n b (v f) e taken bucket

    -- the chain comes to f itself
    comes : (from : ℕ) → from ≤ f → Link (λ j. Sits hash n b (v j)) from x → x ≡ Some f
    comes from le l = ⊎_elim (λ lt. absurd (l.first f le lt at_f))
        (λ ge. ⊎_elim (λ z. absurd (let g : end_of x ≡ 2 ^ 64 = ap end_of z in omega arith)) (λ s. let g : end_of x ≡ s.0 = ap end_of s.1 in let u : s.0 ≡ f = omega arith in s.1 ∙ ap Some u) (ends x l)) (cases_lt f (end_of x))

    skip : (from : ℕ) → from ≤ f → Link (λ j. Sits hash n b (v j)) from x → Link (λ j. Sits hash n b (w j)) from (N f)
    skip from le l = over _ _ from f (N f) le (λ j s ne. stays' b j ne s) (left b) (λ s. sits_none hash n b (w f) s gone)
        (subst (λ y. Link (λ j. Sits hash n b (v j)) from y) (comes from le l) l)
        (subst (λ c. Link (λ j. Sits hash n c (v j)) (f + 1) (N f)) bucket (kept.nexts f e taken))

    rest : (c from : ℕ) (y : Option ℕ) → (c ≡ b → y ≡ Some f → ⊥) → Link (λ j. Sits hash n c (v j)) from y → Link (λ j. Sits hash n c (w j)) from y
    rest c from y ok l = kept_link _ _ from y (λ i u s. stays' c i (λ q. ok (sym (sits_at hash n c (v i) e (ap v q ∙ taken) s) ∙ bucket) (u ∙ ap Some q)) s) (λ j _ _ s. left c j s) l

    rest_heads : (c : ℕ) → c < n → Link (λ j. Sits hash n c (w j)) 0 (H' c)
    rest_heads c lt =
        ⊎_elim (λ z. ⊎_elim (λ q. subst (λ d. Link (λ j. Sits hash n d (w j)) 0 (H' d)) (sym q) (subst (λ y. Link (λ j. Sits hash n b (w j)) 0 y) (sym (head z))
        (⊎_elim (λ s. skip 0 (omega arith) s.2) (λ s. absurd (clash z s.1)) step)))
        (λ ne. subst (λ y. Link (λ j. Sits hash n c (w j)) 0 y) (sym (heads c (λ _ q. ne q))) (rest c 0 (H c) (λ q _. ne q) (kept.heads c lt))) (cases_eq c b))
        (λ some. subst (λ y. Link (λ j. Sits hash n c (w j)) 0 y) (sym (heads c (λ z _. clash z some.1)))
        (rest c 0 (H c) (λ q u. let k : end_of (H c) < f = below (λ j. Sits hash n b (v j)) H N b f before x step (λ z. clash z some.1) (H c) (subst (λ d. Link (λ j. Sits hash n d (v j)) 0 (H c)) q (kept.heads c lt)) in let g : end_of (H c) ≡ f = ap end_of u in omega arith) (kept.heads c lt))) (which before)

    still : (i : ℕ) (y : Entry K) → v i ≡ Some y → (before ≡ Some i → ⊥) → Link (λ j. Sits hash n (hash y.key % n) (w j)) (i + 1) (N' i)
    still i y vi o =
        let l = kept.nexts i y vi in
        subst (λ z. Link (λ j. Sits hash n (hash y.key % n) (w j)) (i + 1) z) (sym (nexts i o))
        (rest (hash y.key % n) (i + 1) (N i) (λ q u.
        let s = l.stands f u in let k : end_of (N i) < f = beside (λ j. Sits hash n b (v j)) H N b f before x step past i (N i) (sits_put hash n b (v i) y vi q) (omega (arith, s.0)) o (subst (λ c. Link (λ j. Sits hash n c (v j)) (i + 1) (N i)) q l) in
        let g : end_of (N i) ≡ f = ap end_of u in omega arith) l)

    skipped_next : (i k : ℕ) (y : Entry K) → v i ≡ Some y → i ≡ k → before ≡ Some k → k < f → Sits hash n b (v k) → Link (λ j. Sits hash n b (v j)) (k + 1) x → Link (λ j. Sits hash n (hash y.key % n) (w j)) (i + 1) (N' i)
    skipped_next i k y vi at is lt sits l =
        let bk : b ≡ hash y.key % n = sym (sits_at hash n b (v k) y (ap v (sym at) ∙ vi) sits) in
        subst (λ c. Link (λ j. Sits hash n c (w j)) (i + 1) (N' i)) bk (subst (λ m. Link (λ j. Sits hash n b (w j)) (m + 1) (N' m)) (sym at) (subst (λ z. Link (λ j. Sits hash n b (w j)) (k + 1) z) (sym (next k is)) (skip (k + 1) (omega arith) l)))

    rest_nexts : (i : ℕ) (y : Entry K) → w i ≡ Some y → Link (λ j. Sits hash n (hash y.key % n) (w j)) (i + 1) (N' i)
    rest_nexts i y q =
        let ne : i ≡ f → ⊥ = λ u. let t : ◌≡◌ {A = Option (Entry K)} None (Some y) = sym gone ∙ ap w (sym u) ∙ q in let o : ◌≡◌ {A = ℕ} 0 1 = cc in omega arith in
        let vi : v i ≡ Some y = sym (others i ne) ∙ q in
        ⊎_elim (λ s. still i y vi (λ u. clash s.0 u))
        (λ s. ⊎_elim (λ at. skipped_next i s.0 y vi at s.1 s.2 s.3 s.5)
        (λ no'. still i y vi (λ u. no' (same_Some _ _ (sym u ∙ s.1)))) (cases_eq i s.0)) step

    pub gone_chained : Chained hash n w H' N'
    gone_chained = record { heads = rest_heads; nexts = rest_nexts }

-- a value alone is changed, or more than one: every key sits where it sat
module _ {K : Type 0} (hash : K → ℕ) (n : ℕ) (v w : ℕ → Option (Entry K)) (H H' N N' : ℕ → Option ℕ)
    (kept : Chained hash n v H N) (heads : (j : ℕ) → H' j ≡ H j) (nexts : (j : ℕ) → N' j ≡ N j)
    (there : (c j : ℕ) → Sits hash n c (v j) → Sits hash n c (w j)) (back : (c j : ℕ) → Sits hash n c (w j) → Sits hash n c (v j))
    (keys : (i : ℕ) (y : Entry K) → w i ≡ Some y → (x : Entry K) × (v i ≡ Some x) × (x.key ≡ y.key)) where
  moved : (c from : ℕ) (x : Option ℕ) → Link (λ j. Sits hash n c (v j)) from x → Link (λ j. Sits hash n c (w j)) from x
  moved c from x l = kept_link _ _ from x (λ i _. there c i) (λ j _ _ s. back c j s) l

  pub revalued_chained : Chained hash n w H' N'
  revalued_chained = record {
    heads = λ b lt. subst (λ z. Link (λ j. Sits hash n b (w j)) 0 z) (sym (heads b)) (moved b 0 (H b) (kept.heads b lt));
    nexts = λ i y q. let k = keys i y q in
        subst (λ z. Link (λ j. Sits hash n (hash y.key % n) (w j)) (i + 1) z) (sym (nexts i))
        (subst (λ (z : K). Link (λ j. Sits hash n (hash z % n) (w j)) (i + 1) (N i)) k.2
        (moved (hash k.0.key % n) (i + 1) (N i) (kept.nexts i k.0 k.1)));
  }
