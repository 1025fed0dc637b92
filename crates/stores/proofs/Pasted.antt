-- What a list has at each place after another was copied into it.
use Rattle.std.proofs.Common.{◌≡◌, ℕ, ◌+◌, ◌-◌, ◌<◌, ◌≤◌, List, length, get_or, take, drop, sym, ap, ◌∙◌, arith, rules}
use lib.Seq.{paste}
use Rattle.std.proofs.lemmas.List.{places, same_lists, take_all, drop_all, append-nil, length-take, length-drop, get_or-take, get_or-drop}
use Rattle.std.proofs.lemmas.List.Edits.{length-paste}

pub length_pasted : (d s : List ℕ) (at : ℕ) → at + length s ≤ length d → length (paste d at s (length s)) ≡ length d
length_pasted d s at h = length-paste d at s (length s) h (omega arith)

pub pasted_before : (d s : List ℕ) (at k z : ℕ) → at + length s ≤ length d → k < at → get_or (paste d at s (length s)) k z ≡ get_or d k z
pasted_before d s at k z h hk = let hs : length s ≤ length s = omega arith in search (rules, places)

pub pasted_after : (d s : List ℕ) (at k z : ℕ) → at + length s ≤ length d → at + length s ≤ k → get_or (paste d at s (length s)) k z ≡ get_or d k z
pasted_after d s at k z h hk = let hs : length s ≤ length s = omega arith in search (rules, places)

pub pasted_inside : (d s : List ℕ) (at k z : ℕ) → at + length s ≤ length d → at ≤ k → k < at + length s → get_or (paste d at s (length s)) k z ≡ get_or s (k - at) z
pasted_inside d s at k z h hk hl = let hs : length s ≤ length s = omega arith in search (rules, places)

-- a list of the same length takes the other's place
pub pasted_whole : (d s : List ℕ) → length s ≡ length d → paste d 0 s (length s) ≡ s
pasted_whole d s h = search (rules, take_all, drop_all, append-nil)

-- a part before what was copied stands
pub part_before : (d s : List ℕ) (at a n : ℕ) → at + length s ≤ length d → a + n ≤ at → take n (drop a (paste d at s (length s))) ≡ take n (drop a d)
part_before d s at a n h hn =
    let ln : length (paste d at s (length s)) ≡ length d = length_pasted d s at h in
    let l1 : length (take n (drop a (paste d at s (length s)))) ≡ n = simp (length-take, length-drop) (omega arith) in
    let l2 : length (take n (drop a d)) ≡ n = simp (length-take, length-drop) (omega arith) in
    same_lists _ _ (l1 ∙ sym l2) (λ i z hi.
    let lt : i < n = omega (arith, l1) in
    get_or-take n (drop a (paste d at s (length s))) i z lt ∙ get_or-drop a (paste d at s (length s)) i z
    ∙ pasted_before d s at (a + i) z h (omega arith)
    ∙ sym (get_or-take n (drop a d) i z lt ∙ get_or-drop a d i z))

-- what was copied stands where it was copied to
pub part_here : (d s : List ℕ) (at : ℕ) → at + length s ≤ length d → take (length s) (drop at (paste d at s (length s))) ≡ s
part_here d s at h =
    let ln : length (paste d at s (length s)) ≡ length d = length_pasted d s at h in
    let l1 : length (take (length s) (drop at (paste d at s (length s)))) ≡ length s = simp (length-take, length-drop) (omega arith) in
    same_lists _ _ l1 (λ i z hi.
    let lt : i < length s = omega (arith, l1) in
    let e : (at + i) - at ≡ i = omega arith in
    get_or-take (length s) (drop at (paste d at s (length s))) i z lt ∙ get_or-drop at (paste d at s (length s)) i z
    ∙ pasted_inside d s at (at + i) z h (omega arith) (omega arith) ∙ ap (λ k. get_or s k z) e)
