use Rattle.std.proofs.Common.{◌≡◌, ℕ, zero, suc, ◌<◌, List, [], ◌∷◌, ◌++◌, length, map, take, drop, get_or, set, ap, ◌∙◌, add-one, arith}
use Rattle.cache_store.specs.declared.copied.Copied.{Copied}
use Rattle.cache_store.specs.Copies.{blank, forgotten}
use Rattle.cache_store.proofs.copies.forget_each.Goals as goal

-- one more is forgotten in its place
one_more : (n : ℕ) (xs : List Copied) (i : ℕ) (v : Copied) → i < length xs → v ≡ forgotten n (get_or (map (forgotten n) (take i xs) ++ drop i xs) i blank)
    → set (map (forgotten n) (take i xs) ++ drop i xs) i v ≡ map (forgotten n) (take (suc i) xs) ++ drop (suc i) xs
one_more n [] i v h e = absurd (omega arith)
one_more n (x ∷ xs) zero v h e = ap (λ (y : Copied). y ∷ xs) e
one_more n (x ∷ xs) (suc i) v h e = ap (λ (ys : List Copied). forgotten n x ∷ ys) (one_more n xs i v (omega arith) e)

pub loop-copied-preserved : goal.loop-copied-preserved
loop-copied-preserved c =
    let n = c.args.count in
    let i = c.loop-copied.copied-index in
    let e = c.loop-copied.invariant in
    rw (add-one i) (ap (λ (ys : List Copied). set ys i c.forget_beyond.new.self) e
    ∙ one_more n c.args.copies.now i c.forget_beyond.new.self (omega arith) (c.forget_beyond.ensures ∙ ap (λ (ys : List Copied). forgotten n (get_or ys i blank)) e))
