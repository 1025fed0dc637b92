use Rattle.std.proofs.Common.{◌≡◌, suc, List, [], ◌∷◌, length, map, get_or, refl, ap, ◌∙◌, arith, ℕ, zero}
use Rattle.std.proofs.lemmas.List.{length-map}
use Rattle.arrayvec.proofs.ArrayVecLemmas.{items-with_items}
use Rattle.cache_store.specs.declared.copied.Copied.{Copied}
use Rattle.cache_store.specs.Copies.{blank, forgotten}
use Rattle.cache_store.proofs.copies.Copies.forget_beyond.Goals as goal

same_bytes : (n : ℕ) (xs : List Copied) (k : ℕ) → (get_or (map (forgotten n) xs) k blank).bytes ≡ (get_or xs k blank).bytes
same_bytes n [] k = refl
same_bytes n (x ∷ xs) zero = refl
same_bytes n (x ∷ xs) (suc k) = same_bytes n xs k

pub invariant_of-self : goal.invariant_of-self
invariant_of-self c =
    let xs = c.args.self.now.kept.items in
    let n = c.args.count in
    let m : c.forget_each.new.copies ≡ map (forgotten n) xs = c.forget_each.ensures ∙ ap (map (forgotten n)) c.deref_mut.ensures.value in
    let e = items-with_items c.args.self.now.kept c.forget_each.new.copies (ap length m ∙ length-map xs (forgotten n)) ∙ m in
    record { sized = rw e (record { sized = λ k h. ap length (same_bytes n xs k) ∙ c.args.self.now.sized.sized k (omega (arith, h, length-map xs (forgotten n))) }) }
