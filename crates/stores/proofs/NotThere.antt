-- Reads and writes that are refused for what is not there.
use Rattle.std.proofs.Common.{◌≡◌, ℕ, ◌+◌, ◌<◌, ◌≤◌, length, refl, ap, ◌∙◌, arith}
use Rattle.stores.specs.declared.fault.Fault.{Fault}
use Rattle.stores.specs.declared.fault.Layer.{Layer}
use Rattle.stores.specs.declared.span.Span.{Span}
use Rattle.stores.specs.Faults.{missing, all_of}
use Rattle.stores.specs.Meaning.{Meaning}
use Rattle.stores.specs.Answers.{NotGiven, Inside, NotWritten}

-- of a store that has c records, bytes that are not within them
pub not_there : (l : Layer) (p : Fault → Type 0) (m : Meaning) (n o k c : ℕ) (f : Fault) → c ≡ length m.records
    → (f ≡ missing l n o) × ((n < c) × (o + k ≤ 128) → ⊥) → NotWritten l p m n o k f m
not_there l p m n o k c f ec (e, out) =
    let no : Inside m n o k → ⊥ = λ i. out (omega (arith, i.0), i.1) in
    record {
      at = (ap (λ (g : Fault). g.id) e, ap (λ (g : Fault). g.offset) e);
      present = λ inside. absurd (no inside);
      free = λ inside. absurd (no inside);
      absent = λ _. (e, refl);
    }

pub not_given : (l : Layer) (p : Fault → Type 0) (m : Meaning) (n : ℕ) (s : Span) (c : ℕ) (f : Fault) → s ≡ all_of n → c ≡ length m.records
    → (f ≡ missing l s.id s.offset) × ((s.id < c) × (s.offset + s.len ≤ 128) → ⊥) → NotGiven l p m n f
not_given l p m n s c f es ec (e, out) =
    let ei : s.id ≡ n = ap (λ (x : Span). x.id) es in
    let eo : s.offset ≡ 0 = ap (λ (x : Span). x.offset) es in
    let el : s.len ≡ 128 = ap (λ (x : Span). x.len) es in
    let em : f ≡ missing l n 0 = e ∙ ap (λ (x : Span). missing l x.id x.offset) es in
    record {
      at = (ap (λ (g : Fault). g.id) em, ap (λ (g : Fault). g.offset) em);
      present = λ h. absurd (out (omega arith, omega arith));
      absent = λ _. em;
    }
