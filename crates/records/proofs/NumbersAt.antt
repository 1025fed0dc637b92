-- The number that stands at an offset, byte by byte.
use Rattle.std.proofs.Common.{◌≡◌, ℕ, suc, ◌+◌, ◌*◌, ◌<◌, ◌≤◌, List, length, get_or, take, refl, ap, ◌∙◌, arith}
use Rattle.std.proofs.lemmas.List.{at_drop_more}
use Rattle.records.specs.Bytes.{number, part, u16_at, u32_at, u64_at}

-- the first byte, and the rest from the next offset on
pub number_more : (bs : List ℕ) (at j n : ℕ) → at < length bs → at + 1 ≡ j → number (part at (suc n) bs) ≡ get_or bs at 0 + number (part j n bs) * 256
number_more bs at j n h e =
    at_drop_more (λ l. number (take (suc n) l)) bs at 0 h ∙ ap (λ k. get_or bs at 0 + number (part k n bs) * 256) e

pub u16_at_bytes : (bs : List ℕ) (at : ℕ) → at + 2 ≤ length bs → get_or bs at 0 + get_or bs (at + 1) 0 * 256 ≡ u16_at bs at
u16_at_bytes bs at h =
    let a = number_more bs at (at + 1) 1 (omega arith) refl in
    let b = number_more bs (at + 1) (at + 2) 0 (omega arith) (omega arith) in
    omega arith

pub u32_at_bytes : (bs : List ℕ) (at : ℕ) → at + 4 ≤ length bs → get_or bs at 0 + get_or bs (at + 1) 0 * 256 + get_or bs (at + 2) 0 * 65536 + get_or bs (at + 3) 0 * 16777216 ≡ u32_at bs at
u32_at_bytes bs at h =
    let a = number_more bs at (at + 1) 3 (omega arith) refl in
    let b = number_more bs (at + 1) (at + 2) 2 (omega arith) (omega arith) in
    let c = number_more bs (at + 2) (at + 3) 1 (omega arith) (omega arith) in
    let d = number_more bs (at + 3) (at + 4) 0 (omega arith) (omega arith) in
    omega arith

pub u64_at_bytes : (bs : List ℕ) (at : ℕ) → at + 8 ≤ length bs →
    get_or bs at 0 + get_or bs (at + 1) 0 * 256 + get_or bs (at + 2) 0 * 65536 + get_or bs (at + 3) 0 * 16777216 + get_or bs (at + 4) 0 * 4294967296 + get_or bs (at + 5) 0 * 1099511627776 + get_or bs (at + 6) 0 * 281474976710656 + get_or bs (at + 7) 0 * 72057594037927936 ≡ u64_at bs at
u64_at_bytes bs at h =
    let a = number_more bs at (at + 1) 7 (omega arith) refl in
    let b = number_more bs (at + 1) (at + 2) 6 (omega arith) (omega arith) in
    let c = number_more bs (at + 2) (at + 3) 5 (omega arith) (omega arith) in
    let d = number_more bs (at + 3) (at + 4) 4 (omega arith) (omega arith) in
    let e = number_more bs (at + 4) (at + 5) 3 (omega arith) (omega arith) in
    let f = number_more bs (at + 5) (at + 6) 2 (omega arith) (omega arith) in
    let g = number_more bs (at + 6) (at + 7) 1 (omega arith) (omega arith) in
    let i = number_more bs (at + 7) (at + 8) 0 (omega arith) (omega arith) in
    omega arith
