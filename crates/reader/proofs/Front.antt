-- The laws of the numbers at the front of a slice: a record's length and kind, also where the slice ends within them. Assumes nothing.
use mathlib.Core.Path.{◌≡◌, ap, sym, ◌∙◌}
use mathlib.Core.List.{[], ◌∷◌}
use native.Mathlib.Nat.{pow-le-pow_right, zero-lt-suc}
use Prim.Native.Nat.{ℕ, ◌+◌, ◌-◌, ◌*◌, ◌^◌, ◌<◌, ◌≤◌}
use native.Mathlib.Omega.{arith}
use lib.ListN.{length, take, drop, get_or, length-take}
use lib.Seq.{take_all}
use Rattle.wire.specs.Numbers.{Bytes, AreBytes, num}
use Rattle.wire.proofs.Numbers.{num-front, num-below, are-bytes, take-bytes, drop-bytes}
use Rattle.wire.proofs.Slices.{tail-is}
use Rattle.records.specs.Record.{length_of, kind_of}

-- the number in so few bytes
number-small : (s : Bytes) (w : ℕ) → AreBytes s → length s ≤ w → num s < 256 ^ w
number-small s w h l =
    let b = num-below s h in
    let p : 256 ^ length s ≤ 256 ^ w = pow-le-pow_right (zero-lt-suc 255) l in
    omega arith

pub number-more : (s : Bytes) (m n : ℕ) → ((i : ℕ) → get_or s i 0 < 256) → 1 ≤ length s → length s ≤ 4 → m ≡ get_or s 0 0
    → n ≡ num (take (length s - 1) (drop 1 s)) → (m + 256 * n ≡ num s) × (m + 256 * n < 2 ^ 32)
unfolding num
number-more [] m n h l k e f = absurd (omega arith)
number-more (b ∷ s) m n h l k e f =
    let z = number-small (b ∷ s) 4 (are-bytes (b ∷ s) h) k in
    let g : n ≡ num s = f ∙ ap num (tail-is (b ∷ s) 1) in
    (omega arith, omega arith)

-- the length and the kind in bytes that are not all there
pub length-few : (s : Bytes) (n : ℕ) → ((i : ℕ) → get_or s i 0 < 256) → length s < 4 → n ≡ num s → (n ≡ length_of s) × (n < 2 ^ 32)
length-few s n h l e = let z = number-small s 4 (are-bytes s h) (omega arith) in (e ∙ ap num (sym (take_all 4 s (omega arith))), omega arith)

pub kind-few : (s p : Bytes) (n : ℕ) → ((i : ℕ) → get_or s i 0 < 256) → p ≡ take 2 (drop 4 s) → n ≡ num p → (n ≡ kind_of s) × (n < 65536)
kind-few s p n h e f =
    let l = length-take 2 (drop 4 s) in
    let z = number-small (take 2 (drop 4 s)) 2 (take-bytes 2 (drop 4 s) (drop-bytes 4 s (are-bytes s h))) (omega arith) in
    let g : n ≡ kind_of s = f ∙ ap num e in
    (g, omega arith)

-- a kind that is there
pub kind-is : (s : Bytes) (n : ℕ) → 6 ≤ length s → n ≡ get_or s 4 0 + get_or s 5 0 * 256 → n ≡ kind_of s
unfolding num
kind-is s n h e =
    let x = num-front s 4 1 (omega arith) in
    let y = num-front s 5 0 (omega arith) in
    omega arith
