-- The laws of numbers in bytes. Assumes nothing.
use mathlib.Core.Path.{◌≡◌, refl, ap, ap₂, sym, ◌∙◌}
use mathlib.Core.List.{[], ◌∷◌, ◌++◌}
use mathlib.Core.Bool.{Bool, true, false, ◌&&◌}
use Prim.Native.Nat.{ℕ, zero, suc, ◌+◌, ◌*◌, ◌/◌, ◌%◌, ◌^◌, ◌<◌, ◌≤◌}
use native.Mathlib.Nat.{pow-suc, div-lt_iff_lt-mul, mod-lt, zero-lt-suc}
use native.Mathlib.Omega.{arith}
use lib.ListN.{length, take, drop, get_or, drop_of_length-le}
use lib.Seq.{take_at, drop_at, take-nil, drop-cons}
use lib.Dec.{eqb}
use borrow.Author.Tests.{eqb-true, eq-eqb}
use Rattle.wire.specs.Numbers.{Bytes, AreBytes, le, num, same_bytes}

-- a number in w bytes is w bytes long
pub le-length : (w n : ℕ) → length (le w n) ≡ w
unfolding le
le-length zero n = refl
le-length (suc w) n = ap suc (le-length w (n / 256))

low : (b m : ℕ) → b < 256 → (b + 256 * m) % 256 ≡ b
low b m h = omega arith

high : (b m : ℕ) → b < 256 → (b + 256 * m) / 256 ≡ m
high b m h = omega arith

-- bytes are the number that they hold, written in as many bytes
pub le-num : (s : Bytes) → AreBytes s → le (length s) (num s) ≡ s
unfolding le num AreBytes
le-num [] h = refl
le-num (b ∷ s) h = rw (low b (num s) h.0, high b (num s) h.0, le-num s h.1)

-- as many bytes that hold the same number are the same
pub num-same : (s t : Bytes) → AreBytes s → AreBytes t → length s ≡ length t → num s ≡ num t → s ≡ t
num-same s t h g l e = sym (le-num s h) ∙ ap₂ le l e ∙ le-num t g

-- a number that fits in w bytes is read again from them
pub num-le : (w n : ℕ) → n < 256 ^ w → num (le w n) ≡ n
unfolding le num
num-le zero n h = omega arith
num-le (suc w) n h = rw (num-le w (n / 256) ((div-lt_iff_lt-mul (zero-lt-suc 255)).1 (rw (pow-suc 256 w) at h))) (omega arith)

-- the number that bytes hold fits in as many bytes
pub num-below : (s : Bytes) → AreBytes s → num s < 256 ^ length s
unfolding num AreBytes
num-below [] h = omega arith
num-below (b ∷ s) h = let i = num-below s h.1 in let c = h.0 in rw (pow-suc 256 (length s)) (omega arith)

-- what is written is bytes
pub le_bytes : (w n : ℕ) → AreBytes (le w n)
unfolding le AreBytes
le_bytes zero n = tt
le_bytes (suc w) n = (mod-lt n (zero-lt-suc 255), le_bytes w (n / 256))

-- the first n of bytes are bytes
pub take-bytes : (n : ℕ) (s : Bytes) → AreBytes s → AreBytes (take n s)
unfolding AreBytes
take-bytes zero s h = tt
take-bytes (suc n) [] h = tt
take-bytes (suc n) (b ∷ s) h = (h.0, take-bytes n s h.1)

-- what follows the first n of bytes is bytes
pub drop-bytes : (n : ℕ) (s : Bytes) → AreBytes s → AreBytes (drop n s)
unfolding AreBytes
drop-bytes zero s h = h
drop-bytes (suc n) [] h = tt
drop-bytes (suc n) (b ∷ s) h = drop-bytes n s h.1

-- bytes and then bytes are bytes
pub append-bytes : (s t : Bytes) → AreBytes s → AreBytes t → AreBytes (s ++ t)
unfolding AreBytes
append-bytes [] t h g = g
append-bytes (b ∷ s) t h g = (h.0, append-bytes s t h.1 g)

-- the first w bytes of a number in w bytes and then others are the number's
pub take-le : (w n : ℕ) (t : Bytes) → take w (le w n ++ t) ≡ le w n
take-le w n t = take_at (le w n) t w (le-length w n)

-- what follows a number in w bytes
pub drop_le : (w n : ℕ) (t : Bytes) → drop w (le w n ++ t) ≡ t
drop_le w n t = drop_at (le w n) t w (le-length w n)

-- two bytes that are the same test so
pub same_bytes-self : (s : Bytes) → same_bytes s s ≡ true
unfolding same_bytes
same_bytes-self [] = refl
same_bytes-self (b ∷ s) = rw (eq-eqb b b refl) (same_bytes-self s)

-- two bytes that test the same are the same
pub same_bytes-true : (s t : Bytes) → same_bytes s t ≡ true → s ≡ t
unfolding same_bytes
same_bytes-true [] [] h = refl
same_bytes-true [] (b ∷ t) h = cc
same_bytes-true (a ∷ s) [] h = cc
same_bytes-true (a ∷ s) (b ∷ t) h = go (eqb a b) refl (same_bytes-true s t) h
  where
    go : (x : Bool) → eqb a b ≡ x → (same_bytes s t ≡ true → s ≡ t) → (x && same_bytes s t) ≡ true → a ∷ s ≡ b ∷ t
    go true e f g = let p : a ≡ b = eqb-true a b e in let q : s ≡ t = f g in cc
    go false e f g = cc

-- one byte more in front, and nothing past the end
pub num-front : (s : Bytes) (at k : ℕ) → at < length s → num (take (suc k) (drop at s)) ≡ num (take k (drop (suc at) s)) * 256 + get_or s at 0
unfolding num
num-front s at k h = rw (drop-cons s at 0) (omega arith)

pub num-past : (s : Bytes) (at k : ℕ) → length s ≤ at → num (take k (drop at s)) ≡ 0
unfolding num
num-past s at k h = rw (drop_of_length-le s {i = at} h, take-nil k)

-- what has a byte at every place is bytes
pub are-bytes : (s : Bytes) → ((i : ℕ) → get_or s i 0 < 256) → AreBytes s
unfolding AreBytes
are-bytes [] h = tt
are-bytes (b ∷ s) h = (h 0, are-bytes s (λ i. h (suc i)))
