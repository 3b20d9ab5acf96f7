-- Parts of a slice as code takes them: from a place to its end, and as far as it reaches. Assumes nothing.
use mathlib.Core.Path.{◌≡◌, ap, ◌∙◌}
use Prim.Native.Nat.{ℕ, ◌+◌, ◌-◌}
use native.Mathlib.Omega.{arith}
use lib.ListN.{length, take, drop, length-drop}
use lib.Seq.{take_all}
use Rattle.wire.specs.Numbers.{Bytes}

pub tail-is : (s : Bytes) (i : ℕ) → take (length s - i) (drop i s) ≡ drop i s
tail-is s i = let d : length (drop i s) ≡ length s - i = length-drop i s in take_all (length s - i) (drop i s) (omega arith)

pub tail-length : (s : Bytes) (i : ℕ) → length (take (length s - i) (drop i s)) ≡ length s - i
tail-length s i = ap length (tail-is s i) ∙ length-drop i s

-- a part that is as long as is asked
pub part-whole : (s : Bytes) (from len : ℕ) → take (from + len - from) (drop from s) ≡ take len (drop from s)
part-whole s from len = let e : from + len - from ≡ len = omega arith in ap (λ (n : ℕ). take n (drop from s)) e

-- the part of bytes from a place to their end
pub tail-part : (s p : Bytes) (o : ℕ) → p ≡ take (length s) (drop o s) → p ≡ drop o s
tail-part s p o e =
    let d : length (drop o s) ≡ length s - o = length-drop o s in
    e ∙ take_all (length s) (drop o s) (omega arith)
