-- The hash, byte by byte and four bytes at once. Assumes nothing.
use mathlib.Core.Path.{◌≡◌, sym, ap, ◌∙◌}
use Prim.Native.Nat.{ℕ, suc, ◌+◌, ◌-◌, ◌*◌, ◌/◌, ◌<◌, ◌≤◌}
use native.Mathlib.Omega.{arith}
use native.Mathlib.Numerals.{add-one}
use lib.ListN.{length, take, drop, get_or, drop_of_length-le}
use lib.Seq.{drop-cons}
use borrow.Author.Tests.{lt-ltb, le-ltb}
use Rattle.wire.specs.Numbers.{Bytes, num}
use Rattle.operation.specs.declared.Shortening.{Shortening}
use Rattle.comparing.specs.Compares.{mixed, hash_few, hash_fours, hash_bytes, number_of}

module _ (s : Bytes) (h₀ h i : ℕ) (f : h₀ ≡ hash_few h (drop i s)) where
  pub few-next : i < length s → (b : ℕ) → b ≡ get_or s i 0 → h₀ ≡ hash_few (mixed h b) (drop (i + 1) s)
  unfolding hash_few
  few-next l b e = f ∙ rw (e, add-one i, drop-cons s i 0 l)

  pub few-none : length s ≤ i → h ≡ h₀
  unfolding hash_few
  few-none l = sym (f ∙ ap (hash_few h) (drop_of_length-le s {i = i} l))

pub hash-few : (s : Bytes) (r : ℕ) → length s < 4 → r ≡ hash_few 0 s → r ≡ hash_bytes s
unfolding hash_bytes
hash-few s r l e = e ∙ rw (lt-ltb (length s) 4 l)

-- by fours: i turns are done
abbrev pub Turned : Bytes → ℕ → ℕ → ℕ
Turned s i h = hash_fours s ((length s - 1) / 4 - i) (4 * i) h

pub hash-start : (s : Bytes) → 4 ≤ length s → hash_bytes s ≡ Turned s 0 0
unfolding hash_bytes
hash-start s l = rw (le-ltb (length s) 4 l) (ap (λ (n : ℕ). hash_fours s n 0 0) (let e : (length s - 1) / 4 ≡ (length s - 1) / 4 - 0 = omega arith in e))

module _ (s : Bytes) (h₀ h i x : ℕ) (f : h₀ ≡ Turned s i h) where
  pub hash-next : i < (length s - 1) / 4 → x ≡ num (take 4 (drop (4 * i) s)) → h₀ ≡ Turned s (i + 1) (mixed h x)
  unfolding hash_fours
  hash-next l e =
      let k : (length s - 1) / 4 - i ≡ suc ((length s - 1) / 4 - (i + 1)) = omega arith in
      let j : 4 * (i + 1) ≡ 4 * i + 4 = omega arith in
      rw (e, j) (f ∙ ap (λ (n : ℕ). hash_fours s n (4 * i) h) k)

  pub hash-last : (length s - 1) / 4 ≤ i → x ≡ num (take 4 (drop (length s - 4) s)) → mixed h x ≡ h₀
  unfolding hash_fours
  hash-last l e = sym (f ∙ ap (λ (n : ℕ). hash_fours s n (4 * i) h) (let k : (length s - 1) / 4 - i ≡ 0 = omega arith in k) ∙ rw e)

-- a number fits a half word
pub number_small : (op : Shortening) (s : Bytes) → number_of op s < 65536
unfolding number_of
number_small op s = omega arith
