-- Comparing bytes from the first to the last, one or some at a time, and in two parts. Assumes nothing.
use mathlib.Core.Path.{◌≡◌, refl, ap, sym, ◌∙◌}
use mathlib.Core.List.{[], ◌∷◌, ◌++◌}
use mathlib.Core.Bool.{Bool, true, false, ◌&&◌, and_assoc}
use Prim.Native.Nat.{ℕ, suc, ◌+◌, ◌-◌, ◌*◌, ◌<◌, ◌≤◌}
use native.Mathlib.Omega.{arith}
use native.Mathlib.Numerals.{add-one}
use lib.ListN.{length, take, drop, get_or, length-drop, drop_of_length-le, take-append-drop}
use lib.Seq.{length-take-le, take_all, drop-cons, drop-drop}
use lib.Dec.{eqb}
use borrow.Author.Tests.{eqb-true, eqb-false, eq-eqb, ne_eqb}
use Rattle.wire.specs.Numbers.{Bytes, num, same_bytes}
use Rattle.wire.proofs.Numbers.{num-same, take-bytes, drop-bytes, are-bytes, num-front, same_bytes-self, same_bytes-true}

pub other_length : (a b : Bytes) → (length a ≡ length b → ⊥) → false ≡ same_bytes a b
unfolding same_bytes
other_length [] [] h = absurd (h refl)
other_length [] (y ∷ b) h = refl
other_length (x ∷ a) [] h = refl
other_length (x ∷ a) (y ∷ b) h = rw (← other_length a b (λ e. h (ap suc e))) (never (eqb x y))
  where
    never : (t : Bool) → false ≡ t && false
    never true = refl
    never false = refl

-- the same is what is the same in both parts
pub same-parts : (s h t : Bytes) → length h ≤ length s → same_bytes (take (length h) s) h && same_bytes (drop (length h) s) t ≡ same_bytes s (h ++ t)
unfolding same_bytes
same-parts s [] t l = refl
same-parts [] (y ∷ h) t l = absurd (omega arith)
same-parts (x ∷ s) (y ∷ h) t l =
    and_assoc (eqb x y) (same_bytes (take (length h) s) h) (same_bytes (drop (length h) s) t)
    ∙ ap (λ (b : Bool). eqb x y && b) (same-parts s h t (omega arith))

-- k bytes at a place
abbrev Some : ℕ → Bytes → ℕ → Bytes
Some k s at = take k (drop at s)

next-byte : (s : Bytes) (i j k : ℕ) → j ≡ i + 1 → i < length s → num (take (suc k) (drop i s)) ≡ get_or s i 0 + 256 * num (take k (drop j s))
next-byte s i j k e h = let n = num-front s i k h in rw (e, add-one i) (omega arith)

-- four bytes more in front
next-four : (s : Bytes) (at b c d e k : ℕ) → b ≡ at + 1 → c ≡ at + 2 → d ≡ at + 3 → e ≡ at + 4 → at + 4 ≤ length s
    → num (take (suc (suc (suc (suc k)))) (drop at s))
    ≡ get_or s at 0 + 256 * get_or s b 0 + 65536 * get_or s c 0 + 16777216 * get_or s d 0 + 4294967296 * num (take k (drop e s))
next-four s at b c d e k p q r t l =
    let w = next-byte s at b (suc (suc (suc k))) p (omega arith) in
    let x = next-byte s b c (suc (suc k)) (omega arith) (omega arith) in
    let y = next-byte s c d (suc k) (omega arith) (omega arith) in
    let z = next-byte s d e k (omega arith) (omega arith) in
    omega arith

-- four bytes and eight as `from_le_bytes` adds them up
pub four_is : (s : Bytes) (at : ℕ) → at + 4 ≤ length s
    → num (take 4 (drop at s)) ≡ get_or s at 0 + get_or s (at + 1) 0 * 256 + get_or s (at + 2) 0 * 65536 + get_or s (at + 3) 0 * 16777216
unfolding num
four_is s at l = let f = next-four s at (at + 1) (at + 2) (at + 3) (at + 4) 0 refl refl refl refl l in omega arith

pub eight_is : (s : Bytes) (at : ℕ) → at + 8 ≤ length s
    → num (Some 8 s at) ≡ get_or s at 0 + get_or s (at + 1) 0 * 256 + get_or s (at + 2) 0 * 65536 + get_or s (at + 3) 0 * 16777216
    + get_or s (at + 4) 0 * 4294967296 + get_or s (at + 5) 0 * 1099511627776 + get_or s (at + 6) 0 * 281474976710656 + get_or s (at + 7) 0 * 72057594037927936
unfolding num
eight_is s at l =
    let f = next-four s at (at + 1) (at + 2) (at + 3) (at + 4) 4 refl refl refl refl (omega arith) in
    let g = next-four s (at + 4) (at + 5) (at + 6) (at + 7) (at + 8) 0 (omega arith) (omega arith) (omega arith) (omega arith) (omega arith) in
    omega arith

some-long : (k : ℕ) (s : Bytes) (at : ℕ) → at + k ≤ length s → length (Some k s at) ≡ k
some-long k s at h = let d = length-drop at s in length-take-le k (drop at s) (omega arith)

-- bytes of which some at a place hold different numbers are not the same
pub not_some : (k : ℕ) (a b : Bytes) (at m n : ℕ) → m ≡ num (Some k a at) → n ≡ num (Some k b at) → (m ≡ n → ⊥) → false ≡ same_bytes a b
not_some k a b at m n p q d = go (same_bytes a b) refl
  where
    go : (x : Bool) → same_bytes a b ≡ x → false ≡ x
    go true e = absurd (d (p ∙ ap (λ (s : Bytes). num (Some k s at)) (same_bytes-true a b e) ∙ sym q))
    go false e = refl

-- the first i bytes are the same
pub record Alike (a b : Bytes) (i : ℕ) : Type 0 where
  pub long : length a ≡ length b
  pub inside : i ≤ length a
  pub rest : same_bytes a b ≡ same_bytes (drop i a) (drop i b)

pub alike-none : (a b : Bytes) → length a ≡ length b → Alike a b 0
alike-none a b h = record { long = h; inside = omega arith; rest = refl }

module _ (a b : Bytes) (i : ℕ) (l : Alike a b i) where
  pub alike_all : length a ≤ i → true ≡ same_bytes a b
  unfolding same_bytes
  alike_all h = let k = l.long in sym (l.rest ∙ rw (drop_of_length-le a {i = i} h, drop_of_length-le b {i = i} (omega arith)))

  pub alike-not : i < length a → (get_or a i 0 ≡ get_or b i 0 → ⊥) → false ≡ same_bytes a b
  unfolding same_bytes
  alike-not h n = let k = l.long in sym (l.rest ∙ rw (drop-cons a i 0 h, drop-cons b i 0 (omega arith), ne_eqb (get_or a i 0) (get_or b i 0) n))

  pub alike_next : i < length a → get_or a i 0 ≡ get_or b i 0 → Alike a b (i + 1)
  unfolding same_bytes
  alike_next h e =
      let k = l.long in
      record {
        long = l.long;
        inside = omega arith;
        rest = l.rest ∙ rw (add-one i, drop-cons a i 0 h, drop-cons b i 0 (omega arith), eq-eqb (get_or a i 0) (get_or b i 0) e);
      }

  module _ (k : ℕ) (ka : (j : ℕ) → get_or a j 0 < 256) (kb : (j : ℕ) → get_or b j 0 < 256) (m n : ℕ) where
    -- as many bytes that hold the same number are the same
    some_same : (at : ℕ) → at + k ≤ length a → m ≡ num (Some k a at) → n ≡ num (Some k b at) → m ≡ n → Some k a at ≡ Some k b at
    some_same at h p q e =
        let g = l.long in
        num-same (Some k a at) (Some k b at) (take-bytes k (drop at a) (drop-bytes at a (are-bytes a ka)))
        (take-bytes k (drop at b) (drop-bytes at b (are-bytes b kb))) (some-long k a at h ∙ sym (some-long k b at (omega arith))) (sym p ∙ e ∙ q)

    pub alike-some : i + k ≤ length a → m ≡ num (Some k a i) → n ≡ num (Some k b i) → m ≡ n → Alike a b (i + k)
    alike-some h p q e =
        let g = l.long in
        let d = length-drop i a in
        let w = some-long k b i (omega arith) in
        let split = rw w at (same-parts (drop i a) (Some k b i) (drop k (drop i b)) (omega arith)) in
        record {
          long = l.long;
          inside = omega arith;
          rest =
              l.rest
              ∙ sym (rw (take-append-drop k (drop i b), some_same i h p q e, same_bytes-self (Some k b i), drop-drop k i a, drop-drop k i b) at split);
        }

    -- the last k bytes decide where all before them are the same
    pub alike-last : (at : ℕ) → at ≤ i → length a ≡ at + k → m ≡ num (Some k a at) → n ≡ num (Some k b at) → eqb m n ≡ same_bytes a b
    alike-last at h len p q = go (eqb m n) refl
      where
        tail : (s : Bytes) → length s ≡ at + k → Some k s at ≡ drop at s
        tail s g = let d = length-drop at s in take_all k (drop at s) (omega arith)

        go : (x : Bool) → eqb m n ≡ x → x ≡ same_bytes a b
        go false t = not_some k a b at m n p q (eqb-false m n t)
        go true t =
            let f = l.long in
            let e : drop at a ≡ drop at b = sym (tail a len) ∙ some_same at (omega arith) p q (eqb-true m n t) ∙ tail b (omega arith) in
            let z : at + (i - at) ≡ i = omega arith in
            let u : drop i a ≡ drop i b = sym (rw z at (drop-drop (i - at) at a)) ∙ ap (drop (i - at)) e ∙ rw z at (drop-drop (i - at) at b) in
            sym (l.rest ∙ rw u (same_bytes-self (drop i b)))
