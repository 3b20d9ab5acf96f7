-- THE LAWS OF LAYING: one piece behind another, or ahead of it afterwards, a part of the buffer lent on. Assumes nothing.
use mathlib.Core.Path.{◌≡◌, refl, sym, ap, ◌∙◌}
use mathlib.Core.List.{[], ◌∷◌, ◌++◌, append-nil}
use Prim.Native.Nat.{ℕ, zero, suc, ◌+◌, ◌<◌, ◌≤◌, ◌-◌, min}
use native.Mathlib.Nat.{zero-add, suc-add, sub-zero, suc-sub-suc, le_of_suc-le-suc, not-suc-le-zero}
use native.Mathlib.Numerals.{add-one}
use native.Mathlib.Omega.{arith, min_cases}
use lib.ListN.{length, set, take, drop, replicate, length-append, length-drop, length-set, length-replicate}
use lib.Seq.{drop-length, sets, length-take-le}
use borrow.Rule.Slice.PartMut.{put_mid}
use Rattle.std.proofs.lemmas.List.{take-replicate}
use Rattle.wire.specs.Numbers.{Bytes}
use Rattle.laying.specs.Lays.{lay, Laid}

pub lay-nil : (out : Bytes) (at : ℕ) → lay out at [] ≡ out
unfolding lay
lay-nil [] at = refl
lay-nil (x ∷ out) zero = refl
lay-nil (x ∷ out) (suc at) = ap (λ (l : Bytes). x ∷ l) (lay-nil out at)

pub lay-length : (out : Bytes) (at : ℕ) (b : Bytes) → length (lay out at b) ≡ length out
unfolding lay
lay-length [] at b = refl
lay-length (x ∷ out) zero [] = refl
lay-length (x ∷ out) zero (y ∷ b) = ap suc (lay-length out zero b)
lay-length (x ∷ out) (suc at) b = ap suc (lay-length out at b)

-- a, then b behind it
pub lay-behind : (out : Bytes) (at : ℕ) (a b : Bytes) → lay (lay out at a) (at + length a) b ≡ lay out at (a ++ b)
unfolding lay
lay-behind [] at a b = refl
lay-behind (x ∷ out) zero [] b = refl
lay-behind (x ∷ out) zero (y ∷ a) b = rw (zero-add (suc (length a))) (ap (λ (l : Bytes). y ∷ l) (rw (← zero-add (length a)) (lay-behind out zero a b)))
lay-behind (x ∷ out) (suc at) a b = rw (suc-add at (length a)) (ap (λ (l : Bytes). x ∷ l) (lay-behind out at a b))

-- b, then a ahead of it
pub lay-ahead : (out : Bytes) (at : ℕ) (a b : Bytes) → lay (lay out (at + length a) b) at a ≡ lay out at (a ++ b)
unfolding lay
lay-ahead [] at a b = refl
lay-ahead (x ∷ out) zero [] b = lay-nil (lay (x ∷ out) zero b) zero
lay-ahead (x ∷ out) zero (y ∷ a) b = rw (zero-add (suc (length a))) (ap (λ (l : Bytes). y ∷ l) (rw (← zero-add (length a)) (lay-ahead out zero a b)))
lay-ahead (x ∷ out) (suc at) a b = rw (suc-add at (length a)) (ap (λ (l : Bytes). x ∷ l) (lay-ahead out at a b))

-- nothing reaches past the end
pub lay-past : (out : Bytes) (at : ℕ) (b : Bytes) → length out ≤ at → lay out at b ≡ out
unfolding lay
lay-past [] at b h = refl
lay-past (x ∷ out) zero b h = absurd (not-suc-le-zero h)
lay-past (x ∷ out) (suc at) b h = ap (λ (l : Bytes). x ∷ l) (lay-past out at b (le_of_suc-le-suc h))

pub lay-set : (out : Bytes) (at v : ℕ) → at < length out → set out at v ≡ lay out at (v ∷ [])
unfolding lay
lay-set [] at v h = absurd (not-suc-le-zero h)
lay-set (x ∷ out) zero v h = ap (λ (l : Bytes). v ∷ l) (sym (lay-nil out zero))
lay-set (x ∷ out) (suc at) v h = ap (λ (l : Bytes). x ∷ l) (lay-set out at v (le_of_suc-le-suc h))

-- bytes stored one after the other, where they have room
pub lay-sets : (out : Bytes) (at : ℕ) (b : Bytes) → at + length b ≤ length out → sets out at b ≡ lay out at b
lay-sets out at [] h = sym (lay-nil out at)
lay-sets out at (v ∷ b) h =
    lay-sets (set out at v) (suc at) b (simp length-set (omega arith))
    ∙ rw (lay-set out at v (omega arith), ← add-one at) (lay-behind out at (v ∷ []) b)

-- laying over the part from a place on is laying over the whole from there on
part-inside : (out : Bytes) (at : ℕ) (b : Bytes) → at ≤ length out → take at out ++ lay (drop at out) 0 b ≡ lay out at b
unfolding lay
part-inside out zero b h = refl
part-inside [] (suc at) b h = absurd (not-suc-le-zero h)
part-inside (x ∷ out) (suc at) b h = ap (λ (l : Bytes). x ∷ l) (part-inside out at b (le_of_suc-le-suc h))

-- a part that is lent from a place on, or an empty one where that is past the end, comes back with b laid over it
pub lay-part : (out : Bytes) (at q : ℕ) (b : Bytes) → q ≡ min at (length out)
    → take q out ++ (lay (drop q out) 0 b ++ drop (length out - q) (drop q out)) ≡ lay out at b
lay-part out at q b e =
    rw (ap (λ (n : ℕ). drop n (drop q out)) (sym (length-drop q out)) ∙ drop-length (drop q out), append-nil (lay (drop q out) 0 b))
    (min_cases at (length out) (take q out ++ lay (drop q out) 0 b ≡ lay out at b)
    (λ h f. rw (e ∙ f) (part-inside out at b h))
    (λ h f. part-inside out q b (omega (arith, e, f)) ∙ lay-past out q b (omega (arith, e, f)) ∙ sym (lay-past out at b h)))

-- what has room is laid whole, and what follows it is left
pub lay-whole : (out b : Bytes) → length b ≤ length out → lay out 0 b ≡ b ++ drop (length b) out
unfolding lay
lay-whole [] [] h = refl
lay-whole [] (y ∷ b) h = absurd (not-suc-le-zero h)
lay-whole (x ∷ out) [] h = refl
lay-whole (x ∷ out) (y ∷ b) h = ap (λ (l : Bytes). y ∷ l) (lay-whole out b (le_of_suc-le-suc h))

-- what is written over a part of the buffer is laid there
pub part-length : (out : Bytes) (at n : ℕ) → at + n ≤ length out → length (take (at + n - at) (drop at out)) ≡ n
part-length out at n h = let d = length-drop at out in length-take-le (at + n - at) (drop at out) (omega arith) ∙ (let e : at + n - at ≡ n = omega arith in e)

pub lay-mid : (out : Bytes) (at n : ℕ) (b : Bytes) → at + n ≤ length out → length b ≡ length (take (at + n - at) (drop at out))
    → put_mid at (at + n - at) out b ≡ lay out at b
lay-mid out at n b h l =
    let d = length-drop at out in
    let p = part-length out at n h in
    let e : at + n - at ≡ length b = omega arith in
    ap (λ (k : ℕ). take at out ++ (b ++ drop k (drop at out))) e
    ∙ ap (λ (t : Bytes). take at out ++ t) (sym (lay-whole (drop at out) b (omega arith)))
    ∙ part-inside out at b (omega arith)

-- what reaches past the end may be left out
pub lay-cut : (out : Bytes) (at : ℕ) (b : Bytes) → lay out at (take (length out - at) b) ≡ lay out at b
unfolding lay
lay-cut [] at b = refl
lay-cut (x ∷ out) zero [] = rw (sub-zero (suc (length out))) refl
lay-cut (x ∷ out) zero (y ∷ b) = rw (sub-zero (suc (length out))) (ap (λ (l : Bytes). y ∷ l) (rw (← sub-zero (length out)) (lay-cut out zero b)))
lay-cut (x ∷ out) (suc at) b = rw (suc-sub-suc (length out) at) (ap (λ (l : Bytes). x ∷ l) (lay-cut out at b))

-- so many zeros, as far as the buffer reaches
pub lay-fill : (out : Bytes) (at n m : ℕ) → m ≡ min n (length out - at) → lay out at (replicate m 0) ≡ lay out at (replicate n 0)
lay-fill out at n m e =
    min_cases n (length out - at) (lay out at (replicate m 0) ≡ lay out at (replicate n 0))
    (λ h f. ap (λ (k : ℕ). lay out at (replicate k 0)) (e ∙ f))
    (λ h f. ap (lay out at) (ap (λ (k : ℕ). replicate k 0) (e ∙ f) ∙ sym (take-replicate (length out - at) n 0 h)) ∙ lay-cut out at (replicate n 0))

pub laid_none : (out : Bytes) (at : ℕ) → Laid out at [] at out
laid_none out at = record { ends = omega arith; bytes = sym (lay-nil out at) }

-- one piece behind another
pub laid_then : (out : Bytes) (at : ℕ) (a : Bytes) (p : ℕ) (o₁ : Bytes) (b : Bytes) (e : ℕ) (o₂ : Bytes)
    → Laid out at a p o₁ → Laid o₁ p b e o₂ → Laid out at (a ++ b) e o₂
laid_then out at a p o₁ b e o₂ x y = record {
  ends = rw (length-append a b) (omega (arith, x.ends, y.ends));
  bytes = y.bytes ∙ rw (x.bytes, x.ends) (lay-behind out at a b);
}

-- so many zeros behind a piece
pub laid-zeros : (out : Bytes) (at : ℕ) (a : Bytes) (p : ℕ) (o₁ : Bytes) (n : ℕ) (o₂ : Bytes)
    → Laid out at a p o₁ → o₂ ≡ lay o₁ p (replicate n 0) → Laid out at (a ++ replicate n 0) (p + n) o₂
laid-zeros out at a p o₁ n o₂ x e =
    laid_then out at a p o₁ (replicate n 0) (p + n) o₂ x (record { ends = ap (λ (m : ℕ). p + m) (sym (length-replicate n 0)); bytes = e })
