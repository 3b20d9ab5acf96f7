-- The loop that lays bytes one by one, as far as the buffer reaches. Assumes nothing.
use mathlib.Core.Path.{◌≡◌, refl, sym, ap, ◌∙◌}
use mathlib.Core.List.{[], ◌∷◌}
use Prim.Native.Nat.{ℕ, zero, suc, ◌+◌, ◌-◌, ◌<◌, ◌≤◌, min}
use native.Mathlib.Nat.{le_of_lt, le_of_suc-le-suc}
use native.Mathlib.Numerals.{add-one}
use native.Mathlib.Omega.{arith, min_cases}
use lib.ListN.{length, set, take, drop, get_or, length-drop}
use lib.Seq.{take-suc, take_all, take-add, length-take-le}
use Rattle.wire.specs.Numbers.{Bytes}
use Rattle.laying.specs.Lays.{lay}
use Rattle.laying.proofs.Laws.{lay-nil, lay-length, lay-behind, lay-set, lay-cut}

-- what is laid again, with more behind it
lay-again : (out : Bytes) (at : ℕ) (a b : Bytes) → length a ≤ length b → lay (lay out at a) at b ≡ lay out at b
unfolding lay
lay-again [] at a b h = refl
lay-again (x ∷ out) zero [] b h = refl
lay-again (x ∷ out) zero (y ∷ a) [] h = absurd (omega arith)
lay-again (x ∷ out) zero (y ∷ a) (z ∷ b) h = ap (λ (l : Bytes). z ∷ l) (lay-again out zero a b (le_of_suc-le-suc h))
lay-again (x ∷ out) (suc at) a b h = ap (λ (l : Bytes). x ∷ l) (lay-again out at a b h)

-- a part of src behind what stands ahead of it there
lay-more : (src out : Bytes) (at i m : ℕ) → i ≤ length src → lay (lay out at (take i src)) (at + i) (take m (drop i src)) ≡ lay out at (take (i + m) src)
lay-more src out at i m h =
    ap (λ (p : ℕ). lay (lay out at (take i src)) (at + p) (take m (drop i src))) (sym (length-take-le i src h))
    ∙ lay-behind out at (take i src) (take m (drop i src))
    ∙ ap (lay out at) (sym (take-add i m src))

-- out is out₀ with the first i of n bytes of src laid over it
pub record Laying (src out₀ : Bytes) (at n : ℕ) (out : Bytes) (i : ℕ) : Type 0 where
  pub fit : n ≡ min (length src) (length out₀ - at)
  pub inside : at < length out₀
  pub most : i ≤ n
  pub bytes : out ≡ lay out₀ at (take i src)

module _ (src out₀ : Bytes) (at n : ℕ) where
  pub laying-none : n ≡ min (length src) (length out₀ - at) → at < length out₀ → Laying src out₀ at n out₀ 0
  laying-none f h = record { fit = f; inside = h; most = omega arith; bytes = sym (lay-nil out₀ at) }

  module _ (out : Bytes) (i : ℕ) (h : Laying src out₀ at n out i) where
    pub laying-long : length out ≡ length out₀
    laying-long = ap length h.bytes ∙ lay-length out₀ at (take i src)

    pub laying-read : i < n → i < length src
    laying-read l = omega (arith, h.fit, l)

    pub laying-write : i < n → at + i < length out
    laying-write l = omega (arith, h.fit, h.inside, l, laying-long)

    pub laying-next : i < n → Laying src out₀ at n (set out (at + i) (get_or src i 0)) (i + 1)
    laying-next l =
        record {
          fit = h.fit;
          inside = h.inside;
          most = omega (arith, l);
          bytes =
              lay-set out (at + i) (get_or src i 0) (laying-write l) ∙
              rw (
                h.bytes,
                add-one i,
                take-suc src i 0 (laying-read l),
                ← lay-behind out₀ at (take i src) (get_or src i 0 ∷ []),
                length-take-le i src (le_of_lt (laying-read l)),
              );
        }

    -- eight bytes from j on have room in both
    pub laying-fits : (j : ℕ) → j + 8 ≤ n → (j + 8 ≤ length src) × (at + j + 8 ≤ length out)
    laying-fits j l = (omega (arith, h.fit, l), omega (arith, h.fit, h.inside, l, laying-long))

    pub laying-eight : i + 8 ≤ n → (o : Bytes) → o ≡ lay out (at + i) (take 8 (drop i src)) → Laying src out₀ at n o (i + 8)
    laying-eight l o e = record {
      fit = h.fit;
      inside = h.inside;
      most = l;
      bytes = e ∙ rw h.bytes (lay-more src out₀ at i 8 (omega (arith, h.fit, h.most)));
    }

    -- the last eight, of which some are laid again
    pub laying-last : (last : ℕ) → last + 8 ≡ n → last ≤ i → (o : Bytes) → o ≡ lay out (at + last) (take 8 (drop last src)) → Laying src out₀ at n o n
    laying-last last l m o e =
        record {
          fit = h.fit;
          inside = h.inside;
          most = omega arith;
          bytes =
              e ∙ ap (λ (b : Bytes). lay b (at + last) (take 8 (drop last src))) (h.bytes ∙ parts)
              ∙ lay-again (lay out₀ at (take last src)) (at + last) (take (i - last) (drop last src)) (take 8 (drop last src)) shorter
              ∙ lay-more src out₀ at last 8 within ∙ ap (λ (k : ℕ). lay out₀ at (take k src)) l;
        }
      where
        within : last ≤ length src
        within = omega (arith, h.fit, l)

        parts : lay out₀ at (take i src) ≡ lay (lay out₀ at (take last src)) (at + last) (take (i - last) (drop last src))
        parts =
            let k : i ≡ last + (i - last) = omega arith in
            ap (λ (j : ℕ). lay out₀ at (take j src)) k ∙ sym (lay-more src out₀ at last (i - last) within)

        shorter : length (take (i - last) (drop last src)) ≤ length (take 8 (drop last src))
        shorter =
            let d = length-drop last src in
            let x = length-take-le (i - last) (drop last src) (omega (arith, h.fit, h.most, l)) in
            let y = length-take-le 8 (drop last src) (omega (arith, h.fit, l)) in
            omega (arith, h.most, l)

    pub laying-all : n ≤ i → out ≡ lay out₀ at src
    laying-all l =
        min_cases (length src) (length out₀ - at) (out ≡ lay out₀ at src)
        (λ a e. h.bytes ∙ ap (lay out₀ at) (take_all i src (omega (arith, h.fit, h.most, l, e))))
        (λ a e. h.bytes ∙ rw (i-is e) (lay-cut out₀ at src))
      where
        i-is : min (length src) (length out₀ - at) ≡ length out₀ - at → i ≡ length out₀ - at
        i-is e = omega (arith, h.fit, h.most, l, e)
