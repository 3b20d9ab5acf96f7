-- Where a record starts among those that follow one another, and what stands there. Assumes nothing.
use mathlib.Core.Path.{◌≡◌, ap, sym, ◌∙◌}
use Prim.Native.Nat.{ℕ, zero, suc, ◌+◌, ◌-◌, ◌*◌, ◌^◌, ◌<◌, ◌≤◌}
use native.Mathlib.Omega.{arith}
use lib.ListN.{length, take, drop}
use lib.Seq.{drop-drop}
use Rattle.wire.specs.Numbers.{Bytes}
use Rattle.wire.proofs.Slices.{tail-part}
use Rattle.records.specs.Record.{length_of}
use Rattle.fields.specs.Fields.{offset_of}

-- j records are still to be passed over, from place o on
pub record Passed (s : Bytes) (i o j : ℕ) : Type 0 where
  pub left : j ≤ i
  pub is : offset_of i s ≡ o + offset_of j (drop o s)
  pub small : o ≤ (i - j) * (2 ^ 32 + 4)

pub passed_none : (s : Bytes) (i : ℕ) → Passed s i 0 i
passed_none s i = record { left = omega arith; is = let e : offset_of i s ≡ 0 + offset_of i s = omega arith in e; small = omega arith }

pub passed-all : (s : Bytes) (i o j : ℕ) → Passed s i o j → i ≤ 3 → j ≤ 0 → (o ≡ offset_of i s) × (o < 2 ^ 40)
unfolding offset_of
passed-all s i o zero p l h = let e = p.is in let q = p.small in (omega arith, omega arith)
passed-all s i o (suc j) p l h = absurd (omega arith)

module _ (s part : Bytes) (i o j n : ℕ) (p : Passed s i o j) (h : 0 < j) (e : part ≡ take (length s) (drop o s)) (f : (n ≡ length_of part) × (n < 2 ^ 32)) where
  pub passed-next : Passed s i (o + (4 + n)) (j - 1)
  unfolding offset_of
  passed-next = go j p h
    where
      go : (j : ℕ) → Passed s i o j → 0 < j → Passed s i (o + (4 + n)) (j - 1)
      go zero p h = absurd (omega arith)
      go (suc j) p h =
          let l = p.left in
          let q = p.small in
          let m = f.1 in
          let z : suc j - 1 ≡ j = omega arith in
          record {
            left = omega arith;
            is = p.is
                ∙ ap (λ (x : ℕ). o + ((4 + x) + offset_of j (drop (4 + x) (drop o s)))) (sym (f.0 ∙ ap length_of (tail-part s part o e)))
                ∙ ap (λ (x : Bytes). o + ((4 + n) + offset_of j x)) (drop-drop (4 + n) o s)
                ∙ (let w : o + ((4 + n) + offset_of j (drop (o + (4 + n)) s)) ≡ o + (4 + n) + offset_of j (drop (o + (4 + n)) s) = omega arith in w)
                ∙ ap (λ (x : ℕ). o + (4 + n) + offset_of x (drop (o + (4 + n)) s)) (sym z);
            small = omega arith;
          }

  pub passed-fits : i ≤ 3 → o + (4 + n) < 2 ^ 40
  passed-fits l = let k = p.left in let q = p.small in let m = f.1 in omega arith
