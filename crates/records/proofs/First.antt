-- The first record of bytes, its content and what follows it are the first node of their tree, its children and its siblings. Assumes nothing.
use mathlib.Core.Path.{◌≡◌, refl, ap, ap₂, sym, ◌∙◌}
use mathlib.Core.Bool.{false, cond}
use mathlib.Core.List.{[], ◌∷◌}
use Prim.Native.Nat.{ℕ, zero, suc, ◌+◌, ◌-◌, ◌≤◌, min}
use native.Mathlib.Omega.{arith}
use native.Mathlib.Decide.{dec_le}
use lib.ListN.{length, drop, length-drop, length-take}
use Rattle.wire.specs.Numbers.{Bytes}
use Rattle.records.specs.Record.{Record, Records, leaf, node, ◌▸◌, is_leaf, length_of, kind_of, content_of, rest_of, parse}
use Rattle.records.specs.Reading.{short}
use Rattle.records.proofs.Tree.{rest-length, parse-step, parse-nil}

-- the records that bytes are
abbrev pub records_of : Bytes → Records
records_of s = parse (length s) s

-- the first of them
abbrev pub record_of : Bytes → Record
record_of s = cond (is_leaf (kind_of s)) (leaf (kind_of s) (content_of s)) (node (kind_of s) (records_of (content_of s)))

-- parse finds the same records with more than it needs
empty : (s : Bytes) → length s ≤ 0 → s ≡ []
empty [] h = refl
empty (b ∷ s) h = absurd (omega arith)

pub parse-same : (n m : ℕ) (s : Bytes) → length s ≤ n → length s ≤ m → parse n s ≡ parse m s
parse-same zero m s h g = rw (empty s h) (parse-nil zero ∙ sym (parse-nil m))
parse-same (suc n) zero s h g = rw (empty s g) (parse-nil (suc n) ∙ sym (parse-nil zero))
parse-same (suc n) (suc m) s h g =
    elim (dec_le 1 (length s)) [
      | no a ↦ rw (empty s (omega arith)) (parse-nil (suc n) ∙ sym (parse-nil (suc m)))
      | yes a ↦
          (let d : length (drop 6 s) ≡ length s - 6 = length-drop 6 s in
          let c : length (content_of s) ≡ min (length_of s - 2) (length (drop 6 s)) = length-take (length_of s - 2) (drop 6 s) in
          let r : length (rest_of s) ≡ length s - (4 + length_of s) = length-drop (4 + length_of s) s in
          parse-step n s a
          ∙ ap₂ (λ (x y : Records). cond (is_leaf (kind_of s)) (leaf (kind_of s) (content_of s)) (node (kind_of s) x) ▸ y)
          (parse-same n m (content_of s) (omega arith) (omega arith)) (parse-same n m (rest_of s) (omega arith) (omega arith))
          ∙ sym (parse-step m s a))
    ]

pub tree-first : (s : Bytes) → short s ≡ false → records_of s ≡ record_of s ▸ records_of (rest_of s)
tree-first s l =
    let e = rest-length s l in
    ap (λ (n : ℕ). parse n s) (let o : length s ≡ suc (length s - 1) = omega arith in o) ∙ parse-step (length s - 1) s (omega arith)
    ∙ ap₂ (λ (x y : Records). cond (is_leaf (kind_of s)) (leaf (kind_of s) (content_of s)) (node (kind_of s) x) ▸ y)
    (parse-same (length s - 1) (length (content_of s)) (content_of s) (omega arith) (omega arith))
    (parse-same (length s - 1) (length (rest_of s)) (rest_of s) (omega arith) (omega arith))
