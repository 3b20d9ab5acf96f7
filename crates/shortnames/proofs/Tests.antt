-- A path's type and a path's expression, test by test: what is unfit, what is replaced, what is left. Assumes nothing.
use mathlib.Core.Path.{◌≡◌, refl, sym, ap, ◌∙◌}
use mathlib.Core.Bool.{Bool, true, false, ◌||◌}
use mathlib.Core.List.{List}
use Prim.Native.Nat.{ℕ, ◌+◌, ◌^◌, ◌≤◌}
use native.Mathlib.Omega.{arith}
use lib.ListN.{length, replicate}
use lib.Dec.{ltb}
use borrow.Author.Tests.{ltb-false}
use Rattle.wire.specs.Numbers.{Bytes}
use Rattle.records.specs.Record.{record_bytes}
use Rattle.operation.specs.Operations.{weight_of, weight_bytes}
use Rattle.prefix.specs.Prefix.{Scope}
use Rattle.laying.specs.Lays.{lay, Laid}
use Rattle.laying.proofs.Laws.{laid_none, laid-zeros}
use Rattle.rewriting.specs.Replaces.{name_in, replaces_type, replaces_expr}
use Rattle.rewriting.specs.Shorts.{synonym_bytes, identifier_bytes, unfit, type_bytes, expr_bytes, type_laid, expr_laid}
use Rattle.rewriting.proofs.Lengths.{identifier-length, name-inside}
use Rattle.shortnames.proofs.Wraps.{small-synonyms}

none : (a b c : Bool) → (a || (b || c)) ≡ false → (a ≡ false) × (b ≡ false) × (c ≡ false)
none true b c h = (h, cc, cc)
none false true c h = (refl, h, cc)
none false false c h = (refl, refl, h)

pub fit : (at w : ℕ) (r : Bytes) (u : Bool) → u ≡ unfit at w (length r) → u ≡ false → (at ≤ 2 ^ 61) × (w ≤ 65536) × (length r ≤ 65536)
fit at w r u f h =
    let n = none (ltb (2 ^ 61) at) (ltb 65536 w) (ltb 65536 (length r)) (sym f ∙ h) in
    (ltb-false (2 ^ 61) at n.0, ltb-false 65536 w n.1, ltb-false 65536 (length r) n.2)

pub fit-name : (r name : Bytes) → name ≡ name_in r → length r ≤ 65536 → length name ≤ 65536
fit-name r name e h = let a = name-inside r in let b = ap length e in omega (arith, h, a, b)

-- where its synonyms end
pub fit-end : (at w : ℕ) (r : Bytes) (u : Bool) → u ≡ unfit at w (length r) → u ≡ false → (name : Bytes) → name ≡ name_in r
    → (out : Bytes) (e : ℕ) (o : Bytes) → Laid out at (synonym_bytes name w r) e o → e ≤ 2 ^ 62
fit-end at w r u f h name n out e o x =
    let b = fit at w r u f h in
    omega (arith, x.ends, small-synonyms name r w at (fit-name r name n b.2) b.2 b.1 b.0)

module _ (s : Scope) (words : List ℕ) (r out : Bytes) (at : ℕ) (u : Bool) where
  module _ (w : ℕ) (f : u ≡ unfit at w (length r)) where
    pub type-unfit : u ≡ true → Laid out at (type_laid s words at w r) at out
    unfolding type_laid
    type-unfit h = rw (sym f ∙ h) (laid_none out at)

    module _ (h : u ≡ false) (y : Bool) (g : y ≡ replaces_type s words r) where
      pub type-short : y ≡ true → (name : Bytes) → name ≡ name_in r → (e : ℕ) (o : Bytes) → Laid out at (synonym_bytes name w r) e o
          → (v : ℕ) → v ≡ weight_of s.op → (after : Bytes) → after ≡ lay o e (replicate v 0) → Laid out at (type_laid s words at w r) (e + v) after
      unfolding type_laid type_bytes weight_bytes
      type-short k name n e o x v z after d = rw (sym f ∙ h, sym g ∙ k, ← z) (laid-zeros out at (synonym_bytes (name_in r) w r) e o v after (rw n at x) d)

      pub type-long : y ≡ false → (after : Bytes) → after ≡ lay out at r → Laid out at (type_laid s words at w r) (at + length r) after
      unfolding type_laid type_bytes
      type-long k after x = rw (sym f ∙ h, sym g ∙ k) (record { ends = refl; bytes = x })

  module _ (f : u ≡ unfit at 0 (length r)) where
    pub expr-unfit : u ≡ true → Laid out at (expr_laid s words at r) at out
    unfolding expr_laid
    expr-unfit h = rw (sym f ∙ h) (laid_none out at)

    module _ (h : u ≡ false) (y : Bool) (g : y ≡ replaces_expr s words r) where
      pub expr-short : y ≡ true → (name : Bytes) → name ≡ name_in r → (o : Bytes) → o ≡ lay out at (record_bytes 0x42 (record_bytes 0x01 name))
          → (v : ℕ) → v ≡ weight_of s.op → (after : Bytes) → after ≡ lay o (at + 12 + length name) (replicate v 0)
          → Laid out at (expr_laid s words at r) (at + 12 + length name + v) after
      unfolding expr_laid expr_bytes identifier_bytes weight_bytes
      expr-short k name n o x v z after d =
          rw (sym f ∙ h, sym g ∙ k, ← z) (laid-zeros out at (identifier_bytes (name_in r)) (at + 12 + length name) o v after short d)
        where
          short : Laid out at (identifier_bytes (name_in r)) (at + 12 + length name) o
          short = record { ends = (let l = identifier-length (name_in r) in let m = ap length n in omega (arith, l, m)); bytes = rw n at x }

      pub expr-long : y ≡ false → (after : Bytes) → after ≡ lay out at r → Laid out at (expr_laid s words at r) (at + length r) after
      unfolding expr_laid expr_bytes
      expr-long k after x = rw (sym f ∙ h, sym g ∙ k) (record { ends = refl; bytes = x })
