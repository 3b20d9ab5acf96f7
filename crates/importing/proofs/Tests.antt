-- Which uses are laid, test by test, and in the loop. Assumes nothing.
use mathlib.Core.Path.{◌≡◌, ap, subst, ◌∙◌}
use mathlib.Core.List.{List}
use Prim.Native.Nat.{ℕ, suc, ◌+◌, ◌<◌, ◌≤◌}
use native.Mathlib.Omega.{arith}
use lib.ListN.{length}
use borrow.Author.Tests.{lt-ltb, le-ltb}
use Rattle.wire.specs.Numbers.{Bytes}
use Rattle.operation.specs.Operations.{weight_bytes}
use Rattle.prefix.specs.Prefix.{Scope}
use Rattle.chains.specs.Chains.{room}
use Rattle.choosing.specs.Picks.{uses_of}
use Rattle.laying.specs.Lays.{Laid}
use Rattle.laying.proofs.Laws.{lay-length, laid_none}
use Rattle.rewriting.specs.Imports.{weighed_uses, imports_bytes}
use Rattle.importing.proofs.Uses.{all_more}

-- what lies under is as long as it was
pub laid-length : (out : Bytes) (at : ℕ) (b : Bytes) (e : ℕ) (after : Bytes) → Laid out at b e after → length after ≡ length out
laid-length out at b e after d = ap length d.bytes ∙ lay-length out at b

module _ (s : Scope) (words : List ℕ) (n : ℕ) where
  pub imports-long : (out : Bytes) → 65536 < length s.card → Laid out 0 (imports_bytes s words n) 0 out
  unfolding imports_bytes
  imports-long out l = rw (lt-ltb 65536 (length s.card) l) (laid_none out 0)

  module _ (l : length s.card ≤ 65536) (r : ℕ) (e : r ≡ room words) where
    pub imports-past : (out : Bytes) → r < n → Laid out 0 (imports_bytes s words n) 0 out
    unfolding imports_bytes
    imports-past out h = rw (le-ltb 65536 (length s.card) l, lt-ltb (room words) n (omega arith)) (laid_none out 0)

    pub imports-all : (out : Bytes) (i p : ℕ) (o : Bytes) → n ≤ r → i ≡ n
        → Laid out 0 (weighed_uses (weight_bytes s.op) (uses_of s words 0 i)) p o → Laid out 0 (imports_bytes s words n) p o
    unfolding imports_bytes
    imports-all out i p o h k d =
        rw (le-ltb 65536 (length s.card) l, le-ltb (room words) n (omega arith))
        (subst (λ (m : ℕ). Laid out 0 (weighed_uses (weight_bytes s.op) (uses_of s words 0 m)) p o) k d)

-- ahead of the loop, and in it: those of i pairs are laid
module _ (s : Scope) (words : List ℕ) (weight out : Bytes) where
  pub loop-none : Laid out 0 (weighed_uses weight (uses_of s words 0 0)) 0 out
  unfolding uses_of weighed_uses
  loop-none = laid_none out 0

  pub loop-more : (i p : ℕ) (o₁ : Bytes) (e : ℕ) (o₂ : Bytes) → Laid out 0 (weighed_uses weight (uses_of s words 0 i)) p o₁
      → Laid o₁ p (weighed_uses weight (uses_of s words i 1)) e o₂ → Laid out 0 (weighed_uses weight (uses_of s words 0 (i + 1))) e o₂
  loop-more i p o₁ e o₂ x y =
      let k : suc i ≡ i + 1 = omega arith in
      subst (λ (m : ℕ). Laid out 0 (weighed_uses weight (uses_of s words 0 m)) e o₂) k (all_more s words weight out i p o₁ e o₂ x y)
