-- A declaration by its kind: what it grows by, and how its kind is told. Assumes nothing.
use mathlib.Core.Path.{◌≡◌, refl, sym, ◌∙◌}
use mathlib.Core.Bool.{Bool, true, false, cond, and-eq-true_iff, and-false}
use Prim.Native.Nat.{ℕ, ◌+◌, ◌≤◌}
use native.Mathlib.Omega.{arith}
use lib.ListN.{length}
use lib.Dec.{leb}
use borrow.Author.Tests.{ne_eqb, lt-leb, leb-true}
use Rattle.wire.specs.Numbers.{Bytes, between}
use Rattle.records.specs.Kinds.{stands, kinds, type, expr}
use Rattle.factor_paths.specs.Collects.{a_type, an_expr, a_decl, holds, visited_as}
use Rattle.operation.specs.declared.Shortening.{Shortening}
use Rattle.growth.specs.Grows.{is_fixed, growth_all, part_growth, decl_growth}
use Rattle.growth.proofs.Turns.{part-is}

-- a kind that is visited as a declaration's is one
pub decl-stands : (k : ℕ) → visited_as k ≡ a_decl → stands (kinds 0x62 0x6A) k ≡ true
decl-stands k e = go (stands type k) (stands expr k) (stands (kinds 0x62 0x6A) k) e
  where
    go : (a b c : Bool) → cond a a_type (cond b an_expr (cond c a_decl holds)) ≡ a_decl → c ≡ true
    go true b c e = cc
    go false true c e = cc
    go false false true e = refl
    go false false false e = cc

-- where it lies
module _ (k : ℕ) (d : stands (kinds 0x62 0x6A) k ≡ true) where
  pub decl-from : 0x62 ≤ k
  decl-from = leb-true 0x62 k ((and-eq-true_iff (leb 0x62 k) (leb k 0x6A)).0 d).0

  pub decl-to : k ≤ 0x6A
  decl-to = leb-true k 0x6A ((and-eq-true_iff (leb 0x62 k) (leb k 0x6A)).0 d).1

  pub decl-no-type : stands type k ≡ false
  decl-no-type = let l = decl-from in rw (lt-leb k 0x38 (omega arith), and-false (leb 0x20 k))

  pub decl-no-expr : stands expr k ≡ false
  decl-no-expr = let l = decl-from in rw (lt-leb k 0x5E (omega arith), and-false (leb 0x40 k))

  -- only a use is fixed
  pub decl-loose : (k ≡ 0x6A → ⊥) → is_fixed k ≡ false
  decl-loose n =
      let l = decl-from in
      let m = decl-to in
      rw (
        ne_eqb k 1 (λ e. omega arith),
        ne_eqb k 3 (λ e. omega arith),
        lt-leb k 0x13 (omega arith),
        and-false (leb 0x10 k),
        ne_eqb k 0x6A n,
        ne_eqb k 0x80 (λ e. omega arith),
      )

module _ (op : Shortening) (left : ℕ) (again : Bool) (w k : ℕ) where
  pub use-grows : (c : Bytes) → k ≡ 0x6A → 0 ≡ decl_growth op left again w k c
  unfolding decl_growth
  use-grows c e = rw e

  pub mod-grows : (card : Bytes) (from to : ℕ) → from ≤ to → to ≤ length card → length card ≤ 65536 → w + left ≤ 65536 → k ≡ 0x62
      → (n : ℕ) → n ≡ part_growth op card from to true again w left → n ≡ decl_growth op left again w k (between card from to)
  unfolding decl_growth
  mod-grows card from to h i j l e n x = x ∙ sym (part-is op card from to true again w left h i j l) ∙ rw e

  pub decl-grows : (c : Bytes) → visited_as k ≡ a_decl → (k ≡ 0x6A → ⊥) → (k ≡ 0x62 → ⊥) → (n : ℕ) → n ≡ growth_all op left false again w c
      → n ≡ decl_growth op left again w k c
  unfolding decl_growth
  decl-grows c v a b n x = x ∙ rw (decl-loose k (decl-stands k v) a, ne_eqb k 0x62 b)
