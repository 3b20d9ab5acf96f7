-- The tests of a record's kind, as the code makes them. Assumes nothing.
use mathlib.Core.Path.{◌≡◌, refl}
use mathlib.Core.Bool.{Bool, true, false, ◌||◌, cond}
use Prim.Native.Nat.{ℕ, ◌+◌, ◌<◌, ◌≤◌}
use native.Mathlib.Numerals.{add-one}
use lib.Dec.{eqb}
use borrow.Author.Tests.{eq-eqb, ne_eqb, lt-ltb, le-ltb}
use Rattle.records.specs.Kinds.{stands, path, type, expr}
use Rattle.growth.specs.Grows.{is_fixed, wraps_in, wraps_at, use_of}

-- whether a kind is fixed
module _ (k : ℕ) where
  pub fixed-text : k ≡ 1 → true ≡ is_fixed k
  fixed-text a = rw (eq-eqb k 1 a)

  module _ (a : k ≡ 1 → ⊥) where
    pub fixed_kept : k ≡ 3 → true ≡ is_fixed k
    fixed_kept b = rw (ne_eqb k 1 a, eq-eqb k 3 b)

    module _ (b : k ≡ 3 → ⊥) where
      pub fixed-path : stands path k ≡ true → true ≡ is_fixed k
      fixed-path c = rw (ne_eqb k 1 a, ne_eqb k 3 b, c)

      module _ (c : stands path k ≡ false) where
        pub fixed-use : k ≡ 0x6A → true ≡ is_fixed k
        fixed-use d = rw (ne_eqb k 1 a, ne_eqb k 3 b, c, eq-eqb k 0x6A d)

        pub fixed-last : (k ≡ 0x6A → ⊥) → eqb k 0x80 ≡ is_fixed k
        fixed-last d = rw (ne_eqb k 1 a, ne_eqb k 3 b, c, ne_eqb k 0x6A d)

-- whether uses are charged, and what one is
pub charges-not : (charged : Bool) (k : ℕ) → charged ≡ false → eqb k 0x62 ≡ (charged || eqb k 0x62)
charges-not charged k e = rw e

pub use-charged : (charged : Bool) (n : ℕ) → charged ≡ true → 13 + n ≡ use_of charged n
use-charged charged n e = rw e

-- how often a path type is wrapped
module _ (again : Bool) (w k : ℕ) where
  pub wraps-not : again ≡ false → w ≡ wraps_in again w k
  wraps-not e = rw e (same (stands type k || stands expr k))
    where
      same : (b : Bool) → w ≡ cond b w w
      same true = refl
      same false = refl

  pub wraps-type : again ≡ true → stands type k ≡ true → w + 1 ≡ wraps_in again w k
  wraps-type e t = rw (e, t) (add-one w)

  pub wraps-expr : again ≡ true → stands type k ≡ false → stands expr k ≡ true → w + 1 ≡ wraps_in again w k
  wraps-expr e t x = rw (e, t, x) (add-one w)

  pub wraps-none : stands type k ≡ false → stands expr k ≡ false → w ≡ wraps_in again w k
  wraps-none t x = rw (t, x)

  -- and for any count
  pub wraps-large : 65536 < w → w ≡ wraps_at again w k
  wraps-large l = rw (lt-ltb 65536 w l)

  pub wraps-small : w ≤ 65536 → wraps_in again w k ≡ wraps_at again w k
  wraps-small l = rw (le-ltb 65536 w l)
