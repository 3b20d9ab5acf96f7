-- Words that hold the module's table, and words that hold another's. Assumes nothing.
use mathlib.Core.Path.{◌≡◌, ap, ◌∙◌}
use mathlib.Core.List.{List, ◌++◌}
use Prim.Native.Nat.{ℕ, ◌*◌, ◌<◌, ◌≤◌}
use native.Mathlib.Omega.{arith}
use lib.ListN.{take, drop}
use lib.Dec.{eqb}
use borrow.Author.Tests.{eq-eqb, ne_eqb, eqb-true, lt-ltb, le-ltb}
use Rattle.rast.proofs.Tests.{by-test}
use Rattle.prefix.specs.Prefix.{Scope}
use Rattle.chains.specs.Chains.{room}
use Rattle.adding.specs.Adds.{Table, table}
use Rattle.adding.specs.Settles.{settled, settled_table}
use Rattle.gathering.specs.Gathers.{gathered}
use Rattle.tables.specs.Tables.{table_of}

-- a full table is left, any other settled
module _ (n : ℕ) (words : List ℕ) (most : ℕ) (e : most ≡ room words) where
  pub settled-full : most < n → table n words ≡ settled_table (table n words)
  unfolding settled_table
  settled-full h = rw (lt-ltb (room words) n (omega arith))

  pub settled-own : n ≤ most → (own : List ℕ) → own ≡ settled (take (4 * n) words) → table n (own ++ drop (4 * n) words) ≡ settled_table (table n words)
  unfolding settled_table
  settled-own h own x = rw (le-ltb (room words) n (omega arith), x)

module _ (s : Scope) (left at owner : ℕ) (t : Table) where
  pub owner-same : owner ≡ at → t ≡ table_of s left at owner t
  unfolding table_of
  owner-same e = rw (eq-eqb owner at e)

  -- another's: the module is collected, and its table settled
  pub owner-settled : (owner ≡ at → ⊥) → (n : ℕ) (words after : List ℕ) → table n words ≡ gathered s left at t.words
      → table n after ≡ settled_table (table n words) → table n after ≡ table_of s left at owner t
  unfolding table_of
  owner-settled other n words after y x = rw (ne_eqb owner at other) (x ∙ ap settled_table y)

  -- THE LAW: what holds of words that hold the module's table, and of a table that is collected and settled, holds of the module's table
  pub owner-has : (P : Table → Type 0) → (owner ≡ at → P t) → P (settled_table (gathered s left at t.words))
      → P (table_of s left at owner t)
  unfolding table_of
  owner-has P held new = by-test (eqb owner at) (λ e. rw e (held (eqb-true owner at e))) (λ e. rw e new)
