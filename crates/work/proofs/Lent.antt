-- The words that a table may take of those that are lent. Assumes nothing.
use mathlib.Core.Path.{◌≡◌}
use mathlib.Core.List.{List, ◌++◌}
use Prim.Native.Nat.{ℕ, ◌/◌, ◌≤◌, min}
use native.Mathlib.Omega.{arith}
use lib.ListN.{length, take, drop, length-take, length-drop, length-append}
use Rattle.work.specs.Taken.{for_table}

module _ (work : List ℕ) (used : ℕ) (u : used ≡ for_table (length work)) where
  pub within : used ≤ length work
  within = omega (arith, u)

  pub taken : used ≡ length (take used work)
  taken = let a = length-take used work in omega (arith, a, u)

  -- four to a pair: a quarter of what is lent, rounded down, and at most 1,024
  pub most : min (length (take used work) / 4) 65535 ≡ min (length work / 4) 1024
  most = let a = taken in omega (arith, a, u)

  -- as many others put for them leave as many words
  pub words-all : (words : List ℕ) → length words ≡ length (take used work) → length (words ++ drop used work) ≡ length work
  words-all words a =
      let b = length-append words (drop used work) in
      let c = length-drop used work in
      let d = within in
      let f = taken in
      omega (arith, a, b, c, d, f)
