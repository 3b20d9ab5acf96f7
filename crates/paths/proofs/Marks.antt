-- A name's mark, by its last byte. Assumes nothing.
use mathlib.Core.Path.{◌≡◌}
use mathlib.Core.Bool.{true, and-eq-true_iff}
use Prim.Native.Nat.{◌-◌, ◌<◌}
use lib.ListN.{length, get_or}
use lib.Dec.{eqb, ltb}
use borrow.Author.Tests.{ltb-true}
use Rattle.rast.specs.Path.{Name}
use Rattle.factor_paths.specs.PathsVisitor.{marked}

module _ (name : Name) where
  -- a marked name is not empty
  pub marked-some : marked name ≡ true → 0 < length name
  marked-some h = ltb-true 0 (length name) ((and-eq-true_iff (ltb 0 (length name)) (eqb (get_or name (length name - 1) 0) 33)).0 h).0
