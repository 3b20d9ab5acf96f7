-- How long a name is as it is collected. Assumes nothing.
use mathlib.Core.Path.{◌≡◌, sym, ◌∙◌}
use mathlib.Core.Bool.{Bool, true, false, not, cond}
use Prim.Native.Nat.{◌-◌}
use native.Mathlib.Omega.{arith}
use lib.ListN.{length, length-take}
use borrow.Author.Tests.{not-true, not-false}
use Rattle.rast.specs.Path.{Name}
use Rattle.factor_paths.specs.PathsVisitor.{marked}
use Rattle.factor_paths.specs.LookUp.{bare}

module _ (name : Name) (inExpr : Bool) where
  pub length-type : not inExpr ≡ true → length name ≡ length (cond inExpr (bare name) name)
  length-type h = rw (not-true inExpr h)

  module _ (e : not inExpr ≡ false) (b : Bool) (m : b ≡ marked name) where
    pub length_marked : b ≡ true → length name - 1 ≡ length (cond inExpr (bare name) name)
    length_marked h =
        let l = length-take (length name - 1) name in
        rw (not-false inExpr e, sym m ∙ h) (sym (l ∙ omega arith))

    pub length-plain : b ≡ false → length name ≡ length (cond inExpr (bare name) name)
    length-plain h = rw (not-false inExpr e, sym m ∙ h)
