-- `writing::extend` meets its contract: place by place, by the laws of Chain. Assumes nothing.
use mathlib.Core.Path.{refl}
use native.Mathlib.Omega.{arith}
use Rattle.std.proofs.Common.{rules}
use Rattle.writing.proofs.Chain.{extending-none, extending-next, extending-all}
use Rattle.writing.proofs.extend.Goals as goal

pub loop-i-init : goal.loop-i-init
loop-i-init c = (extending-none _ _ (search rules), refl)

pub loop-i-preserved : goal.loop-i-preserved
loop-i-preserved c =
    (extending-next _ _ _ c.loop-i.invariant.0 c.requires (omega (arith, c.loop-i.invariant.1, c.loop-i-test.true)), c.loop-i.invariant.1)

pub returns : goal.returns
returns c = extending-all _ _ _ c.loop-i.invariant.0 c.requires (omega (arith, c.loop-i.invariant.1, c.loop-i-test.false)) _
