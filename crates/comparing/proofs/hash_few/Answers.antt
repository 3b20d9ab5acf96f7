-- `comparing::hash_few` meets its contract: what is left of the bytes has the hash of all. Assumes nothing.
use mathlib.Core.Path.{◌∙◌}
use native.Mathlib.Omega.{arith}
use Rattle.comparing.proofs.Hashes.{few-none, few-next}
use Rattle.comparing.proofs.hash_few.Goals as goal

pub loop-b-preserved : goal.loop-b-preserved
loop-b-preserved c =
    (c.mix-h.ensures.1, few-next _ _ _ _ c.loop-b.invariant.1 c.loop-b-test.true _ c.from.ensures ∙ rw c.mix-h.ensures.0)

pub returns : goal.returns
returns c = (few-none c.args.s.now _ c.loop-b.h c.loop-b.b-index c.loop-b.invariant.1 (omega (arith, c.loop-b-test.false)), c.loop-b.invariant.0)
