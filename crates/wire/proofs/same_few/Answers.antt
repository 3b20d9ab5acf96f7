-- `wire::same_few` meets its contract: byte by byte, by the laws of Alike. Assumes nothing.
use native.Mathlib.Omega.{arith}
use Rattle.wire.proofs.Alike.{other_length, alike-none, alike_all, alike-not, alike_next}
use Rattle.wire.proofs.same_few.Goals as goal

pub returns-then-a-b : goal.returns-then-a-b
returns-then-a-b c = other_length c.args.a.now c.args.b.now c.if-a-b.true

pub loop-i-init : goal.loop-i-init
loop-i-init c = alike-none c.args.a.now c.args.b.now c.if-a-b.false

pub bounds-b-i : goal.bounds-b-i
bounds-b-i c = omega (arith, c.loop-i.invariant.long)

pub returns-then-a-i : goal.returns-then-a-i
returns-then-a-i c = alike-not _ _ _ c.loop-i.invariant c.loop-i-test.true c.if-a-i.true

pub loop-i-preserved : goal.loop-i-preserved
loop-i-preserved c = alike_next _ _ _ c.loop-i.invariant c.loop-i-test.true c.if-a-i.false

pub returns : goal.returns
returns c = alike_all _ _ _ c.loop-i.invariant (omega (arith, c.loop-i-test.false))
