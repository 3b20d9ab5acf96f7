-- `adding::settle` meets its contract. Assumes nothing.
use mathlib.Core.Path.{refl}
use native.Mathlib.Omega.{arith}
use Rattle.adding.proofs.Again.{settling, settle-inside, settle-next, settle-done}
use Rattle.adding.proofs.settle.Goals as goal

pub loop-i-init : goal.loop-i-init
loop-i-init c = settling _ _

pub put_again-requires : goal.put_again-requires
put_again-requires c = settle-inside _ _ _ _ refl c.loop-i.invariant (omega (arith, c.room-i-end.ensures, c.loop-i-test.true))

pub loop-i-preserved : goal.loop-i-preserved
loop-i-preserved c =
    settle-next _ _ _ _ refl c.loop-i.invariant (omega (arith, c.room-i-end.ensures, c.loop-i-test.true)) _ c.put_again.ensures

pub returns : goal.returns
returns c = settle-done _ _ _ _ refl c.loop-i.invariant (omega (arith, c.room-i-end.ensures, c.loop-i-test.false)) _ c.start.ensures
