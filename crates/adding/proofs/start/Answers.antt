-- `adding::start` meets its contract. Assumes nothing.
use Rattle.adding.proofs.Tests.{starting, start-inside, start-next, start-done}
use Rattle.adding.proofs.start.Goals as goal

pub loop-i-init : goal.loop-i-init
loop-i-init c = (c.room-n.ensures, starting _ _ c.room-n.ensures)

pub bounds-work-i : goal.bounds-work-i
bounds-work-i c = start-inside _ _ _ _ c.loop-i.invariant.0 c.loop-i.invariant.1 c.loop-i-test.true

pub loop-i-preserved : goal.loop-i-preserved
loop-i-preserved c = (c.loop-i.invariant.0, start-next _ _ _ _ c.loop-i.invariant.0 c.loop-i.invariant.1 c.loop-i-test.true)

pub returns : goal.returns
returns c = start-done _ _ _ _ c.loop-i.invariant.0 c.loop-i.invariant.1 c.loop-i-test.false
