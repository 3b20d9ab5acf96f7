-- `fields::offset_of` meets its contract: record by record, by the laws of Offsets. Assumes nothing.
use mathlib.Core.Path.{◌≡◌}
use Prim.Native.Nat.{◌-◌, ◌+◌}
use native.Mathlib.Omega.{arith}
use Rattle.fields.proofs.Offsets.{passed_none, passed-next, passed-all}
use Rattle.fields.proofs.offset_of.Goals as goal

pub loop-init : goal.loop-init
loop-init c = let e : c.args.i - 0 ≡ c.args.i = omega arith in rw e (passed_none _ _)

pub loop-preserved : goal.loop-preserved
loop-preserved c =
    let e : c.args.i - (c.loop.counter + 1) ≡ c.args.i - c.loop.counter - 1 = omega arith in
    rw e (passed-next _ _ _ _ _ _ c.loop.invariant (omega (arith, c.loop-test.true)) c.part.ensures c.record_length.ensures)

pub returns : goal.returns
returns c = passed-all _ _ _ _ c.loop.invariant c.requires (omega (arith, c.loop-test.false))
