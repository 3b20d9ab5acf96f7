-- `laying::lay` meets its contract: eight bytes a turn, by the laws of Loop. Assumes nothing.
use Prim.Native.Nat.{◌+◌, ◌-◌, ◌*◌, ◌≤◌}
use mathlib.Core.Path.{◌≡◌, sym}
use native.Mathlib.Omega.{arith}
use Rattle.laying.proofs.Laws.{lay-past}
use Rattle.laying.proofs.Loop.{laying-none, laying-long, laying-fits, laying-eight, laying-last, laying-all}
use Rattle.laying.proofs.lay.Goals as goal

pub returns-then-out-at : goal.returns-then-out-at
returns-then-out-at c = sym (lay-past _ _ _ c.if-out-at.true)

pub lay_few-requires : goal.lay_few-requires
lay_few-requires c = (c.min-n.ensures, c.if-out-at.false)

pub loop-i-init : goal.loop-i-init
loop-i-init c = laying-none _ _ _ _ c.min-n.ensures c.if-out-at.false

pub put_eight-requires : goal.put_eight-requires
put_eight-requires c = laying-fits _ _ _ _ _ _ c.loop-i.invariant (8 * c.loop-i.i) (omega arith)

pub loop-i-preserved : goal.loop-i-preserved
loop-i-preserved c =
    let e : 8 * (c.loop-i.i + 1) ≡ 8 * c.loop-i.i + 8 = omega arith in
    rw e (laying-eight _ _ _ _ _ _ c.loop-i.invariant (omega arith) _ c.put_eight.ensures)

pub put_eight-requires-2 : goal.put_eight-requires-2
put_eight-requires-2 c = laying-fits _ _ _ _ _ _ c.loop-i.invariant (c.min-n.result - 8) (omega arith)

pub shape_of-out : goal.shape_of-out
shape_of-out c =
    let e : c.min-n.result - 8 + 8 ≡ c.min-n.result = omega arith in
    let l : c.min-n.result - 8 ≤ 8 * c.loop-i.i = omega arith in
    laying-long _ _ _ _ _ _ (laying-last _ _ _ _ _ _ c.loop-i.invariant _ e l _ c.put_eight-2.ensures)

pub returns : goal.returns
returns c =
    let e : c.min-n.result - 8 + 8 ≡ c.min-n.result = omega arith in
    let l : c.min-n.result - 8 ≤ 8 * c.loop-i.i = omega arith in
    laying-all _ _ _ _ _ _ (laying-last _ _ _ _ _ _ c.loop-i.invariant _ e l _ c.put_eight-2.ensures) (omega arith)
