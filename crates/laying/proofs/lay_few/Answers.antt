-- `laying::lay_few` meets its contract: byte by byte, by the laws of Loop. Assumes nothing.
use native.Mathlib.Omega.{arith}
use Rattle.laying.proofs.Loop.{laying-none, laying-long, laying-read, laying-write, laying-next, laying-all}
use Rattle.laying.proofs.lay_few.Goals as goal

pub loop-k-init : goal.loop-k-init
loop-k-init c =
    let args = c.args in
    laying-none args.src.now args.out.now args.at args.n c.requires.0 c.requires.1

pub bounds-src-k : goal.bounds-src-k
bounds-src-k c =
    let loop = c.loop-k in
    let loop-test = c.loop-k-test in
    laying-read _ _ _ _ _ _ loop.invariant loop-test.true

pub bounds-out-at : goal.bounds-out-at
bounds-out-at c =
    let loop = c.loop-k in
    let loop-test = c.loop-k-test in
    laying-write _ _ _ _ _ _ loop.invariant loop-test.true

pub loop-k-preserved : goal.loop-k-preserved
loop-k-preserved c =
    let loop = c.loop-k in
    let loop-test = c.loop-k-test in
    laying-next _ _ _ _ _ _ loop.invariant loop-test.true

pub shape_of-out : goal.shape_of-out
shape_of-out c =
    let loop = c.loop-k in
    laying-long _ _ _ _ _ _ loop.invariant

pub returns : goal.returns
returns c =
    let loop = c.loop-k in
    let loop-test = c.loop-k-test in
    laying-all _ _ _ _ _ _ loop.invariant (omega (arith, loop-test.false))
