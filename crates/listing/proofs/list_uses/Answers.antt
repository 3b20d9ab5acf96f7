-- `listing::list_uses` meets its contract: use by use, by the laws of Uses. Assumes nothing.
use mathlib.Core.Path.{refl}
use native.Mathlib.Omega.{arith}
use Rattle.listing.proofs.Passed.{next}
use Rattle.listing.proofs.Uses.{uses-none, uses-long, uses-more, uses-next, uses-all}
use Rattle.listing.proofs.list_uses.Goals as goal

pub loop-j-init : goal.loop-j-init
loop-j-init c = uses-none _ _ _ _ _

pub overflow_add-n : goal.overflow_add-n
overflow_add-n c =
    let pre = c.requires in
    let inv = c.loop-j.invariant in
    omega (arith, pre.1, inv.passed.few, inv.passed.inside)

pub overflow_add-at : goal.overflow_add-at
overflow_add-at c =
    let pre = c.requires in
    let inv = c.loop-j.invariant in
    omega (arith, pre.0, inv.passed.inside)

pub put-requires : goal.put-requires
put-requires c =
    let pre = c.requires in
    let inv = c.loop-j.invariant in
    let here = next c.args.d.now c.loop-j.i (uses-more _ _ _ _ _ _ _ _ c.loop-j.invariant c.requires.2 (omega arith)) _ refl in
    (omega (arith, pre.0, here.inside), omega (arith, pre.1, inv.passed.few, inv.passed.inside))

pub slice_bounds-record_length-count : goal.slice_bounds-record_length-count
slice_bounds-record_length-count c = c.loop-j.invariant.passed.inside

pub overflow_add-i-in-loop-j : goal.overflow_add-i-in-loop-j
overflow_add-i-in-loop-j c =
    let here = next c.args.d.now c.loop-j.i (uses-more _ _ _ _ _ _ _ _ c.loop-j.invariant c.requires.2 (omega arith)) _ c.record_length.ensures.0 in
    omega (arith, here.inside)

pub loop-j-preserved : goal.loop-j-preserved
loop-j-preserved c =
    let here = next c.args.d.now c.loop-j.i (uses-more _ _ _ _ _ _ _ _ c.loop-j.invariant c.requires.2 (omega arith)) _ c.record_length.ensures.0 in
    uses-next _ _ _ _ _ _ _ _ c.loop-j.invariant (omega arith) _ here _
    c.put.ensures

pub shape_of-list : goal.shape_of-list
shape_of-list c = uses-long _ _ _ _ _ _ _ _ c.loop-j.invariant

pub returns : goal.returns
returns c = uses-all _ _ _ _ _ _ _ _ c.loop-j.invariant (omega arith)
