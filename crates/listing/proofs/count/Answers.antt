-- `listing::count` meets its contract: record by record, by the laws of Passed. Assumes nothing.
use mathlib.Core.Path.{sym, ◌∙◌}
use native.Mathlib.Omega.{arith}
use Rattle.listing.proofs.Passed.{Next, next, none-next, end-next, passed_none, passed-all, passed-next}
use Rattle.listing.proofs.count.Goals as goal

pub loop-i-init : goal.loop-i-init
loop-i-init c = passed_none _

pub returns-then-is_short : goal.returns-then-is_short
returns-then-is_short c =
    let loop = c.loop-i in
    passed-all _ _ _ loop.invariant (none-next _ loop.i (sym c.is_short.ensures ∙ c.if-is_short.true))

pub overflow_add-i-in-loop-i : goal.overflow_add-i-in-loop-i
overflow_add-i-in-loop-i c =
    let here : Next c.args.c.now c.loop-i.i c.record_length.result = next _ _ (sym c.is_short.ensures ∙ c.if-is_short.false) _ c.record_length.ensures.0 in
    omega (arith, here.inside)

pub loop-i-preserved : goal.loop-i-preserved
loop-i-preserved c =
    let here : Next c.args.c.now c.loop-i.i c.record_length.result = next _ _ (sym c.is_short.ensures ∙ c.if-is_short.false) _ c.record_length.ensures.0 in
    passed-next _ _ _ c.loop-i.invariant _ here

pub returns : goal.returns
returns c =
    let loop = c.loop-i in
    passed-all c.args.c.now _ _ loop.invariant (end-next _ loop.i (omega (arith, c.loop-i-test.false)))
