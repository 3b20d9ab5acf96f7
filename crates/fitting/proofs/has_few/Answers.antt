-- `fitting::has_few` meets its contract. Assumes nothing.
use Prim.Native.Nat.{◌-◌}
use native.Mathlib.Omega.{arith}
use Rattle.wire.proofs.Slices.{tail-is}
use Rattle.fitting.proofs.Tests.{few-in, left-start, left_end, left-short, left-inside, left-many, left-next}
use Rattle.fitting.proofs.has_few.Goals as goal

pub loop-i-init : goal.loop-i-init
loop-i-init c =
    let args = c.args in
    left-start args.most _

pub slice_bounds-s-count : goal.slice_bounds-s-count
slice_bounds-s-count c =
    let loop = c.loop-i in
    loop.invariant.inside

pub returns-then-is_short : goal.returns-then-is_short
returns-then-is_short c =
    let args = c.args in
    let content = c.content-ahead in
    let rest = c.rest in
    let rest2 = c.rest-2 in
    let rest3 = c.rest-3 in
    let content2 = c.content-body in
    let loop = c.loop-i in
    let is-short = c.is_short in
    let if1 = c.if-is_short in
    few-in args.card.now _ _ _ _ _ content.ensures rest.ensures rest2.ensures rest3.ensures content2.ensures args.most
    (left-short loop.invariant (tail-is _ loop.i) is-short.ensures if1.true)

pub returns-then-is_many : goal.returns-then-is_many
returns-then-is_many c =
    let args = c.args in
    let content = c.content-ahead in
    let rest = c.rest in
    let rest2 = c.rest-2 in
    let rest3 = c.rest-3 in
    let content2 = c.content-body in
    let loop = c.loop-i in
    let is-short = c.is_short in
    let if1 = c.if-is_short in
    let record-length = c.record_length-n in
    let record-kind = c.record_kind in
    let is-many = c.is_many in
    let if2 = c.if-is_many in
    few-in args.card.now _ _ _ _ _ content.ensures rest.ensures rest2.ensures rest3.ensures content2.ensures args.most
    (left-many loop.invariant (tail-is _ loop.i) is-short.ensures if1.false record-length.ensures record-kind.ensures is-many.ensures if2.true)

pub overflow_add-i : goal.overflow_add-i
overflow_add-i c =
    let loop = c.loop-i in
    let is-short = c.is_short in
    let if1 = c.if-is_short in
    let record-length = c.record_length-n in
    let o = left-inside loop.invariant (tail-is _ loop.i) is-short.ensures if1.false record-length.ensures in omega arith

pub loop-i-smaller : goal.loop-i-smaller
loop-i-smaller c =
    let loop = c.loop-i in
    let is-short = c.is_short in
    let if1 = c.if-is_short in
    let record-length = c.record_length-n in
    let loop-test = c.loop-i-test in
    let o = left-inside loop.invariant (tail-is _ loop.i) is-short.ensures if1.false record-length.ensures in let z = loop-test.true in omega arith

pub loop-i-preserved : goal.loop-i-preserved
loop-i-preserved c =
    let loop = c.loop-i in
    let is-short = c.is_short in
    let if1 = c.if-is_short in
    let record-length = c.record_length-n in
    let record-kind = c.record_kind in
    let is-many = c.is_many in
    let if2 = c.if-is_many in
    left-next loop.invariant (tail-is _ loop.i) is-short.ensures if1.false record-length.ensures record-kind.ensures is-many.ensures if2.false

pub returns : goal.returns
returns c =
    let args = c.args in
    let content = c.content-ahead in
    let rest = c.rest in
    let rest2 = c.rest-2 in
    let rest3 = c.rest-3 in
    let content2 = c.content-body in
    let loop = c.loop-i in
    let loop-test = c.loop-i-test in
    few-in args.card.now _ _ _ _ _ content.ensures rest.ensures rest2.ensures rest3.ensures content2.ensures args.most
    (left_end loop.invariant loop-test.false)
