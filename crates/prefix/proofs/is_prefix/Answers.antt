-- `prefix::is_prefix` meets its contract: name by name, by the laws of Prefixes. Assumes nothing.
use native.Mathlib.Omega.{arith}
use Rattle.prefix.proofs.Prefixes.{left-all, left-none, name-other, name-room, once-next, again-other, again-room, twice-next}
use mathlib.Core.Path.{ap}
use mathlib.Core.Bool.{not}
use Rattle.prefix.proofs.is_prefix.Goals as goal

pub loop-i-init : goal.loop-i-init
loop-i-init c = left-all _ _ _ _ _

pub bounds-scope-i : goal.bounds-scope-i
bounds-scope-i c =
    let loop = c.loop-i in
    omega (arith, loop.invariant.counted)

pub slice_bounds-selects-count : goal.slice_bounds-selects-count
slice_bounds-selects-count c =
    let loop = c.loop-i in
    omega (arith, loop.invariant.peeled.ordered)

pub slice_bounds-selects-end : goal.slice_bounds-selects-end
slice_bounds-selects-end c =
    let loop = c.loop-i in
    omega (arith, loop.invariant.peeled.inside)

pub returns-then-not-selects : goal.returns-then-not-selects
returns-then-not-selects c =
    let loop-test = c.loop-i-test in
    let loop = c.loop-i in
    let record-at = c.record_at-name in
    let selects = c.selects in
    let if1 = c.if-not-selects in
    name-other _ _ _ _ _ _ _ _ loop-test.true loop.invariant _ record-at.ensures _ selects.ensures (ap not if1.true)

pub overflow_add-from : goal.overflow_add-from
overflow_add-from c =
    let loop-test = c.loop-i-test in
    let loop = c.loop-i in
    let record-at = c.record_at-name in
    let selects = c.selects in
    let if1 = c.if-not-selects in
    let r = name-room _ _ _ _ _ _ _ _ loop-test.true loop.invariant _ record-at.ensures _ selects.ensures (ap not if1.false) in omega arith

pub overflow_sub-to : goal.overflow_sub-to
overflow_sub-to c =
    let loop-test = c.loop-i-test in
    let loop = c.loop-i in
    let record-at = c.record_at-name in
    let selects = c.selects in
    let if1 = c.if-not-selects in
    let r = name-room _ _ _ _ _ _ _ _ loop-test.true loop.invariant _ record-at.ensures _ selects.ensures (ap not if1.false) in omega arith

pub slice_bounds-selects-count-then-stands_twice : goal.slice_bounds-selects-count-then-stands_twice
slice_bounds-selects-count-then-stands_twice c =
    let loop-test = c.loop-i-test in
    let loop = c.loop-i in
    let record-at = c.record_at-name in
    let selects = c.selects in
    let if1 = c.if-not-selects in
    let r = name-room _ _ _ _ _ _ _ _ loop-test.true loop.invariant _ record-at.ensures _ selects.ensures (ap not if1.false) in omega arith

pub slice_bounds-selects-start-then-stands_twice : goal.slice_bounds-selects-start-then-stands_twice
slice_bounds-selects-start-then-stands_twice c =
    let loop-test = c.loop-i-test in
    let loop = c.loop-i in
    let record-at = c.record_at-name in
    let selects = c.selects in
    let if1 = c.if-not-selects in
    let r = name-room _ _ _ _ _ _ _ _ loop-test.true loop.invariant _ record-at.ensures _ selects.ensures (ap not if1.false) in omega arith

pub slice_bounds-selects-end-then-stands_twice : goal.slice_bounds-selects-end-then-stands_twice
slice_bounds-selects-end-then-stands_twice c =
    let loop-test = c.loop-i-test in
    let loop = c.loop-i in
    let record-at = c.record_at-name in
    let selects = c.selects in
    let if1 = c.if-not-selects in
    let r = name-room _ _ _ _ _ _ _ _ loop-test.true loop.invariant _ record-at.ensures _ selects.ensures (ap not if1.false) in omega arith

pub returns-then-not-selects-2 : goal.returns-then-not-selects-2
returns-then-not-selects-2 c =
    let loop-test = c.loop-i-test in
    let loop = c.loop-i in
    let record-at = c.record_at-name in
    let selects = c.selects in
    let stands-twice = c.stands_twice in
    let if1 = c.if-not-selects in
    let if2 = c.if-stands_twice in
    let selects2 = c.selects-then-stands_twice in
    let if3 = c.if-not-selects-2 in
    again-other _ _ _ _ _ _ _ _ loop-test.true loop.invariant _ record-at.ensures _ selects.ensures _ stands-twice.ensures (ap not if1.false) if2.true _
    selects2.ensures (ap not if3.true)

pub overflow_add-from-then-stands_twice : goal.overflow_add-from-then-stands_twice
overflow_add-from-then-stands_twice c =
    let loop-test = c.loop-i-test in
    let loop = c.loop-i in
    let record-at = c.record_at-name in
    let selects = c.selects in
    let stands-twice = c.stands_twice in
    let if1 = c.if-not-selects in
    let if2 = c.if-stands_twice in
    let selects2 = c.selects-then-stands_twice in
    let if3 = c.if-not-selects-2 in
    let r = again-room _ _ _ _ _ _ _ _ loop-test.true loop.invariant _ record-at.ensures _ selects.ensures _ stands-twice.ensures (ap not if1.false)
    if2.true _ selects2.ensures (ap not if3.false) in omega arith

pub overflow_sub-to-then-stands_twice : goal.overflow_sub-to-then-stands_twice
overflow_sub-to-then-stands_twice c =
    let loop-test = c.loop-i-test in
    let loop = c.loop-i in
    let record-at = c.record_at-name in
    let selects = c.selects in
    let stands-twice = c.stands_twice in
    let if1 = c.if-not-selects in
    let if2 = c.if-stands_twice in
    let selects2 = c.selects-then-stands_twice in
    let if3 = c.if-not-selects-2 in
    let r = again-room _ _ _ _ _ _ _ _ loop-test.true loop.invariant _ record-at.ensures _ selects.ensures _ stands-twice.ensures (ap not if1.false)
    if2.true _ selects2.ensures (ap not if3.false) in omega arith

pub loop-i-preserved-then-stands_twice : goal.loop-i-preserved-then-stands_twice
loop-i-preserved-then-stands_twice c =
    let loop-test = c.loop-i-test in
    let loop = c.loop-i in
    let record-at = c.record_at-name in
    let selects = c.selects in
    let stands-twice = c.stands_twice in
    let if1 = c.if-not-selects in
    let if2 = c.if-stands_twice in
    let selects2 = c.selects-then-stands_twice in
    let if3 = c.if-not-selects-2 in
    twice-next _ _ _ _ _ _ _ _ loop-test.true loop.invariant _ record-at.ensures _ selects.ensures _ stands-twice.ensures (ap not if1.false) if2.true _
    selects2.ensures (ap not if3.false)

pub loop-i-preserved : goal.loop-i-preserved
loop-i-preserved c =
    let loop-test = c.loop-i-test in
    let loop = c.loop-i in
    let record-at = c.record_at-name in
    let selects = c.selects in
    let stands-twice = c.stands_twice in
    let if1 = c.if-not-selects in
    let if2 = c.if-stands_twice in
    once-next _ _ _ _ _ _ _ _ loop-test.true loop.invariant _ record-at.ensures _ selects.ensures _ stands-twice.ensures (ap not if1.false) if2.false

pub returns : goal.returns
returns c =
    let loop-test = c.loop-i-test in
    let loop = c.loop-i in
    let same = c.same in
    left-none _ _ _ _ _ _ _ _ _ loop-test.false loop.invariant same.ensures
