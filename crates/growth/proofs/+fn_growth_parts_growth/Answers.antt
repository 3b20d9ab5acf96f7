-- `growth::fn_growth` and `growth::parts_growth` meet their contracts. They call each other, and what falls is how deep records are looked into. Each need is a
-- law of Turns. Assumes nothing.
use Prim.Native.Nat.{◌+◌, ◌-◌}
use native.Mathlib.Omega.{arith}
use Rattle.wire.specs.Numbers.{between}
use Rattle.growth.specs.Grows.{growth_all}
use Rattle.growth.proofs.Turns.{turn-start, turn_end, turn-short, turn-deep, turn-fits, Head, head}
use Rattle.growth.proofs.Turns.{turn-fixed, turn-type, turn-expr, turn-fn, held_fits, turn-held, turn_last, mid-fits, fn-fits, fn-gives}
use Rattle.growth.proofs.+fn_growth_parts_growth.Goals as goal

pub fn_growth-slice_bounds-c-end : goal.fn_growth-slice_bounds-c-end
fn_growth-slice_bounds-c-end t c = c.requires.1

pub fn_growth-overflow_sub-mid : goal.fn_growth-overflow_sub-mid
fn_growth-overflow_sub-mid t c =
    let a = c.args in
    omega (
      arith,
      mid-fits a.card.now a.from a.to c.requires.0 c.requires.1 _ _ c.rest.ensures c.rest-body.ensures,
      c.requires.0,
    )

pub fn_growth-parts_growth-a-requires : goal.fn_growth-parts_growth-a-requires
fn_growth-parts_growth-a-requires t c =
    let a = c.args in
    let m = mid-fits a.card.now a.from a.to c.requires.0 c.requires.1 _ _ c.rest.ensures c.rest-body.ensures in
    (omega (arith, c.decreases), (omega (arith, c.requires.0), omega (arith, c.requires.1), c.requires.2, omega (arith, c.requires.3)))

pub fn_growth-parts_growth-requires : goal.fn_growth-parts_growth-requires
fn_growth-parts_growth-requires t c =
    (omega (arith, c.decreases), (omega arith, c.requires.1, c.requires.2, omega (arith, c.requires.3)))

pub fn_growth-overflow_add-result : goal.fn_growth-overflow_add-result
fn_growth-overflow_add-result t c =
    let a = c.args in
    omega (
      arith,
      fn-fits a.card.now a.from a.to c.requires.0 c.requires.1 _ _ c.rest.ensures c.rest-body.ensures
          a.op a.left a.charged c.parts_growth-a.result c.parts_growth.result _
          c.walks_again-again.ensures c.parts_growth-a.ensures c.parts_growth.ensures c.requires.2 c.requires.3,
    )

pub fn_growth-returns : goal.fn_growth-returns
fn_growth-returns t c =
    let a = c.args in
    fn-gives a.card.now a.from a.to c.requires.0 c.requires.1 _ _ c.rest.ensures c.rest-body.ensures
    a.op a.left a.charged c.parts_growth-a.result c.parts_growth.result _
    c.walks_again-again.ensures c.parts_growth-a.ensures c.parts_growth.ensures

pub parts_growth-loop-at-init : goal.parts_growth-loop-at-init
parts_growth-loop-at-init t c =
    let a = c.args in
    let pre = c.requires in
    turn-start a.op a.card.now a.from a.to a.left a.w a.charged a.again pre.0 pre.1 pre.2 pre.3

pub parts_growth-slice_bounds-s-end : goal.parts_growth-slice_bounds-s-end
parts_growth-slice_bounds-s-end t c = c.requires.1

pub parts_growth-returns-then-is_short : goal.parts_growth-returns-then-is_short
parts_growth-returns-then-is_short t c = turn-short c.loop-at.invariant _ c.is_short.ensures c.if-is_short.true

pub parts_growth-returns-then-deep-eq0 : goal.parts_growth-returns-then-deep-eq0
parts_growth-returns-then-deep-eq0 t c = turn-deep c.loop-at.invariant c.if-deep-eq0.true

pub parts_growth-overflow_add-e : goal.parts_growth-overflow_add-e
parts_growth-overflow_add-e t c = omega (arith, c.requires.1, c.requires.2, c.loop-at-test.true)

pub parts_growth-overflow_add-e-in-loop-at : goal.parts_growth-overflow_add-e-in-loop-at
parts_growth-overflow_add-e-in-loop-at t c = omega (arith, c.requires.1, c.requires.2, c.loop-at-test.true, c.record_length.ensures.1)

pub parts_growth-loop-at-smaller-then-is_fixed : goal.parts_growth-loop-at-smaller-then-is_fixed
parts_growth-loop-at-smaller-then-is_fixed t c =
    let h = (let passed' : let a = c.args in
    let l = c.loop-at in
    Head a.op (growth_all a.op a.left a.charged a.again a.w (between a.card.now a.from a.to)) a.card.now a.to a.left
    l.at l.sum l.uses a.again l.wraps l.deep c.record_kind-k.result (l.at + 4 + c.record_length.result) = head c.loop-at.invariant c.requires.1 c.is_short.ensures c.if-is_short.false
    c.if-deep-eq0.false c.record_kind-k.ensures.0 c.record_length.ensures.0 in passed') in
    omega (arith, h.after-head, h.inside)

pub parts_growth-loop-at-preserved-then-is_fixed : goal.parts_growth-loop-at-preserved-then-is_fixed
parts_growth-loop-at-preserved-then-is_fixed t c =
    turn-fixed (let passed' : let a = c.args in
    let l = c.loop-at in
    Head a.op (growth_all a.op a.left a.charged a.again a.w (between a.card.now a.from a.to)) a.card.now a.to a.left
    l.at l.sum l.uses a.again l.wraps l.deep c.record_kind-k.result (l.at + 4 + c.record_length.result) = head c.loop-at.invariant c.requires.1 c.is_short.ensures c.if-is_short.false
    c.if-deep-eq0.false c.record_kind-k.ensures.0 c.record_length.ensures.0 in passed') c.is_fixed.ensures c.if-is_fixed.true

pub parts_growth-slice_bounds-type_growth-count : goal.parts_growth-slice_bounds-type_growth-count
parts_growth-slice_bounds-type_growth-count t c =
    let h = (let passed' : let a = c.args in
    let l = c.loop-at in
    Head a.op (growth_all a.op a.left a.charged a.again a.w (between a.card.now a.from a.to)) a.card.now a.to a.left
    l.at l.sum l.uses a.again l.wraps l.deep c.record_kind-k.result (l.at + 4 + c.record_length.result) = head c.loop-at.invariant c.requires.1 c.is_short.ensures c.if-is_short.false
    c.if-deep-eq0.false c.record_kind-k.ensures.0 c.record_length.ensures.0 in passed') in
    omega (arith, h.after-head)

pub parts_growth-slice_bounds-type_growth-start : goal.parts_growth-slice_bounds-type_growth-start
parts_growth-slice_bounds-type_growth-start t c =
    let h = (let passed' : let a = c.args in
    let l = c.loop-at in
    Head a.op (growth_all a.op a.left a.charged a.again a.w (between a.card.now a.from a.to)) a.card.now a.to a.left
    l.at l.sum l.uses a.again l.wraps l.deep c.record_kind-k.result (l.at + 4 + c.record_length.result) = head c.loop-at.invariant c.requires.1 c.is_short.ensures c.if-is_short.false
    c.if-deep-eq0.false c.record_kind-k.ensures.0 c.record_length.ensures.0 in passed') in
    omega (arith, h.after-head)

pub parts_growth-slice_bounds-type_growth-end : goal.parts_growth-slice_bounds-type_growth-end
parts_growth-slice_bounds-type_growth-end t c =
    let h = (let passed' : let a = c.args in
    let l = c.loop-at in
    Head a.op (growth_all a.op a.left a.charged a.again a.w (between a.card.now a.from a.to)) a.card.now a.to a.left
    l.at l.sum l.uses a.again l.wraps l.deep c.record_kind-k.result (l.at + 4 + c.record_length.result) = head c.loop-at.invariant c.requires.1 c.is_short.ensures c.if-is_short.false
    c.if-deep-eq0.false c.record_kind-k.ensures.0 c.record_length.ensures.0 in passed') in
    omega (arith, h.inside, h.bound)

pub parts_growth-type_growth-sum-requires : goal.parts_growth-type_growth-sum-requires
parts_growth-type_growth-sum-requires t c =
    let h = (let passed' : let a = c.args in
    let l = c.loop-at in
    Head a.op (growth_all a.op a.left a.charged a.again a.w (between a.card.now a.from a.to)) a.card.now a.to a.left
    l.at l.sum l.uses a.again l.wraps l.deep c.record_kind-k.result (l.at + 4 + c.record_length.result) = head c.loop-at.invariant c.requires.1 c.is_short.ensures c.if-is_short.false
    c.if-deep-eq0.false c.record_kind-k.ensures.0 c.record_length.ensures.0 in passed') in
    (omega (arith, h.turn.fit), omega (arith, h.long, h.inside, h.bound, c.requires.2))

pub parts_growth-overflow_add-sum : goal.parts_growth-overflow_add-sum
parts_growth-overflow_add-sum t c =
    let h = (let passed' : let a = c.args in
    let l = c.loop-at in
    Head a.op (growth_all a.op a.left a.charged a.again a.w (between a.card.now a.from a.to)) a.card.now a.to a.left
    l.at l.sum l.uses a.again l.wraps l.deep c.record_kind-k.result (l.at + 4 + c.record_length.result) = head c.loop-at.invariant c.requires.1 c.is_short.ensures c.if-is_short.false
    c.if-deep-eq0.false c.record_kind-k.ensures.0 c.record_length.ensures.0 in passed') in
    omega (
      arith,
      turn-fits (turn-type h c.is_fixed.ensures c.if-is_fixed.false c.if-k-eq45.true
          c.type_growth-sum.result c.type_growth-sum.ensures),
    )

pub parts_growth-loop-at-smaller-then-k-eq45 : goal.parts_growth-loop-at-smaller-then-k-eq45
parts_growth-loop-at-smaller-then-k-eq45 t c =
    let h = (let passed' : let a = c.args in
    let l = c.loop-at in
    Head a.op (growth_all a.op a.left a.charged a.again a.w (between a.card.now a.from a.to)) a.card.now a.to a.left
    l.at l.sum l.uses a.again l.wraps l.deep c.record_kind-k.result (l.at + 4 + c.record_length.result) = head c.loop-at.invariant c.requires.1 c.is_short.ensures c.if-is_short.false
    c.if-deep-eq0.false c.record_kind-k.ensures.0 c.record_length.ensures.0 in passed') in
    omega (arith, h.after-head, h.inside)

pub parts_growth-loop-at-preserved-then-k-eq45 : goal.parts_growth-loop-at-preserved-then-k-eq45
parts_growth-loop-at-preserved-then-k-eq45 t c =
    let h = (let passed' : let a = c.args in
    let l = c.loop-at in
    Head a.op (growth_all a.op a.left a.charged a.again a.w (between a.card.now a.from a.to)) a.card.now a.to a.left
    l.at l.sum l.uses a.again l.wraps l.deep c.record_kind-k.result (l.at + 4 + c.record_length.result) = head c.loop-at.invariant c.requires.1 c.is_short.ensures c.if-is_short.false
    c.if-deep-eq0.false c.record_kind-k.ensures.0 c.record_length.ensures.0 in passed') in
    turn-type h c.is_fixed.ensures c.if-is_fixed.false c.if-k-eq45.true
    c.type_growth-sum.result c.type_growth-sum.ensures

pub parts_growth-overflow_sub-e : goal.parts_growth-overflow_sub-e
parts_growth-overflow_sub-e t c =
    let h = (let passed' : let a = c.args in
    let l = c.loop-at in
    Head a.op (growth_all a.op a.left a.charged a.again a.w (between a.card.now a.from a.to)) a.card.now a.to a.left
    l.at l.sum l.uses a.again l.wraps l.deep c.record_kind-k.result (l.at + 4 + c.record_length.result) = head c.loop-at.invariant c.requires.1 c.is_short.ensures c.if-is_short.false
    c.if-deep-eq0.false c.record_kind-k.ensures.0 c.record_length.ensures.0 in passed') in
    omega (arith, h.after-head)

pub parts_growth-use_of-sum-requires : goal.parts_growth-use_of-sum-requires
parts_growth-use_of-sum-requires t c =
    let h = (let passed' : let a = c.args in
    let l = c.loop-at in
    Head a.op (growth_all a.op a.left a.charged a.again a.w (between a.card.now a.from a.to)) a.card.now a.to a.left
    l.at l.sum l.uses a.again l.wraps l.deep c.record_kind-k.result (l.at + 4 + c.record_length.result) = head c.loop-at.invariant c.requires.1 c.is_short.ensures c.if-is_short.false
    c.if-deep-eq0.false c.record_kind-k.ensures.0 c.record_length.ensures.0 in passed') in
    omega (arith, h.inside, h.bound, c.requires.2)

pub parts_growth-overflow_add-sum-then-k-eq92 : goal.parts_growth-overflow_add-sum-then-k-eq92
parts_growth-overflow_add-sum-then-k-eq92 t c =
    let h = (let passed' : let a = c.args in
    let l = c.loop-at in
    Head a.op (growth_all a.op a.left a.charged a.again a.w (between a.card.now a.from a.to)) a.card.now a.to a.left
    l.at l.sum l.uses a.again l.wraps l.deep c.record_kind-k.result (l.at + 4 + c.record_length.result) = head c.loop-at.invariant c.requires.1 c.is_short.ensures c.if-is_short.false
    c.if-deep-eq0.false c.record_kind-k.ensures.0 c.record_length.ensures.0 in passed') in
    omega (
      arith,
      turn-fits (turn-expr h c.is_fixed.ensures c.if-is_fixed.false c.if-k-eq45.false
          c.if-k-eq92.true c.use_of-sum.result c.use_of-sum.ensures),
    )

pub parts_growth-loop-at-smaller-then-k-eq92 : goal.parts_growth-loop-at-smaller-then-k-eq92
parts_growth-loop-at-smaller-then-k-eq92 t c =
    let h = (let passed' : let a = c.args in
    let l = c.loop-at in
    Head a.op (growth_all a.op a.left a.charged a.again a.w (between a.card.now a.from a.to)) a.card.now a.to a.left
    l.at l.sum l.uses a.again l.wraps l.deep c.record_kind-k.result (l.at + 4 + c.record_length.result) = head c.loop-at.invariant c.requires.1 c.is_short.ensures c.if-is_short.false
    c.if-deep-eq0.false c.record_kind-k.ensures.0 c.record_length.ensures.0 in passed') in
    omega (arith, h.after-head, h.inside)

pub parts_growth-loop-at-preserved-then-k-eq92 : goal.parts_growth-loop-at-preserved-then-k-eq92
parts_growth-loop-at-preserved-then-k-eq92 t c =
    let h = (let passed' : let a = c.args in
    let l = c.loop-at in
    Head a.op (growth_all a.op a.left a.charged a.again a.w (between a.card.now a.from a.to)) a.card.now a.to a.left
    l.at l.sum l.uses a.again l.wraps l.deep c.record_kind-k.result (l.at + 4 + c.record_length.result) = head c.loop-at.invariant c.requires.1 c.is_short.ensures c.if-is_short.false
    c.if-deep-eq0.false c.record_kind-k.ensures.0 c.record_length.ensures.0 in passed') in
    turn-expr h c.is_fixed.ensures c.if-is_fixed.false c.if-k-eq45.false
    c.if-k-eq92.true c.use_of-sum.result c.use_of-sum.ensures

pub parts_growth-overflow_add-at : goal.parts_growth-overflow_add-at
parts_growth-overflow_add-at t c =
    let h = (let passed' : let a = c.args in
    let l = c.loop-at in
    Head a.op (growth_all a.op a.left a.charged a.again a.w (between a.card.now a.from a.to)) a.card.now a.to a.left
    l.at l.sum l.uses a.again l.wraps l.deep c.record_kind-k.result (l.at + 4 + c.record_length.result) = head c.loop-at.invariant c.requires.1 c.is_short.ensures c.if-is_short.false
    c.if-deep-eq0.false c.record_kind-k.ensures.0 c.record_length.ensures.0 in passed') in
    omega (arith, h.after-head, h.inside, h.bound, c.requires.2)

pub parts_growth-overflow_sub-deep : goal.parts_growth-overflow_sub-deep
parts_growth-overflow_sub-deep t c =
    let h = (let passed' : let a = c.args in
    let l = c.loop-at in
    Head a.op (growth_all a.op a.left a.charged a.again a.w (between a.card.now a.from a.to)) a.card.now a.to a.left
    l.at l.sum l.uses a.again l.wraps l.deep c.record_kind-k.result (l.at + 4 + c.record_length.result) = head c.loop-at.invariant c.requires.1 c.is_short.ensures c.if-is_short.false
    c.if-deep-eq0.false c.record_kind-k.ensures.0 c.record_length.ensures.0 in passed') in
    omega (arith, h.deeper)

pub parts_growth-fn_growth-sum-requires : goal.parts_growth-fn_growth-sum-requires
parts_growth-fn_growth-sum-requires t c =
    let h = (let passed' : let a = c.args in
    let l = c.loop-at in
    Head a.op (growth_all a.op a.left a.charged a.again a.w (between a.card.now a.from a.to)) a.card.now a.to a.left
    l.at l.sum l.uses a.again l.wraps l.deep c.record_kind-k.result (l.at + 4 + c.record_length.result) = head c.loop-at.invariant c.requires.1 c.is_short.ensures c.if-is_short.false
    c.if-deep-eq0.false c.record_kind-k.ensures.0 c.record_length.ensures.0 in passed') in (
      omega (arith, c.decreases, h.turn.under, h.deeper),
      (h.after-head, omega (arith, h.inside, h.bound), c.requires.2, omega (arith, h.turn.fit, h.deeper)),
    )

pub parts_growth-overflow_add-sum-then-k-eq125 : goal.parts_growth-overflow_add-sum-then-k-eq125
parts_growth-overflow_add-sum-then-k-eq125 t c =
    let h = (let passed' : let a = c.args in
    let l = c.loop-at in
    Head a.op (growth_all a.op a.left a.charged a.again a.w (between a.card.now a.from a.to)) a.card.now a.to a.left
    l.at l.sum l.uses a.again l.wraps l.deep c.record_kind-k.result (l.at + 4 + c.record_length.result) = head c.loop-at.invariant c.requires.1 c.is_short.ensures c.if-is_short.false
    c.if-deep-eq0.false c.record_kind-k.ensures.0 c.record_length.ensures.0 in passed') in
    omega (
      arith,
      turn-fits (turn-fn h c.is_fixed.ensures c.if-is_fixed.false c.if-k-eq45.false
          c.if-k-eq92.false c.if-k-eq125.true c.fn_growth-sum.result c.fn_growth-sum.ensures),
    )

pub parts_growth-loop-at-smaller-then-k-eq125 : goal.parts_growth-loop-at-smaller-then-k-eq125
parts_growth-loop-at-smaller-then-k-eq125 t c =
    let h = (let passed' : let a = c.args in
    let l = c.loop-at in
    Head a.op (growth_all a.op a.left a.charged a.again a.w (between a.card.now a.from a.to)) a.card.now a.to a.left
    l.at l.sum l.uses a.again l.wraps l.deep c.record_kind-k.result (l.at + 4 + c.record_length.result) = head c.loop-at.invariant c.requires.1 c.is_short.ensures c.if-is_short.false
    c.if-deep-eq0.false c.record_kind-k.ensures.0 c.record_length.ensures.0 in passed') in
    omega (arith, h.after-head, h.inside)

pub parts_growth-loop-at-preserved-then-k-eq125 : goal.parts_growth-loop-at-preserved-then-k-eq125
parts_growth-loop-at-preserved-then-k-eq125 t c =
    let h = (let passed' : let a = c.args in
    let l = c.loop-at in
    Head a.op (growth_all a.op a.left a.charged a.again a.w (between a.card.now a.from a.to)) a.card.now a.to a.left
    l.at l.sum l.uses a.again l.wraps l.deep c.record_kind-k.result (l.at + 4 + c.record_length.result) = head c.loop-at.invariant c.requires.1 c.is_short.ensures c.if-is_short.false
    c.if-deep-eq0.false c.record_kind-k.ensures.0 c.record_length.ensures.0 in passed') in
    turn-fn h c.is_fixed.ensures c.if-is_fixed.false c.if-k-eq45.false
    c.if-k-eq92.false c.if-k-eq125.true c.fn_growth-sum.result c.fn_growth-sum.ensures

pub parts_growth-wraps_in-v-requires : goal.parts_growth-wraps_in-v-requires
parts_growth-wraps_in-v-requires t c =
    let h = (let passed' : let a = c.args in
    let l = c.loop-at in
    Head a.op (growth_all a.op a.left a.charged a.again a.w (between a.card.now a.from a.to)) a.card.now a.to a.left
    l.at l.sum l.uses a.again l.wraps l.deep c.record_kind-k.result (l.at + 4 + c.record_length.result) = head c.loop-at.invariant c.requires.1 c.is_short.ensures c.if-is_short.false
    c.if-deep-eq0.false c.record_kind-k.ensures.0 c.record_length.ensures.0 in passed') in
    omega (arith, h.turn.fit)

pub parts_growth-overflow_add-at-then-e-to : goal.parts_growth-overflow_add-at-then-e-to
parts_growth-overflow_add-at-then-e-to t c =
    let h = (let passed' : let a = c.args in
    let l = c.loop-at in
    Head a.op (growth_all a.op a.left a.charged a.again a.w (between a.card.now a.from a.to)) a.card.now a.to a.left
    l.at l.sum l.uses a.again l.wraps l.deep c.record_kind-k.result (l.at + 4 + c.record_length.result) = head c.loop-at.invariant c.requires.1 c.is_short.ensures c.if-is_short.false
    c.if-deep-eq0.false c.record_kind-k.ensures.0 c.record_length.ensures.0 in passed') in
    omega (arith, h.after-head, h.inside, h.bound, c.requires.2)

pub parts_growth-overflow_sub-deep-then-e-to : goal.parts_growth-overflow_sub-deep-then-e-to
parts_growth-overflow_sub-deep-then-e-to t c =
    let h = (let passed' : let a = c.args in
    let l = c.loop-at in
    Head a.op (growth_all a.op a.left a.charged a.again a.w (between a.card.now a.from a.to)) a.card.now a.to a.left
    l.at l.sum l.uses a.again l.wraps l.deep c.record_kind-k.result (l.at + 4 + c.record_length.result) = head c.loop-at.invariant c.requires.1 c.is_short.ensures c.if-is_short.false
    c.if-deep-eq0.false c.record_kind-k.ensures.0 c.record_length.ensures.0 in passed') in
    omega (arith, h.deeper)

pub parts_growth-loop-at-smaller-then-e-to : goal.parts_growth-loop-at-smaller-then-e-to
parts_growth-loop-at-smaller-then-e-to t c =
    let h = (let passed' : let a = c.args in
    let l = c.loop-at in
    Head a.op (growth_all a.op a.left a.charged a.again a.w (between a.card.now a.from a.to)) a.card.now a.to a.left
    l.at l.sum l.uses a.again l.wraps l.deep c.record_kind-k.result (l.at + 4 + c.record_length.result) = head c.loop-at.invariant c.requires.1 c.is_short.ensures c.if-is_short.false
    c.if-deep-eq0.false c.record_kind-k.ensures.0 c.record_length.ensures.0 in passed') in
    omega (arith, h.after-head, h.inside)

pub parts_growth-loop-at-preserved-then-e-to : goal.parts_growth-loop-at-preserved-then-e-to
parts_growth-loop-at-preserved-then-e-to t c =
    let h = (let passed' : let a = c.args in
    let l = c.loop-at in
    Head a.op (growth_all a.op a.left a.charged a.again a.w (between a.card.now a.from a.to)) a.card.now a.to a.left
    l.at l.sum l.uses a.again l.wraps l.deep c.record_kind-k.result (l.at + 4 + c.record_length.result) = head c.loop-at.invariant c.requires.1 c.is_short.ensures c.if-is_short.false
    c.if-deep-eq0.false c.record_kind-k.ensures.0 c.record_length.ensures.0 in passed') in
    turn_last h c.is_fixed.ensures c.if-is_fixed.false c.if-k-eq45.false
    c.if-k-eq92.false c.if-k-eq125.false
    c.charges-u.result c.charges-u.ensures c.wraps_in-v.result c.wraps_in-v.ensures c.if-e-to.true

pub parts_growth-overflow_add-at-in-loop-at : goal.parts_growth-overflow_add-at-in-loop-at
parts_growth-overflow_add-at-in-loop-at t c =
    let h = (let passed' : let a = c.args in
    let l = c.loop-at in
    Head a.op (growth_all a.op a.left a.charged a.again a.w (between a.card.now a.from a.to)) a.card.now a.to a.left
    l.at l.sum l.uses a.again l.wraps l.deep c.record_kind-k.result (l.at + 4 + c.record_length.result) = head c.loop-at.invariant c.requires.1 c.is_short.ensures c.if-is_short.false
    c.if-deep-eq0.false c.record_kind-k.ensures.0 c.record_length.ensures.0 in passed') in
    omega (arith, h.after-head, h.inside, h.bound, c.requires.2)

pub parts_growth-overflow_sub-deep-in-loop-at : goal.parts_growth-overflow_sub-deep-in-loop-at
parts_growth-overflow_sub-deep-in-loop-at t c =
    let h = (let passed' : let a = c.args in
    let l = c.loop-at in
    Head a.op (growth_all a.op a.left a.charged a.again a.w (between a.card.now a.from a.to)) a.card.now a.to a.left
    l.at l.sum l.uses a.again l.wraps l.deep c.record_kind-k.result (l.at + 4 + c.record_length.result) = head c.loop-at.invariant c.requires.1 c.is_short.ensures c.if-is_short.false
    c.if-deep-eq0.false c.record_kind-k.ensures.0 c.record_length.ensures.0 in passed') in
    omega (arith, h.deeper)

pub parts_growth-parts_growth-sum-requires : goal.parts_growth-parts_growth-sum-requires
parts_growth-parts_growth-sum-requires t c =
    let h = (let passed' : let a = c.args in
    let l = c.loop-at in
    Head a.op (growth_all a.op a.left a.charged a.again a.w (between a.card.now a.from a.to)) a.card.now a.to a.left
    l.at l.sum l.uses a.again l.wraps l.deep c.record_kind-k.result (l.at + 4 + c.record_length.result) = head c.loop-at.invariant c.requires.1 c.is_short.ensures c.if-is_short.false
    c.if-deep-eq0.false c.record_kind-k.ensures.0 c.record_length.ensures.0 in passed') in
    let fits = held_fits h c.is_fixed.ensures c.if-is_fixed.false c.if-k-eq45.false
    c.if-k-eq92.false c.if-k-eq125.false
    c.charges-u.result c.charges-u.ensures c.wraps_in-v.result c.wraps_in-v.ensures in (
      omega (arith, c.decreases, h.turn.under, h.deeper),
      (h.after-head, omega (arith, h.inside, h.bound), c.requires.2, fits),
    )

pub parts_growth-overflow_add-sum-in-loop-at : goal.parts_growth-overflow_add-sum-in-loop-at
parts_growth-overflow_add-sum-in-loop-at t c =
    let h = (let passed' : let a = c.args in
    let l = c.loop-at in
    Head a.op (growth_all a.op a.left a.charged a.again a.w (between a.card.now a.from a.to)) a.card.now a.to a.left
    l.at l.sum l.uses a.again l.wraps l.deep c.record_kind-k.result (l.at + 4 + c.record_length.result) = head c.loop-at.invariant c.requires.1 c.is_short.ensures c.if-is_short.false
    c.if-deep-eq0.false c.record_kind-k.ensures.0 c.record_length.ensures.0 in passed') in
    omega (
      arith,
      turn-fits (turn-held h c.is_fixed.ensures c.if-is_fixed.false c.if-k-eq45.false
          c.if-k-eq92.false c.if-k-eq125.false
          c.charges-u.result c.charges-u.ensures c.wraps_in-v.result c.wraps_in-v.ensures
          c.parts_growth-sum.result c.parts_growth-sum.ensures),
    )

pub parts_growth-loop-at-smaller : goal.parts_growth-loop-at-smaller
parts_growth-loop-at-smaller t c =
    let h = (let passed' : let a = c.args in
    let l = c.loop-at in
    Head a.op (growth_all a.op a.left a.charged a.again a.w (between a.card.now a.from a.to)) a.card.now a.to a.left
    l.at l.sum l.uses a.again l.wraps l.deep c.record_kind-k.result (l.at + 4 + c.record_length.result) = head c.loop-at.invariant c.requires.1 c.is_short.ensures c.if-is_short.false
    c.if-deep-eq0.false c.record_kind-k.ensures.0 c.record_length.ensures.0 in passed') in
    omega (arith, h.after-head, h.inside)

pub parts_growth-loop-at-preserved : goal.parts_growth-loop-at-preserved
parts_growth-loop-at-preserved t c =
    let h = (let passed' : let a = c.args in
    let l = c.loop-at in
    Head a.op (growth_all a.op a.left a.charged a.again a.w (between a.card.now a.from a.to)) a.card.now a.to a.left
    l.at l.sum l.uses a.again l.wraps l.deep c.record_kind-k.result (l.at + 4 + c.record_length.result) = head c.loop-at.invariant c.requires.1 c.is_short.ensures c.if-is_short.false
    c.if-deep-eq0.false c.record_kind-k.ensures.0 c.record_length.ensures.0 in passed') in
    turn-held h c.is_fixed.ensures c.if-is_fixed.false c.if-k-eq45.false
    c.if-k-eq92.false c.if-k-eq125.false
    c.charges-u.result c.charges-u.ensures c.wraps_in-v.result c.wraps_in-v.ensures
    c.parts_growth-sum.result c.parts_growth-sum.ensures

pub parts_growth-returns : goal.parts_growth-returns
parts_growth-returns t c = turn_end c.loop-at.invariant c.loop-at-test.false
