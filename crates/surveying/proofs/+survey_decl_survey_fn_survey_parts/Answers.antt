-- The walk of surveying meets its contracts. Its functions call each other, and what falls is how deep records are looked into. Each need is a law of Here, of
-- Decls or of Fns. Assumes nothing.
use mathlib.Core.Path.{refl, sym, ◌∙◌}
use mathlib.Core.Bool.{false}
use Prim.Native.Nat.{◌-◌}
use native.Mathlib.Omega.{arith}
use Rattle.wire.specs.Numbers.{between}
use Rattle.wire.proofs.Less.{at_least_one}
use Rattle.prefix.specs.Prefix.{scope_of}
use Rattle.adding.specs.Adds.{table}
use Rattle.gathering.specs.Gathers.{parts_added}
use Rattle.collecting.proofs.Going.{going_start, going_done, going-short, going-deep, use-name, mod-name, decl-both, visited-decl, less-deep}
use Rattle.growth.specs.Grows.{growth_all}
use Rattle.growth.proofs.Turns.{turn-start, turn_end, turn-short, turn-deep, turn-fits, mid-fits, fn-fits, fn-gives}
use Rattle.surveying.proofs.Decls.{use-grows, mod-grows, decl-grows}
use Rattle.surveying.proofs.Fns.{fn-parts}
use Rattle.surveying.proofs.Here as law
use Rattle.surveying.proofs.Here.{Here}
use mathlib.Core.Path.{ap}
use mathlib.Core.Bool.{not}
use Rattle.surveying.proofs.+survey_decl_survey_fn_survey_parts.Goals as goal

pub survey_decl-returns-then-k-eq106 : goal.survey_decl-returns-then-k-eq106
survey_decl-returns-then-k-eq106 t c =
    let a = c.args in
    let s = scope_of a.scope.now in (
      use-name s (table a.n a.work.now) a.from a.to a.k a.left _ c.if-k-eq106.true c.add_name-m.ensures,
      use-grows a.scope.now.op a.left a.again a.w a.k _ c.if-k-eq106.true,
    )

pub survey_decl-returns-then-k-eq98 : goal.survey_decl-returns-then-k-eq98
survey_decl-returns-then-k-eq98 t c =
    let a = c.args in
    let s = scope_of a.scope.now in
    let pre = c.requires in (
      mod-name s (table a.n a.work.now) a.from a.to a.k a.left _ c.if-k-eq98.true c.add_name-m.ensures,
      mod-grows a.scope.now.op a.left a.again a.w a.k a.scope.now.card.now a.from a.to pre.0 pre.1 pre.2 pre.3 c.if-k-eq98.true _
          c.part_growth-g.ensures,
    )

pub survey_decl-survey_parts-requires : goal.survey_decl-survey_parts-requires
survey_decl-survey_parts-requires t c = (omega (arith, c.decreases), (c.requires.0, c.requires.1, c.requires.2, c.requires.3))

pub survey_decl-returns : goal.survey_decl-returns
survey_decl-returns t c =
    let a = c.args in
    let s = scope_of a.scope.now in
    let pre = c.requires in (
      decl-both s (table a.n a.work.now) a.from a.to a.k a.left _ pre.4 _ c.add_name-m.ensures
          c.survey_parts.ensures.0,
      decl-grows a.scope.now.op a.left a.again a.w a.k _ pre.4 c.if-k-eq106.false
          c.if-k-eq98.false _ c.survey_parts.ensures.1,
    )

pub survey_fn-slice_bounds-c-end : goal.survey_fn-slice_bounds-c-end
survey_fn-slice_bounds-c-end t c = c.requires.within.1

pub survey_fn-overflow_sub-mid : goal.survey_fn-overflow_sub-mid
survey_fn-overflow_sub-mid t c =
    let a = c.args in
    let pre = c.requires.within in
    omega (arith, mid-fits a.scope.now.card.now a.from a.to pre.0 pre.1 _ _ c.rest.ensures c.rest-body.ensures, pre.0)

pub survey_fn-survey_parts-a-requires : goal.survey_fn-survey_parts-a-requires
survey_fn-survey_parts-a-requires t c =
    let a = c.args in
    let pre = c.requires.within in
    let m = mid-fits a.scope.now.card.now a.from a.to pre.0 pre.1 _ _ c.rest.ensures c.rest-body.ensures in
    (omega (arith, c.decreases), (omega (arith, pre.0), omega (arith, pre.1), pre.2, omega (arith, pre.3)))

pub survey_fn-survey_parts-b-requires : goal.survey_fn-survey_parts-b-requires
survey_fn-survey_parts-b-requires t c =
    let a = c.args in
    let pre = c.requires.within in
    (omega (arith, c.decreases), (omega arith, pre.1, pre.2, omega (arith, pre.3)))

pub survey_fn-overflow_add-result : goal.survey_fn-overflow_add-result
survey_fn-overflow_add-result t c =
    let a = c.args in
    let pre = c.requires.within in
    omega (
      arith,
      fn-fits a.scope.now.card.now a.from a.to pre.0 pre.1 _ _ c.rest.ensures c.rest-body.ensures
          a.scope.now.op a.left false c.survey_parts-a.result.grown c.survey_parts-b.result.grown _
          c.walks_again-again.ensures
          c.survey_parts-a.ensures.1 c.survey_parts-b.ensures.1 pre.2 pre.3,
    )

pub survey_fn-returns : goal.survey_fn-returns
survey_fn-returns t c =
    let a = c.args in
    let pre = c.requires.within in
    let s = scope_of a.scope.now in (
      fn-parts s a.left a.from a.to (table a.n a.work.now) _ _ pre.1 c.requires.parted _ _ c.rest.ensures
          c.rest-body.ensures
          c.survey_parts-a.ensures.0 c.survey_parts-b.ensures.0,
      fn-gives a.scope.now.card.now a.from a.to pre.0 pre.1 _ _ c.rest.ensures c.rest-body.ensures
          a.scope.now.op a.left false c.survey_parts-a.result.grown c.survey_parts-b.result.grown _
          c.walks_again-again.ensures
          c.survey_parts-a.ensures.1 c.survey_parts-b.ensures.1,
    )

pub survey_parts-loop-at-init : goal.survey_parts-loop-at-init
survey_parts-loop-at-init t c =
    let a = c.args in
    let pre = c.requires in (
      going_start (scope_of a.scope.now) (table a.n a.work.now) a.from a.to a.k a.left pre.0,
      turn-start a.scope.now.op a.scope.now.card.now a.from a.to a.left a.w false a.again pre.0 pre.1 pre.2 pre.3,
      refl,
    )

pub survey_parts-slice_bounds-s-count : goal.survey_parts-slice_bounds-s-count
survey_parts-slice_bounds-s-count t c = c.loop-at.invariant.0.ordered

pub survey_parts-slice_bounds-s-start : goal.survey_parts-slice_bounds-s-start
survey_parts-slice_bounds-s-start t c = c.loop-at.invariant.0.ordered

pub survey_parts-slice_bounds-s-end : goal.survey_parts-slice_bounds-s-end
survey_parts-slice_bounds-s-end t c = c.requires.1

pub survey_parts-shape_of-work-then-is_short : goal.survey_parts-shape_of-work-then-is_short
survey_parts-shape_of-work-then-is_short t c = omega (arith, c.loop-at.invariant.2)

pub survey_parts-returns-then-is_short : goal.survey_parts-returns-then-is_short
survey_parts-returns-then-is_short t c =
    let inv = c.loop-at.invariant in
    (going-short inv.0 refl c.is_short.ensures c.if-is_short.true, turn-short inv.1 _ c.is_short.ensures c.if-is_short.true)

pub survey_parts-shape_of-work-then-deep-eq0 : goal.survey_parts-shape_of-work-then-deep-eq0
survey_parts-shape_of-work-then-deep-eq0 t c = omega (arith, c.loop-at.invariant.2)

pub survey_parts-returns-then-deep-eq0 : goal.survey_parts-returns-then-deep-eq0
survey_parts-returns-then-deep-eq0 t c =
    let inv = c.loop-at.invariant in
    (going-deep inv.0 c.if-deep-eq0.true, turn-deep inv.1 c.if-deep-eq0.true)

pub survey_parts-overflow_add-next : goal.survey_parts-overflow_add-next
survey_parts-overflow_add-next t c =
    let pre = c.requires in
    omega (arith, pre.1, pre.2, c.loop-at.invariant.0.ordered)

pub survey_parts-overflow_add-next-in-loop-at : goal.survey_parts-overflow_add-next-in-loop-at
survey_parts-overflow_add-next-in-loop-at t c =
    let pre = c.requires in
    omega (arith, pre.1, pre.2, c.loop-at.invariant.0.ordered, c.record_length.ensures.1)

pub survey_parts-overflow_add-i : goal.survey_parts-overflow_add-i
survey_parts-overflow_add-i t c =
    let h :
    let a = c.args in
    let l = c.loop-at in
    let s = scope_of a.scope.now in
    Here a.scope.now.op s (parts_added s a.left a.k (table a.n a.work.now) a.from a.to)
    (growth_all a.scope.now.op a.left false a.again a.w (between a.scope.now.card.now a.from a.to)) a.to a.left
    (table l.m l.work) l.at l.of l.i l.deep l.sum a.again l.wraps
    c.record_kind-j.result c.record_length.result =
    let inv = c.loop-at.invariant in
    let pre = c.requires in
    law.here inv.0 inv.1 pre.1 pre.2 c.is_short.ensures c.if-is_short.false c.if-deep-eq0.false
    c.record_length.ensures c.record_kind-j.ensures in
    omega (arith, h.going.counted, h.going.ordered, c.requires.1, c.requires.2)

pub survey_parts-loop-at-smaller-then-j-eq1 : goal.survey_parts-loop-at-smaller-then-j-eq1
survey_parts-loop-at-smaller-then-j-eq1 t c =
    let h :
    let a = c.args in
    let l = c.loop-at in
    let s = scope_of a.scope.now in
    Here a.scope.now.op s (parts_added s a.left a.k (table a.n a.work.now) a.from a.to)
    (growth_all a.scope.now.op a.left false a.again a.w (between a.scope.now.card.now a.from a.to)) a.to a.left
    (table l.m l.work) l.at l.of l.i l.deep l.sum a.again l.wraps
    c.record_kind-j.result c.record_length.result =
    let inv = c.loop-at.invariant in
    let pre = c.requires in
    law.here inv.0 inv.1 pre.1 pre.2 c.is_short.ensures c.if-is_short.false c.if-deep-eq0.false
    c.record_length.ensures c.record_kind-j.ensures in
    omega (arith, h.head.after-head, h.head.inside)

pub survey_parts-loop-at-preserved-then-j-eq1 : goal.survey_parts-loop-at-preserved-then-j-eq1
survey_parts-loop-at-preserved-then-j-eq1 t c =
    let h :
    let a = c.args in
    let l = c.loop-at in
    let s = scope_of a.scope.now in
    Here a.scope.now.op s (parts_added s a.left a.k (table a.n a.work.now) a.from a.to)
    (growth_all a.scope.now.op a.left false a.again a.w (between a.scope.now.card.now a.from a.to)) a.to a.left
    (table l.m l.work) l.at l.of l.i l.deep l.sum a.again l.wraps
    c.record_kind-j.result c.record_length.result =
    let inv = c.loop-at.invariant in
    let pre = c.requires in
    law.here inv.0 inv.1 pre.1 pre.2 c.is_short.ensures c.if-is_short.false c.if-deep-eq0.false
    c.record_length.ensures c.record_kind-j.ensures in
    (law.text-goes h c.if-j-eq1.true, law.text-grows h c.if-j-eq1.true, omega (arith, c.loop-at.invariant.2))

pub survey_parts-overflow_add-i-then-j-eq3 : goal.survey_parts-overflow_add-i-then-j-eq3
survey_parts-overflow_add-i-then-j-eq3 t c =
    let h :
    let a = c.args in
    let l = c.loop-at in
    let s = scope_of a.scope.now in
    Here a.scope.now.op s (parts_added s a.left a.k (table a.n a.work.now) a.from a.to)
    (growth_all a.scope.now.op a.left false a.again a.w (between a.scope.now.card.now a.from a.to)) a.to a.left
    (table l.m l.work) l.at l.of l.i l.deep l.sum a.again l.wraps
    c.record_kind-j.result c.record_length.result =
    let inv = c.loop-at.invariant in
    let pre = c.requires in
    law.here inv.0 inv.1 pre.1 pre.2 c.is_short.ensures c.if-is_short.false c.if-deep-eq0.false
    c.record_length.ensures c.record_kind-j.ensures in
    omega (arith, h.going.counted, h.going.ordered, c.requires.1, c.requires.2)

pub survey_parts-loop-at-smaller-then-j-eq3 : goal.survey_parts-loop-at-smaller-then-j-eq3
survey_parts-loop-at-smaller-then-j-eq3 t c =
    let h :
    let a = c.args in
    let l = c.loop-at in
    let s = scope_of a.scope.now in
    Here a.scope.now.op s (parts_added s a.left a.k (table a.n a.work.now) a.from a.to)
    (growth_all a.scope.now.op a.left false a.again a.w (between a.scope.now.card.now a.from a.to)) a.to a.left
    (table l.m l.work) l.at l.of l.i l.deep l.sum a.again l.wraps
    c.record_kind-j.result c.record_length.result =
    let inv = c.loop-at.invariant in
    let pre = c.requires in
    law.here inv.0 inv.1 pre.1 pre.2 c.is_short.ensures c.if-is_short.false c.if-deep-eq0.false
    c.record_length.ensures c.record_kind-j.ensures in
    omega (arith, h.head.after-head, h.head.inside)

pub survey_parts-loop-at-preserved-then-j-eq3 : goal.survey_parts-loop-at-preserved-then-j-eq3
survey_parts-loop-at-preserved-then-j-eq3 t c =
    let h :
    let a = c.args in
    let l = c.loop-at in
    let s = scope_of a.scope.now in
    Here a.scope.now.op s (parts_added s a.left a.k (table a.n a.work.now) a.from a.to)
    (growth_all a.scope.now.op a.left false a.again a.w (between a.scope.now.card.now a.from a.to)) a.to a.left
    (table l.m l.work) l.at l.of l.i l.deep l.sum a.again l.wraps
    c.record_kind-j.result c.record_length.result =
    let inv = c.loop-at.invariant in
    let pre = c.requires in
    law.here inv.0 inv.1 pre.1 pre.2 c.is_short.ensures c.if-is_short.false c.if-deep-eq0.false
    c.record_length.ensures c.record_kind-j.ensures in
    (law.kept_goes h c.if-j-eq3.true, law.kept-grows h c.if-j-eq1.false c.if-j-eq3.true, omega (arith, c.loop-at.invariant.2))

pub survey_parts-overflow_add-sum : goal.survey_parts-overflow_add-sum
survey_parts-overflow_add-sum t c =
    let h :
    let a = c.args in
    let l = c.loop-at in
    let s = scope_of a.scope.now in
    Here a.scope.now.op s (parts_added s a.left a.k (table a.n a.work.now) a.from a.to)
    (growth_all a.scope.now.op a.left false a.again a.w (between a.scope.now.card.now a.from a.to)) a.to a.left
    (table l.m l.work) l.at l.of l.i l.deep l.sum a.again l.wraps
    c.record_kind-j.result c.record_length.result =
    let inv = c.loop-at.invariant in
    let pre = c.requires in
    law.here inv.0 inv.1 pre.1 pre.2 c.is_short.ensures c.if-is_short.false c.if-deep-eq0.false
    c.record_length.ensures c.record_kind-j.ensures in
    let n = law.part-grows h _ c.part_growth-sum.ensures in
    omega (arith, turn-fits n)

pub survey_parts-overflow_add-i-then-not-is_entered : goal.survey_parts-overflow_add-i-then-not-is_entered
survey_parts-overflow_add-i-then-not-is_entered t c =
    let h :
    let a = c.args in
    let l = c.loop-at in
    let s = scope_of a.scope.now in
    Here a.scope.now.op s (parts_added s a.left a.k (table a.n a.work.now) a.from a.to)
    (growth_all a.scope.now.op a.left false a.again a.w (between a.scope.now.card.now a.from a.to)) a.to a.left
    (table l.m l.work) l.at l.of l.i l.deep l.sum a.again l.wraps
    c.record_kind-j.result c.record_length.result =
    let inv = c.loop-at.invariant in
    let pre = c.requires in
    law.here inv.0 inv.1 pre.1 pre.2 c.is_short.ensures c.if-is_short.false c.if-deep-eq0.false
    c.record_length.ensures c.record_kind-j.ensures in
    omega (arith, h.going.counted, h.going.ordered, c.requires.1, c.requires.2)

pub survey_parts-loop-at-smaller-then-not-is_entered : goal.survey_parts-loop-at-smaller-then-not-is_entered
survey_parts-loop-at-smaller-then-not-is_entered t c =
    let h :
    let a = c.args in
    let l = c.loop-at in
    let s = scope_of a.scope.now in
    Here a.scope.now.op s (parts_added s a.left a.k (table a.n a.work.now) a.from a.to)
    (growth_all a.scope.now.op a.left false a.again a.w (between a.scope.now.card.now a.from a.to)) a.to a.left
    (table l.m l.work) l.at l.of l.i l.deep l.sum a.again l.wraps
    c.record_kind-j.result c.record_length.result =
    let inv = c.loop-at.invariant in
    let pre = c.requires in
    law.here inv.0 inv.1 pre.1 pre.2 c.is_short.ensures c.if-is_short.false c.if-deep-eq0.false
    c.record_length.ensures c.record_kind-j.ensures in
    omega (arith, h.head.after-head, h.head.inside)

pub survey_parts-loop-at-preserved-then-not-is_entered : goal.survey_parts-loop-at-preserved-then-not-is_entered
survey_parts-loop-at-preserved-then-not-is_entered t c =
    let h :
    let a = c.args in
    let l = c.loop-at in
    let s = scope_of a.scope.now in
    Here a.scope.now.op s (parts_added s a.left a.k (table a.n a.work.now) a.from a.to)
    (growth_all a.scope.now.op a.left false a.again a.w (between a.scope.now.card.now a.from a.to)) a.to a.left
    (table l.m l.work) l.at l.of l.i l.deep l.sum a.again l.wraps
    c.record_kind-j.result c.record_length.result =
    let inv = c.loop-at.invariant in
    let pre = c.requires in
    law.here inv.0 inv.1 pre.1 pre.2 c.is_short.ensures c.if-is_short.false c.if-deep-eq0.false
    c.record_length.ensures c.record_kind-j.ensures in (
      law.field-goes h c.if-j-eq1.false c.if-j-eq3.false c.is_entered.ensures
          (ap not c.if-not-is_entered.true),
      law.part-grows h _ c.part_growth-sum.ensures,
      omega (arith, c.loop-at.invariant.2),
    )

pub survey_parts-overflow_add-inner : goal.survey_parts-overflow_add-inner
survey_parts-overflow_add-inner t c =
    let h :
    let a = c.args in
    let l = c.loop-at in
    let s = scope_of a.scope.now in
    Here a.scope.now.op s (parts_added s a.left a.k (table a.n a.work.now) a.from a.to)
    (growth_all a.scope.now.op a.left false a.again a.w (between a.scope.now.card.now a.from a.to)) a.to a.left
    (table l.m l.work) l.at l.of l.i l.deep l.sum a.again l.wraps
    c.record_kind-j.result c.record_length.result =
    let inv = c.loop-at.invariant in
    let pre = c.requires in
    law.here inv.0 inv.1 pre.1 pre.2 c.is_short.ensures c.if-is_short.false c.if-deep-eq0.false
    c.record_length.ensures c.record_kind-j.ensures in
    omega (arith, h.head.after-head, h.head.inside, h.head.bound, c.requires.2)

pub survey_parts-slice_bounds-name_in-count : goal.survey_parts-slice_bounds-name_in-count
survey_parts-slice_bounds-name_in-count t c =
    let h :
    let a = c.args in
    let l = c.loop-at in
    let s = scope_of a.scope.now in
    Here a.scope.now.op s (parts_added s a.left a.k (table a.n a.work.now) a.from a.to)
    (growth_all a.scope.now.op a.left false a.again a.w (between a.scope.now.card.now a.from a.to)) a.to a.left
    (table l.m l.work) l.at l.of l.i l.deep l.sum a.again l.wraps
    c.record_kind-j.result c.record_length.result =
    let inv = c.loop-at.invariant in
    let pre = c.requires in
    law.here inv.0 inv.1 pre.1 pre.2 c.is_short.ensures c.if-is_short.false c.if-deep-eq0.false
    c.record_length.ensures c.record_kind-j.ensures in
    omega (arith, h.head.after-head)

pub survey_parts-slice_bounds-name_in-start : goal.survey_parts-slice_bounds-name_in-start
survey_parts-slice_bounds-name_in-start t c =
    let h :
    let a = c.args in
    let l = c.loop-at in
    let s = scope_of a.scope.now in
    Here a.scope.now.op s (parts_added s a.left a.k (table a.n a.work.now) a.from a.to)
    (growth_all a.scope.now.op a.left false a.again a.w (between a.scope.now.card.now a.from a.to)) a.to a.left
    (table l.m l.work) l.at l.of l.i l.deep l.sum a.again l.wraps
    c.record_kind-j.result c.record_length.result =
    let inv = c.loop-at.invariant in
    let pre = c.requires in
    law.here inv.0 inv.1 pre.1 pre.2 c.is_short.ensures c.if-is_short.false c.if-deep-eq0.false
    c.record_length.ensures c.record_kind-j.ensures in
    omega (arith, h.head.after-head)

pub survey_parts-slice_bounds-name_in-end : goal.survey_parts-slice_bounds-name_in-end
survey_parts-slice_bounds-name_in-end t c =
    let h :
    let a = c.args in
    let l = c.loop-at in
    let s = scope_of a.scope.now in
    Here a.scope.now.op s (parts_added s a.left a.k (table a.n a.work.now) a.from a.to)
    (growth_all a.scope.now.op a.left false a.again a.w (between a.scope.now.card.now a.from a.to)) a.to a.left
    (table l.m l.work) l.at l.of l.i l.deep l.sum a.again l.wraps
    c.record_kind-j.result c.record_length.result =
    let inv = c.loop-at.invariant in
    let pre = c.requires in
    law.here inv.0 inv.1 pre.1 pre.2 c.is_short.ensures c.if-is_short.false c.if-deep-eq0.false
    c.record_length.ensures c.record_kind-j.ensures in
    omega (arith, h.head.inside, h.head.bound)

pub survey_parts-overflow_mul-sum : goal.survey_parts-overflow_mul-sum
survey_parts-overflow_mul-sum t c =
    let h :
    let a = c.args in
    let l = c.loop-at in
    let s = scope_of a.scope.now in
    Here a.scope.now.op s (parts_added s a.left a.k (table a.n a.work.now) a.from a.to)
    (growth_all a.scope.now.op a.left false a.again a.w (between a.scope.now.card.now a.from a.to)) a.to a.left
    (table l.m l.work) l.at l.of l.i l.deep l.sum a.again l.wraps
    c.record_kind-j.result c.record_length.result =
    let inv = c.loop-at.invariant in
    let pre = c.requires in
    law.here inv.0 inv.1 pre.1 pre.2 c.is_short.ensures c.if-is_short.false c.if-deep-eq0.false
    c.record_length.ensures c.record_kind-j.ensures in
    omega (arith, law.type-small h _ c.name_in.ensures)

pub survey_parts-overflow_add-sum-then-j-eq45-2 : goal.survey_parts-overflow_add-sum-then-j-eq45-2
survey_parts-overflow_add-sum-then-j-eq45-2 t c =
    let h :
    let a = c.args in
    let l = c.loop-at in
    let s = scope_of a.scope.now in
    Here a.scope.now.op s (parts_added s a.left a.k (table a.n a.work.now) a.from a.to)
    (growth_all a.scope.now.op a.left false a.again a.w (between a.scope.now.card.now a.from a.to)) a.to a.left
    (table l.m l.work) l.at l.of l.i l.deep l.sum a.again l.wraps
    c.record_kind-j.result c.record_length.result =
    let inv = c.loop-at.invariant in
    let pre = c.requires in
    law.here inv.0 inv.1 pre.1 pre.2 c.is_short.ensures c.if-is_short.false c.if-deep-eq0.false
    c.record_length.ensures c.record_kind-j.ensures in
    let n = law.type-grows h c.if-j-eq45.true _ c.name_in.ensures in
    omega (arith, turn-fits n)

pub survey_parts-overflow_add-i-then-j-eq45 : goal.survey_parts-overflow_add-i-then-j-eq45
survey_parts-overflow_add-i-then-j-eq45 t c =
    let h :
    let a = c.args in
    let l = c.loop-at in
    let s = scope_of a.scope.now in
    Here a.scope.now.op s (parts_added s a.left a.k (table a.n a.work.now) a.from a.to)
    (growth_all a.scope.now.op a.left false a.again a.w (between a.scope.now.card.now a.from a.to)) a.to a.left
    (table l.m l.work) l.at l.of l.i l.deep l.sum a.again l.wraps
    c.record_kind-j.result c.record_length.result =
    let inv = c.loop-at.invariant in
    let pre = c.requires in
    law.here inv.0 inv.1 pre.1 pre.2 c.is_short.ensures c.if-is_short.false c.if-deep-eq0.false
    c.record_length.ensures c.record_kind-j.ensures in
    omega (arith, h.going.counted, h.going.ordered, c.requires.1, c.requires.2)

pub survey_parts-loop-at-smaller-then-j-eq45 : goal.survey_parts-loop-at-smaller-then-j-eq45
survey_parts-loop-at-smaller-then-j-eq45 t c =
    let h :
    let a = c.args in
    let l = c.loop-at in
    let s = scope_of a.scope.now in
    Here a.scope.now.op s (parts_added s a.left a.k (table a.n a.work.now) a.from a.to)
    (growth_all a.scope.now.op a.left false a.again a.w (between a.scope.now.card.now a.from a.to)) a.to a.left
    (table l.m l.work) l.at l.of l.i l.deep l.sum a.again l.wraps
    c.record_kind-j.result c.record_length.result =
    let inv = c.loop-at.invariant in
    let pre = c.requires in
    law.here inv.0 inv.1 pre.1 pre.2 c.is_short.ensures c.if-is_short.false c.if-deep-eq0.false
    c.record_length.ensures c.record_kind-j.ensures in
    omega (arith, h.head.after-head, h.head.inside)

pub survey_parts-loop-at-preserved-then-j-eq45 : goal.survey_parts-loop-at-preserved-then-j-eq45
survey_parts-loop-at-preserved-then-j-eq45 t c =
    let h :
    let a = c.args in
    let l = c.loop-at in
    let s = scope_of a.scope.now in
    Here a.scope.now.op s (parts_added s a.left a.k (table a.n a.work.now) a.from a.to)
    (growth_all a.scope.now.op a.left false a.again a.w (between a.scope.now.card.now a.from a.to)) a.to a.left
    (table l.m l.work) l.at l.of l.i l.deep l.sum a.again l.wraps
    c.record_kind-j.result c.record_length.result =
    let inv = c.loop-at.invariant in
    let pre = c.requires in
    law.here inv.0 inv.1 pre.1 pre.2 c.is_short.ensures c.if-is_short.false c.if-deep-eq0.false
    c.record_length.ensures c.record_kind-j.ensures in (
      law.type-goes h c.if-j-eq1.false c.if-j-eq3.false c.is_entered.ensures
          (ap not c.if-not-is_entered.false) c.if-j-eq45.true
          c.add_path-m.ensures,
      law.type-grows h c.if-j-eq45.true _ c.name_in.ensures,
      omega (arith, c.loop-at.invariant.2),
    )

pub survey_parts-overflow_add-i-then-j-eq92 : goal.survey_parts-overflow_add-i-then-j-eq92
survey_parts-overflow_add-i-then-j-eq92 t c =
    let h :
    let a = c.args in
    let l = c.loop-at in
    let s = scope_of a.scope.now in
    Here a.scope.now.op s (parts_added s a.left a.k (table a.n a.work.now) a.from a.to)
    (growth_all a.scope.now.op a.left false a.again a.w (between a.scope.now.card.now a.from a.to)) a.to a.left
    (table l.m l.work) l.at l.of l.i l.deep l.sum a.again l.wraps
    c.record_kind-j.result c.record_length.result =
    let inv = c.loop-at.invariant in
    let pre = c.requires in
    law.here inv.0 inv.1 pre.1 pre.2 c.is_short.ensures c.if-is_short.false c.if-deep-eq0.false
    c.record_length.ensures c.record_kind-j.ensures in
    omega (arith, h.going.counted, h.going.ordered, c.requires.1, c.requires.2)

pub survey_parts-loop-at-smaller-then-j-eq92 : goal.survey_parts-loop-at-smaller-then-j-eq92
survey_parts-loop-at-smaller-then-j-eq92 t c =
    let h :
    let a = c.args in
    let l = c.loop-at in
    let s = scope_of a.scope.now in
    Here a.scope.now.op s (parts_added s a.left a.k (table a.n a.work.now) a.from a.to)
    (growth_all a.scope.now.op a.left false a.again a.w (between a.scope.now.card.now a.from a.to)) a.to a.left
    (table l.m l.work) l.at l.of l.i l.deep l.sum a.again l.wraps
    c.record_kind-j.result c.record_length.result =
    let inv = c.loop-at.invariant in
    let pre = c.requires in
    law.here inv.0 inv.1 pre.1 pre.2 c.is_short.ensures c.if-is_short.false c.if-deep-eq0.false
    c.record_length.ensures c.record_kind-j.ensures in
    omega (arith, h.head.after-head, h.head.inside)

pub survey_parts-loop-at-preserved-then-j-eq92 : goal.survey_parts-loop-at-preserved-then-j-eq92
survey_parts-loop-at-preserved-then-j-eq92 t c =
    let h :
    let a = c.args in
    let l = c.loop-at in
    let s = scope_of a.scope.now in
    Here a.scope.now.op s (parts_added s a.left a.k (table a.n a.work.now) a.from a.to)
    (growth_all a.scope.now.op a.left false a.again a.w (between a.scope.now.card.now a.from a.to)) a.to a.left
    (table l.m l.work) l.at l.of l.i l.deep l.sum a.again l.wraps
    c.record_kind-j.result c.record_length.result =
    let inv = c.loop-at.invariant in
    let pre = c.requires in
    law.here inv.0 inv.1 pre.1 pre.2 c.is_short.ensures c.if-is_short.false c.if-deep-eq0.false
    c.record_length.ensures c.record_kind-j.ensures in (
      law.expr-goes h c.if-j-eq1.false c.if-j-eq3.false c.is_entered.ensures
          (ap not c.if-not-is_entered.false) c.if-j-eq92.true c.add_path-m-then-j-eq92.ensures,
      law.expr-grows h c.if-j-eq45.false c.if-j-eq92.true,
      omega (arith, c.loop-at.invariant.2),
    )

pub survey_parts-overflow_sub-deep : goal.survey_parts-overflow_sub-deep
survey_parts-overflow_sub-deep t c =
    let h :
    let a = c.args in
    let l = c.loop-at in
    let s = scope_of a.scope.now in
    Here a.scope.now.op s (parts_added s a.left a.k (table a.n a.work.now) a.from a.to)
    (growth_all a.scope.now.op a.left false a.again a.w (between a.scope.now.card.now a.from a.to)) a.to a.left
    (table l.m l.work) l.at l.of l.i l.deep l.sum a.again l.wraps
    c.record_kind-j.result c.record_length.result =
    let inv = c.loop-at.invariant in
    let pre = c.requires in
    law.here inv.0 inv.1 pre.1 pre.2 c.is_short.ensures c.if-is_short.false c.if-deep-eq0.false
    c.record_length.ensures c.record_kind-j.ensures in
    at_least_one _ h.some

pub survey_parts-survey_decl-d-requires : goal.survey_parts-survey_decl-d-requires
survey_parts-survey_decl-d-requires t c =
    let h :
    let a = c.args in
    let l = c.loop-at in
    let s = scope_of a.scope.now in
    Here a.scope.now.op s (parts_added s a.left a.k (table a.n a.work.now) a.from a.to)
    (growth_all a.scope.now.op a.left false a.again a.w (between a.scope.now.card.now a.from a.to)) a.to a.left
    (table l.m l.work) l.at l.of l.i l.deep l.sum a.again l.wraps
    c.record_kind-j.result c.record_length.result =
    let inv = c.loop-at.invariant in
    let pre = c.requires in
    law.here inv.0 inv.1 pre.1 pre.2 c.is_short.ensures c.if-is_short.false c.if-deep-eq0.false
    c.record_length.ensures c.record_kind-j.ensures in
    let l = less-deep _ c.loop-at.deep c.args.left c.decreases h.going.under h.some in (
      l,
      (
        h.head.after-head,
        omega (arith, h.head.inside, h.head.bound),
        h.small,
        omega (arith, h.head.turn.fit),
        visited-decl c.record_kind-j.result _ c.stands.ensures c.if-stands.true,
      ),
    )

pub survey_parts-overflow_add-sum-then-stands : goal.survey_parts-overflow_add-sum-then-stands
survey_parts-overflow_add-sum-then-stands t c =
    let h :
    let a = c.args in
    let l = c.loop-at in
    let s = scope_of a.scope.now in
    Here a.scope.now.op s (parts_added s a.left a.k (table a.n a.work.now) a.from a.to)
    (growth_all a.scope.now.op a.left false a.again a.w (between a.scope.now.card.now a.from a.to)) a.to a.left
    (table l.m l.work) l.at l.of l.i l.deep l.sum a.again l.wraps
    c.record_kind-j.result c.record_length.result =
    let inv = c.loop-at.invariant in
    let pre = c.requires in
    law.here inv.0 inv.1 pre.1 pre.2 c.is_short.ensures c.if-is_short.false c.if-deep-eq0.false
    c.record_length.ensures c.record_kind-j.ensures in
    let n = law.decl-grows h c.stands.ensures
    c.if-stands.true _ c.survey_decl-d.ensures.1 in
    omega (arith, turn-fits n)

pub survey_parts-overflow_add-i-then-stands : goal.survey_parts-overflow_add-i-then-stands
survey_parts-overflow_add-i-then-stands t c =
    let h :
    let a = c.args in
    let l = c.loop-at in
    let s = scope_of a.scope.now in
    Here a.scope.now.op s (parts_added s a.left a.k (table a.n a.work.now) a.from a.to)
    (growth_all a.scope.now.op a.left false a.again a.w (between a.scope.now.card.now a.from a.to)) a.to a.left
    (table l.m l.work) l.at l.of l.i l.deep l.sum a.again l.wraps
    c.record_kind-j.result c.record_length.result =
    let inv = c.loop-at.invariant in
    let pre = c.requires in
    law.here inv.0 inv.1 pre.1 pre.2 c.is_short.ensures c.if-is_short.false c.if-deep-eq0.false
    c.record_length.ensures c.record_kind-j.ensures in
    omega (arith, h.going.counted, h.going.ordered, c.requires.1, c.requires.2)

pub survey_parts-loop-at-smaller-then-stands : goal.survey_parts-loop-at-smaller-then-stands
survey_parts-loop-at-smaller-then-stands t c =
    let h :
    let a = c.args in
    let l = c.loop-at in
    let s = scope_of a.scope.now in
    Here a.scope.now.op s (parts_added s a.left a.k (table a.n a.work.now) a.from a.to)
    (growth_all a.scope.now.op a.left false a.again a.w (between a.scope.now.card.now a.from a.to)) a.to a.left
    (table l.m l.work) l.at l.of l.i l.deep l.sum a.again l.wraps
    c.record_kind-j.result c.record_length.result =
    let inv = c.loop-at.invariant in
    let pre = c.requires in
    law.here inv.0 inv.1 pre.1 pre.2 c.is_short.ensures c.if-is_short.false c.if-deep-eq0.false
    c.record_length.ensures c.record_kind-j.ensures in
    omega (arith, h.head.after-head, h.head.inside)

pub survey_parts-loop-at-preserved-then-stands : goal.survey_parts-loop-at-preserved-then-stands
survey_parts-loop-at-preserved-then-stands t c =
    let h :
    let a = c.args in
    let l = c.loop-at in
    let s = scope_of a.scope.now in
    Here a.scope.now.op s (parts_added s a.left a.k (table a.n a.work.now) a.from a.to)
    (growth_all a.scope.now.op a.left false a.again a.w (between a.scope.now.card.now a.from a.to)) a.to a.left
    (table l.m l.work) l.at l.of l.i l.deep l.sum a.again l.wraps
    c.record_kind-j.result c.record_length.result =
    let inv = c.loop-at.invariant in
    let pre = c.requires in
    law.here inv.0 inv.1 pre.1 pre.2 c.is_short.ensures c.if-is_short.false c.if-deep-eq0.false
    c.record_length.ensures c.record_kind-j.ensures in (
      law.whole-goes h c.if-j-eq1.false c.if-j-eq3.false c.is_entered.ensures
          (ap not c.if-not-is_entered.false) c.survey_decl-d.ensures.0,
      law.decl-grows h c.stands.ensures c.if-stands.true _
          c.survey_decl-d.ensures.1,
      omega (arith, c.loop-at.invariant.2),
    )

pub survey_parts-slice_bounds-is_parted-count : goal.survey_parts-slice_bounds-is_parted-count
survey_parts-slice_bounds-is_parted-count t c =
    let h :
    let a = c.args in
    let l = c.loop-at in
    let s = scope_of a.scope.now in
    Here a.scope.now.op s (parts_added s a.left a.k (table a.n a.work.now) a.from a.to)
    (growth_all a.scope.now.op a.left false a.again a.w (between a.scope.now.card.now a.from a.to)) a.to a.left
    (table l.m l.work) l.at l.of l.i l.deep l.sum a.again l.wraps
    c.record_kind-j.result c.record_length.result =
    let inv = c.loop-at.invariant in
    let pre = c.requires in
    law.here inv.0 inv.1 pre.1 pre.2 c.is_short.ensures c.if-is_short.false c.if-deep-eq0.false
    c.record_length.ensures c.record_kind-j.ensures in
    h.head.after-head

pub survey_parts-slice_bounds-is_parted-start : goal.survey_parts-slice_bounds-is_parted-start
survey_parts-slice_bounds-is_parted-start t c =
    let h :
    let a = c.args in
    let l = c.loop-at in
    let s = scope_of a.scope.now in
    Here a.scope.now.op s (parts_added s a.left a.k (table a.n a.work.now) a.from a.to)
    (growth_all a.scope.now.op a.left false a.again a.w (between a.scope.now.card.now a.from a.to)) a.to a.left
    (table l.m l.work) l.at l.of l.i l.deep l.sum a.again l.wraps
    c.record_kind-j.result c.record_length.result =
    let inv = c.loop-at.invariant in
    let pre = c.requires in
    law.here inv.0 inv.1 pre.1 pre.2 c.is_short.ensures c.if-is_short.false c.if-deep-eq0.false
    c.record_length.ensures c.record_kind-j.ensures in
    h.head.after-head

pub survey_parts-slice_bounds-is_parted-end : goal.survey_parts-slice_bounds-is_parted-end
survey_parts-slice_bounds-is_parted-end t c =
    let h :
    let a = c.args in
    let l = c.loop-at in
    let s = scope_of a.scope.now in
    Here a.scope.now.op s (parts_added s a.left a.k (table a.n a.work.now) a.from a.to)
    (growth_all a.scope.now.op a.left false a.again a.w (between a.scope.now.card.now a.from a.to)) a.to a.left
    (table l.m l.work) l.at l.of l.i l.deep l.sum a.again l.wraps
    c.record_kind-j.result c.record_length.result =
    let inv = c.loop-at.invariant in
    let pre = c.requires in
    law.here inv.0 inv.1 pre.1 pre.2 c.is_short.ensures c.if-is_short.false c.if-deep-eq0.false
    c.record_length.ensures c.record_kind-j.ensures in
    omega (arith, h.head.inside, h.head.bound)

pub survey_parts-overflow_sub-deep-then-is_parted : goal.survey_parts-overflow_sub-deep-then-is_parted
survey_parts-overflow_sub-deep-then-is_parted t c =
    let h :
    let a = c.args in
    let l = c.loop-at in
    let s = scope_of a.scope.now in
    Here a.scope.now.op s (parts_added s a.left a.k (table a.n a.work.now) a.from a.to)
    (growth_all a.scope.now.op a.left false a.again a.w (between a.scope.now.card.now a.from a.to)) a.to a.left
    (table l.m l.work) l.at l.of l.i l.deep l.sum a.again l.wraps
    c.record_kind-j.result c.record_length.result =
    let inv = c.loop-at.invariant in
    let pre = c.requires in
    law.here inv.0 inv.1 pre.1 pre.2 c.is_short.ensures c.if-is_short.false c.if-deep-eq0.false
    c.record_length.ensures c.record_kind-j.ensures in
    at_least_one _ h.some

pub survey_parts-survey_fn-f-requires : goal.survey_parts-survey_fn-f-requires
survey_parts-survey_fn-f-requires t c =
    let h :
    let a = c.args in
    let l = c.loop-at in
    let s = scope_of a.scope.now in
    Here a.scope.now.op s (parts_added s a.left a.k (table a.n a.work.now) a.from a.to)
    (growth_all a.scope.now.op a.left false a.again a.w (between a.scope.now.card.now a.from a.to)) a.to a.left
    (table l.m l.work) l.at l.of l.i l.deep l.sum a.again l.wraps
    c.record_kind-j.result c.record_length.result =
    let inv = c.loop-at.invariant in
    let pre = c.requires in
    law.here inv.0 inv.1 pre.1 pre.2 c.is_short.ensures c.if-is_short.false c.if-deep-eq0.false
    c.record_length.ensures c.record_kind-j.ensures in
    let l = less-deep _ c.loop-at.deep c.args.left c.decreases h.going.under h.some in (
      l,
      (
        (h.head.after-head, omega (arith, h.head.inside, h.head.bound), h.small, omega (arith, h.head.turn.fit, h.head.deeper)),
        sym c.is_parted.ensures ∙ c.if-is_parted.true,
      ),
    )

pub survey_parts-overflow_add-sum-then-is_parted : goal.survey_parts-overflow_add-sum-then-is_parted
survey_parts-overflow_add-sum-then-is_parted t c =
    let h :
    let a = c.args in
    let l = c.loop-at in
    let s = scope_of a.scope.now in
    Here a.scope.now.op s (parts_added s a.left a.k (table a.n a.work.now) a.from a.to)
    (growth_all a.scope.now.op a.left false a.again a.w (between a.scope.now.card.now a.from a.to)) a.to a.left
    (table l.m l.work) l.at l.of l.i l.deep l.sum a.again l.wraps
    c.record_kind-j.result c.record_length.result =
    let inv = c.loop-at.invariant in
    let pre = c.requires in
    law.here inv.0 inv.1 pre.1 pre.2 c.is_short.ensures c.if-is_short.false c.if-deep-eq0.false
    c.record_length.ensures c.record_kind-j.ensures in
    let n = law.fn-grows h c.if-j-eq45.false
    c.if-j-eq92.false
    c.if-j-eq125.true _ c.survey_fn-f.ensures.1 in
    omega (arith, turn-fits n)

pub survey_parts-overflow_add-i-then-is_parted : goal.survey_parts-overflow_add-i-then-is_parted
survey_parts-overflow_add-i-then-is_parted t c =
    let h :
    let a = c.args in
    let l = c.loop-at in
    let s = scope_of a.scope.now in
    Here a.scope.now.op s (parts_added s a.left a.k (table a.n a.work.now) a.from a.to)
    (growth_all a.scope.now.op a.left false a.again a.w (between a.scope.now.card.now a.from a.to)) a.to a.left
    (table l.m l.work) l.at l.of l.i l.deep l.sum a.again l.wraps
    c.record_kind-j.result c.record_length.result =
    let inv = c.loop-at.invariant in
    let pre = c.requires in
    law.here inv.0 inv.1 pre.1 pre.2 c.is_short.ensures c.if-is_short.false c.if-deep-eq0.false
    c.record_length.ensures c.record_kind-j.ensures in
    omega (arith, h.going.counted, h.going.ordered, c.requires.1, c.requires.2)

pub survey_parts-loop-at-smaller-then-is_parted : goal.survey_parts-loop-at-smaller-then-is_parted
survey_parts-loop-at-smaller-then-is_parted t c =
    let h :
    let a = c.args in
    let l = c.loop-at in
    let s = scope_of a.scope.now in
    Here a.scope.now.op s (parts_added s a.left a.k (table a.n a.work.now) a.from a.to)
    (growth_all a.scope.now.op a.left false a.again a.w (between a.scope.now.card.now a.from a.to)) a.to a.left
    (table l.m l.work) l.at l.of l.i l.deep l.sum a.again l.wraps
    c.record_kind-j.result c.record_length.result =
    let inv = c.loop-at.invariant in
    let pre = c.requires in
    law.here inv.0 inv.1 pre.1 pre.2 c.is_short.ensures c.if-is_short.false c.if-deep-eq0.false
    c.record_length.ensures c.record_kind-j.ensures in
    omega (arith, h.head.after-head, h.head.inside)

pub survey_parts-loop-at-preserved-then-is_parted : goal.survey_parts-loop-at-preserved-then-is_parted
survey_parts-loop-at-preserved-then-is_parted t c =
    let h :
    let a = c.args in
    let l = c.loop-at in
    let s = scope_of a.scope.now in
    Here a.scope.now.op s (parts_added s a.left a.k (table a.n a.work.now) a.from a.to)
    (growth_all a.scope.now.op a.left false a.again a.w (between a.scope.now.card.now a.from a.to)) a.to a.left
    (table l.m l.work) l.at l.of l.i l.deep l.sum a.again l.wraps
    c.record_kind-j.result c.record_length.result =
    let inv = c.loop-at.invariant in
    let pre = c.requires in
    law.here inv.0 inv.1 pre.1 pre.2 c.is_short.ensures c.if-is_short.false c.if-deep-eq0.false
    c.record_length.ensures c.record_kind-j.ensures in (
      law.fn-goes h c.if-j-eq1.false c.if-j-eq3.false c.is_entered.ensures
          (ap not c.if-not-is_entered.false) c.if-j-eq45.false c.if-j-eq92.false c.stands.ensures
          c.if-stands.false c.if-j-eq125.true
          c.survey_fn-f.ensures.0,
      law.fn-grows h c.if-j-eq45.false c.if-j-eq92.false
          c.if-j-eq125.true _ c.survey_fn-f.ensures.1,
      omega (arith, c.loop-at.invariant.2),
    )

pub survey_parts-overflow_sub-deep-then-j-eq125 : goal.survey_parts-overflow_sub-deep-then-j-eq125
survey_parts-overflow_sub-deep-then-j-eq125 t c =
    let h :
    let a = c.args in
    let l = c.loop-at in
    let s = scope_of a.scope.now in
    Here a.scope.now.op s (parts_added s a.left a.k (table a.n a.work.now) a.from a.to)
    (growth_all a.scope.now.op a.left false a.again a.w (between a.scope.now.card.now a.from a.to)) a.to a.left
    (table l.m l.work) l.at l.of l.i l.deep l.sum a.again l.wraps
    c.record_kind-j.result c.record_length.result =
    let inv = c.loop-at.invariant in
    let pre = c.requires in
    law.here inv.0 inv.1 pre.1 pre.2 c.is_short.ensures c.if-is_short.false c.if-deep-eq0.false
    c.record_length.ensures c.record_kind-j.ensures in
    at_least_one _ h.some

pub survey_parts-survey_parts-o-requires : goal.survey_parts-survey_parts-o-requires
survey_parts-survey_parts-o-requires t c =
    let h :
    let a = c.args in
    let l = c.loop-at in
    let s = scope_of a.scope.now in
    Here a.scope.now.op s (parts_added s a.left a.k (table a.n a.work.now) a.from a.to)
    (growth_all a.scope.now.op a.left false a.again a.w (between a.scope.now.card.now a.from a.to)) a.to a.left
    (table l.m l.work) l.at l.of l.i l.deep l.sum a.again l.wraps
    c.record_kind-j.result c.record_length.result =
    let inv = c.loop-at.invariant in
    let pre = c.requires in
    law.here inv.0 inv.1 pre.1 pre.2 c.is_short.ensures c.if-is_short.false c.if-deep-eq0.false
    c.record_length.ensures c.record_kind-j.ensures in
    let l = less-deep _ c.loop-at.deep c.args.left c.decreases h.going.under h.some in (
      omega arith,
      (h.head.after-head, omega (arith, h.head.inside, h.head.bound), h.small, omega (arith, h.head.turn.fit)),
    )

pub survey_parts-overflow_add-sum-then-j-eq125 : goal.survey_parts-overflow_add-sum-then-j-eq125
survey_parts-overflow_add-sum-then-j-eq125 t c =
    let h :
    let a = c.args in
    let l = c.loop-at in
    let s = scope_of a.scope.now in
    Here a.scope.now.op s (parts_added s a.left a.k (table a.n a.work.now) a.from a.to)
    (growth_all a.scope.now.op a.left false a.again a.w (between a.scope.now.card.now a.from a.to)) a.to a.left
    (table l.m l.work) l.at l.of l.i l.deep l.sum a.again l.wraps
    c.record_kind-j.result c.record_length.result =
    let inv = c.loop-at.invariant in
    let pre = c.requires in
    law.here inv.0 inv.1 pre.1 pre.2 c.is_short.ensures c.if-is_short.false c.if-deep-eq0.false
    c.record_length.ensures c.record_kind-j.ensures in
    let n = law.part-grows h _ c.part_growth-g.ensures in
    omega (arith, turn-fits n)

pub survey_parts-overflow_add-i-then-j-eq125 : goal.survey_parts-overflow_add-i-then-j-eq125
survey_parts-overflow_add-i-then-j-eq125 t c =
    let h :
    let a = c.args in
    let l = c.loop-at in
    let s = scope_of a.scope.now in
    Here a.scope.now.op s (parts_added s a.left a.k (table a.n a.work.now) a.from a.to)
    (growth_all a.scope.now.op a.left false a.again a.w (between a.scope.now.card.now a.from a.to)) a.to a.left
    (table l.m l.work) l.at l.of l.i l.deep l.sum a.again l.wraps
    c.record_kind-j.result c.record_length.result =
    let inv = c.loop-at.invariant in
    let pre = c.requires in
    law.here inv.0 inv.1 pre.1 pre.2 c.is_short.ensures c.if-is_short.false c.if-deep-eq0.false
    c.record_length.ensures c.record_kind-j.ensures in
    omega (arith, h.going.counted, h.going.ordered, c.requires.1, c.requires.2)

pub survey_parts-loop-at-smaller-then-j-eq125 : goal.survey_parts-loop-at-smaller-then-j-eq125
survey_parts-loop-at-smaller-then-j-eq125 t c =
    let h :
    let a = c.args in
    let l = c.loop-at in
    let s = scope_of a.scope.now in
    Here a.scope.now.op s (parts_added s a.left a.k (table a.n a.work.now) a.from a.to)
    (growth_all a.scope.now.op a.left false a.again a.w (between a.scope.now.card.now a.from a.to)) a.to a.left
    (table l.m l.work) l.at l.of l.i l.deep l.sum a.again l.wraps
    c.record_kind-j.result c.record_length.result =
    let inv = c.loop-at.invariant in
    let pre = c.requires in
    law.here inv.0 inv.1 pre.1 pre.2 c.is_short.ensures c.if-is_short.false c.if-deep-eq0.false
    c.record_length.ensures c.record_kind-j.ensures in
    omega (arith, h.head.after-head, h.head.inside)

pub survey_parts-loop-at-preserved-then-j-eq125 : goal.survey_parts-loop-at-preserved-then-j-eq125
survey_parts-loop-at-preserved-then-j-eq125 t c =
    let h :
    let a = c.args in
    let l = c.loop-at in
    let s = scope_of a.scope.now in
    Here a.scope.now.op s (parts_added s a.left a.k (table a.n a.work.now) a.from a.to)
    (growth_all a.scope.now.op a.left false a.again a.w (between a.scope.now.card.now a.from a.to)) a.to a.left
    (table l.m l.work) l.at l.of l.i l.deep l.sum a.again l.wraps
    c.record_kind-j.result c.record_length.result =
    let inv = c.loop-at.invariant in
    let pre = c.requires in
    law.here inv.0 inv.1 pre.1 pre.2 c.is_short.ensures c.if-is_short.false c.if-deep-eq0.false
    c.record_length.ensures c.record_kind-j.ensures in (
      law.parts-goes h c.if-j-eq1.false c.if-j-eq3.false c.is_entered.ensures
          (ap not c.if-not-is_entered.false) c.if-j-eq45.false c.if-j-eq92.false c.stands.ensures
          c.if-stands.false c.survey_parts-o.ensures.0,
      law.part-grows h _ c.part_growth-g.ensures,
      omega (arith, c.loop-at.invariant.2),
    )

pub survey_parts-overflow_sub-deep-then-is_fixed : goal.survey_parts-overflow_sub-deep-then-is_fixed
survey_parts-overflow_sub-deep-then-is_fixed t c =
    let h :
    let a = c.args in
    let l = c.loop-at in
    let s = scope_of a.scope.now in
    Here a.scope.now.op s (parts_added s a.left a.k (table a.n a.work.now) a.from a.to)
    (growth_all a.scope.now.op a.left false a.again a.w (between a.scope.now.card.now a.from a.to)) a.to a.left
    (table l.m l.work) l.at l.of l.i l.deep l.sum a.again l.wraps
    c.record_kind-j.result c.record_length.result =
    let inv = c.loop-at.invariant in
    let pre = c.requires in
    law.here inv.0 inv.1 pre.1 pre.2 c.is_short.ensures c.if-is_short.false c.if-deep-eq0.false
    c.record_length.ensures c.record_kind-j.ensures in
    at_least_one _ h.some

pub survey_parts-survey_parts-x-requires : goal.survey_parts-survey_parts-x-requires
survey_parts-survey_parts-x-requires t c =
    let h :
    let a = c.args in
    let l = c.loop-at in
    let s = scope_of a.scope.now in
    Here a.scope.now.op s (parts_added s a.left a.k (table a.n a.work.now) a.from a.to)
    (growth_all a.scope.now.op a.left false a.again a.w (between a.scope.now.card.now a.from a.to)) a.to a.left
    (table l.m l.work) l.at l.of l.i l.deep l.sum a.again l.wraps
    c.record_kind-j.result c.record_length.result =
    let inv = c.loop-at.invariant in
    let pre = c.requires in
    law.here inv.0 inv.1 pre.1 pre.2 c.is_short.ensures c.if-is_short.false c.if-deep-eq0.false
    c.record_length.ensures c.record_kind-j.ensures in
    let l = less-deep _ c.loop-at.deep c.args.left c.decreases h.going.under h.some in (
      omega arith,
      (h.head.after-head, omega (arith, h.head.inside, h.head.bound), h.small, omega (arith, h.head.turn.fit)),
    )

pub survey_parts-overflow_add-i-then-is_fixed : goal.survey_parts-overflow_add-i-then-is_fixed
survey_parts-overflow_add-i-then-is_fixed t c =
    let h :
    let a = c.args in
    let l = c.loop-at in
    let s = scope_of a.scope.now in
    Here a.scope.now.op s (parts_added s a.left a.k (table a.n a.work.now) a.from a.to)
    (growth_all a.scope.now.op a.left false a.again a.w (between a.scope.now.card.now a.from a.to)) a.to a.left
    (table l.m l.work) l.at l.of l.i l.deep l.sum a.again l.wraps
    c.record_kind-j.result c.record_length.result =
    let inv = c.loop-at.invariant in
    let pre = c.requires in
    law.here inv.0 inv.1 pre.1 pre.2 c.is_short.ensures c.if-is_short.false c.if-deep-eq0.false
    c.record_length.ensures c.record_kind-j.ensures in
    omega (arith, h.going.counted, h.going.ordered, c.requires.1, c.requires.2)

pub survey_parts-loop-at-smaller-then-is_fixed : goal.survey_parts-loop-at-smaller-then-is_fixed
survey_parts-loop-at-smaller-then-is_fixed t c =
    let h :
    let a = c.args in
    let l = c.loop-at in
    let s = scope_of a.scope.now in
    Here a.scope.now.op s (parts_added s a.left a.k (table a.n a.work.now) a.from a.to)
    (growth_all a.scope.now.op a.left false a.again a.w (between a.scope.now.card.now a.from a.to)) a.to a.left
    (table l.m l.work) l.at l.of l.i l.deep l.sum a.again l.wraps
    c.record_kind-j.result c.record_length.result =
    let inv = c.loop-at.invariant in
    let pre = c.requires in
    law.here inv.0 inv.1 pre.1 pre.2 c.is_short.ensures c.if-is_short.false c.if-deep-eq0.false
    c.record_length.ensures c.record_kind-j.ensures in
    omega (arith, h.head.after-head, h.head.inside)

pub survey_parts-loop-at-preserved-then-is_fixed : goal.survey_parts-loop-at-preserved-then-is_fixed
survey_parts-loop-at-preserved-then-is_fixed t c =
    let h :
    let a = c.args in
    let l = c.loop-at in
    let s = scope_of a.scope.now in
    Here a.scope.now.op s (parts_added s a.left a.k (table a.n a.work.now) a.from a.to)
    (growth_all a.scope.now.op a.left false a.again a.w (between a.scope.now.card.now a.from a.to)) a.to a.left
    (table l.m l.work) l.at l.of l.i l.deep l.sum a.again l.wraps
    c.record_kind-j.result c.record_length.result =
    let inv = c.loop-at.invariant in
    let pre = c.requires in
    law.here inv.0 inv.1 pre.1 pre.2 c.is_short.ensures c.if-is_short.false c.if-deep-eq0.false
    c.record_length.ensures c.record_kind-j.ensures in (
      law.parts-goes h c.if-j-eq1.false c.if-j-eq3.false c.is_entered.ensures
          (ap not c.if-not-is_entered.false) c.if-j-eq45.false c.if-j-eq92.false c.stands.ensures
          c.if-stands.false c.survey_parts-x.ensures.0,
      law.fixed-grows h c.is_fixed.ensures c.if-is_fixed.true,
      omega (arith, c.loop-at.invariant.2),
    )

pub survey_parts-overflow_sub-deep-then-next-to : goal.survey_parts-overflow_sub-deep-then-next-to
survey_parts-overflow_sub-deep-then-next-to t c =
    let h :
    let a = c.args in
    let l = c.loop-at in
    let s = scope_of a.scope.now in
    Here a.scope.now.op s (parts_added s a.left a.k (table a.n a.work.now) a.from a.to)
    (growth_all a.scope.now.op a.left false a.again a.w (between a.scope.now.card.now a.from a.to)) a.to a.left
    (table l.m l.work) l.at l.of l.i l.deep l.sum a.again l.wraps
    c.record_kind-j.result c.record_length.result =
    let inv = c.loop-at.invariant in
    let pre = c.requires in
    law.here inv.0 inv.1 pre.1 pre.2 c.is_short.ensures c.if-is_short.false c.if-deep-eq0.false
    c.record_length.ensures c.record_kind-j.ensures in
    at_least_one _ h.some

pub survey_parts-loop-at-smaller-then-next-to : goal.survey_parts-loop-at-smaller-then-next-to
survey_parts-loop-at-smaller-then-next-to t c =
    let h :
    let a = c.args in
    let l = c.loop-at in
    let s = scope_of a.scope.now in
    Here a.scope.now.op s (parts_added s a.left a.k (table a.n a.work.now) a.from a.to)
    (growth_all a.scope.now.op a.left false a.again a.w (between a.scope.now.card.now a.from a.to)) a.to a.left
    (table l.m l.work) l.at l.of l.i l.deep l.sum a.again l.wraps
    c.record_kind-j.result c.record_length.result =
    let inv = c.loop-at.invariant in
    let pre = c.requires in
    law.here inv.0 inv.1 pre.1 pre.2 c.is_short.ensures c.if-is_short.false c.if-deep-eq0.false
    c.record_length.ensures c.record_kind-j.ensures in
    omega (arith, h.head.after-head, h.head.inside)

pub survey_parts-loop-at-preserved-then-next-to : goal.survey_parts-loop-at-preserved-then-next-to
survey_parts-loop-at-preserved-then-next-to t c =
    let h :
    let a = c.args in
    let l = c.loop-at in
    let s = scope_of a.scope.now in
    Here a.scope.now.op s (parts_added s a.left a.k (table a.n a.work.now) a.from a.to)
    (growth_all a.scope.now.op a.left false a.again a.w (between a.scope.now.card.now a.from a.to)) a.to a.left
    (table l.m l.work) l.at l.of l.i l.deep l.sum a.again l.wraps
    c.record_kind-j.result c.record_length.result =
    let inv = c.loop-at.invariant in
    let pre = c.requires in
    law.here inv.0 inv.1 pre.1 pre.2 c.is_short.ensures c.if-is_short.false c.if-deep-eq0.false
    c.record_length.ensures c.record_kind-j.ensures in (
      law.in-goes h c.if-j-eq1.false c.if-j-eq3.false c.is_entered.ensures
          (ap not c.if-not-is_entered.false) c.if-j-eq45.false c.if-j-eq92.false c.stands.ensures
          c.if-stands.false c.if-next-to.true,
      law.last-grows h c.is_fixed.ensures c.if-is_fixed.false c.if-j-eq45.false
          c.if-j-eq92.false c.if-j-eq125.false c.stands.ensures c.if-stands.false
          c.wraps_at-v.ensures c.if-next-to.true,
      omega (arith, c.loop-at.invariant.2),
    )

pub survey_parts-overflow_sub-deep-in-loop-at : goal.survey_parts-overflow_sub-deep-in-loop-at
survey_parts-overflow_sub-deep-in-loop-at t c =
    let h :
    let a = c.args in
    let l = c.loop-at in
    let s = scope_of a.scope.now in
    Here a.scope.now.op s (parts_added s a.left a.k (table a.n a.work.now) a.from a.to)
    (growth_all a.scope.now.op a.left false a.again a.w (between a.scope.now.card.now a.from a.to)) a.to a.left
    (table l.m l.work) l.at l.of l.i l.deep l.sum a.again l.wraps
    c.record_kind-j.result c.record_length.result =
    let inv = c.loop-at.invariant in
    let pre = c.requires in
    law.here inv.0 inv.1 pre.1 pre.2 c.is_short.ensures c.if-is_short.false c.if-deep-eq0.false
    c.record_length.ensures c.record_kind-j.ensures in
    at_least_one _ h.some

pub survey_parts-survey_parts-p-requires : goal.survey_parts-survey_parts-p-requires
survey_parts-survey_parts-p-requires t c =
    let h :
    let a = c.args in
    let l = c.loop-at in
    let s = scope_of a.scope.now in
    Here a.scope.now.op s (parts_added s a.left a.k (table a.n a.work.now) a.from a.to)
    (growth_all a.scope.now.op a.left false a.again a.w (between a.scope.now.card.now a.from a.to)) a.to a.left
    (table l.m l.work) l.at l.of l.i l.deep l.sum a.again l.wraps
    c.record_kind-j.result c.record_length.result =
    let inv = c.loop-at.invariant in
    let pre = c.requires in
    law.here inv.0 inv.1 pre.1 pre.2 c.is_short.ensures c.if-is_short.false c.if-deep-eq0.false
    c.record_length.ensures c.record_kind-j.ensures in
    let l = less-deep _ c.loop-at.deep c.args.left c.decreases h.going.under h.some in
    let i = law.inner-fits h c.is_fixed.ensures c.if-is_fixed.false c.if-j-eq45.false
    c.if-j-eq92.false c.if-j-eq125.false c.stands.ensures c.if-stands.false
    c.wraps_at-v.ensures in (
      omega arith,
      (h.head.after-head, omega (arith, h.head.inside, h.head.bound), h.small, i),
    )

pub survey_parts-overflow_add-sum-in-loop-at : goal.survey_parts-overflow_add-sum-in-loop-at
survey_parts-overflow_add-sum-in-loop-at t c =
    let h :
    let a = c.args in
    let l = c.loop-at in
    let s = scope_of a.scope.now in
    Here a.scope.now.op s (parts_added s a.left a.k (table a.n a.work.now) a.from a.to)
    (growth_all a.scope.now.op a.left false a.again a.w (between a.scope.now.card.now a.from a.to)) a.to a.left
    (table l.m l.work) l.at l.of l.i l.deep l.sum a.again l.wraps
    c.record_kind-j.result c.record_length.result =
    let inv = c.loop-at.invariant in
    let pre = c.requires in
    law.here inv.0 inv.1 pre.1 pre.2 c.is_short.ensures c.if-is_short.false c.if-deep-eq0.false
    c.record_length.ensures c.record_kind-j.ensures in
    let n = law.held-grows h c.is_fixed.ensures c.if-is_fixed.false c.if-j-eq45.false
    c.if-j-eq92.false c.if-j-eq125.false c.stands.ensures c.if-stands.false
    c.wraps_at-v.ensures _ c.survey_parts-p.ensures.1 in
    omega (arith, turn-fits n)

pub survey_parts-overflow_add-i-in-loop-at : goal.survey_parts-overflow_add-i-in-loop-at
survey_parts-overflow_add-i-in-loop-at t c =
    let h :
    let a = c.args in
    let l = c.loop-at in
    let s = scope_of a.scope.now in
    Here a.scope.now.op s (parts_added s a.left a.k (table a.n a.work.now) a.from a.to)
    (growth_all a.scope.now.op a.left false a.again a.w (between a.scope.now.card.now a.from a.to)) a.to a.left
    (table l.m l.work) l.at l.of l.i l.deep l.sum a.again l.wraps
    c.record_kind-j.result c.record_length.result =
    let inv = c.loop-at.invariant in
    let pre = c.requires in
    law.here inv.0 inv.1 pre.1 pre.2 c.is_short.ensures c.if-is_short.false c.if-deep-eq0.false
    c.record_length.ensures c.record_kind-j.ensures in
    omega (arith, h.going.counted, h.going.ordered, c.requires.1, c.requires.2)

pub survey_parts-loop-at-smaller : goal.survey_parts-loop-at-smaller
survey_parts-loop-at-smaller t c =
    let h :
    let a = c.args in
    let l = c.loop-at in
    let s = scope_of a.scope.now in
    Here a.scope.now.op s (parts_added s a.left a.k (table a.n a.work.now) a.from a.to)
    (growth_all a.scope.now.op a.left false a.again a.w (between a.scope.now.card.now a.from a.to)) a.to a.left
    (table l.m l.work) l.at l.of l.i l.deep l.sum a.again l.wraps
    c.record_kind-j.result c.record_length.result =
    let inv = c.loop-at.invariant in
    let pre = c.requires in
    law.here inv.0 inv.1 pre.1 pre.2 c.is_short.ensures c.if-is_short.false c.if-deep-eq0.false
    c.record_length.ensures c.record_kind-j.ensures in
    omega (arith, h.head.after-head, h.head.inside)

pub survey_parts-loop-at-preserved : goal.survey_parts-loop-at-preserved
survey_parts-loop-at-preserved t c =
    let h :
    let a = c.args in
    let l = c.loop-at in
    let s = scope_of a.scope.now in
    Here a.scope.now.op s (parts_added s a.left a.k (table a.n a.work.now) a.from a.to)
    (growth_all a.scope.now.op a.left false a.again a.w (between a.scope.now.card.now a.from a.to)) a.to a.left
    (table l.m l.work) l.at l.of l.i l.deep l.sum a.again l.wraps
    c.record_kind-j.result c.record_length.result =
    let inv = c.loop-at.invariant in
    let pre = c.requires in
    law.here inv.0 inv.1 pre.1 pre.2 c.is_short.ensures c.if-is_short.false c.if-deep-eq0.false
    c.record_length.ensures c.record_kind-j.ensures in (
      law.parts-goes h c.if-j-eq1.false
          c.if-j-eq3.false
          c.is_entered.ensures
          (ap not c.if-not-is_entered.false)
          c.if-j-eq45.false
          c.if-j-eq92.false c.stands.ensures
          c.if-stands.false c.survey_parts-p.ensures.0,
      law.held-grows h c.is_fixed.ensures c.if-is_fixed.false
          c.if-j-eq45.false
          c.if-j-eq92.false c.if-j-eq125.false
          c.stands.ensures c.if-stands.false
          c.wraps_at-v.ensures _ c.survey_parts-p.ensures.1,
      omega (arith, c.loop-at.invariant.2),
    )

pub survey_parts-shape_of-work : goal.survey_parts-shape_of-work
survey_parts-shape_of-work t c = omega (arith, c.loop-at.invariant.2)

pub survey_parts-returns : goal.survey_parts-returns
survey_parts-returns t c =
    let inv = c.loop-at.invariant in
    (going_done inv.0 c.loop-at-test.false, turn_end inv.1 c.loop-at-test.false)
