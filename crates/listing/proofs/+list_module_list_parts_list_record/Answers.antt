-- The ring of `listing` meets its contracts: the laws of Beside and Ring at each member. Assumes nothing.
use mathlib.Core.Path.{sym, ap, ◌∙◌}
use Prim.Native.Nat.{◌≤◌}
use native.Mathlib.Omega.{arith}
use lib.ListN.{length}
use Rattle.wire.proofs.Slices.{tail-length}
use Rattle.rewriting.proofs.Lengths.{content-inside}
use Rattle.listing.proofs.Passed.{Next, next, none-next, end-next}
use Rattle.listing.proofs.Beside.{listed-none, listed-within, beside_none, beside_long, beside_end, beside-stop, beside-next}
use Rattle.listing.proofs.Ring.{body-inside, no-depth, text-places, kept-places, module-places, marked-listed, other-places, module-listed}
use Rattle.listing.proofs.+list_module_list_parts_list_record.Goals as goal

pub list_module-overflow_sub-p : goal.list_module-overflow_sub-p
list_module-overflow_sub-p t c =
    (let bodied' : length c.body-d.result.now ≤ length c.args.s.now = body-inside c.args.s.now c.body-d.result.now c.body-d.ensures in bodied')

pub list_module-overflow_add-p : goal.list_module-overflow_add-p
list_module-overflow_add-p t c = omega (arith, c.requires.0)

pub list_module-list_uses-e-requires : goal.list_module-list_uses-e-requires
list_module-list_uses-e-requires t c =
    let pre = c.requires in
    (omega (arith, pre.0, (let bodied' : length c.body-d.result.now ≤ length c.args.s.now = body-inside c.args.s.now c.body-d.result.now c.body-d.ensures in bodied')), omega (arith, pre.1, (let bodied' : length c.body-d.result.now ≤ length c.args.s.now = body-inside c.args.s.now c.body-d.result.now c.body-d.ensures in bodied')), omega (arith, c.more-m.ensures))

pub list_module-slice_bounds-list_parts-count : goal.list_module-slice_bounds-list_parts-count
list_module-slice_bounds-list_parts-count t c = c.list_uses-e.ensures.1

pub list_module-overflow_add-p-2 : goal.list_module-overflow_add-p-2
list_module-overflow_add-p-2 t c =
    omega (arith, c.requires.0, (let bodied' : length c.body-d.result.now ≤ length c.args.s.now = body-inside c.args.s.now c.body-d.result.now c.body-d.ensures in bodied'), c.list_uses-e.ensures.1)

pub list_module-overflow_add-n : goal.list_module-overflow_add-n
list_module-overflow_add-n t c =
    let uses = c.list_uses-e.ensures in
    omega (arith, c.requires.1, (let bodied' : length c.body-d.result.now ≤ length c.args.s.now = body-inside c.args.s.now c.body-d.result.now c.body-d.ensures in bodied'), uses.0, uses.1)

pub list_module-list_parts-requires : goal.list_module-list_parts-requires
list_module-list_parts-requires t c =
    let uses = c.list_uses-e in
    let long = tail-length c.body-d.result.now uses.result in (
      omega (arith, c.decreases),
      (omega (arith, c.requires.0, (let bodied' : length c.body-d.result.now ≤ length c.args.s.now = body-inside c.args.s.now c.body-d.result.now c.body-d.ensures in bodied'), uses.ensures.1), omega (arith, c.requires.1, (let bodied' : length c.body-d.result.now ≤ length c.args.s.now = body-inside c.args.s.now c.body-d.result.now c.body-d.ensures in bodied'), uses.ensures.0, uses.ensures.1)),
    )

pub list_module-returns : goal.list_module-returns
list_module-returns t c =
    let args = c.args in
    module-listed args.list.now args.left args.n args.at args.r.now args.s.now _ _ c.body-c.ensures c.body-d.ensures
    _ c.more-m.ensures _ _ c.list_uses-e.ensures _ _ c.list_parts.ensures

pub list_parts-loop-i-init : goal.list_parts-loop-i-init
list_parts-loop-i-init t c = beside_none _ _ _ _ _ _

pub list_parts-slice_bounds-s-count : goal.list_parts-slice_bounds-s-count
list_parts-slice_bounds-s-count t c = c.loop-i.invariant.inside

pub list_parts-shape_of-list-then-is_short : goal.list_parts-shape_of-list-then-is_short
list_parts-shape_of-list-then-is_short t c = beside_long _ _ _ _ _ _ _ _ _ _ c.loop-i.invariant

pub list_parts-returns-then-is_short : goal.list_parts-returns-then-is_short
list_parts-returns-then-is_short t c =
    let loop = c.loop-i in
    beside_end _ _ _ _ _ _ _ _ _ _ loop.invariant (none-next _ loop.i (sym c.is_short.ensures ∙ c.if-is_short.true))

pub list_parts-shape_of-list-then-is_short-2 : goal.list_parts-shape_of-list-then-is_short-2
list_parts-shape_of-list-then-is_short-2 t c = beside_long _ _ _ _ _ _ _ _ _ _ c.loop-i.invariant

pub list_parts-returns-then-is_short-2 : goal.list_parts-returns-then-is_short-2
list_parts-returns-then-is_short-2 t c =
    let loop = c.loop-i in
    beside-stop _ _ _ _ _ _ _ _ _ _ loop.invariant (none-next _ loop.j (sym c.is_short-in-loop-i.ensures ∙ c.if-is_short-2.true))

pub list_parts-slice_bounds-list_record-end : goal.list_parts-slice_bounds-list_record-end
list_parts-slice_bounds-list_record-end t c =
    sym (let this' : Next c.args.c.now c.loop-i.i c.record_length-x.result = next _ _ (sym c.is_short.ensures ∙ c.if-is_short.false) _ c.record_length-x.ensures.0 in this').long

pub list_parts-slice_bounds-list_record-end-in-loop-i : goal.list_parts-slice_bounds-list_record-end-in-loop-i
list_parts-slice_bounds-list_record-end-in-loop-i t c =
    sym (let that' : Next c.args.d.now c.loop-i.j c.record_length-y.result = next _ _ (sym c.is_short-in-loop-i.ensures ∙ c.if-is_short-2.false) _ c.record_length-y.ensures.0 in that').long

pub list_parts-overflow_add-at : goal.list_parts-overflow_add-at
list_parts-overflow_add-at t c =
    omega (arith, c.requires.0, (let that' : Next c.args.d.now c.loop-i.j c.record_length-y.result = next _ _ (sym c.is_short-in-loop-i.ensures ∙ c.if-is_short-2.false) _ c.record_length-y.ensures.0 in that').inside)

pub list_parts-list_record-m-requires : goal.list_parts-list_record-m-requires
list_parts-list_record-m-requires t c =
    let that = (let that' : Next c.args.d.now c.loop-i.j c.record_length-y.result = next _ _ (sym c.is_short-in-loop-i.ensures ∙ c.if-is_short-2.false) _ c.record_length-y.ensures.0 in that') in (
      omega (arith, c.decreases),
      (omega (arith, c.requires.0, that.inside, that.long), omega (arith, c.requires.1, that.inside, that.long, c.loop-i.invariant.few)),
    )

pub list_parts-overflow_add-i : goal.list_parts-overflow_add-i
list_parts-overflow_add-i t c =
    omega (arith, (let this' : Next c.args.c.now c.loop-i.i c.record_length-x.result = next _ _ (sym c.is_short.ensures ∙ c.if-is_short.false) _ c.record_length-x.ensures.0 in this').inside)

pub list_parts-overflow_add-j : goal.list_parts-overflow_add-j
list_parts-overflow_add-j t c =
    omega (arith, (let that' : Next c.args.d.now c.loop-i.j c.record_length-y.result = next _ _ (sym c.is_short-in-loop-i.ensures ∙ c.if-is_short-2.false) _ c.record_length-y.ensures.0 in that').inside)

pub list_parts-loop-i-smaller : goal.list_parts-loop-i-smaller
list_parts-loop-i-smaller t c = omega (arith, c.loop-i-test.true)

pub list_parts-loop-i-preserved : goal.list_parts-loop-i-preserved
list_parts-loop-i-preserved t c =
    beside-next _ _ _ _ _ _ _ _ _ _ c.loop-i.invariant _ _ (let this' : Next c.args.c.now c.loop-i.i c.record_length-x.result = next _ _ (sym c.is_short.ensures ∙ c.if-is_short.false) _ c.record_length-x.ensures.0 in this') (let that' : Next c.args.d.now c.loop-i.j c.record_length-y.result = next _ _ (sym c.is_short-in-loop-i.ensures ∙ c.if-is_short-2.false) _ c.record_length-y.ensures.0 in that') _ _ c.list_record-m.ensures

pub list_parts-shape_of-list : goal.list_parts-shape_of-list
list_parts-shape_of-list t c = beside_long _ _ _ _ _ _ _ _ _ _ c.loop-i.invariant

pub list_parts-returns : goal.list_parts-returns
list_parts-returns t c =
    let loop = c.loop-i in
    let args = c.args in
    beside_end _ _ _ _ _ _ _ _ _ _ loop.invariant (end-next args.c.now loop.i (omega (arith, c.loop-i-test.false)))

pub list_record-returns-then-left-eq0 : goal.list_record-returns-then-left-eq0
list_record-returns-then-left-eq0 t c =
    let args = c.args in
    listed-none args.list.now args.n args.s.now _ (no-depth args.at args.r.now args.s.now args.left c.if-left-eq0.true)

pub list_record-returns-then-k-eq1 : goal.list_record-returns-then-k-eq1
list_record-returns-then-k-eq1 t c =
    let args = c.args in
    listed-none args.list.now args.n args.s.now _
    (text-places args.at args.r.now args.s.now args.left c.if-left-eq0.false _ c.record_kind-k.ensures.0 c.if-k-eq1.true)

pub list_record-returns-then-k-eq3 : goal.list_record-returns-then-k-eq3
list_record-returns-then-k-eq3 t c =
    let args = c.args in
    listed-none args.list.now args.n args.s.now _
    (kept-places args.at args.r.now args.s.now args.left c.if-left-eq0.false _ c.record_kind-k.ensures.0 c.if-k-eq3.true)

pub list_record-put-requires : goal.list_record-put-requires
list_record-put-requires t c =
    let pre = c.requires in
    let left = c.if-left-eq0.false in
    (omega (arith, pre.0), omega (arith, pre.1))

pub list_record-overflow_add-result : goal.list_record-overflow_add-result
list_record-overflow_add-result t c = omega (arith, c.requires.1)

pub list_record-returns-then-m-gt0 : goal.list_record-returns-then-m-gt0
list_record-returns-then-m-gt0 t c =
    let args = c.args in
    let law = marked-listed args.at args.r.now args.s.now args.left c.if-left-eq0.false _ c.record_kind-k.ensures.0
    _ _ c.record_kind.ensures.0 c.mark-m.ensures in
    law c.if-m-gt0.true args.list.now args.n _ c.put.ensures

pub list_record-overflow_sub-left : goal.list_record-overflow_sub-left
list_record-overflow_sub-left t c = omega (arith, c.if-left-eq0.false)

pub list_record-list_module-requires : goal.list_record-list_module-requires
list_record-list_module-requires t c =
    let left = c.if-left-eq0.false in
    (omega (arith, c.decreases), (omega (arith, c.requires.0), c.requires.1))

pub list_record-returns-then-k-eq96 : goal.list_record-returns-then-k-eq96
list_record-returns-then-k-eq96 t c =
    let args = c.args in
    listed-within args.list.now args.n args.s.now _ _ args.s.now _ _
    (module-places args.at args.r.now args.s.now args.left c.if-left-eq0.false _ c.record_kind-k.ensures.0 c.if-k-eq96.true)
    (omega arith) c.list_module.ensures

pub list_record-overflow_add-at : goal.list_record-overflow_add-at
list_record-overflow_add-at t c = omega (arith, c.requires.0)

pub list_record-overflow_sub-left-2 : goal.list_record-overflow_sub-left-2
list_record-overflow_sub-left-2 t c = omega (arith, c.if-left-eq0.false)

pub list_record-list_parts-requires : goal.list_record-list_parts-requires
list_record-list_parts-requires t c =
    let left = c.if-left-eq0.false in
    let inside = content-inside c.args.s.now in
    let long = ap length c.content-2.ensures in
    (omega (arith, c.decreases), (omega (arith, c.requires.0), omega (arith, c.requires.1)))

pub list_record-returns : goal.list_record-returns
list_record-returns t c =
    let args = c.args in
    let inside = content-inside args.s.now in
    let long = ap length c.content-2.ensures in
    listed-within args.list.now args.n args.s.now _ _ c.content-2.result.now _ _
    (other-places args.at args.r.now args.s.now args.left c.if-left-eq0.false c.record_kind-k.result c.record_kind-k.ensures.0
    _ c.mark-m.result c.record_kind.ensures.0 c.mark-m.ensures (omega (arith, c.if-m-gt0.false))
    c.if-k-eq1.false c.if-k-eq3.false c.if-k-eq96.false _ _
    c.content.ensures c.content-2.ensures)
    (omega arith) c.list_parts.ensures
