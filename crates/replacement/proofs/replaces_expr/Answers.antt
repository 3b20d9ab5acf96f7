-- `replacement::replaces_expr` meets its contract. Assumes nothing.
use mathlib.Core.Path.{sym, ◌∙◌}
use native.Mathlib.Nat.{min-eq_left}
use native.Mathlib.Omega.{arith}
use lib.ListN.{length-take}
use borrow.Author.Tests.{not-false}
use Rattle.paths.proofs.Marks.{marked-some}
use Rattle.prefix.specs.Prefix.{scope_of}
use Rattle.replacement.proofs.Tests.{expr-other, expr-whole, expr-plain, expr-marked}
use mathlib.Core.Path.{ap}
use mathlib.Core.Bool.{not}
use Rattle.replacement.proofs.replaces_expr.Goals as goal

pub returns-then-record_kind-ne19 : goal.returns-then-record_kind-ne19
returns-then-record_kind-ne19 c =
    let args = c.args in
    let content = c.content in
    let record-kind = c.record_kind in
    let if1 = c.if-record_kind-ne19 in
    expr-other (scope_of args.scope.now) args.work.now
    args.r.now _ _ content.ensures record-kind.ensures.0 if1.true

pub returns-then-replaces : goal.returns-then-replaces
returns-then-replaces c =
    let args = c.args in
    let content = c.content in
    let record-kind = c.record_kind in
    let if1 = c.if-record_kind-ne19 in
    let name_in = c.name_in-name in
    let base-in = c.base_in-base in
    let replaces = c.replaces in
    let if2 = c.if-replaces in
    expr-whole (scope_of args.scope.now) args.work.now
    args.r.now _ _ content.ensures record-kind.ensures.0
    if1.false _ _ name_in.ensures base-in.ensures _ replaces.ensures if2.true

pub returns-then-not-is_marked : goal.returns-then-not-is_marked
returns-then-not-is_marked c =
    let args = c.args in
    expr-plain (scope_of args.scope.now) args.work.now
    args.r.now _ _ c.content.ensures c.record_kind.ensures.0
    c.if-record_kind-ne19.false _ _ c.name_in-name.ensures c.base_in-base.ensures _
    c.replaces.ensures c.if-replaces.false _ c.is_marked.ensures (ap not c.if-not-is_marked.true)

-- a marked name is not empty
pub overflow_sub-last : goal.overflow_sub-last
overflow_sub-last c =
    let name = c.name_in-name.result.now in
    let some = marked-some name (sym c.is_marked.ensures ∙ not-false _ (ap not c.if-not-is_marked.false)) in
    omega arith

pub slice_bounds-replaces-end : goal.slice_bounds-replaces-end
slice_bounds-replaces-end c = simp length-take (sym (min-eq_left (omega arith)))

pub returns : goal.returns
returns c =
    let args = c.args in
    expr-marked (scope_of args.scope.now) args.work.now
    args.r.now _ _ c.content.ensures c.record_kind.ensures.0
    c.if-record_kind-ne19.false _ _ c.name_in-name.ensures c.base_in-base.ensures _
    c.replaces.ensures c.if-replaces.false _ c.is_marked.ensures (ap not c.if-not-is_marked.false) _ c.replaces-2.ensures
