-- `replacement::replaces_type` meets its contract. Assumes nothing.
use Rattle.prefix.specs.Prefix.{scope_of}
use Rattle.replacement.proofs.Tests.{type-other, type-is}
use Rattle.replacement.proofs.replaces_type.Goals as goal

pub returns-then-record_kind-ne19 : goal.returns-then-record_kind-ne19
returns-then-record_kind-ne19 c =
    let args = c.args in
    let content = c.content in
    let record-kind = c.record_kind in
    let if1 = c.if-record_kind-ne19 in
    type-other (scope_of args.scope.now) args.work.now
    args.r.now _ _ content.ensures record-kind.ensures.0 if1.true

pub returns : goal.returns
returns c =
    let args = c.args in
    let content = c.content in
    let record-kind = c.record_kind in
    let if1 = c.if-record_kind-ne19 in
    let name_in = c.name_in in
    let base-in = c.base_in in
    let replaces = c.replaces in
    type-is (scope_of args.scope.now) args.work.now
    args.r.now _ _ content.ensures record-kind.ensures.0
    if1.false _ _ name_in.ensures base-in.ensures _ replaces.ensures
