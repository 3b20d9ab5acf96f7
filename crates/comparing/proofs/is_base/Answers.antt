-- `comparing::is_base` meets its contract, a path or the prefix. Assumes nothing.
use Rattle.prefix.specs.Prefix.{scope_of}
use Rattle.comparing.proofs.Bases.{is-base-prefix, is-base-path}
use Rattle.comparing.proofs.is_base.Goals as goal

pub returns-then-place-ne0 : goal.returns-then-place-ne0
returns-then-place-ne0 c =
    let args = c.args in
    let if1 = c.if-place-ne0 in
    let record-at = c.record_at in
    let same-path = c.same_path in
    is-base-path (scope_of args.scope.now) args.place args.path.now _ if1.true _
    record-at.ensures same-path.ensures

pub returns : goal.returns
returns c =
    let args = c.args in
    let if1 = c.if-place-ne0 in
    let is-prefix = c.is_prefix in
    is-base-prefix (scope_of args.scope.now) args.place args.path.now _ if1.false is-prefix.ensures
