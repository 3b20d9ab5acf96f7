-- `seeking::has_wanted` meets its contract, by what is sought. Assumes nothing.
use Rattle.prefix.specs.Prefix.{scope_of}
use Rattle.chains.proofs.Tests.{wanted-named, wanted-based, runtime-prefix, runtime-path}
use Rattle.seeking.proofs.has_wanted.Goals as goal

pub returns-in-Named : goal.returns-in-Named
returns-in-Named c =
    let args = c.args in
    wanted-named (scope_of args.scope.now) args.want args.w c.in-Named.is

pub returns-in-Based : goal.returns-in-Based
returns-in-Based c =
    let args = c.args in
    let same_base = c.same_base in
    wanted-based (scope_of args.scope.now) args.want args.w _ c.in-Based.is _ same_base.ensures

pub returns-then-at-eq0 : goal.returns-then-at-eq0
returns-then-at-eq0 c =
    let args = c.args in
    let if1 = c.if-at-eq0 in
    runtime-prefix (scope_of args.scope.now) args.want args.w c.in-Runtime.is if1.true

pub returns : goal.returns
returns c =
    let args = c.args in
    let if1 = c.if-at-eq0 in
    let record-at = c.record_at in
    let is-runtime = c.is_runtime in
    runtime-path (scope_of args.scope.now) args.want args.w c.in-Runtime.is if1.false _ _
    record-at.ensures is-runtime.ensures
