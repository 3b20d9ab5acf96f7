-- `seeking::seek` meets its contract. Assumes nothing.
use Rattle.prefix.specs.Prefix.{scope_of}
use Rattle.chains.specs.Chains.{is_wanted}
use Rattle.chains.proofs.Tests.{seek-zero}
use Rattle.seeking.proofs.seek.Goals as goal

pub returns-then-from-eq0 : goal.returns-then-from-eq0
returns-then-from-eq0 c =
    let args = c.args in
    let if1 = c.if-from-eq0 in
    seek-zero (is_wanted (scope_of args.scope.now) args.work.now args.name.now.bytes.now args.name.now.number args.want)
    args.work.now args.from if1.true
