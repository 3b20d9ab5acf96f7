-- `choosing::chosen_of_several` meets its contract. Assumes nothing.
use Rattle.prefix.specs.Prefix.{scope_of}
use Rattle.choosing.proofs.Tests.{several-prefix, several-runtime}
use Rattle.choosing.proofs.chosen_of_several.Goals as goal

pub returns-then-p-gt0 : goal.returns-then-p-gt0
returns-then-p-gt0 c =
    let args = c.args in
    let seek = c.seek-p in
    let if1 = c.if-p-gt0 in
    several-prefix (scope_of args.scope.now) args.work.now _ args.name.now.number _ _ seek.ensures
    if1.true

pub returns : goal.returns
returns c =
    let args = c.args in
    let seek = c.seek-p in
    let if1 = c.if-p-gt0 in
    let seek2 = c.seek in
    several-runtime (scope_of args.scope.now) args.work.now _ args.name.now.number _ _ seek.ensures
    if1.false _ seek2.ensures
