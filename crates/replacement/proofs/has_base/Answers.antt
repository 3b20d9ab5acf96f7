-- `replacement::has_base` meets its contract. Assumes nothing.
use Rattle.prefix.specs.Prefix.{scope_of}
use Rattle.replacement.proofs.Tests.{base-word-is}
use Rattle.replacement.proofs.has_base.Goals as goal

pub returns : goal.returns
returns c =
    let args = c.args in
    let word = c.word in
    let is_base = c.is_base in
    base-word-is (scope_of args.scope.now) args.work.now args.base.now _ _ word.ensures.0 _
    is_base.ensures
