-- `comparing::same_name` meets its contract, operation by operation. Assumes nothing.
use Rattle.comparing.proofs.Operations.{name-bytes}
use Rattle.comparing.proofs.same_name.Goals as goal

pub returns : goal.returns
returns c =
    let args = c.args in
    let same = c.same in
    name-bytes args.op _ _ _ same.ensures
