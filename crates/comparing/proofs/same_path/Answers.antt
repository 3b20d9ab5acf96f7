-- `comparing::same_path` meets its contract, operation by operation. Assumes nothing.
use Rattle.comparing.proofs.Operations.{path_bytes}
use Rattle.comparing.proofs.same_path.Goals as goal

pub returns : goal.returns
returns c =
    let args = c.args in
    let same = c.same in
    path_bytes args.op _ _ _ same.ensures
