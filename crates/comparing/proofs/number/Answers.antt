-- `comparing::number` meets its contract, operation by operation. Assumes nothing.
use mathlib.Core.Path.{refl}
use Rattle.comparing.proofs.Operations.{number_is}
use Rattle.comparing.proofs.number.Goals as goal

pub returns : goal.returns
returns c =
    let args = c.args in
    let hash-bytes = c.hash_bytes in
    number_is args.op _ _ _ hash-bytes.ensures.0 refl
