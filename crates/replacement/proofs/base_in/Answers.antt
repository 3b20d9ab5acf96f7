-- `replacement::base_in` meets its contract. Assumes nothing.
use Rattle.replacement.proofs.Tests.{base-is}
use Rattle.replacement.proofs.base_in.Goals as goal

pub returns : goal.returns
returns c =
    let args = c.args in
    let content = c.content in
    let content2 = c.content-p in
    let record' = c.«record» in
    base-is args.r.now _ _ _ content.ensures content2.ensures record'.ensures
