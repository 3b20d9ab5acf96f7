-- `replacement::name_in` meets its contract. Assumes nothing.
use Rattle.replacement.proofs.Tests.{name-is}
use Rattle.replacement.proofs.name_in.Goals as goal

pub returns : goal.returns
returns c =
    let args = c.args in
    let content = c.content in
    let content2 = c.content-p in
    let rest = c.rest in
    let content3 = c.content-2 in
    name-is args.r.now _ _ _ _ content.ensures content2.ensures rest.ensures content3.ensures
