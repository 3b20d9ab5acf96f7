-- `surveying::is_parted` meets its contract. Assumes nothing.
use Rattle.surveying.proofs.Fns.{parted-none, parted-one}
use Rattle.surveying.proofs.is_parted.Goals as goal

pub returns-then-is_short : goal.returns-then-is_short
returns-then-is_short c = parted-none c.args.c.now _ c.is_short.ensures c.if-is_short.true

pub returns : goal.returns
returns c =
    parted-one c.args.c.now _ _ _ c.is_short.ensures c.if-is_short.false c.rest.ensures
    c.is_short-2.ensures
