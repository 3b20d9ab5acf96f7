-- `fitting::is_many` meets its contract. Assumes nothing.
use Rattle.fitting.proofs.Tests.{many_is, many-not}
use Rattle.fitting.proofs.is_many.Goals as goal

pub returns-then-k-eq98 : goal.returns-then-k-eq98
returns-then-k-eq98 c =
    let args = c.args in
    many_is args.k args.n args.most c.if-k-eq98.true

pub returns : goal.returns
returns c =
    let args = c.args in
    many-not args.k args.n args.most c.if-k-eq98.false
