-- `prefix::selects` meets its contract, test by test, by the laws of Selections. Assumes nothing.
use mathlib.Core.Path.{sym}
use native.Mathlib.Omega.{arith}
use lib.Seq.{length-take-le}
use Rattle.wire.specs.Numbers.{le}
use Rattle.prefix.proofs.Selections.{select-few, select-other, select-by-head}
use mathlib.Core.Path.{ap}
use mathlib.Core.Bool.{not}
use Rattle.prefix.proofs.selects.Goals as goal

pub returns-then-len-lt6 : goal.returns-then-len-lt6
returns-then-len-lt6 c = select-few c.args.path.now c.args.name.now (omega (arith, c.if-len-lt6.true))

pub returns-then-len-name : goal.returns-then-len-name
returns-then-len-name c =
    select-few c.args.path.now c.args.name.now
    (omega (arith, c.if-len-lt6.false, c.if-len-name.true))

pub returns-then-not-same : goal.returns-then-not-same
returns-then-not-same c =
    select-other c.args.path.now
    c.args.name.now
    (omega (arith, c.if-len-lt6.false, c.if-len-name.false)) _ c.same.ensures (ap not c.if-not-same.true)

pub slice_bounds-same_few-end : goal.slice_bounds-same_few-end
slice_bounds-same_few-end c =
    sym (length-take-le 6 c.args.path.now
    (omega (arith, c.if-len-lt6.false)))

pub returns : goal.returns
unfolding le
returns c =
    select-by-head c.args.path.now
    c.args.name.now
    (omega (arith, c.if-len-lt6.false, c.if-len-name.false)) _
    c.same.ensures _ (ap not c.if-not-same.false) c.same_few.ensures
