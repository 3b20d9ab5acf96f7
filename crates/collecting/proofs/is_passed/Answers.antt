-- `collecting::is_passed` meets its contract. Assumes nothing.
use Rattle.collecting.proofs.Going.{passed-text, passed-kept, passed-not}
use Rattle.collecting.proofs.is_passed.Goals as goal

pub returns-then-j-eq1 : goal.returns-then-j-eq1
returns-then-j-eq1 c = passed-text c.args.j _ c.if-j-eq1.true

pub returns-then-j-eq3 : goal.returns-then-j-eq3
returns-then-j-eq3 c = passed-kept c.args.j _ c.if-j-eq3.true

pub returns : goal.returns
returns c =
    let args = c.args in
    let if1 = c.if-j-eq1 in
    let if2 = c.if-j-eq3 in
    passed-not args.j if1.false if2.false c.is_entered.ensures
