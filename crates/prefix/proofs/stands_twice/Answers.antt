-- `prefix::stands_twice` meets its contract. Assumes nothing.
use mathlib.Core.Path.{◌∙◌}
use borrow.Author.Tests.{eq-eqb, ne_eqb}
use Rattle.prefix.proofs.stands_twice.Goals as goal

pub returns-then-i-eq0 : goal.returns-then-i-eq0
returns-then-i-eq0 c =
    let if1 = c.if-i-eq0 in
    rw (eq-eqb _ 0 if1.true)

pub returns : goal.returns
returns c =
    let names-again = c.names_again in
    let if1 = c.if-i-eq0 in
    names-again.ensures ∙ rw (ne_eqb _ 0 if1.false)
