-- `growth::is_fixed` meets its contract, test by test. Assumes nothing.
use mathlib.Core.Path.{sym, ◌∙◌}
use Rattle.growth.proofs.Tests.{fixed-text, fixed_kept, fixed-path, fixed-use, fixed-last}
use Rattle.growth.proofs.is_fixed.Goals as goal

pub returns-then-k-eq1 : goal.returns-then-k-eq1
returns-then-k-eq1 c =
    let args = c.args in
    fixed-text args.k c.if-k-eq1.true

pub returns-then-k-eq3 : goal.returns-then-k-eq3
returns-then-k-eq3 c =
    let args = c.args in
    fixed_kept args.k c.if-k-eq1.false c.if-k-eq3.true

pub returns-then-stands : goal.returns-then-stands
returns-then-stands c =
    let args = c.args in
    fixed-path args.k c.if-k-eq1.false c.if-k-eq3.false (sym c.stands.ensures ∙ c.if-stands.true)

pub returns-then-k-eq106 : goal.returns-then-k-eq106
returns-then-k-eq106 c =
    let args = c.args in
    fixed-use args.k c.if-k-eq1.false c.if-k-eq3.false
    (sym c.stands.ensures ∙ c.if-stands.false) c.if-k-eq106.true

pub returns : goal.returns
returns c =
    let args = c.args in
    fixed-last args.k c.if-k-eq1.false c.if-k-eq3.false
    (sym c.stands.ensures ∙ c.if-stands.false) c.if-k-eq106.false
