-- `tables::table_of` meets its contract. Assumes nothing.
use mathlib.Core.Path.{refl}
use Rattle.prefix.specs.Prefix.{scope_of}
use Rattle.tables.proofs.Owner.{owner-same, owner-settled}
use Rattle.tables.proofs.table_of.Goals as goal

pub returns-then-held-at : goal.returns-then-held-at
returns-then-held-at c =
    let if1 = c.if-held-at in
    (if1.true, owner-same _ _ _ _ _ if1.true)

pub returns : goal.returns
returns c =
    let args = c.args in
    let if1 = c.if-held-at in
    let collect-module = c.collect_module-n in
    let settle = c.settle in
    let s = scope_of args.scope.now in
    (refl, owner-settled s _ _ _ _ if1.false _ _ _ collect-module.ensures settle.ensures)
