-- `visiting::name_length` meets its contract. Assumes nothing.
use mathlib.Core.Path.{sym, ◌∙◌}
use native.Mathlib.Omega.{arith}
use Rattle.paths.proofs.Marks.{marked-some}
use Rattle.visiting.proofs.Marks.{length-type, length_marked, length-plain}
use mathlib.Core.Path.{ap}
use mathlib.Core.Bool.{not}
use Rattle.visiting.proofs.name_length.Goals as goal

pub returns-then-not-in_expr : goal.returns-then-not-in_expr
returns-then-not-in_expr c = length-type c.args.name.now c.args.in_expr (ap not c.if-not-in_expr.true)

pub overflow_sub-result : goal.overflow_sub-result
overflow_sub-result c =
    let name = c.args.name.now in
    let some = marked-some name (sym c.is_marked.ensures ∙ c.if-is_marked.true) in
    omega arith

pub returns-then-is_marked : goal.returns-then-is_marked
returns-then-is_marked c =
    let args = c.args in
    length_marked args.name.now args.in_expr (ap not c.if-not-in_expr.false) _ c.is_marked.ensures c.if-is_marked.true

pub returns : goal.returns
returns c =
    let args = c.args in
    length-plain args.name.now args.in_expr (ap not c.if-not-in_expr.false) _ c.is_marked.ensures c.if-is_marked.false
