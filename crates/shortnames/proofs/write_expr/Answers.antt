-- `shortnames::write_expr` meets its contract, test by test. Assumes nothing.
use native.Mathlib.Omega.{arith}
use Rattle.operation.proofs.Weights.{weight-small}
use Rattle.prefix.specs.Prefix.{scope_of}
use Rattle.shortnames.proofs.Tests.{fit, fit-name, expr-unfit, expr-short, expr-long}
use Rattle.shortnames.proofs.write_expr.Goals as goal

pub returns-then-unfit : goal.returns-then-unfit
returns-then-unfit c =
    let args = c.args in
    let unfit = c.unfit in
    let if1 = c.if-unfit in
    expr-unfit (scope_of args.scope.now) args.work.now args.r.now args.out.now args.at _
    unfit.ensures if1.true

pub overflow_add-end : goal.overflow_add-end
overflow_add-end c =
    let args = c.args in
    let unfit = c.unfit in
    let if1 = c.if-unfit in
    omega (arith, (fit args.at 0 args.r.now _ unfit.ensures if1.false).0)

pub overflow_add-end-then-replaces_expr : goal.overflow_add-end-then-replaces_expr
overflow_add-end-then-replaces_expr c =
    let args = c.args in
    let unfit = c.unfit in
    let if1 = c.if-unfit in
    let name_in = c.name_in-name in
    let fits = fit args.at 0 args.r.now _ unfit.ensures if1.false in
    omega (arith, fits.0, fit-name args.r.now _ name_in.ensures fits.2)

pub lay_named-requires : goal.lay_named-requires
lay_named-requires c =
    let args = c.args in
    let unfit = c.unfit in
    let if1 = c.if-unfit in
    omega (arith, (fit args.at 0 args.r.now _ unfit.ensures if1.false).0)

pub overflow_add-result : goal.overflow_add-result
overflow_add-result c =
    let args = c.args in
    let unfit = c.unfit in
    let if1 = c.if-unfit in
    let name_in = c.name_in-name in
    let weight = c.weight-weight in
    let fits = fit args.at 0 args.r.now _ unfit.ensures if1.false in
    omega (arith, fits.0, fit-name args.r.now _ name_in.ensures fits.2, weight.ensures, weight-small args.scope.now.op)

pub returns-then-replaces_expr : goal.returns-then-replaces_expr
returns-then-replaces_expr c =
    let args = c.args in
    let unfit = c.unfit in
    let if1 = c.if-unfit in
    let replaces-expr = c.replaces_expr in
    let if2 = c.if-replaces_expr in
    let name_in = c.name_in-name in
    let weight = c.weight-weight in
    let lay-named = c.lay_named in
    let lay-zeros = c.lay_zeros in
    expr-short (scope_of args.scope.now) args.work.now args.r.now args.out.now args.at _
    unfit.ensures if1.false _ replaces-expr.ensures if2.true _ name_in.ensures _ lay-named.ensures _ weight.ensures _
    lay-zeros.ensures

pub overflow_add-result-2 : goal.overflow_add-result-2
overflow_add-result-2 c =
    let args = c.args in
    let unfit = c.unfit in
    let if1 = c.if-unfit in
    let fits = fit args.at 0 args.r.now _ unfit.ensures if1.false in
    omega (arith, fits.0, fits.2)

pub returns : goal.returns
returns c =
    let args = c.args in
    let unfit = c.unfit in
    let if1 = c.if-unfit in
    let replaces-expr = c.replaces_expr in
    let if2 = c.if-replaces_expr in
    let lay = c.lay in
    expr-long (scope_of args.scope.now) args.work.now args.r.now args.out.now args.at _
    unfit.ensures if1.false _ replaces-expr.ensures if2.false _ lay.ensures
