-- `shortnames::write_type` meets its contract, test by test. Assumes nothing.
use native.Mathlib.Omega.{arith}
use Rattle.operation.proofs.Weights.{weight-small}
use Rattle.prefix.specs.Prefix.{scope_of}
use Rattle.shortnames.proofs.Tests.{fit, fit-name, fit-end, type-unfit, type-short, type-long}
use Rattle.shortnames.proofs.write_type.Goals as goal

pub returns-then-unfit : goal.returns-then-unfit
returns-then-unfit c =
    let args = c.args in
    let unfit = c.unfit in
    let if1 = c.if-unfit in
    type-unfit (scope_of args.scope.now) args.work.now args.r.now args.out.now args.at _
    args.w unfit.ensures if1.true

pub lay_synonyms-end-requires : goal.lay_synonyms-end-requires
lay_synonyms-end-requires c =
    let args = c.args in
    let name_in = c.name_in in
    let unfit = c.unfit in
    let if1 = c.if-unfit in
    let fits = fit args.at args.w args.r.now _ unfit.ensures if1.false in
    (fit-name args.r.now _ name_in.ensures fits.2, fits.2, fits.1, fits.0)

pub overflow_add-result : goal.overflow_add-result
overflow_add-result c =
    let args = c.args in
    let unfit = c.unfit in
    let if1 = c.if-unfit in
    let name_in = c.name_in in
    let lay-synonyms = c.lay_synonyms-end in
    let weight = c.weight-weight in
    let end = fit-end args.at args.w args.r.now _ unfit.ensures if1.false _ name_in.ensures _ _ _ lay-synonyms.ensures in
    omega (arith, end, weight.ensures, weight-small args.scope.now.op)

pub returns-then-replaces_type : goal.returns-then-replaces_type
returns-then-replaces_type c =
    let args = c.args in
    let unfit = c.unfit in
    let if1 = c.if-unfit in
    let replaces-type = c.replaces_type in
    let if2 = c.if-replaces_type in
    let name_in = c.name_in in
    let lay-synonyms = c.lay_synonyms-end in
    let weight = c.weight-weight in
    let lay-zeros = c.lay_zeros in
    type-short (scope_of args.scope.now) args.work.now args.r.now args.out.now args.at _
    args.w unfit.ensures if1.false _ replaces-type.ensures if2.true _ name_in.ensures _ _ lay-synonyms.ensures _ weight.ensures _
    lay-zeros.ensures

pub overflow_add-result-2 : goal.overflow_add-result-2
overflow_add-result-2 c =
    let args = c.args in
    let unfit = c.unfit in
    let if1 = c.if-unfit in
    let fits = fit args.at args.w args.r.now _ unfit.ensures if1.false in
    omega (arith, fits.0, fits.2)

pub returns : goal.returns
returns c =
    let args = c.args in
    let unfit = c.unfit in
    let if1 = c.if-unfit in
    let replaces-type = c.replaces_type in
    let if2 = c.if-replaces_type in
    let lay = c.lay in
    type-long (scope_of args.scope.now) args.work.now args.r.now args.out.now args.at _
    args.w unfit.ensures if1.false _ replaces-type.ensures if2.false _ lay.ensures
