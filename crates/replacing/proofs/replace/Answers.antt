-- `replacing::replace` meets its contract. Assumes nothing.
use native.Mathlib.Omega.{arith}
use Rattle.prefix.specs.Prefix.{scope_of}
use Rattle.replacing.proofs.Ring.{declaration-long, declaration-deep, declaration-asks, declaration-gives}
use Rattle.replacing.proofs.replace.Goals as goal

pub returns-then-r-gt65536 : goal.returns-then-r-gt65536
returns-then-r-gt65536 c =
    let args = c.args in
    let if1 = c.if-r-gt65536 in
    declaration-long (scope_of args.scope.now) args.work.now args.left args.r.now args.out.now
    if1.true

pub returns-then-left-gt48 : goal.returns-then-left-gt48
returns-then-left-gt48 c =
    let args = c.args in
    let if1 = c.if-r-gt65536 in
    let if2 = c.if-left-gt48 in
    declaration-deep (scope_of args.scope.now) args.work.now args.left args.r.now args.out.now
    (omega (arith, if1.false)) if2.true

pub replace_record-requires : goal.replace_record-requires
replace_record-requires c =
    let args = c.args in
    let if1 = c.if-r-gt65536 in
    let if2 = c.if-left-gt48 in
    declaration-asks (scope_of args.scope.now) args.work.now args.left args.r.now args.out.now
    (omega (arith, if1.false)) (omega (arith, if2.false))

pub returns : goal.returns
returns c =
    let args = c.args in
    let if1 = c.if-r-gt65536 in
    let if2 = c.if-left-gt48 in
    let replace-record = c.replace_record in
    declaration-gives (scope_of args.scope.now) args.work.now args.left args.r.now args.out.now
    (omega (arith, if1.false)) (omega (arith, if2.false)) _ _ replace-record.ensures
