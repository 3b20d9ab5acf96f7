-- `importing::write_imports` meets its contract: those of the pairs so far are laid. Assumes nothing.
use native.Mathlib.Omega.{arith}
use Rattle.operation.specs.Operations.{weight_bytes}
use Rattle.operation.proofs.Weights.{weight-length, weight-small}
use Rattle.prefix.specs.Prefix.{scope_of}
use Rattle.importing.proofs.Uses.{end_fits}
use Rattle.importing.proofs.Tests.{laid-length, imports-long, imports-past, imports-all, loop-none, loop-more}
use Rattle.importing.proofs.write_imports.Goals as goal

pub returns-then-scope-gt65536 : goal.returns-then-scope-gt65536
returns-then-scope-gt65536 c =
    let args = c.args in
    let if1 = c.if-scope-gt65536 in
    imports-long (scope_of args.scope.now) args.work.now args.n args.out.now if1.true

pub returns-then-room-n : goal.returns-then-room-n
returns-then-room-n c =
    let args = c.args in
    let if1 = c.if-scope-gt65536 in
    let room = c.room in
    let if2 = c.if-room-n in
    imports-past (scope_of args.scope.now) args.work.now
    args.n if1.false _ room.ensures args.out.now if2.true

pub loop-i-init : goal.loop-i-init
loop-i-init c = loop-none (scope_of c.args.scope.now) c.args.work.now (weight_bytes c.args.scope.now.op) c.args.out.now

pub write_use_of-p-requires : goal.write_use_of-p-requires
write_use_of-p-requires c =
    let args = c.args in (
      c.if-scope-gt65536.false,
      omega (arith, c.if-room-n.false, c.room.ensures),
      end_fits (scope_of args.scope.now) args.work.now
          c.if-scope-gt65536.false (weight_bytes args.scope.now.op) (omega (arith, weight-length args.scope.now.op, weight-small args.scope.now.op)) _ _ _ _
          (omega (arith, c.if-room-n.false, c.room.ensures)) c.loop-i.invariant,
    )

pub loop-i-preserved : goal.loop-i-preserved
loop-i-preserved c =
    let args = c.args in
    loop-more (scope_of args.scope.now) args.work.now _ _ _ _ _ _ _ c.loop-i.invariant c.write_use_of-p.ensures

pub shape_of-out : goal.shape_of-out
shape_of-out c = laid-length _ _ _ _ _ c.loop-i.invariant

pub returns : goal.returns
returns c =
    let args = c.args in
    imports-all (scope_of args.scope.now) args.work.now
    args.n c.if-scope-gt65536.false _ c.room.ensures _ _ _ _ c.if-room-n.false (omega arith) c.loop-i.invariant
