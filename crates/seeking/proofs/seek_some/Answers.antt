-- `seeking::seek_some` meets its contract: what is left of the chain has what the whole has, and no pair that is passed is sought. Assumes nothing.
use native.Mathlib.Omega.{arith}
use Rattle.prefix.specs.Prefix.{scope_of}
use Rattle.chains.specs.Chains.{is_wanted, may_have}
use Rattle.chains.proofs.Tests.{seek-past, seek-start, seek-none, seek_found, seek-on, next-less, may-wanted}
use Rattle.seeking.proofs.seek_some.Goals as goal

pub returns-then-room-from : goal.returns-then-room-from
returns-then-room-from c =
    let args = c.args in
    let room = c.room in
    let if1 = c.if-room-from in
    seek-past (is_wanted (scope_of args.scope.now) args.work.now args.name.now.bytes.now args.name.now.number args.want)
    args.work.now args.from _ room.ensures if1.true

pub loop-g-init : goal.loop-g-init
loop-g-init c =
    let args = c.args in
    let room = c.room in
    let if1 = c.if-room-from in
    seek-start (is_wanted (scope_of args.scope.now) args.work.now args.name.now.bytes.now args.name.now.number args.want)
    args.work.now args.from _ room.ensures if1.false

pub is_wanted-requires : goal.is_wanted-requires
is_wanted-requires c =
    let loop-test = c.loop-g-test in
    let loop = c.loop-g in
    (loop-test.true, loop.invariant.inside)

pub returns-then-is_wanted : goal.returns-then-is_wanted
returns-then-is_wanted c =
    let args = c.args in
    let loop = c.loop-g in
    let loop-test = c.loop-g-test in
    let is-wanted = c.is_wanted in
    let if2 = c.if-is_wanted in
    seek_found (is_wanted (scope_of args.scope.now) args.work.now args.name.now.bytes.now args.name.now.number args.want)
    args.work.now args.from _ loop.invariant loop-test.true _ is-wanted.ensures if2.true

pub skip-g-requires : goal.skip-g-requires
skip-g-requires c =
    let args = c.args in
    let loop = c.loop-g in
    let loop-test = c.loop-g-test in
    let next = c.next-after in
    let l = next-less args.work.now loop.g loop-test.true in
    let i = loop.invariant.inside in
    let e = next.ensures in
    omega arith

pub loop-g-smaller : goal.loop-g-smaller
loop-g-smaller c =
    let args = c.args in
    let loop = c.loop-g in
    let loop-test = c.loop-g-test in
    let is-wanted = c.is_wanted in
    let if2 = c.if-is_wanted in
    let next = c.next-after in
    let skip = c.skip-g in
    (seek-on (may_have args.work.now args.name.now.number args.want) (is_wanted (scope_of args.scope.now)
    args.work.now args.name.now.bytes.now args.name.now.number args.want) (λ i. may-wanted (scope_of args.scope.now)
    args.work.now args.name.now.bytes.now args.name.now.number i args.want) args.work.now args.from _ loop.invariant loop-test.true _
    is-wanted.ensures if2.false _ next.ensures _ skip.ensures).1

pub loop-g-preserved : goal.loop-g-preserved
loop-g-preserved c =
    let args = c.args in
    let loop = c.loop-g in
    let loop-test = c.loop-g-test in
    let is-wanted = c.is_wanted in
    let if2 = c.if-is_wanted in
    let next = c.next-after in
    let skip = c.skip-g in
    (seek-on (may_have args.work.now args.name.now.number args.want) (is_wanted (scope_of args.scope.now)
    args.work.now args.name.now.bytes.now args.name.now.number args.want) (λ i. may-wanted (scope_of args.scope.now)
    args.work.now args.name.now.bytes.now args.name.now.number i args.want) args.work.now args.from _ loop.invariant loop-test.true _
    is-wanted.ensures if2.false _ next.ensures _ skip.ensures).0

pub returns : goal.returns
returns c =
    let args = c.args in
    let loop = c.loop-g in
    let loop-test = c.loop-g-test in
    seek-none (is_wanted (scope_of args.scope.now) args.work.now args.name.now.bytes.now args.name.now.number args.want)
    args.work.now args.from _ loop.invariant loop-test.false
