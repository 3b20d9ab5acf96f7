-- `choosing::chosen` meets its contract. Assumes nothing.
use Rattle.prefix.specs.Prefix.{scope_of}
use Rattle.choosing.proofs.Tests.{chosen_none, chosen-only, chosen-several}
use Rattle.choosing.proofs.chosen.Goals as goal

pub returns-then-one-eq0 : goal.returns-then-one-eq0
returns-then-one-eq0 c =
    let args = c.args in
    let bucket = c.bucket in
    let head = c.head-first in
    let seek = c.seek-one in
    let if1 = c.if-one-eq0 in
    let scoped = scope_of args.scope.now in
    chosen_none scoped args.work.now _ args.name.now.number _ _ _ bucket.ensures head.ensures.0 seek.ensures if1.true

pub returns-then-two-eq0 : goal.returns-then-two-eq0
returns-then-two-eq0 c =
    let args = c.args in
    let bucket = c.bucket in
    let head = c.head-first in
    let seek = c.seek-one in
    let if1 = c.if-one-eq0 in
    let next = c.next-after in
    let seek2 = c.seek-two in
    let if2 = c.if-two-eq0 in
    let scoped = scope_of args.scope.now in
    chosen-only scoped args.work.now _ args.name.now.number _ _ _ bucket.ensures head.ensures.0 seek.ensures if1.false _
    _ next.ensures seek2.ensures if2.true

pub returns : goal.returns
returns c =
    let args = c.args in
    let bucket = c.bucket in
    let head = c.head-first in
    let seek = c.seek-one in
    let if1 = c.if-one-eq0 in
    let next = c.next-after in
    let seek2 = c.seek-two in
    let if2 = c.if-two-eq0 in
    let chosen-of-several = c.chosen_of_several in
    let scoped = scope_of args.scope.now in
    chosen-several scoped args.work.now _ args.name.now.number _ _ _ bucket.ensures head.ensures.0 seek.ensures if1.false
    _ _ next.ensures seek2.ensures if2.false _ chosen-of-several.ensures
