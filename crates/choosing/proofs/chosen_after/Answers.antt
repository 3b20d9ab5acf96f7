-- `choosing::chosen_after` meets its contract. Assumes nothing.
use Rattle.prefix.specs.Prefix.{scope_of}
use Rattle.choosing.proofs.Tests.{chosen-newest, chosen-head}
use Rattle.choosing.proofs.chosen_after.Goals as goal

pub returns-then-first-g : goal.returns-then-first-g
returns-then-first-g c =
    let args = c.args in
    let pre = c.requires in
    let bucket = c.bucket in
    let head = c.head-first in
    let if1 = c.if-first-g in
    let scoped = scope_of args.scope.now in
    chosen-head scoped args.work.now args.name.now.bytes.now args.name.now.number _ _ bucket.ensures head.ensures.0 _ pre if1.true

pub returns-then-seek-g : goal.returns-then-seek-g
returns-then-seek-g c =
    let args = c.args in
    let pre = c.requires in
    let bucket = c.bucket in
    let head = c.head-first in
    let seek = c.seek in
    let if2 = c.if-seek-g in
    let scoped = scope_of args.scope.now in
    chosen-newest scoped args.work.now args.name.now.bytes.now args.name.now.number _ _ _ bucket.ensures head.ensures.0 seek.ensures _ pre if2.true
