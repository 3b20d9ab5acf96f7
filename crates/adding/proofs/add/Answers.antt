-- `adding::add` meets its contract, case by case. Assumes nothing.
use Rattle.prefix.specs.Prefix.{scope_of}
use Rattle.adding.proofs.Tests.{add-full, add-old, add-past, add-room, add-new}
use Rattle.adding.proofs.add.Goals as goal

pub returns-then-most-n : goal.returns-then-most-n
returns-then-most-n c =
    let args = c.args in
    let room = c.room-most in
    let if1 = c.if-most-n in
    add-full (scope_of args.scope.now) args.work.now args.n args.at args.len args.base _
    room.ensures if1.true

pub returns-then-seek-gt0 : goal.returns-then-seek-gt0
returns-then-seek-gt0 c =
    let args = c.args in
    let room = c.room-most in
    let if1 = c.if-most-n in
    let word = c.word-place in
    let word2 = c.word in
    let part = c.part-bytes in
    let number = c.number-number in
    let bucket = c.bucket-b in
    let base-word = c.base_word-w in
    let head = c.head-first in
    let seek = c.seek in
    let if2 = c.if-seek-gt0 in
    let scoped = scope_of args.scope.now in
    add-old scoped args.work.now args.n args.at args.len args.base _ room.ensures if1.false _ _ word.ensures.0 word2.ensures.0 _ part.ensures _ _ _ _ _ number.ensures.0 bucket.ensures base-word.ensures.0 head.ensures.0
    seek.ensures if2.true

pub returns-then-n-most : goal.returns-then-n-most
returns-then-n-most c =
    let args = c.args in
    let room = c.room-most in
    let if1 = c.if-most-n in
    let word = c.word-place in
    let word2 = c.word in
    let part = c.part-bytes in
    let number = c.number-number in
    let bucket = c.bucket-b in
    let base-word = c.base_word-w in
    let head = c.head-first in
    let seek = c.seek in
    let if2 = c.if-seek-gt0 in
    let if3 = c.if-n-most in
    let scoped = scope_of args.scope.now in
    add-past scoped args.work.now args.n args.at args.len args.base _ room.ensures if1.false _ _ word.ensures.0 word2.ensures.0 _ part.ensures _ _ _ _ _ number.ensures.0 bucket.ensures base-word.ensures.0 head.ensures.0
    seek.ensures if2.false if3.true

pub put-requires : goal.put-requires
put-requires c =
    let args = c.args in
    let room = c.room-most in
    let if1 = c.if-most-n in
    let word = c.word-place in
    let word2 = c.word in
    let part = c.part-bytes in
    let number = c.number-number in
    let bucket = c.bucket-b in
    let base-word = c.base_word-w in
    let head = c.head-first in
    let seek = c.seek in
    let if2 = c.if-seek-gt0 in
    let if3 = c.if-n-most in
    let scoped = scope_of args.scope.now in
    add-room scoped args.work.now args.n args.at args.len args.base _ room.ensures if1.false _ _ word.ensures.0 word2.ensures.0 _ part.ensures _ _ _ _ _ number.ensures.0 bucket.ensures base-word.ensures.0 head.ensures.0
    seek.ensures if2.false if3.false

pub returns : goal.returns
returns c =
    let args = c.args in
    let room = c.room-most in
    let if1 = c.if-most-n in
    let word = c.word-place in
    let word2 = c.word in
    let part = c.part-bytes in
    let number = c.number-number in
    let bucket = c.bucket-b in
    let base-word = c.base_word-w in
    let head = c.head-first in
    let seek = c.seek in
    let if2 = c.if-seek-gt0 in
    let if3 = c.if-n-most in
    let put = c.put in
    let scoped = scope_of args.scope.now in
    add-new scoped args.work.now args.n args.at args.len args.base _ room.ensures if1.false _ _ word.ensures.0 word2.ensures.0 _ part.ensures _ _ _ _ _ number.ensures.0 bucket.ensures base-word.ensures.0 head.ensures.0
    seek.ensures if2.false if3.false _ put.ensures
