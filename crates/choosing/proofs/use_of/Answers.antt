-- `choosing::use_of` meets its contract. What is chosen is a pair that there is room for, so its base is one of the words. Assumes nothing.
use native.Mathlib.Omega.{arith}
use Rattle.prefix.specs.Prefix.{scope_of}
use Rattle.choosing.proofs.Tests.{chosen-room, use-zero, use-past, use-own, is-oldest, use-later, use-none, use-prefix, use-is}
use Rattle.choosing.proofs.use_of.Goals as goal

pub returns-then-g-eq0 : goal.returns-then-g-eq0
returns-then-g-eq0 c =
    let args = c.args in
    let if1 = c.if-g-eq0 in
    let scoped = scope_of args.scope.now in
    use-zero scoped args.work.now _ if1.true

pub returns-then-room-g : goal.returns-then-room-g
returns-then-room-g c =
    let args = c.args in
    let if1 = c.if-g-eq0 in
    let room = c.room in
    let if2 = c.if-room-g in
    let scoped = scope_of args.scope.now in
    use-past scoped args.work.now _ if1.false _ room.ensures if2.true

pub returns-then-word-eq0 : goal.returns-then-word-eq0
returns-then-word-eq0 c =
    let args = c.args in
    let if1 = c.if-g-eq0 in
    let room = c.room in
    let if2 = c.if-room-g in
    let word = c.word in
    let if3 = c.if-word-eq0 in
    let scoped = scope_of args.scope.now in
    use-own scoped args.work.now _ if1.false _ room.ensures if2.false _ word.ensures.0 if3.true

pub returns-then-seek-gt0 : goal.returns-then-seek-gt0
returns-then-seek-gt0 c =
    let args = c.args in
    let if1 = c.if-g-eq0 in
    let room = c.room in
    let if2 = c.if-room-g in
    let word = c.word in
    let if3 = c.if-word-eq0 in
    let word2 = c.word-at in
    let word3 = c.word-2 in
    let part = c.part-bytes in
    let next = c.next-after in
    let seek = c.seek in
    let if4 = c.if-seek-gt0 in
    let scoped = scope_of args.scope.now in
    use-later scoped args.work.now _ if1.false _ room.ensures if2.false _ word.ensures.0 if3.false _ _ _
    word2.ensures.0 word3.ensures.0 part.ensures _ _ next.ensures seek.ensures if4.true

pub chosen_after-c-requires : goal.chosen_after-c-requires
chosen_after-c-requires c =
    let args = c.args in
    let if1 = c.if-g-eq0 in
    let room = c.room in
    let if2 = c.if-room-g in
    let word = c.word in
    let if3 = c.if-word-eq0 in
    let word2 = c.word-at in
    let word3 = c.word-2 in
    let part = c.part-bytes in
    let next = c.next-after in
    let seek = c.seek in
    let if4 = c.if-seek-gt0 in
    let scoped = scope_of args.scope.now in
    is-oldest scoped args.work.now _ if1.false _ room.ensures if2.false _ word.ensures.0 if3.false _ _ _
    word2.ensures.0 word3.ensures.0 part.ensures _ _ next.ensures seek.ensures if4.false

pub returns-then-c-eq0 : goal.returns-then-c-eq0
returns-then-c-eq0 c =
    let args = c.args in
    let if1 = c.if-g-eq0 in
    let room = c.room in
    let if2 = c.if-room-g in
    let word = c.word in
    let if3 = c.if-word-eq0 in
    let word2 = c.word-at in
    let word3 = c.word-2 in
    let part = c.part-bytes in
    let next = c.next-after in
    let seek = c.seek in
    let if4 = c.if-seek-gt0 in
    let chosen-after = c.chosen_after-c in
    let if5 = c.if-c-eq0 in
    let scoped = scope_of args.scope.now in
    use-none scoped args.work.now _ if1.false _ room.ensures if2.false _ word.ensures.0 if3.false _ _ _
    word2.ensures.0 word3.ensures.0 part.ensures _ _ next.ensures seek.ensures if4.false _
    chosen-after.ensures if5.true

pub overflow_sub-m : goal.overflow_sub-m
overflow_sub-m c =
    let args = c.args in
    let chosen-after = c.chosen_after-c in
    let if5 = c.if-c-eq0 in
    let scoped = scope_of args.scope.now in
    let m = chosen-room scoped args.work.now _ _ _ chosen-after.ensures in
    omega (arith, if5.false)

pub overflow_mul-m : goal.overflow_mul-m
overflow_mul-m c =
    let args = c.args in
    let chosen-after = c.chosen_after-c in
    let if5 = c.if-c-eq0 in
    let scoped = scope_of args.scope.now in
    let m = chosen-room scoped args.work.now _ _ _ chosen-after.ensures in
    omega (arith, if5.false)

pub overflow_add-m : goal.overflow_add-m
overflow_add-m c =
    let args = c.args in
    let chosen-after = c.chosen_after-c in
    let if5 = c.if-c-eq0 in
    let scoped = scope_of args.scope.now in
    let m = chosen-room scoped args.work.now _ _ _ chosen-after.ensures in
    omega (arith, if5.false)

pub offset_bounds-work-m : goal.offset_bounds-work-m
offset_bounds-work-m c =
    let args = c.args in
    let chosen-after = c.chosen_after-c in
    let if5 = c.if-c-eq0 in
    let scoped = scope_of args.scope.now in
    let m = chosen-room scoped args.work.now _ _ _ chosen-after.ensures in
    omega (arith, if5.false)

pub bounds-work-m : goal.bounds-work-m
bounds-work-m c =
    let args = c.args in
    let chosen-after = c.chosen_after-c in
    let if5 = c.if-c-eq0 in
    let scoped = scope_of args.scope.now in
    let m = chosen-room scoped args.work.now _ _ _ chosen-after.ensures in
    omega (arith, if5.false)

pub returns-then-same_base : goal.returns-then-same_base
returns-then-same_base c =
    let args = c.args in
    let if1 = c.if-g-eq0 in
    let room = c.room in
    let if2 = c.if-room-g in
    let word = c.word in
    let if3 = c.if-word-eq0 in
    let word2 = c.word-at in
    let word3 = c.word-2 in
    let part = c.part-bytes in
    let next = c.next-after in
    let seek = c.seek in
    let if4 = c.if-seek-gt0 in
    let chosen-after = c.chosen_after-c in
    let if5 = c.if-c-eq0 in
    let word4 = c.word-3 in
    let same_base = c.same_base in
    let if6 = c.if-same_base in
    let scoped = scope_of args.scope.now in
    use-prefix scoped args.work.now _ if1.false _ room.ensures if2.false _ word.ensures.0 if3.false _ _ _
    word2.ensures.0 word3.ensures.0 part.ensures _ _ next.ensures seek.ensures if4.false _
    chosen-after.ensures if5.false _ _ word4.ensures.0 same_base.ensures if6.true

pub returns : goal.returns
returns c =
    let args = c.args in
    let if1 = c.if-g-eq0 in
    let room = c.room in
    let if2 = c.if-room-g in
    let word = c.word in
    let if3 = c.if-word-eq0 in
    let word2 = c.word-at in
    let word3 = c.word-2 in
    let part = c.part-bytes in
    let next = c.next-after in
    let seek = c.seek in
    let if4 = c.if-seek-gt0 in
    let chosen-after = c.chosen_after-c in
    let if5 = c.if-c-eq0 in
    let word4 = c.word-3 in
    let same_base = c.same_base in
    let if6 = c.if-same_base in
    let scoped = scope_of args.scope.now in
    use-is scoped args.work.now _ if1.false _ room.ensures if2.false _ word.ensures.0 if3.false _ _ _
    word2.ensures.0 word3.ensures.0 part.ensures _ _ next.ensures seek.ensures if4.false _
    chosen-after.ensures if5.false _ _ word4.ensures.0 same_base.ensures if6.false
