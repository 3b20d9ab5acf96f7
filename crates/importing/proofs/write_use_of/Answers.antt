-- `importing::write_use_of` meets its contract. A pair that brings a use, and the one that is chosen, are pairs that there is room for. Assumes nothing.
use native.Mathlib.Omega.{arith}
use Rattle.operation.proofs.Weights.{weight-small}
use Rattle.prefix.specs.Prefix.{scope_of}
use Rattle.importing.proofs.Uses.{one_none, one-room, one-fits, one_end, one-use}
use Rattle.importing.proofs.write_use_of.Goals as goal

pub returns-then-c-eq0 : goal.returns-then-c-eq0
returns-then-c-eq0 c =
    let args = c.args in
    let use-of = c.use_of-c in
    let if1 = c.if-c-eq0 in
    one_none (scope_of args.scope.now) args.work.now
    args.i _ use-of.ensures _ args.out.now args.at if1.true

pub overflow_mul-m : goal.overflow_mul-m
overflow_mul-m c =
    let args = c.args in
    let use-of = c.use_of-c in
    let if1 = c.if-c-eq0 in
    let i = one-room (scope_of args.scope.now) args.work.now args.i _ use-of.ensures if1.false in
    omega arith

pub overflow_add-m : goal.overflow_add-m
overflow_add-m c =
    let args = c.args in
    let use-of = c.use_of-c in
    let if1 = c.if-c-eq0 in
    let i = one-room (scope_of args.scope.now) args.work.now args.i _ use-of.ensures if1.false in
    omega arith

pub bounds-work-k : goal.bounds-work-k
bounds-work-k c =
    let args = c.args in
    let use-of = c.use_of-c in
    let if1 = c.if-c-eq0 in
    let i = one-room (scope_of args.scope.now) args.work.now args.i _ use-of.ensures if1.false in
    omega arith

pub bounds-work-k-2 : goal.bounds-work-k-2
bounds-work-k-2 c =
    let args = c.args in
    let use-of = c.use_of-c in
    let if1 = c.if-c-eq0 in
    let i = one-room (scope_of args.scope.now) args.work.now args.i _ use-of.ensures if1.false in
    omega arith

pub offset_bounds-work-m : goal.offset_bounds-work-m
offset_bounds-work-m c =
    let args = c.args in
    let use-of = c.use_of-c in
    let if1 = c.if-c-eq0 in
    let i = one-room (scope_of args.scope.now) args.work.now args.i _ use-of.ensures if1.false in
    omega arith

pub bounds-work-m : goal.bounds-work-m
bounds-work-m c =
    let args = c.args in
    let use-of = c.use_of-c in
    let if1 = c.if-c-eq0 in
    let i = one-room (scope_of args.scope.now) args.work.now args.i _ use-of.ensures if1.false in
    omega arith

pub write_use-end-requires : goal.write_use-end-requires
write_use-end-requires c =
    let args = c.args in
    let use-of = c.use_of-c in
    let if1 = c.if-c-eq0 in
    let word = c.word in
    let word2 = c.word-2 in
    let part = c.part-name in
    let word3 = c.word-3 in
    let record-at = c.record_at-base in
    let pre = c.requires in
    let fits = one-fits (scope_of args.scope.now) args.work.now
    args.i _ use-of.ensures if1.false _ _ _ _ _
    word.ensures.0 word2.ensures.0 part.ensures word3.ensures.0 record-at.ensures pre.0 in
    (fits.0, fits.1, pre.2)

pub overflow_add-result : goal.overflow_add-result
overflow_add-result c =
    let args = c.args in
    let pre = c.requires in
    let use-of = c.use_of-c in
    let if1 = c.if-c-eq0 in
    let word = c.word in
    let word2 = c.word-2 in
    let part = c.part-name in
    let word3 = c.word-3 in
    let record-at = c.record_at-base in
    let write-use = c.write_use-end in
    let weight = c.weight-weight in
    let end = one_end (scope_of args.scope.now) args.work.now
    args.i _ use-of.ensures if1.false _ _ _ _ _
    word.ensures.0 word2.ensures.0 part.ensures word3.ensures.0 record-at.ensures _ _ _ _ write-use.ensures pre.0 pre.2 in
    omega (arith, end, weight.ensures, weight-small args.scope.now.op)

pub returns : goal.returns
returns c =
    let args = c.args in
    let use-of = c.use_of-c in
    let if1 = c.if-c-eq0 in
    let word = c.word in
    let word2 = c.word-2 in
    let part = c.part-name in
    let word3 = c.word-3 in
    let record-at = c.record_at-base in
    let write-use = c.write_use-end in
    let weight = c.weight-weight in
    let lay-zeros = c.lay_zeros in
    one-use (scope_of args.scope.now) args.work.now args.i _ use-of.ensures if1.false _ _ _ _ _
    word.ensures.0 word2.ensures.0 part.ensures word3.ensures.0 record-at.ensures _ _ _ _ write-use.ensures _ weight.ensures _
    lay-zeros.ensures
