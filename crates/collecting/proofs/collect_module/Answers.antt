-- `collecting::collect_module` meets its contract, by the laws of Module. Assumes nothing.
use native.Mathlib.Omega.{arith}
use Rattle.prefix.specs.Prefix.{scope_of}
use Rattle.collecting.proofs.Module.{module-long, module-none, module-four, module-six, module-to, module-gathered}
use Rattle.collecting.proofs.collect_module.Goals as goal

pub returns-then-scope-gt65536 : goal.returns-then-scope-gt65536
returns-then-scope-gt65536 c =
    let args = c.args in
    let start = c.start in
    let if1 = c.if-scope-gt65536 in
    module-long (scope_of args.scope.now) args.work.now args.at args.left start.ensures if1.true

pub returns-then-is_short : goal.returns-then-is_short
returns-then-is_short c =
    let args = c.args in
    let start = c.start in
    let if1 = c.if-scope-gt65536 in
    let part = c.part-s in
    let is-short = c.is_short in
    let if2 = c.if-is_short in
    module-none (scope_of args.scope.now) args.work.now args.at args.left start.ensures if1.false
    part.ensures is-short.ensures if2.true

pub overflow_add-to : goal.overflow_add-to
overflow_add-to c =
    let args = c.args in
    let part = c.part-s in
    let is-short = c.is_short in
    let if2 = c.if-is_short in
    let if1 = c.if-scope-gt65536 in
    let z = module-four args.scope.now.card.now args.at part.ensures is-short.ensures if2.false in omega (arith, z, if1.false)

pub overflow_add-to-2 : goal.overflow_add-to-2
overflow_add-to-2 c =
    let args = c.args in
    let part = c.part-s in
    let is-short = c.is_short in
    let if2 = c.if-is_short in
    let record-length = c.record_length in
    let if1 = c.if-scope-gt65536 in
    let z = module-to args.scope.now.card.now args.at part.ensures is-short.ensures if2.false record-length.ensures in omega (arith, z, if1.false)

pub collect_parts-requires : goal.collect_parts-requires
collect_parts-requires c =
    let args = c.args in
    let part = c.part-s in
    let is-short = c.is_short in
    let if2 = c.if-is_short in
    let record-length = c.record_length in
    let if1 = c.if-scope-gt65536 in (
      module-six args.scope.now.card.now args.at part.ensures is-short.ensures if2.false record-length.ensures,
      module-to args.scope.now.card.now args.at part.ensures is-short.ensures if2.false record-length.ensures,
      if1.false,
    )

pub returns : goal.returns
returns c =
    let args = c.args in
    let start = c.start in
    let if1 = c.if-scope-gt65536 in
    let part = c.part-s in
    let is-short = c.is_short in
    let if2 = c.if-is_short in
    let record-length = c.record_length in
    let collect-parts = c.collect_parts in
    module-gathered (scope_of args.scope.now) args.work.now args.at args.left start.ensures if1.false
    part.ensures is-short.ensures if2.false record-length.ensures collect-parts.ensures
