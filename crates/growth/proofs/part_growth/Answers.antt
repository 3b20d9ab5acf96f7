-- `growth::part_growth` meets its contract. Assumes nothing.
use mathlib.Core.Path.{◌∙◌}
use native.Mathlib.Omega.{arith}
use Rattle.growth.proofs.Turns.{part_turned, part-past, part-long, part-much, part-is}
use Rattle.growth.proofs.part_growth.Goals as goal

pub returns-then-to-from : goal.returns-then-to-from
returns-then-to-from c =
    let args = c.args in
    let if1 = c.if-to-from in
    part_turned args.op args.card.now args.from args.to args.charged args.again args.w args.left if1.true

pub returns-then-card-to : goal.returns-then-card-to
returns-then-card-to c =
    let args = c.args in
    let if1 = c.if-to-from in
    let if2 = c.if-card-to in
    part-past args.op args.card.now args.from args.to args.charged args.again args.w args.left if1.false if2.true

pub returns-then-card-gt65536 : goal.returns-then-card-gt65536
returns-then-card-gt65536 c =
    let args = c.args in
    let if1 = c.if-to-from in
    let if2 = c.if-card-to in
    let if3 = c.if-card-gt65536 in
    part-long args.op args.card.now args.from args.to args.charged args.again args.w args.left if1.false if2.false if3.true

pub returns-then-w-gt65536 : goal.returns-then-w-gt65536
returns-then-w-gt65536 c =
    let args = c.args in
    let if1 = c.if-to-from in
    let if2 = c.if-card-to in
    let if3 = c.if-card-gt65536 in
    let if4 = c.if-w-gt65536 in
    part-much args.op args.card.now args.from args.to args.charged args.again args.w args.left if1.false if2.false if3.false (omega (arith, if4.true))

pub returns-then-w-left : goal.returns-then-w-left
returns-then-w-left c =
    let args = c.args in
    let if1 = c.if-to-from in
    let if2 = c.if-card-to in
    let if3 = c.if-card-gt65536 in
    let if4 = c.if-w-gt65536 in
    let if5 = c.if-w-left in
    part-much args.op args.card.now args.from args.to args.charged args.again args.w args.left if1.false if2.false if3.false (omega (arith, if4.false, if5.true))

pub returns : goal.returns
returns c =
    let args = c.args in
    let if1 = c.if-to-from in
    let if2 = c.if-card-to in
    let if3 = c.if-card-gt65536 in
    let if4 = c.if-w-gt65536 in
    let if5 = c.if-w-left in
    let parts-growth = c.parts_growth in
    parts-growth.ensures ∙ part-is args.op args.card.now args.from args.to args.charged args.again args.w args.left
    if1.false if2.false if3.false (omega (arith, if4.false, if5.false))
