-- `visiting::add_name` meets its contract, test by test. Assumes nothing.
use native.Mathlib.Omega.{arith}
use Rattle.prefix.specs.Prefix.{scope_of}
use Rattle.adding.specs.Adds.{table}
use Rattle.visiting.proofs.Paths.{unfit-long, unfit-back, fit}
use Rattle.visiting.proofs.Own.{start_fits, name-unfit, name-none, name-past, name-added, own-fits}
use Rattle.visiting.proofs.add_name.Goals as goal

pub returns-then-scope-gt65536 : goal.returns-then-scope-gt65536
returns-then-scope-gt65536 c =
    let args = c.args in
    let args = c.args in
    let if1 = c.if-scope-gt65536 in
    name-unfit (scope_of args.scope.now) (table args.n args.work.now) args.from args.to args.k
    (unfit-long args.scope.now.card.now args.from args.to if1.true)

pub returns-then-to-from : goal.returns-then-to-from
returns-then-to-from c =
    let args = c.args in
    let args = c.args in
    let if2 = c.if-to-from in
    name-unfit (scope_of args.scope.now) (table args.n args.work.now) args.from args.to args.k
    (unfit-back args.scope.now.card.now args.from args.to if2.true)

pub returns-then-o-eq0 : goal.returns-then-o-eq0
returns-then-o-eq0 c =
    let args = c.args in
    let args = c.args in
    let if1 = c.if-scope-gt65536 in
    let if2 = c.if-to-from in
    let part = c.part-c in
    let name-at = c.name_at-o in
    let if3 = c.if-o-eq0 in
    name-none (scope_of args.scope.now) (table args.n args.work.now) args.from args.to args.k
    (fit args.scope.now.card.now args.from args.to if1.false if2.false) _ part.ensures _ name-at.ensures if3.true

pub returns-then-c-o : goal.returns-then-c-o
returns-then-c-o c =
    let args = c.args in
    let args = c.args in
    let if1 = c.if-scope-gt65536 in
    let if2 = c.if-to-from in
    let part = c.part-c in
    let name-at = c.name_at-o in
    let if3 = c.if-o-eq0 in
    let if4 = c.if-c-o in
    name-past (scope_of args.scope.now) (table args.n args.work.now) args.from args.to args.k
    (fit args.scope.now.card.now args.from args.to if1.false if2.false) _ part.ensures _ name-at.ensures if3.false if4.true

pub overflow_add-from : goal.overflow_add-from
overflow_add-from c =
    let args = c.args in
    let part = c.part-c in
    let if2 = c.if-to-from in
    let if4 = c.if-c-o in
    let if3 = c.if-o-eq0 in
    let if1 = c.if-scope-gt65536 in
    let z = start_fits args.scope.now.card.now args.from args.to _ _ part.ensures if2.false if4.false if3.false in omega (arith, z, if1.false)

pub overflow_add-from-2 : goal.overflow_add-from-2
overflow_add-from-2 c =
    let args = c.args in
    let part = c.part-c in
    let if2 = c.if-to-from in
    let if4 = c.if-c-o in
    let if3 = c.if-o-eq0 in
    let if1 = c.if-scope-gt65536 in
    let z = start_fits args.scope.now.card.now args.from args.to _ _ part.ensures if2.false if4.false if3.false in omega (arith, z, if1.false)

pub overflow_cast-from : goal.overflow_cast-from
overflow_cast-from c =
    let args = c.args in
    let part = c.part-c in
    let if2 = c.if-to-from in
    let if4 = c.if-c-o in
    let if3 = c.if-o-eq0 in
    let if1 = c.if-scope-gt65536 in
    let z = start_fits args.scope.now.card.now args.from args.to _ _ part.ensures if2.false if4.false if3.false in omega (arith, z, if1.false)

pub overflow_cast-len : goal.overflow_cast-len
overflow_cast-len c =
    let args = c.args in
    let name-at = c.name_at-o in
    let part = c.part-c in
    let part2 = c.part in
    let content = c.content-len in
    let if1 = c.if-scope-gt65536 in
    let z = own-fits args.scope.now.card.now args.from args.to name-at.result _ part.ensures _ _ part2.ensures content.ensures in omega
    (arith, z, if1.false)

pub returns : goal.returns
returns c =
    let args = c.args in
    let args = c.args in
    let if1 = c.if-scope-gt65536 in
    let if2 = c.if-to-from in
    let part = c.part-c in
    let name-at = c.name_at-o in
    let if3 = c.if-o-eq0 in
    let if4 = c.if-c-o in
    let part2 = c.part in
    let content = c.content-len in
    let add = c.add in
    name-added (scope_of args.scope.now) (table args.n args.work.now) args.from args.to args.k
    (fit args.scope.now.card.now args.from args.to if1.false if2.false) _ part.ensures _ name-at.ensures if3.false if4.false
    _ _ part2.ensures content.ensures _ add.ensures
