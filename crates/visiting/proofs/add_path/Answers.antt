-- `visiting::add_path` meets its contract, test by test. Assumes nothing.
use mathlib.Core.Path.{sym, ◌∙◌}
use native.Mathlib.Omega.{arith}
use Rattle.prefix.specs.Prefix.{scope_of}
use Rattle.adding.specs.Adds.{table}
use Rattle.visiting.proofs.Paths.{unfit-long, unfit-back, fit, path-unfit, path-other, path-short, path-self, path-added, len-fits, p-fits}
use Rattle.visiting.proofs.add_path.Goals as goal

pub returns-then-scope-gt65536 : goal.returns-then-scope-gt65536
returns-then-scope-gt65536 c =
    let args = c.args in
    let args = c.args in
    let if1 = c.if-scope-gt65536 in
    path-unfit (scope_of args.scope.now) (table args.n args.work.now) args.from args.to
    args.in_expr (unfit-long args.scope.now.card.now args.from args.to if1.true)

pub returns-then-to-from : goal.returns-then-to-from
returns-then-to-from c =
    let args = c.args in
    let args = c.args in
    let if2 = c.if-to-from in
    path-unfit (scope_of args.scope.now) (table args.n args.work.now) args.from args.to
    args.in_expr (unfit-back args.scope.now.card.now args.from args.to if2.true)

pub returns-then-record_kind-ne19 : goal.returns-then-record_kind-ne19
returns-then-record_kind-ne19 c =
    let args = c.args in
    let args = c.args in
    let if1 = c.if-scope-gt65536 in
    let if2 = c.if-to-from in
    let part = c.part-c in
    let record-kind = c.record_kind in
    let if3 = c.if-record_kind-ne19 in
    path-other (scope_of args.scope.now) (table args.n args.work.now) args.from args.to
    args.in_expr (fit args.scope.now.card.now args.from args.to if1.false if2.false) _ part.ensures _ record-kind.ensures.0 if3.true

pub returns-then-is_short : goal.returns-then-is_short
returns-then-is_short c =
    let args = c.args in
    let args = c.args in
    let if1 = c.if-scope-gt65536 in
    let if2 = c.if-to-from in
    let part = c.part-c in
    let record-kind = c.record_kind in
    let if3 = c.if-record_kind-ne19 in
    let content = c.content-p in
    let is-short = c.is_short in
    let if4 = c.if-is_short in
    path-short (scope_of args.scope.now) (table args.n args.work.now) args.from args.to
    args.in_expr (fit args.scope.now.card.now args.from args.to if1.false if2.false) _ part.ensures _ record-kind.ensures.0 if3.false _
    content.ensures _ is-short.ensures if4.true

pub returns-then-is_self : goal.returns-then-is_self
returns-then-is_self c =
    let args = c.args in
    let args = c.args in
    let if1 = c.if-scope-gt65536 in
    let if2 = c.if-to-from in
    let part = c.part-c in
    let record-kind = c.record_kind in
    let if3 = c.if-record_kind-ne19 in
    let content = c.content-p in
    let is-short = c.is_short in
    let if4 = c.if-is_short in
    let record' = c.record in
    let is-self = c.is_self in
    let if5 = c.if-is_self in
    path-self (scope_of args.scope.now) (table args.n args.work.now) args.from args.to
    args.in_expr (fit args.scope.now.card.now args.from args.to if1.false if2.false) _ part.ensures _ record-kind.ensures.0 if3.false _
    content.ensures _ is-short.ensures if4.false _ record'.ensures _ is-self.ensures if5.true

pub overflow_add-base : goal.overflow_add-base
overflow_add-base c =
    let args = c.args in
    let part = c.part-c in
    let content = c.content-p in
    let is-short = c.is_short in
    let if4 = c.if-is_short in
    let if2 = c.if-to-from in
    let if1 = c.if-scope-gt65536 in
    let z = p-fits args.scope.now.card.now args.from args.to _ _ part.ensures content.ensures (sym is-short.ensures ∙ if4.false) if2.false in omega
    (arith, z.0, z.1, if1.false)

pub overflow_add-at : goal.overflow_add-at
overflow_add-at c =
    let args = c.args in
    let part = c.part-c in
    let content = c.content-p in
    let is-short = c.is_short in
    let if4 = c.if-is_short in
    let if2 = c.if-to-from in
    let if1 = c.if-scope-gt65536 in
    let z = p-fits args.scope.now.card.now args.from args.to _ _ part.ensures content.ensures (sym is-short.ensures ∙ if4.false) if2.false in omega
    (arith, z.0, z.1, if1.false)

pub overflow_add-at-2 : goal.overflow_add-at-2
overflow_add-at-2 c =
    let args = c.args in
    let part = c.part-c in
    let content = c.content-p in
    let is-short = c.is_short in
    let if4 = c.if-is_short in
    let if2 = c.if-to-from in
    let if1 = c.if-scope-gt65536 in
    let record-length = c.record_length in
    let z = p-fits args.scope.now.card.now args.from args.to _ _ part.ensures content.ensures (sym is-short.ensures ∙ if4.false) if2.false in omega
    (arith, z.0, z.1, if1.false, record-length.ensures.0)

pub overflow_cast-at : goal.overflow_cast-at
overflow_cast-at c =
    let args = c.args in
    let part = c.part-c in
    let content = c.content-p in
    let is-short = c.is_short in
    let if4 = c.if-is_short in
    let if2 = c.if-to-from in
    let if1 = c.if-scope-gt65536 in
    let record-length = c.record_length in
    let z = p-fits args.scope.now.card.now args.from args.to _ _ part.ensures content.ensures (sym is-short.ensures ∙ if4.false) if2.false in omega
    (arith, z.0, z.1, if1.false, record-length.ensures.0)

pub overflow_cast-len : goal.overflow_cast-len
overflow_cast-len c =
    let args = c.args in
    let part = c.part-c in
    let content = c.content-p in
    let rest = c.rest in
    let content2 = c.content in
    let name-length = c.name_length-len in
    let if1 = c.if-scope-gt65536 in
    let z = len-fits args.scope.now.card.now args.from args.to _ _ part.ensures content.ensures args.in_expr _ _ _ rest.ensures content2.ensures
    name-length.ensures in omega (arith, z, if1.false)

pub overflow_cast-base : goal.overflow_cast-base
overflow_cast-base c =
    let args = c.args in
    let part = c.part-c in
    let content = c.content-p in
    let is-short = c.is_short in
    let if4 = c.if-is_short in
    let if2 = c.if-to-from in
    let if1 = c.if-scope-gt65536 in
    let z = p-fits args.scope.now.card.now args.from args.to _ _ part.ensures content.ensures (sym is-short.ensures ∙ if4.false) if2.false in omega
    (arith, z.0, z.1, if1.false)

pub returns : goal.returns
returns c =
    let args = c.args in
    let args = c.args in
    let if1 = c.if-scope-gt65536 in
    let if2 = c.if-to-from in
    let part = c.part-c in
    let record-kind = c.record_kind in
    let if3 = c.if-record_kind-ne19 in
    let content = c.content-p in
    let is-short = c.is_short in
    let if4 = c.if-is_short in
    let record' = c.record in
    let is-self = c.is_self in
    let if5 = c.if-is_self in
    let record-length = c.record_length in
    let rest = c.rest in
    let content2 = c.content in
    let name-length = c.name_length-len in
    let add = c.add in
    path-added (scope_of args.scope.now) (table args.n args.work.now) args.from args.to
    args.in_expr (fit args.scope.now.card.now args.from args.to if1.false if2.false) _ part.ensures _ record-kind.ensures.0 if3.false _
    content.ensures _ is-short.ensures if4.false _ record'.ensures _ is-self.ensures if5.false _ _ _ _ record-length.ensures.0
    rest.ensures content2.ensures name-length.ensures _ add.ensures
