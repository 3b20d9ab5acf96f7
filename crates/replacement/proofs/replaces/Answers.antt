-- `replacement::replaces` meets its contract, test by test. Assumes nothing.
use mathlib.Core.Path.{refl}
use Rattle.wire.proofs.Less.{at_least_one}
use Rattle.prefix.specs.Prefix.{scope_of}
use Rattle.choosing.proofs.Tests.{chosen_none, chosen-only, chosen-several, chosen-room}
use Rattle.replacement.proofs.Tests.{replaces-none, replaces-base}
use Rattle.replacement.proofs.Several.{several-gives}
use mathlib.Core.Path.{ap}
use mathlib.Core.Bool.{not}
use Rattle.replacement.proofs.replaces.Goals as goal

pub returns-then-one-eq0 : goal.returns-then-one-eq0
returns-then-one-eq0 c =
    let args = c.args in
    let number = c.number-number in
    let bucket = c.bucket in
    let head = c.head-first in
    let seek = c.seek-one in
    let if1 = c.if-one-eq0 in
    let scoped = scope_of args.scope.now in
    replaces-none scoped args.work.now args.bytes.now args.base.now _ number.ensures.0 0 (chosen_none scoped args.work.now args.bytes.now _ _ _ _
    bucket.ensures head.ensures.0 seek.ensures
    if1.true) refl

pub has_base-requires : goal.has_base-requires
has_base-requires c =
    let args = c.args in
    let number = c.number-number in
    let bucket = c.bucket in
    let head = c.head-first in
    let seek = c.seek-one in
    let if1 = c.if-one-eq0 in
    let next = c.next-after in
    let seek2 = c.seek-two in
    let if2 = c.if-two-eq0 in
    let scoped = scope_of args.scope.now in
    let only = chosen-only scoped args.work.now args.bytes.now _ _ _ _ bucket.ensures
    head.ensures.0 seek.ensures if1.false _ _ next.ensures
    seek2.ensures if2.true in
    (at_least_one _ if1.false, chosen-room scoped args.work.now args.bytes.now _ _ only)

pub returns-then-two-eq0 : goal.returns-then-two-eq0
returns-then-two-eq0 c =
    let args = c.args in
    let number = c.number-number in
    let bucket = c.bucket in
    let head = c.head-first in
    let seek = c.seek-one in
    let if1 = c.if-one-eq0 in
    let next = c.next-after in
    let seek2 = c.seek-two in
    let if2 = c.if-two-eq0 in
    let has_base = c.has_base in
    let scoped = scope_of args.scope.now in
    let only = chosen-only scoped args.work.now args.bytes.now _ _ _ _ bucket.ensures
    head.ensures.0 seek.ensures if1.false _ _ next.ensures
    seek2.ensures if2.true in
    replaces-base scoped args.work.now args.bytes.now args.base.now _ number.ensures.0 _ only if1.false _ has_base.ensures

pub returns-then-not-is_runtime : goal.returns-then-not-is_runtime
returns-then-not-is_runtime c =
    let args = c.args in
    let number = c.number-number in
    let bucket = c.bucket in
    let head = c.head-first in
    let seek = c.seek-one in
    let if1 = c.if-one-eq0 in
    let next = c.next-after in
    let seek2 = c.seek-two in
    let if2 = c.if-two-eq0 in
    let is-prefix = c.is_prefix in
    let if3 = c.if-not-is_prefix in
    let is-runtime = c.is_runtime in
    let if4 = c.if-not-is_runtime in
    let scoped = scope_of args.scope.now in
    several-gives scoped args.work.now args.bytes.now args.base.now _ _ is-prefix.ensures (ap not if3.true) is-runtime.ensures (ap not if4.true)
    _ number.ensures.0 head.result
    (chosen-several scoped args.work.now args.bytes.now _ _ _ _ bucket.ensures head.ensures.0
    seek.ensures if1.false _ _ next.ensures seek2.ensures if2.false _ refl)

pub returns-then-g-eq0 : goal.returns-then-g-eq0
returns-then-g-eq0 c =
    let args = c.args in
    let number = c.number-number in
    let chosen = c.chosen-g in
    let if5 = c.if-g-eq0 in
    let scoped = scope_of args.scope.now in
    replaces-none scoped args.work.now args.bytes.now args.base.now _ number.ensures.0 _ chosen.ensures if5.true

pub has_base-requires-2 : goal.has_base-requires-2
has_base-requires-2 c =
    let args = c.args in
    let chosen = c.chosen-g in
    let if5 = c.if-g-eq0 in
    let scoped = scope_of args.scope.now in
    (at_least_one _ if5.false, chosen-room scoped args.work.now args.bytes.now _ _ chosen.ensures)

pub returns : goal.returns
returns c =
    let args = c.args in
    let number = c.number-number in
    let chosen = c.chosen-g in
    let if5 = c.if-g-eq0 in
    let has-base2 = c.has_base-2 in
    let scoped = scope_of args.scope.now in
    replaces-base scoped args.work.now args.bytes.now args.base.now _ number.ensures.0 _ chosen.ensures if5.false _ has-base2.ensures
