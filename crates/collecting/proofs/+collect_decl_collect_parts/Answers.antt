-- The walk of collecting meets its contracts: what falls is the depth that is left. Each answer is a law of Going. Assumes nothing.
use mathlib.Core.Path.{refl, sym, ◌∙◌}
use Prim.Native.Nat.{◌-◌}
use native.Mathlib.Omega.{arith}
use Rattle.wire.proofs.Less.{at_least_one}
use Rattle.prefix.specs.Prefix.{scope_of}
use Rattle.adding.specs.Adds.{table}
use Rattle.collecting.proofs.Going.{going_start, going_done, going-short, going-deep, going-six, going-to, going-passed}
use Rattle.collecting.proofs.Going.{going-whole, going-parts, going-in}
use Rattle.collecting.proofs.Going.{type-path, expr-path, decl-both, other-whole, visited-decl, less-deep}
use Rattle.collecting.proofs.+collect_decl_collect_parts.Goals as goal

pub collect_decl-collect_parts-requires : goal.collect_decl-collect_parts-requires
collect_decl-collect_parts-requires t c = (omega (arith, c.decreases), (c.requires.0, c.requires.1, c.requires.2))

pub collect_decl-returns : goal.collect_decl-returns
collect_decl-returns t c =
    let args = c.args in
    let add-name = c.add_name-m in
    let collect-parts = c.collect_parts in
    decl-both (scope_of args.scope.now) (table args.n args.work.now) args.from args.to args.k
    args.left _ c.requires.3 _ add-name.ensures collect-parts.ensures

pub collect_parts-loop-at-init : goal.collect_parts-loop-at-init
collect_parts-loop-at-init t c =
    let args = c.args in (
      going_start (scope_of args.scope.now) (table args.n args.work.now) args.from args.to args.k
          args.left c.requires.0,
      refl,
    )

pub collect_parts-slice_bounds-s-count : goal.collect_parts-slice_bounds-s-count
collect_parts-slice_bounds-s-count t c =
    let loop = c.loop-at in
    loop.invariant.0.ordered

pub collect_parts-slice_bounds-s-start : goal.collect_parts-slice_bounds-s-start
collect_parts-slice_bounds-s-start t c =
    let loop = c.loop-at in
    loop.invariant.0.ordered

pub collect_parts-slice_bounds-s-end : goal.collect_parts-slice_bounds-s-end
collect_parts-slice_bounds-s-end t c = c.requires.1

pub collect_parts-shape_of-work-then-is_short : goal.collect_parts-shape_of-work-then-is_short
collect_parts-shape_of-work-then-is_short t c =
    let loop = c.loop-at in
    omega (arith, loop.invariant.1)

pub collect_parts-returns-then-is_short : goal.collect_parts-returns-then-is_short
collect_parts-returns-then-is_short t c =
    let loop = c.loop-at in
    let is-short = c.is_short in
    let if1 = c.if-is_short in
    going-short loop.invariant.0 refl is-short.ensures if1.true

pub collect_parts-shape_of-work-then-deep-eq0 : goal.collect_parts-shape_of-work-then-deep-eq0
collect_parts-shape_of-work-then-deep-eq0 t c =
    let loop = c.loop-at in
    omega (arith, loop.invariant.1)

pub collect_parts-returns-then-deep-eq0 : goal.collect_parts-returns-then-deep-eq0
collect_parts-returns-then-deep-eq0 t c =
    let loop = c.loop-at in
    let if2 = c.if-deep-eq0 in
    going-deep loop.invariant.0 if2.true

pub collect_parts-overflow_add-next : goal.collect_parts-overflow_add-next
collect_parts-overflow_add-next t c =
    let loop = c.loop-at in
    let o = loop.invariant.0.ordered in let p = c.requires.1 in omega arith

pub collect_parts-overflow_add-next-in-loop-at : goal.collect_parts-overflow_add-next-in-loop-at
collect_parts-overflow_add-next-in-loop-at t c =
    let loop = c.loop-at in
    let is-short = c.is_short in
    let if1 = c.if-is_short in
    let record-length = c.record_length in
    let o = going-to loop.invariant.0 refl is-short.ensures if1.false record-length.ensures in
    let p = c.requires.1 in
    omega arith

pub collect_parts-overflow_add-i : goal.collect_parts-overflow_add-i
collect_parts-overflow_add-i t c =
    let loop = c.loop-at in
    let o = loop.invariant.0.counted in let p = loop.invariant.0.ordered in let q = c.requires.1 in omega arith

pub collect_parts-loop-at-smaller-then-is_passed : goal.collect_parts-loop-at-smaller-then-is_passed
collect_parts-loop-at-smaller-then-is_passed t c =
    let loop = c.loop-at in
    let is-short = c.is_short in
    let if1 = c.if-is_short in
    let record-length = c.record_length in
    let loop-test = c.loop-at-test in
    let o = going-six loop.invariant.0 refl is-short.ensures if1.false record-length.ensures in
    let z = loop-test.true in
    omega arith

pub collect_parts-loop-at-preserved-then-is_passed : goal.collect_parts-loop-at-preserved-then-is_passed
collect_parts-loop-at-preserved-then-is_passed t c =
    let loop = c.loop-at in
    let is-short = c.is_short in
    let if1 = c.if-is_short in
    let record-length = c.record_length in
    let record-kind = c.record_kind-j in
    let is-passed = c.is_passed in
    let if3 = c.if-is_passed in (
      going-passed loop.invariant.0 refl is-short.ensures if1.false record-length.ensures record-kind.ensures is-passed.ensures if3.true,
      omega (arith, loop.invariant.1),
    )

pub collect_parts-overflow_add-inner : goal.collect_parts-overflow_add-inner
collect_parts-overflow_add-inner t c =
    let loop = c.loop-at in
    let o = loop.invariant.0.ordered in let p = c.requires.1 in let q = c.requires.2 in omega arith

pub collect_parts-overflow_add-i-then-j-eq45 : goal.collect_parts-overflow_add-i-then-j-eq45
collect_parts-overflow_add-i-then-j-eq45 t c =
    let loop = c.loop-at in
    let o = loop.invariant.0.counted in let p = loop.invariant.0.ordered in let q = c.requires.1 in omega arith

pub collect_parts-loop-at-smaller-then-j-eq45 : goal.collect_parts-loop-at-smaller-then-j-eq45
collect_parts-loop-at-smaller-then-j-eq45 t c =
    let loop = c.loop-at in
    let is-short = c.is_short in
    let if1 = c.if-is_short in
    let record-length = c.record_length in
    let loop-test = c.loop-at-test in
    let o = going-six loop.invariant.0 refl is-short.ensures if1.false record-length.ensures in
    let z = loop-test.true in
    omega arith

pub collect_parts-loop-at-preserved-then-j-eq45 : goal.collect_parts-loop-at-preserved-then-j-eq45
collect_parts-loop-at-preserved-then-j-eq45 t c =
    let loop = c.loop-at in
    let is-short = c.is_short in
    let if1 = c.if-is_short in
    let record-length = c.record_length in
    let record-kind = c.record_kind-j in
    let is-passed = c.is_passed in
    let if3 = c.if-is_passed in
    let if2 = c.if-deep-eq0 in
    let args = c.args in
    let if4 = c.if-j-eq45 in
    let add-path = c.add_path-m in (
      going-whole loop.invariant.0 refl is-short.ensures if1.false record-length.ensures record-kind.ensures is-passed.ensures if3.false
          if2.false (type-path (scope_of args.scope.now) _ _ _ _ _ _ if4.true add-path.ensures),
      omega (arith, loop.invariant.1),
    )

pub collect_parts-overflow_add-i-then-j-eq92 : goal.collect_parts-overflow_add-i-then-j-eq92
collect_parts-overflow_add-i-then-j-eq92 t c =
    let loop = c.loop-at in
    let o = loop.invariant.0.counted in let p = loop.invariant.0.ordered in let q = c.requires.1 in omega arith

pub collect_parts-loop-at-smaller-then-j-eq92 : goal.collect_parts-loop-at-smaller-then-j-eq92
collect_parts-loop-at-smaller-then-j-eq92 t c =
    let loop = c.loop-at in
    let is-short = c.is_short in
    let if1 = c.if-is_short in
    let record-length = c.record_length in
    let loop-test = c.loop-at-test in
    let o = going-six loop.invariant.0 refl is-short.ensures if1.false record-length.ensures in
    let z = loop-test.true in
    omega arith

pub collect_parts-loop-at-preserved-then-j-eq92 : goal.collect_parts-loop-at-preserved-then-j-eq92
collect_parts-loop-at-preserved-then-j-eq92 t c =
    let loop = c.loop-at in
    let is-short = c.is_short in
    let if1 = c.if-is_short in
    let record-length = c.record_length in
    let record-kind = c.record_kind-j in
    let is-passed = c.is_passed in
    let if3 = c.if-is_passed in
    let if2 = c.if-deep-eq0 in
    let args = c.args in
    let if5 = c.if-j-eq92 in
    let add-path2 = c.add_path-m-then-j-eq92 in (
      going-whole loop.invariant.0 refl is-short.ensures if1.false record-length.ensures record-kind.ensures is-passed.ensures if3.false
          if2.false (expr-path (scope_of args.scope.now) _ _ _ _ _ _ if5.true add-path2.ensures),
      omega (arith, loop.invariant.1),
    )

pub collect_parts-overflow_sub-deep : goal.collect_parts-overflow_sub-deep
collect_parts-overflow_sub-deep t c =
    let if2 = c.if-deep-eq0 in
    at_least_one _ if2.false

pub collect_parts-collect_decl-m-requires : goal.collect_parts-collect_decl-m-requires
collect_parts-collect_decl-m-requires t c =
    let loop = c.loop-at in
    let is-short = c.is_short in
    let if1 = c.if-is_short in
    let record-length = c.record_length in
    let args = c.args in
    let if2 = c.if-deep-eq0 in
    let stands = c.stands in
    let if6 = c.if-stands in
    let record-kind = c.record_kind-j in
    let o = going-to loop.invariant.0 refl is-short.ensures if1.false record-length.ensures in
    let p = c.requires.1 in (
      less-deep _ loop.deep args.left c.decreases loop.invariant.0.under if2.false,
      (
        going-six loop.invariant.0 refl is-short.ensures if1.false record-length.ensures,
        omega arith,
        c.requires.2,
        visited-decl record-kind.result _ stands.ensures if6.true,
      ),
    )

pub collect_parts-overflow_add-i-then-stands : goal.collect_parts-overflow_add-i-then-stands
collect_parts-overflow_add-i-then-stands t c =
    let loop = c.loop-at in
    let o = loop.invariant.0.counted in let p = loop.invariant.0.ordered in let q = c.requires.1 in omega arith

pub collect_parts-loop-at-smaller-then-stands : goal.collect_parts-loop-at-smaller-then-stands
collect_parts-loop-at-smaller-then-stands t c =
    let loop = c.loop-at in
    let is-short = c.is_short in
    let if1 = c.if-is_short in
    let record-length = c.record_length in
    let loop-test = c.loop-at-test in
    let o = going-six loop.invariant.0 refl is-short.ensures if1.false record-length.ensures in
    let z = loop-test.true in
    omega arith

pub collect_parts-loop-at-preserved-then-stands : goal.collect_parts-loop-at-preserved-then-stands
collect_parts-loop-at-preserved-then-stands t c =
    let loop = c.loop-at in
    let is-short = c.is_short in
    let if1 = c.if-is_short in
    let record-length = c.record_length in
    let record-kind = c.record_kind-j in
    let is-passed = c.is_passed in
    let if3 = c.if-is_passed in
    let if2 = c.if-deep-eq0 in
    let collect-decl = c.collect_decl-m in (
      going-whole loop.invariant.0 refl is-short.ensures if1.false record-length.ensures record-kind.ensures is-passed.ensures if3.false
          if2.false collect-decl.ensures,
      omega (arith, loop.invariant.1),
    )

pub collect_parts-overflow_sub-deep-then-next-to : goal.collect_parts-overflow_sub-deep-then-next-to
collect_parts-overflow_sub-deep-then-next-to t c =
    let if2 = c.if-deep-eq0 in
    at_least_one _ if2.false

pub collect_parts-loop-at-smaller-then-next-to : goal.collect_parts-loop-at-smaller-then-next-to
collect_parts-loop-at-smaller-then-next-to t c =
    let loop-test = c.loop-at-test in
    let z = loop-test.true in omega arith

pub collect_parts-loop-at-preserved-then-next-to : goal.collect_parts-loop-at-preserved-then-next-to
collect_parts-loop-at-preserved-then-next-to t c =
    let loop = c.loop-at in
    let is-short = c.is_short in
    let if1 = c.if-is_short in
    let record-length = c.record_length in
    let record-kind = c.record_kind-j in
    let is-passed = c.is_passed in
    let if3 = c.if-is_passed in
    let if2 = c.if-deep-eq0 in
    let if7 = c.if-next-to in
    let args = c.args in
    let if4 = c.if-j-eq45 in
    let if5 = c.if-j-eq92 in
    let stands = c.stands in
    let if6 = c.if-stands in (
      going-in loop.invariant.0 refl is-short.ensures if1.false record-length.ensures record-kind.ensures is-passed.ensures if3.false
          if2.false if7.true
          (other-whole (scope_of args.scope.now) _ _ _ _ _ if4.false if5.false
          (sym stands.ensures ∙ if6.false)),
      omega (arith, loop.invariant.1),
    )

pub collect_parts-overflow_sub-deep-in-loop-at : goal.collect_parts-overflow_sub-deep-in-loop-at
collect_parts-overflow_sub-deep-in-loop-at t c =
    let if2 = c.if-deep-eq0 in
    at_least_one _ if2.false

pub collect_parts-collect_parts-m-requires : goal.collect_parts-collect_parts-m-requires
collect_parts-collect_parts-m-requires t c =
    let loop = c.loop-at in
    let is-short = c.is_short in
    let if1 = c.if-is_short in
    let record-length = c.record_length in
    let args = c.args in
    let if2 = c.if-deep-eq0 in
    let o = going-to loop.invariant.0 refl is-short.ensures if1.false record-length.ensures in
    let p = c.requires.1 in
    let l = less-deep _ loop.deep args.left c.decreases loop.invariant.0.under if2.false in (
      omega arith,
      (going-six loop.invariant.0 refl is-short.ensures if1.false record-length.ensures, omega arith, c.requires.2),
    )

pub collect_parts-overflow_add-i-in-loop-at : goal.collect_parts-overflow_add-i-in-loop-at
collect_parts-overflow_add-i-in-loop-at t c =
    let loop = c.loop-at in
    let o = loop.invariant.0.counted in let p = loop.invariant.0.ordered in let q = c.requires.1 in omega arith

pub collect_parts-loop-at-smaller : goal.collect_parts-loop-at-smaller
collect_parts-loop-at-smaller t c =
    let loop = c.loop-at in
    let is-short = c.is_short in
    let if1 = c.if-is_short in
    let record-length = c.record_length in
    let loop-test = c.loop-at-test in
    let o = going-six loop.invariant.0 refl is-short.ensures if1.false record-length.ensures in
    let z = loop-test.true in
    omega arith

pub collect_parts-loop-at-preserved : goal.collect_parts-loop-at-preserved
collect_parts-loop-at-preserved t c =
    let loop = c.loop-at in
    let is-short = c.is_short in
    let if1 = c.if-is_short in
    let record-length = c.record_length in
    let record-kind = c.record_kind-j in
    let is-passed = c.is_passed in
    let if3 = c.if-is_passed in
    let if2 = c.if-deep-eq0 in
    let collect-parts = c.collect_parts-m in
    let args = c.args in
    let if4 = c.if-j-eq45 in
    let if5 = c.if-j-eq92 in
    let stands = c.stands in
    let if6 = c.if-stands in (
      going-parts loop.invariant.0 refl is-short.ensures if1.false record-length.ensures record-kind.ensures is-passed.ensures if3.false
          if2.false
          (other-whole (scope_of args.scope.now) _ _ _ _ _ if4.false if5.false
          (sym stands.ensures ∙ if6.false))
          collect-parts.ensures,
      omega (arith, loop.invariant.1),
    )

pub collect_parts-shape_of-work : goal.collect_parts-shape_of-work
collect_parts-shape_of-work t c =
    let loop = c.loop-at in
    omega (arith, loop.invariant.1)

pub collect_parts-returns : goal.collect_parts-returns
collect_parts-returns t c =
    let loop = c.loop-at in
    let loop-test = c.loop-at-test in
    going_done loop.invariant.0 loop-test.false
