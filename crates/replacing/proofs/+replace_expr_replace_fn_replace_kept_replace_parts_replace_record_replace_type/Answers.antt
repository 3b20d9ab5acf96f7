-- The ring of `replacing` meets its contracts: the laws of Ring and Along at each member. Assumes nothing.
use mathlib.Core.Path.{refl, sym, ap, ◌∙◌}
use Prim.Native.Nat.{ℕ, ◌+◌, ◌-◌, ◌<◌}
use native.Mathlib.Omega.{arith}
use lib.Dec.{lit<}
use lib.ListN.{take}
use Rattle.wire.proofs.Slices.{tail-part}
use Rattle.records.specs.Record.{rest_of}
use Rattle.prefix.specs.Prefix.{scope_of}
use Rattle.rewriting.specs.Rewrites.{rewrite}
use Rattle.replacing.proofs.Along.{along-none, along-long, along-stop, along-end, along-inside, along-room, along-small, along-next}
use Rattle.replacing.proofs.Empty.{part_bytes, empty-laid}
use Rattle.replacing.proofs.Ring.{step-type, step-expr, type-asks, type-gives, path-type-gives, expr-asks, expr-gives, path-expr-gives}
use Rattle.replacing.proofs.Ring.{no-depth-gives, no-depth-fits, less-asks, less-gives, fn_asks}
use Rattle.replacing.proofs.Ring.{fn-gives, left-gives, left-fits, holds-asks, holds-gives}
use Rattle.replacing.proofs.Ring.{kept-asks, kept_gives, plain-asks, counted-asks, fn-parts-gives}
use Rattle.replacing.proofs.Ring.{fn-front, counted-inside, ends-behind, record-falls, parts-asks, parts-gives}
use Rattle.replacing.proofs.+replace_expr_replace_fn_replace_kept_replace_parts_replace_record_replace_type.Goals as goal

pub replace_expr-returns-then-record_kind-eq92 : goal.replace_expr-returns-then-record_kind-eq92
replace_expr-returns-then-record_kind-eq92 t c =
    let record-kind = c.record_kind in
    let args = c.args in
    let if1 = c.if-record_kind-eq92 in
    let write-expr = c.write_expr in
    path-expr-gives (scope_of args.scope.now) args.work.now args.again args.w args.r.now
    args.left record-kind.result args.at record-kind.ensures.0 args.out.now _ _ c.requires.step if1.true c.requires.room write-expr.ensures

pub replace_expr-deeper-requires : goal.replace_expr-deeper-requires
replace_expr-deeper-requires t c = omega (arith, c.requires.room.counts)

pub replace_expr-replace_kept-requires : goal.replace_expr-replace_kept-requires
replace_expr-replace_kept-requires t c =
    let record-kind = c.record_kind in
    let args = c.args in
    let if1 = c.if-record_kind-eq92 in
    let deeper = c.deeper in (
      omega (arith, c.decreases),
      expr-asks (scope_of args.scope.now) args.work.now args.again args.w
          args.r.now args.left record-kind.result args.at record-kind.ensures.0 args.out.now 0 args.out.now c.requires.step if1.false _
          deeper.ensures c.requires.room,
    )

pub replace_expr-returns : goal.replace_expr-returns
replace_expr-returns t c =
    let record-kind = c.record_kind in
    let args = c.args in
    let if1 = c.if-record_kind-eq92 in
    let deeper = c.deeper in
    let replace-kept = c.replace_kept in
    expr-gives (scope_of args.scope.now) args.work.now args.again args.w args.r.now args.left
    record-kind.result args.at record-kind.ensures.0 args.out.now _ _ c.requires.step if1.false _ deeper.ensures replace-kept.ensures

pub replace_fn-overflow_sub-c : goal.replace_fn-overflow_sub-c
replace_fn-overflow_sub-c t c =
    let content = c.content-c in
    let rest = c.rest in
    let rest2 = c.rest-counted in
    counted-inside content.result.now rest.result.now rest2.result.now rest.ensures rest2.ensures

pub replace_fn-overflow_add-at : goal.replace_fn-overflow_add-at
replace_fn-overflow_add-at t c = omega (arith, c.requires.room.space)

pub replace_fn-replace_parts-p-requires : goal.replace_fn-replace_parts-p-requires
replace_fn-replace_parts-p-requires t c =
    let content = c.content-c in
    let rest2 = c.rest-counted in
    let part = c.part-uncounted in
    let rest = c.rest in
    let args = c.args in (
      omega (arith, c.decreases),
      plain-asks (scope_of args.scope.now) args.work.now args.r.now
          content.result.now rest2.result.now part.result.now args.left args.at content.ensures (rest2.ensures ∙ ap rest_of rest.ensures)
          (part.ensures ∙ fn-front content.result.now rest.result.now rest2.result.now rest.ensures rest2.ensures) c.requires.room,
    )

pub replace_fn-replace_parts-e-requires : goal.replace_fn-replace_parts-e-requires
replace_fn-replace_parts-e-requires t c =
    let content = c.content-c in
    let rest2 = c.rest-counted in
    let part = c.part-uncounted in
    let rest = c.rest in
    let args = c.args in
    let replace-parts = c.replace_parts-p in
    let walks-again = c.walks_again in (
      omega (arith, c.decreases),
      counted-asks (scope_of args.scope.now) args.work.now args.r.now
          content.result.now rest2.result.now part.result.now args.left args.at content.ensures (rest2.ensures ∙ ap rest_of rest.ensures)
          (part.ensures ∙ fn-front content.result.now rest.result.now rest2.result.now rest.ensures rest2.ensures) c.requires.room _
          replace-parts.ensures.ends _ walks-again.ensures,
    )

pub replace_fn-overflow_sub-e : goal.replace_fn-overflow_sub-e
replace_fn-overflow_sub-e t c =
    let replace-parts = c.replace_parts-p in
    let replace-parts2 = c.replace_parts-e in
    omega (arith, replace-parts.ensures.ends, replace-parts2.ensures.ends)

pub replace_fn-overflow_sub-e-2 : goal.replace_fn-overflow_sub-e-2
replace_fn-overflow_sub-e-2 t c =
    let replace-parts = c.replace_parts-p in
    let replace-parts2 = c.replace_parts-e in
    omega (arith, replace-parts.ensures.ends, replace-parts2.ensures.ends)

pub replace_fn-returns : goal.replace_fn-returns
replace_fn-returns t c =
    let content = c.content-c in
    let rest2 = c.rest-counted in
    let part = c.part-uncounted in
    let rest = c.rest in
    let args = c.args in
    let walks-again = c.walks_again in
    let replace-parts = c.replace_parts-p in
    let replace-parts2 = c.replace_parts-e in
    let lay-head = c.lay_head in
    fn-parts-gives (scope_of args.scope.now) args.work.now args.r.now content.result.now
    rest2.result.now part.result.now args.left args.at content.ensures (rest2.ensures ∙ ap rest_of rest.ensures)
    (part.ensures ∙ fn-front content.result.now rest.result.now rest2.result.now rest.ensures rest2.ensures) args.out.now _ _ _ _ _ _
    walks-again.ensures c.requires.kind replace-parts.ensures replace-parts2.ensures lay-head.ensures

pub replace_kept-overflow_add-at : goal.replace_kept-overflow_add-at
replace_kept-overflow_add-at t c = omega (arith, c.requires.space)

pub replace_kept-replace_parts-e-requires : goal.replace_kept-replace_parts-e-requires
replace_kept-replace_parts-e-requires t c =
    let content = c.content in
    let args = c.args in (
      omega (arith, c.decreases),
      kept-asks (scope_of args.scope.now) args.work.now args.again args.w
          args.r.now content.result.now args.left args.at content.ensures c.requires,
    )

pub replace_kept-overflow_sub-e : goal.replace_kept-overflow_sub-e
replace_kept-overflow_sub-e t c =
    let args = c.args in
    let replace-parts = c.replace_parts-e in
    omega (arith, ends-behind _ args.at _ _ _ replace-parts.ensures)

pub replace_kept-overflow_sub-e-2 : goal.replace_kept-overflow_sub-e-2
replace_kept-overflow_sub-e-2 t c =
    let args = c.args in
    let replace-parts = c.replace_parts-e in
    omega (arith, ends-behind _ args.at _ _ _ replace-parts.ensures)

pub replace_kept-returns : goal.replace_kept-returns
replace_kept-returns t c =
    let content = c.content in
    let args = c.args in
    let record-kind = c.record_kind in
    let replace-parts = c.replace_parts-e in
    let lay-head = c.lay_head in
    kept_gives (scope_of args.scope.now) args.work.now args.again args.w args.r.now
    content.result.now args.left args.at content.ensures args.out.now _ _ _ _ record-kind.ensures.0 replace-parts.ensures
    lay-head.ensures

pub replace_parts-loop-i-init : goal.replace_parts-loop-i-init
replace_parts-loop-i-init t c =
    let args = c.args in (
      along-none (rewrite (scope_of args.scope.now) args.work.now args.left args.again args.w)
          args.c.now args.out.now args.at,
      refl,
    )

pub replace_parts-shape_of-out-then-is_short : goal.replace_parts-shape_of-out-then-is_short
replace_parts-shape_of-out-then-is_short t c =
    let loop = c.loop-i in
    omega (arith, loop.invariant.1)

pub replace_parts-returns-then-is_short : goal.replace_parts-returns-then-is_short
replace_parts-returns-then-is_short t c =
    let args = c.args in
    let loop = c.loop-i in
    let part = c.part-s in
    let is-short = c.is_short in
    let if1 = c.if-is_short in
    parts-gives (scope_of args.scope.now) args.work.now args.again args.w args.c.now args.left
    args.at args.out.now _ _ (along-stop (rewrite (scope_of args.scope.now) args.work.now
    args.left args.again args.w) args.c.now args.out.now args.at _ loop.i loop.p loop.invariant.0 _
    (tail-part args.c.now _ loop.i part.ensures) (sym is-short.ensures ∙ if1.true))

pub replace_parts-overflow_add-n : goal.replace_parts-overflow_add-n
replace_parts-overflow_add-n t c =
    let record-length = c.record_length-n in
    omega (arith, record-length.ensures.1)

pub replace_parts-overflow_add-p : goal.replace_parts-overflow_add-p
replace_parts-overflow_add-p t c =
    let args = c.args in
    let loop = c.loop-i in
    let part = c.part-s in
    let is-short = c.is_short in
    let if1 = c.if-is_short in
    let record-length = c.record_length-n in
    let scoped = scope_of args.scope.now in
    let f = rewrite scoped args.work.now args.left args.again args.w in
    let rest = tail-part args.c.now _ loop.i part.ensures in
    let long = sym is-short.ensures ∙ if1.false in
    let size = ap (λ (x : ℕ). 4 + x) record-length.ensures.0 in
    let room = along-room f args.c.now args.out.now args.at _ loop.i loop.p loop.invariant.0 _ rest long _ size _ refl in
    let small = along-small f args.c.now args.out.now args.at _ loop.i loop.p loop.invariant.0 _ rest long _ size _ refl in
    let asked = parts-asks scoped args.work.now args.again args.w args.c.now args.left args.at c.requires _ _ room small in
    omega (arith, asked.space)

pub replace_parts-overflow_add-i : goal.replace_parts-overflow_add-i
replace_parts-overflow_add-i t c =
    let args = c.args in
    let loop = c.loop-i in
    let part = c.part-s in
    let is-short = c.is_short in
    let if1 = c.if-is_short in
    let record-length = c.record_length-n in
    let f = rewrite (scope_of args.scope.now) args.work.now args.left args.again args.w in
    let rest = tail-part args.c.now _ loop.i part.ensures in
    let long = sym is-short.ensures ∙ if1.false in
    let size = ap (λ (x : ℕ). 4 + x) record-length.ensures.0 in
    omega (
      arith,
      c.requires.small,
      along-inside f args.c.now args.out.now args.at _ loop.i loop.p loop.invariant.0 _ rest long _ size _ refl,
    )

pub replace_parts-loop-i-smaller-then-n-eq6 : goal.replace_parts-loop-i-smaller-then-n-eq6
replace_parts-loop-i-smaller-then-n-eq6 t c =
    let loop-test = c.loop-i-test in
    omega (arith, loop-test.true)

pub replace_parts-loop-i-preserved-then-n-eq6 : goal.replace_parts-loop-i-preserved-then-n-eq6
replace_parts-loop-i-preserved-then-n-eq6 t c =
    let args = c.args in
    let known = c.shared_slice_known-2-1 in
    let loop = c.loop-i in
    let part = c.part-s in
    let is-short = c.is_short in
    let if1 = c.if-is_short in
    let record-length = c.record_length-n in
    let if2 = c.if-n-eq6 in
    let record-kind = c.record_kind in
    let lay-head = c.lay_head in
    let scoped = scope_of args.scope.now in
    let f = rewrite scoped args.work.now args.left args.again args.w in
    let rest = tail-part args.c.now _ loop.i part.ensures in
    let long = sym is-short.ensures ∙ if1.false in
    let size = ap (λ (x : ℕ). 4 + x) record-length.ensures.0 in
    let bytes = part_bytes args.c.now loop.i _ rest (λ j. (known.given j).fits) in
    let laid = empty-laid scoped args.work.now args.w args.left args.again _ bytes long _ size if2.true _ record-kind.ensures.0
    _ loop.p _ lay-head.ensures in
    let next = along-next f args.c.now args.out.now args.at _ loop.i loop.p loop.invariant.0 _ rest long _ size _ (ap (take (4 + record-length.result)) rest) _ _ laid in
    (next, omega (arith, loop.invariant.1, along-long f args.c.now args.out.now args.at _ _ _ next))

pub replace_parts-replace_record-p-requires : goal.replace_parts-replace_record-p-requires
replace_parts-replace_record-p-requires t c =
    let args = c.args in
    let loop = c.loop-i in
    let part = c.part-s in
    let is-short = c.is_short in
    let if1 = c.if-is_short in
    let record-length = c.record_length-n in
    let part2 = c.part in (
      omega (arith, c.decreases),
      parts-asks (scope_of args.scope.now) args.work.now args.again args.w
          args.c.now args.left args.at c.requires _ _ (along-room (rewrite (scope_of args.scope.now)
          args.work.now args.left args.again args.w) args.c.now args.out.now args.at _ loop.i loop.p loop.invariant.0 _
          (tail-part args.c.now _ loop.i part.ensures) (sym is-short.ensures ∙ if1.false) _ (ap (λ (x : ℕ). 4 + x) record-length.ensures.0) _
          part2.ensures) (along-small (rewrite (scope_of args.scope.now) args.work.now args.left
          args.again args.w) args.c.now args.out.now args.at _ loop.i loop.p loop.invariant.0 _
          (tail-part args.c.now _ loop.i part.ensures) (sym is-short.ensures ∙ if1.false) _ (ap (λ (x : ℕ). 4 + x) record-length.ensures.0) _
          part2.ensures),
    )

pub replace_parts-overflow_add-i-in-loop-i : goal.replace_parts-overflow_add-i-in-loop-i
replace_parts-overflow_add-i-in-loop-i t c =
    let args = c.args in
    let loop = c.loop-i in
    let part = c.part-s in
    let is-short = c.is_short in
    let if1 = c.if-is_short in
    let record-length = c.record_length-n in
    let part2 = c.part in
    omega (
      arith,
      c.requires.small,
      along-inside (rewrite (scope_of args.scope.now) args.work.now args.left
          args.again args.w) args.c.now args.out.now args.at _ loop.i loop.p loop.invariant.0 _
          (tail-part args.c.now _ loop.i part.ensures) (sym is-short.ensures ∙ if1.false) _ (ap (λ (x : ℕ). 4 + x) record-length.ensures.0) _
          part2.ensures,
    )

pub replace_parts-loop-i-smaller : goal.replace_parts-loop-i-smaller
replace_parts-loop-i-smaller t c =
    let loop-test = c.loop-i-test in
    omega (arith, loop-test.true)

pub replace_parts-loop-i-preserved : goal.replace_parts-loop-i-preserved
replace_parts-loop-i-preserved t c =
    let args = c.args in
    let loop = c.loop-i in
    let part = c.part-s in
    let is-short = c.is_short in
    let if1 = c.if-is_short in
    let record-length = c.record_length-n in
    let part2 = c.part in
    let replace-record = c.replace_record-p in (
      along-next (rewrite (scope_of args.scope.now) args.work.now args.left args.again args.w)
          args.c.now args.out.now args.at _ loop.i loop.p loop.invariant.0 _ (tail-part args.c.now _ loop.i part.ensures)
          (sym is-short.ensures ∙ if1.false) _ (ap (λ (x : ℕ). 4 + x) record-length.ensures.0) _ part2.ensures _ _ replace-record.ensures,
      omega (
        arith,
        loop.invariant.1,
        along-long (rewrite (scope_of args.scope.now) args.work.now args.left
            args.again args.w) args.c.now args.out.now args.at _ _ _ (along-next (rewrite
            (scope_of args.scope.now) args.work.now args.left args.again args.w) args.c.now
            args.out.now args.at _ loop.i loop.p loop.invariant.0 _ (tail-part args.c.now _ loop.i part.ensures)
            (sym is-short.ensures ∙ if1.false) _ (ap (λ (x : ℕ). 4 + x) record-length.ensures.0) _ part2.ensures _ _ replace-record.ensures),
      ),
    )

pub replace_parts-shape_of-out : goal.replace_parts-shape_of-out
replace_parts-shape_of-out t c =
    let loop = c.loop-i in
    omega (arith, loop.invariant.1)

pub replace_parts-returns : goal.replace_parts-returns
replace_parts-returns t c =
    let args = c.args in
    let loop = c.loop-i in
    let loop-test = c.loop-i-test in
    parts-gives (scope_of args.scope.now) args.work.now args.again args.w args.c.now args.left
    args.at args.out.now _ _ (along-end (rewrite (scope_of args.scope.now) args.work.now
    args.left args.again args.w) args.c.now args.out.now args.at _ loop.i loop.p loop.invariant.0 (omega (arith, loop-test.false)))

pub replace_record-overflow_add-result : goal.replace_record-overflow_add-result
replace_record-overflow_add-result t c =
    let args = c.args in
    let if1 = c.if-left-eq0 in
    omega (
      arith,
      no-depth-fits (scope_of args.scope.now) args.work.now args.again args.w
          args.r.now args.at args.left args.out.now 0 args.out.now if1.true c.requires,
    )

pub replace_record-returns-then-left-eq0 : goal.replace_record-returns-then-left-eq0
replace_record-returns-then-left-eq0 t c =
    let args = c.args in
    let if1 = c.if-left-eq0 in
    let lay = c.lay in
    no-depth-gives (scope_of args.scope.now) args.work.now args.again args.w args.r.now
    args.at args.left args.out.now 0 _ if1.true lay.ensures

pub replace_record-replace_type-requires : goal.replace_record-replace_type-requires
replace_record-replace_type-requires t c =
    let record-kind = c.record_kind-k in
    let args = c.args in
    let if1 = c.if-left-eq0 in
    let stands = c.stands in
    let if2 = c.if-stands in (
      record-falls _ args.left 3 c.decreases if1.false (lit< tt),
      (
        less-asks (scope_of args.scope.now)
            args.work.now args.again args.w args.r.now args.at args.left args.out.now 0 args.out.now if1.false c.requires,
        rw
            (sym record-kind.ensures.0) (step-type record-kind.result (sym stands.ensures ∙ if2.true)),
      ),
    )

pub replace_record-returns-then-stands : goal.replace_record-returns-then-stands
replace_record-returns-then-stands t c =
    let args = c.args in
    let if1 = c.if-left-eq0 in
    let replace-type = c.replace_type in
    less-gives (scope_of args.scope.now) args.work.now args.again args.w args.r.now args.at
    args.left args.out.now _ _ if1.false replace-type.ensures

pub replace_record-replace_expr-requires : goal.replace_record-replace_expr-requires
replace_record-replace_expr-requires t c =
    let record-kind = c.record_kind-k in
    let args = c.args in
    let if1 = c.if-left-eq0 in
    let stands = c.stands in
    let if2 = c.if-stands in
    let stands2 = c.stands-2 in
    let if3 = c.if-stands-2 in (
      record-falls _ args.left 3 c.decreases if1.false (lit< tt),
      (
        less-asks (scope_of args.scope.now)
            args.work.now args.again args.w args.r.now args.at args.left args.out.now 0 args.out.now if1.false c.requires,
        rw
            (sym record-kind.ensures.0) (step-expr record-kind.result (sym stands.ensures ∙ if2.false) (sym stands2.ensures ∙ if3.true)),
      ),
    )

pub replace_record-returns-then-stands-2 : goal.replace_record-returns-then-stands-2
replace_record-returns-then-stands-2 t c =
    let args = c.args in
    let if1 = c.if-left-eq0 in
    let replace-expr = c.replace_expr in
    less-gives (scope_of args.scope.now) args.work.now args.again args.w args.r.now args.at
    args.left args.out.now _ _ if1.false replace-expr.ensures

pub replace_record-replace_fn-requires : goal.replace_record-replace_fn-requires
replace_record-replace_fn-requires t c =
    let record-kind = c.record_kind-k in
    let args = c.args in
    let if1 = c.if-left-eq0 in
    let stands = c.stands in
    let if2 = c.if-stands in
    let stands2 = c.stands-2 in
    let if3 = c.if-stands-2 in
    let if4 = c.if-k-eq125 in (
      record-falls _ args.left 2 c.decreases if1.false (lit< tt),
      (
        fn_asks (scope_of args.scope.now)
            args.work.now args.again args.w args.r.now args.at args.left args.out.now 0 args.out.now if1.false record-kind.result
            record-kind.ensures.0 (sym stands.ensures ∙ if2.false) (sym stands2.ensures ∙ if3.false) if4.true c.requires,
        sym record-kind.ensures.0 ∙
            if4.true,
      ),
    )

pub replace_record-returns-then-k-eq125 : goal.replace_record-returns-then-k-eq125
replace_record-returns-then-k-eq125 t c =
    let record-kind = c.record_kind-k in
    let args = c.args
    in
    let if1 = c.if-left-eq0 in
    let stands = c.stands in
    let if2 = c.if-stands in
    let stands2 = c.stands-2 in
    let if3 = c.if-stands-2 in
    let if4 = c.if-k-eq125 in
    let replace-fn = c.replace_fn in
    fn-gives (scope_of args.scope.now) args.work.now args.again args.w args.r.now args.at
    args.left args.out.now _ _ if1.false record-kind.result record-kind.ensures.0 (sym stands.ensures ∙ if2.false)
    (sym stands2.ensures ∙ if3.false) if4.true replace-fn.ensures

pub replace_record-overflow_add-result-then-is_left : goal.replace_record-overflow_add-result-then-is_left
replace_record-overflow_add-result-then-is_left t c =
    let record-kind = c.record_kind-k in
    let args = c.args in
    let if1 = c.if-left-eq0 in
    let stands = c.stands in
    let if2 = c.if-stands in
    let stands2 = c.stands-2 in
    let if3 = c.if-stands-2 in
    let if4 = c.if-k-eq125 in
    let is-left = c.is_left in
    let if5 = c.if-is_left in
    omega (
      arith,
      left-fits (scope_of args.scope.now) args.work.now args.again args.w args.r.now
          args.at args.left args.out.now 0 args.out.now if1.false record-kind.result record-kind.ensures.0 (sym stands.ensures ∙ if2.false)
          (sym stands2.ensures ∙ if3.false) if4.false (sym is-left.ensures ∙ if5.true) c.requires,
    )

pub replace_record-returns-then-is_left : goal.replace_record-returns-then-is_left
replace_record-returns-then-is_left t c =
    let record-kind = c.record_kind-k in
    let args = c.args in
    let if1 = c.if-left-eq0 in
    let stands = c.stands in
    let if2 = c.if-stands in
    let stands2 = c.stands-2 in
    let if3 = c.if-stands-2 in
    let if4 = c.if-k-eq125 in
    let is-left = c.is_left in
    let if5 = c.if-is_left in
    let lay2 = c.lay-then-is_left in
    left-gives (scope_of args.scope.now) args.work.now args.again args.w args.r.now args.at
    args.left args.out.now 0 _ if1.false record-kind.result record-kind.ensures.0 (sym stands.ensures ∙ if2.false)
    (sym stands2.ensures ∙ if3.false) if4.false (sym is-left.ensures ∙ if5.true) lay2.ensures

pub replace_record-replace_kept-requires : goal.replace_record-replace_kept-requires
replace_record-replace_kept-requires t c =
    let record-kind = c.record_kind-k in
    let args = c.args in
    let if1 = c.if-left-eq0 in
    let stands = c.stands in
    let if2 = c.if-stands in
    let stands2 = c.stands-2 in
    let if3 = c.if-stands-2 in
    let if4 = c.if-k-eq125 in
    let is-left = c.is_left in
    let if5 = c.if-is_left in (
      record-falls _ args.left 2 c.decreases if1.false (lit< tt),
      holds-asks (scope_of args.scope.now)
          args.work.now args.again args.w args.r.now args.at args.left args.out.now 0 args.out.now if1.false record-kind.result
          record-kind.ensures.0 (sym stands.ensures ∙ if2.false) (sym stands2.ensures ∙ if3.false) if4.false (sym is-left.ensures ∙ if5.false)
          c.requires,
    )

pub replace_record-returns : goal.replace_record-returns
replace_record-returns t c =
    let record-kind = c.record_kind-k in
    let args = c.args in
    let if1 = c.if-left-eq0 in
    let stands = c.stands in
    let if2 = c.if-stands in
    let stands2 = c.stands-2 in
    let if3 = c.if-stands-2 in
    let if4 = c.if-k-eq125 in
    let is-left = c.is_left in
    let if5 = c.if-is_left in
    let replace-kept = c.replace_kept in
    holds-gives (scope_of args.scope.now) args.work.now args.again args.w args.r.now args.at
    args.left args.out.now _ _ if1.false record-kind.result record-kind.ensures.0 (sym stands.ensures ∙ if2.false)
    (sym stands2.ensures ∙ if3.false) if4.false (sym is-left.ensures ∙ if5.false) replace-kept.ensures

pub replace_type-returns-then-record_kind-eq45 : goal.replace_type-returns-then-record_kind-eq45
replace_type-returns-then-record_kind-eq45 t c =
    let record-kind = c.record_kind in
    let args = c.args in
    let if1 = c.if-record_kind-eq45 in
    let write-type = c.write_type in
    path-type-gives (scope_of args.scope.now) args.work.now args.again args.w args.r.now
    args.left record-kind.result args.at record-kind.ensures.0 args.out.now _ _ c.requires.step if1.true c.requires.room write-type.ensures

pub replace_type-deeper-requires : goal.replace_type-deeper-requires
replace_type-deeper-requires t c = omega (arith, c.requires.room.counts)

pub replace_type-replace_kept-requires : goal.replace_type-replace_kept-requires
replace_type-replace_kept-requires t c =
    let record-kind = c.record_kind in
    let args = c.args in
    let if1 = c.if-record_kind-eq45 in
    let deeper = c.deeper in (
      omega (arith, c.decreases),
      type-asks (scope_of args.scope.now) args.work.now args.again args.w
          args.r.now args.left record-kind.result args.at record-kind.ensures.0 args.out.now 0 args.out.now c.requires.step if1.false _
          deeper.ensures c.requires.room,
    )

pub replace_type-returns : goal.replace_type-returns
replace_type-returns t c =
    let record-kind = c.record_kind in
    let args = c.args in
    let if1 = c.if-record_kind-eq45 in
    let deeper = c.deeper in
    let replace-kept = c.replace_kept in
    type-gives (scope_of args.scope.now) args.work.now args.again args.w args.r.now args.left
    record-kind.result args.at record-kind.ensures.0 args.out.now _ _ c.requires.step if1.false _ deeper.ensures replace-kept.ensures
