-- The ring of `writing` meets its contracts: the laws of Pieces, Going and Tests at each member. Assumes nothing.
use mathlib.Core.Path.{refl, sym, ap, ◌∙◌}
use mathlib.Core.List.{[]}
use Prim.Native.Nat.{◌+◌, ◌-◌}
use native.Mathlib.Omega.{arith}
use lib.ListN.{length, take, length-append}
use lib.Seq.{length-take-le}
use Rattle.prefix.specs.Prefix.{scope_of}
use Rattle.adding.specs.Adds.{table}
use Rattle.modules.specs.Modules.{made, declaration_made, module_made}
use Rattle.modules.proofs.Bound.{declaration-bound, declarations-bound, body-bound, imports-bound}
use Rattle.writing.specs.Wrote.{place_after}
use Rattle.writing.proofs.Pieces.{aside-long, saved-gives, saved-keeps, beside-gives, alone-gives, small-fits, small-known, small-gives}
use Rattle.writing.proofs.Pieces.{inner-gives, other-gives, body-gives, body-inside, mod-all}
use Rattle.writing.proofs.Going.{wrote-long, going-none, going-long, going-short, going_end, next_fits, going_next}
use Rattle.writing.proofs.Tests.{module-shallow, module-other, module-full, module-mod, names-fit}
use Rattle.writing.proofs.Tests.{within-inner, within-part, within-zero, content-small, module-keeps, module-fits, fits-room, inside-card}
use Rattle.writing.proofs.+write_body_write_declaration_write_declarations_write_inner_write_mod_write_module_write_saved.Goals as goal

pub write_body-slice_bounds-write_imports-end-2 : goal.write_body-slice_bounds-write_imports-end-2
write_body-slice_bounds-write_imports-end-2 t c =
    let own-words = c.own_words-k in
    sym (length-take-le _ _ (omega (arith, own-words.ensures)))

pub write_body-slice_bounds-write_imports-count : goal.write_body-slice_bounds-write_imports-count
write_body-slice_bounds-write_imports-count t c =
    let least = c.least-q in
    omega (arith, least.ensures)

pub write_body-slice_bounds-write_imports-start : goal.write_body-slice_bounds-write_imports-start
write_body-slice_bounds-write_imports-start t c =
    let least = c.least-q in
    omega (arith, least.ensures)

pub write_body-overflow_add-u : goal.write_body-overflow_add-u
write_body-overflow_add-u t c =
    let args = c.args in
    let own-words = c.own_words-k in
    let write-imports = c.write_imports-u in
    omega (
      arith,
      imports-bound (scope_of args.scope.now) (take own-words.result args.work.now)
          c.requires.0.small args.pairs,
      write-imports.ensures.ends,
    )

pub write_body-overflow_add-from : goal.write_body-overflow_add-from
write_body-overflow_add-from t c = omega (arith, c.requires.3)

pub write_body-slice_bounds-write_declarations-count : goal.write_body-slice_bounds-write_declarations-count
write_body-slice_bounds-write_declarations-count t c =
    let least2 = c.least-p in
    omega (arith, least2.ensures)

pub write_body-slice_bounds-write_declarations-start : goal.write_body-slice_bounds-write_declarations-start
write_body-slice_bounds-write_declarations-start t c =
    let least2 = c.least-p in
    omega (arith, least2.ensures)

pub write_body-write_declarations-d-requires : goal.write_body-write_declarations-d-requires
write_body-write_declarations-d-requires t c =
    (omega (arith, c.decreases), (c.requires.0, c.requires.1, c.requires.2, omega (arith, c.requires.3)))

pub write_body-overflow_add-n : goal.write_body-overflow_add-n
write_body-overflow_add-n t c =
    let args = c.args in
    let own-words = c.own_words-k in
    let write-imports = c.write_imports-u in
    let write-declarations = c.write_declarations-d in
    omega (
      arith,
      imports-bound (scope_of args.scope.now) (take own-words.result args.work.now)
          c.requires.0.small args.pairs,
      write-imports.ensures.ends,
      declarations-bound args.scope.now.op args.scope.now.card.now args.scope.now.root.now c.requires.0.small (args.left - 1)
          (omega (arith, c.requires.2)) args.left c.requires.2 args.scope.now.chain.now args.at (args.from + 6) args.to c.requires.0.inside
          (made [] 0 args.at (table args.pairs args.work.now)),
      write-declarations.ensures.length-is,
      c.requires.0.inside,
      c.requires.0.small,
    )

pub write_body-overflow_add-n-2 : goal.write_body-overflow_add-n-2
write_body-overflow_add-n-2 t c =
    let args = c.args in
    let own-words = c.own_words-k in
    let write-imports = c.write_imports-u in
    let write-declarations = c.write_declarations-d in
    omega (
      arith,
      imports-bound (scope_of args.scope.now) (take own-words.result args.work.now)
          c.requires.0.small args.pairs,
      write-imports.ensures.ends,
      declarations-bound args.scope.now.op args.scope.now.card.now args.scope.now.root.now c.requires.0.small (args.left - 1)
          (omega (arith, c.requires.2)) args.left c.requires.2 args.scope.now.chain.now args.at (args.from + 6) args.to c.requires.0.inside
          (made [] 0 args.at (table args.pairs args.work.now)),
      write-declarations.ensures.length-is,
      c.requires.0.inside,
      c.requires.0.small,
    )

pub write_body-overflow_add-result : goal.write_body-overflow_add-result
write_body-overflow_add-result t c =
    let args = c.args in
    let own-words = c.own_words-k in
    let write-imports = c.write_imports-u in
    let write-declarations = c.write_declarations-d in
    omega (
      arith,
      imports-bound (scope_of args.scope.now) (take own-words.result args.work.now)
          c.requires.0.small args.pairs,
      write-imports.ensures.ends,
      declarations-bound args.scope.now.op args.scope.now.card.now args.scope.now.root.now c.requires.0.small (args.left - 1)
          (omega (arith, c.requires.2)) args.left c.requires.2 args.scope.now.chain.now args.at (args.from + 6) args.to c.requires.0.inside
          (made [] 0 args.at (table args.pairs args.work.now)),
      write-declarations.ensures.length-is,
      c.requires.0.inside,
      c.requires.0.small,
    )

pub write_body-returns : goal.write_body-returns
write_body-returns t c =
    let args = c.args in
    let least = c.least-q in
    let own-words = c.own_words-k in
    let write-imports = c.write_imports-u in
    let least2 = c.least-p in
    let write-declarations = c.write_declarations-d in
    let lay-head = c.lay_head in
    body-gives args.scope.now.op args.scope.now.card.now args.scope.now.root.now (module_made args.scope.now.op args.scope.now.card.now args.scope.now.root.now (args.left - 1)) args.left
    args.scope.now.chain.now args.at args.from args.to (table args.pairs args.work.now) args.out.now _ _ _ _ _ _ _ _ _ _ _ _ least.ensures
    own-words.ensures write-imports.ensures least2.ensures write-declarations.ensures lay-head.ensures

pub write_declaration-overflow_sub-to : goal.write_declaration-overflow_sub-to
write_declaration-overflow_sub-to t c = omega (arith, c.requires.0.ordered)

pub write_declaration-returns-then-record_kind-eq98 : goal.write_declaration-returns-then-record_kind-eq98
write_declaration-returns-then-record_kind-eq98 t c =
    let args = c.args in
    let part = c.part-r in
    let record-kind = c.record_kind in
    let if1 = c.if-record_kind-eq98 in
    let write-inner = c.write_inner in
    inner-gives args.scope.now.op args.scope.now.card.now args.scope.now.root.now (module_made args.scope.now.op args.scope.now.card.now args.scope.now.root.now (args.left - 1)) args.left
    args.scope.now.chain.now args.at args.from args.to args.held.owner (table args.held.pairs args.work.now) _ part.ensures _ record-kind.ensures.0
    if1.true _ _ _ _ _ _ _ write-inner.ensures

pub write_declaration-slice_bounds-replace-end-2 : goal.write_declaration-slice_bounds-replace-end-2
write_declaration-slice_bounds-replace-end-2 t c =
    let own-words = c.own_words-k in
    sym (length-take-le _ _ (omega (arith, own-words.ensures)))

pub write_declaration-returns : goal.write_declaration-returns
write_declaration-returns t c =
    let args = c.args in
    let part = c.part-r in
    let record-kind = c.record_kind in
    let if1 = c.if-record_kind-eq98 in
    let table_of = c.table_of-own in
    let own-words = c.own_words-k in
    let replace = c.replace-n in
    rw table_of.ensures.0
    (other-gives args.scope.now.op args.scope.now.card.now args.scope.now.root.now (module_made args.scope.now.op args.scope.now.card.now args.scope.now.root.now (args.left - 1)) args.left
    args.scope.now.chain.now args.at args.from args.to args.held.owner (table args.held.pairs args.work.now) _ part.ensures _ record-kind.ensures.0
    if1.false args.out.now _ _ _ _ _ table_of.ensures.1 own-words.ensures replace.ensures)

pub write_declarations-loop-i-init : goal.write_declarations-loop-i-init
write_declarations-loop-i-init t c =
    let args = c.args in (
      going-none args.scope.now.card.now (declaration_made args.scope.now.op args.scope.now.card.now args.scope.now.root.now
          (module_made args.scope.now.op args.scope.now.card.now args.scope.now.root.now (args.left - 1)) args.left args.scope.now.chain.now args.at) args.out.now args.from
          args.to (made [] 0 args.at (table args.pairs args.work.now)) _ _ _ refl,
      refl,
      refl,
    )

pub write_declarations-overflow_sub-to : goal.write_declarations-overflow_sub-to
write_declarations-overflow_sub-to t c =
    let loop-test = c.loop-i-test in
    omega (arith, loop-test.true)

pub write_declarations-shape_of-out-then-is_short : goal.write_declarations-shape_of-out-then-is_short
write_declarations-shape_of-out-then-is_short t c =
    let loop = c.loop-i in
    loop.invariant.1

pub write_declarations-shape_of-work-then-is_short : goal.write_declarations-shape_of-work-then-is_short
write_declarations-shape_of-work-then-is_short t c =
    let loop = c.loop-i in
    loop.invariant.2

pub write_declarations-returns-then-is_short : goal.write_declarations-returns-then-is_short
write_declarations-returns-then-is_short t c =
    let args = c.args in
    let loop = c.loop-i in
    let part = c.part-s in
    let is-short = c.is_short in
    let if1 = c.if-is_short in
    going-short args.scope.now.card.now (declaration_made args.scope.now.op args.scope.now.card.now args.scope.now.root.now
    (module_made args.scope.now.op args.scope.now.card.now args.scope.now.root.now (args.left - 1)) args.left args.scope.now.chain.now args.at) args.out.now args.from
    args.to (made [] 0 args.at (table args.pairs args.work.now)) _ _ loop.i loop.p (place_after loop.full) loop.held.owner loop.held.pairs loop.invariant.0 _
    part.ensures (sym is-short.ensures ∙ if1.true)

pub write_declarations-overflow_add-next : goal.write_declarations-overflow_add-next
write_declarations-overflow_add-next t c =
    let loop = c.loop-i in
    omega (arith, loop.invariant.0.inside, c.requires.3, c.requires.0.inside, c.requires.0.small)

pub write_declarations-overflow_add-next-in-loop-i : goal.write_declarations-overflow_add-next-in-loop-i
write_declarations-overflow_add-next-in-loop-i t c =
    let args = c.args in
    let loop = c.loop-i in
    let part = c.part-s in
    let is-short = c.is_short in
    let if1 = c.if-is_short in
    let record-length = c.record_length in
    omega (
      arith,
      (next_fits args.scope.now.card.now (declaration_made args.scope.now.op args.scope.now.card.now args.scope.now.root.now
          (module_made args.scope.now.op args.scope.now.card.now args.scope.now.root.now (args.left - 1)) args.left args.scope.now.chain.now args.at) args.out.now args.from
          args.to (made [] 0 args.at (table args.pairs args.work.now)) _ _ loop.i loop.p (place_after loop.full) loop.held.owner loop.held.pairs loop.invariant.0 _
          part.ensures (sym is-short.ensures ∙ if1.false) _ record-length.ensures.0).1,
      c.requires.0.inside,
      c.requires.0.small,
    )

pub write_declarations-slice_bounds-write_declaration-count : goal.write_declarations-slice_bounds-write_declaration-count
write_declarations-slice_bounds-write_declaration-count t c =
    let least = c.least-q in
    omega (arith, least.ensures)

pub write_declarations-slice_bounds-write_declaration-start : goal.write_declarations-slice_bounds-write_declaration-start
write_declarations-slice_bounds-write_declaration-start t c =
    let least = c.least-q in
    omega (arith, least.ensures)

pub write_declarations-write_declaration-d-requires : goal.write_declarations-write_declaration-d-requires
write_declarations-write_declaration-d-requires t c =
    let args = c.args in
    let loop = c.loop-i in
    let part = c.part-s in
    let is-short = c.is_short in
    let if1 = c.if-is_short in
    let record-length = c.record_length in (
      omega (arith, c.decreases),
      (
        within-part _ _ _ _ _ c.requires.0 _ _ (next_fits args.scope.now.card.now (declaration_made args.scope.now.op args.scope.now.card.now args.scope.now.root.now
            (module_made args.scope.now.op args.scope.now.card.now args.scope.now.root.now (args.left - 1)) args.left args.scope.now.chain.now args.at) args.out.now args.from
            args.to (made [] 0 args.at (table args.pairs args.work.now)) _ _ loop.i loop.p (place_after loop.full) loop.held.owner loop.held.pairs loop.invariant.0 _
            part.ensures (sym is-short.ensures ∙ if1.false) _ record-length.ensures.0).0 (next_fits args.scope.now.card.now
            (declaration_made args.scope.now.op args.scope.now.card.now args.scope.now.root.now (module_made args.scope.now.op args.scope.now.card.now args.scope.now.root.now (args.left - 1)) args.left
            args.scope.now.chain.now args.at) args.out.now args.from args.to (made [] 0 args.at (table args.pairs args.work.now)) _ _ loop.i
            loop.p (place_after loop.full) loop.held.owner loop.held.pairs loop.invariant.0 _ part.ensures (sym is-short.ensures ∙ if1.false) _ record-length.ensures.0).1,
        c.requires.1,
        c.requires.2,
      ),
    )

pub write_declarations-overflow_add-p : goal.write_declarations-overflow_add-p
write_declarations-overflow_add-p t c =
    let loop = c.loop-i in
    let write-declaration = c.write_declaration-d in
    let args = c.args in
    let part = c.part-s in
    let is-short = c.is_short in
    let if1 = c.if-is_short in
    let record-length = c.record_length in
    omega (
      arith,
      loop.invariant.0.bound,
      loop.invariant.0.inside,
      c.requires.3,
      write-declaration.ensures.length-is,
      (declaration-bound args.scope.now.op args.scope.now.card.now args.scope.now.root.now c.requires.0.small (args.left - 1) (omega (arith, c.requires.2)) args.left
          c.requires.2 args.scope.now.chain.now args.at loop.i _ (next_fits args.scope.now.card.now (declaration_made args.scope.now.op args.scope.now.card.now args.scope.now.root.now
          (module_made args.scope.now.op args.scope.now.card.now args.scope.now.root.now (args.left - 1)) args.left args.scope.now.chain.now args.at) args.out.now args.from
          args.to (made [] 0 args.at (table args.pairs args.work.now)) _ _ loop.i loop.p (place_after loop.full) loop.held.owner loop.held.pairs loop.invariant.0 _
          part.ensures (sym is-short.ensures ∙ if1.false) _ record-length.ensures.0).0 (inside-card _ _ _
          (next_fits args.scope.now.card.now (declaration_made args.scope.now.op args.scope.now.card.now args.scope.now.root.now
          (module_made args.scope.now.op args.scope.now.card.now args.scope.now.root.now (args.left - 1)) args.left args.scope.now.chain.now args.at) args.out.now args.from
          args.to (made [] 0 args.at (table args.pairs args.work.now)) _ _ loop.i loop.p (place_after loop.full) loop.held.owner loop.held.pairs loop.invariant.0 _
          part.ensures (sym is-short.ensures ∙ if1.false) _ record-length.ensures.0).1 c.requires.0.inside)) loop.held.owner
          (table loop.held.pairs loop.work),
      (next_fits args.scope.now.card.now (declaration_made args.scope.now.op args.scope.now.card.now args.scope.now.root.now
          (module_made args.scope.now.op args.scope.now.card.now args.scope.now.root.now (args.left - 1)) args.left args.scope.now.chain.now args.at) args.out.now args.from
          args.to (made [] 0 args.at (table args.pairs args.work.now)) _ _ loop.i loop.p (place_after loop.full) loop.held.owner loop.held.pairs loop.invariant.0 _
          part.ensures (sym is-short.ensures ∙ if1.false) _ record-length.ensures.0).1,
      c.requires.0.inside,
      c.requires.0.small,
    )

pub write_declarations-loop-i-smaller : goal.write_declarations-loop-i-smaller
write_declarations-loop-i-smaller t c =
    let loop-test = c.loop-i-test in
    let args = c.args in
    let loop = c.loop-i in
    let part = c.part-s in
    let is-short = c.is_short in
    let if1 = c.if-is_short in
    let record-length = c.record_length in
    omega (
      arith,
      loop-test.true,
      (next_fits args.scope.now.card.now (declaration_made args.scope.now.op args.scope.now.card.now args.scope.now.root.now
          (module_made args.scope.now.op args.scope.now.card.now args.scope.now.root.now (args.left - 1)) args.left args.scope.now.chain.now args.at) args.out.now args.from
          args.to (made [] 0 args.at (table args.pairs args.work.now)) _ _ loop.i loop.p (place_after loop.full) loop.held.owner loop.held.pairs loop.invariant.0 _
          part.ensures (sym is-short.ensures ∙ if1.false) _ record-length.ensures.0).0,
    )

pub write_declarations-loop-i-preserved : goal.write_declarations-loop-i-preserved
write_declarations-loop-i-preserved t c =
    let args = c.args in
    let loop = c.loop-i in
    let part = c.part-s in
    let is-short = c.is_short in
    let if1 = c.if-is_short in
    let record-length = c.record_length in
    let least = c.least-q in
    let write-declaration = c.write_declaration-d in
    let first-full = c.first_full-full in (
      going_next args.scope.now.card.now (declaration_made args.scope.now.op args.scope.now.card.now args.scope.now.root.now
          (module_made args.scope.now.op args.scope.now.card.now args.scope.now.root.now (args.left - 1)) args.left args.scope.now.chain.now args.at) args.out.now args.from
          args.to (made [] 0 args.at (table args.pairs args.work.now)) _ _ loop.i loop.p (place_after loop.full) loop.held.owner loop.held.pairs loop.invariant.0 _
          part.ensures (sym is-short.ensures ∙ if1.false) _ record-length.ensures.0 _ _ _ _ _ _ _ least.ensures write-declaration.ensures
          (declaration-bound args.scope.now.op args.scope.now.card.now args.scope.now.root.now c.requires.0.small (args.left - 1) (omega (arith, c.requires.2)) args.left
          c.requires.2 args.scope.now.chain.now args.at loop.i _ (next_fits args.scope.now.card.now (declaration_made args.scope.now.op args.scope.now.card.now args.scope.now.root.now
          (module_made args.scope.now.op args.scope.now.card.now args.scope.now.root.now (args.left - 1)) args.left args.scope.now.chain.now args.at) args.out.now args.from
          args.to (made [] 0 args.at (table args.pairs args.work.now)) _ _ loop.i loop.p (place_after loop.full) loop.held.owner loop.held.pairs loop.invariant.0 _
          part.ensures (sym is-short.ensures ∙ if1.false) _ record-length.ensures.0).0 (inside-card _ _ _
          (next_fits args.scope.now.card.now (declaration_made args.scope.now.op args.scope.now.card.now args.scope.now.root.now
          (module_made args.scope.now.op args.scope.now.card.now args.scope.now.root.now (args.left - 1)) args.left args.scope.now.chain.now args.at) args.out.now args.from
          args.to (made [] 0 args.at (table args.pairs args.work.now)) _ _ loop.i loop.p (place_after loop.full) loop.held.owner loop.held.pairs loop.invariant.0 _
          part.ensures (sym is-short.ensures ∙ if1.false) _ record-length.ensures.0).1 c.requires.0.inside)) _ first-full.ensures,
      going-long
          args.scope.now.card.now (declaration_made args.scope.now.op args.scope.now.card.now args.scope.now.root.now (module_made args.scope.now.op args.scope.now.card.now args.scope.now.root.now
          (args.left - 1)) args.left args.scope.now.chain.now args.at) args.out.now args.from args.to
          (made [] 0 args.at (table args.pairs args.work.now)) _ _ _ _ _ _ _ (going_next args.scope.now.card.now
          (declaration_made args.scope.now.op args.scope.now.card.now args.scope.now.root.now (module_made args.scope.now.op args.scope.now.card.now args.scope.now.root.now (args.left - 1)) args.left
          args.scope.now.chain.now args.at) args.out.now args.from args.to (made [] 0 args.at (table args.pairs args.work.now)) _ _ loop.i
          loop.p (place_after loop.full) loop.held.owner loop.held.pairs loop.invariant.0 _ part.ensures (sym is-short.ensures ∙ if1.false) _ record-length.ensures.0 _ _
          _ _ _ _ _ least.ensures write-declaration.ensures (declaration-bound args.scope.now.op args.scope.now.card.now args.scope.now.root.now c.requires.0.small
          (args.left - 1) (omega (arith, c.requires.2)) args.left c.requires.2 args.scope.now.chain.now args.at loop.i _
          (next_fits args.scope.now.card.now (declaration_made args.scope.now.op args.scope.now.card.now args.scope.now.root.now
          (module_made args.scope.now.op args.scope.now.card.now args.scope.now.root.now (args.left - 1)) args.left args.scope.now.chain.now args.at) args.out.now args.from
          args.to (made [] 0 args.at (table args.pairs args.work.now)) _ _ loop.i loop.p (place_after loop.full) loop.held.owner loop.held.pairs loop.invariant.0 _
          part.ensures (sym is-short.ensures ∙ if1.false) _ record-length.ensures.0).0 (inside-card _ _ _
          (next_fits args.scope.now.card.now (declaration_made args.scope.now.op args.scope.now.card.now args.scope.now.root.now
          (module_made args.scope.now.op args.scope.now.card.now args.scope.now.root.now (args.left - 1)) args.left args.scope.now.chain.now args.at) args.out.now args.from
          args.to (made [] 0 args.at (table args.pairs args.work.now)) _ _ loop.i loop.p (place_after loop.full) loop.held.owner loop.held.pairs loop.invariant.0 _
          part.ensures (sym is-short.ensures ∙ if1.false) _ record-length.ensures.0).1 c.requires.0.inside)) _ first-full.ensures),
      write-declaration.auto.work ∙ loop.invariant.2,
    )

pub write_declarations-shape_of-out : goal.write_declarations-shape_of-out
write_declarations-shape_of-out t c =
    let loop = c.loop-i in
    loop.invariant.1

pub write_declarations-shape_of-work : goal.write_declarations-shape_of-work
write_declarations-shape_of-work t c =
    let loop = c.loop-i in
    loop.invariant.2

pub write_declarations-returns : goal.write_declarations-returns
write_declarations-returns t c =
    let args = c.args in
    let loop = c.loop-i in
    let loop-test = c.loop-i-test in
    going_end args.scope.now.card.now (declaration_made args.scope.now.op args.scope.now.card.now args.scope.now.root.now (module_made args.scope.now.op args.scope.now.card.now args.scope.now.root.now
    (args.left - 1)) args.left args.scope.now.chain.now args.at) args.out.now args.from args.to
    (made [] 0 args.at (table args.pairs args.work.now)) _ _ loop.i loop.p (place_after loop.full) loop.held.owner loop.held.pairs loop.invariant.0
    (omega (arith, loop-test.false))

pub write_inner-write_saved-requires : goal.write_inner-write_saved-requires
write_inner-write_saved-requires t c =
    let args = c.args in
    let is-small-beside = c.is_small_beside in
    let if1 = c.if-is_small_beside in
    let small = small-known (module_made args.scope.now.op args.scope.now.card.now args.scope.now.root.now args.left args.scope.now.chain.now) args.at args.from args.to
    args.held.owner args.held.pairs args.work.now _ is-small-beside.ensures if1.true in
    (omega (arith, c.decreases), (c.requires.0, c.requires.1, small))

pub write_inner-returns-then-is_small_beside : goal.write_inner-returns-then-is_small_beside
write_inner-returns-then-is_small_beside t c =
    let args = c.args in
    let is-small-beside = c.is_small_beside in
    let if1 = c.if-is_small_beside in
    let write-saved = c.write_saved in
    small-gives (module_made args.scope.now.op args.scope.now.card.now args.scope.now.root.now args.left args.scope.now.chain.now) args.at args.from args.to args.held.owner
    args.held.pairs args.work.now _ is-small-beside.ensures if1.true _ _ _ _ _ _ _ write-saved.ensures

pub write_inner-overflow_add-b : goal.write_inner-overflow_add-b
write_inner-overflow_add-b t c =
    let write-module = c.write_module-b in
    omega (arith, module-fits _ _ _ _ _ _ _ _ _ _ _ _ _ _ _ _ c.requires.0 c.requires.1 write-module.ensures)

pub write_inner-overflow_add-result : goal.write_inner-overflow_add-result
write_inner-overflow_add-result t c =
    let write-module = c.write_module-b in
    omega (arith, module-fits _ _ _ _ _ _ _ _ _ _ _ _ _ _ _ _ c.requires.0 c.requires.1 write-module.ensures)

pub write_inner-returns-then-has_room_beside : goal.write_inner-returns-then-has_room_beside
write_inner-returns-then-has_room_beside t c =
    let args = c.args in
    let least = c.least-q in
    let is-small-beside = c.is_small_beside in
    let if1 = c.if-is_small_beside in
    let has-room-beside = c.has_room_beside in
    let if2 = c.if-has_room_beside in
    let own-words = c.own_words-k in
    let write-module = c.write_module-b in
    let lay-head = c.lay_head in
    beside-gives (module_made args.scope.now.op args.scope.now.card.now args.scope.now.root.now args.left args.scope.now.chain.now) args.at args.from args.to args.held.owner
    args.held.pairs args.work.now args.out.now _ least.ensures _ _ _ _ _ _ _ lay-head.ensures _ _ is-small-beside.ensures
    has-room-beside.ensures if1.false if2.true _ own-words.ensures write-module.ensures

pub write_inner-overflow_add-m : goal.write_inner-overflow_add-m
write_inner-overflow_add-m t c =
    let write-module2 = c.write_module-m in
    omega (arith, module-fits _ _ _ _ _ _ _ _ _ _ _ _ _ _ _ _ c.requires.0 c.requires.1 write-module2.ensures)

pub write_inner-overflow_add-result-2 : goal.write_inner-overflow_add-result-2
write_inner-overflow_add-result-2 t c =
    let write-module2 = c.write_module-m in
    omega (arith, module-fits _ _ _ _ _ _ _ _ _ _ _ _ _ _ _ _ c.requires.0 c.requires.1 write-module2.ensures)

pub write_inner-returns : goal.write_inner-returns
write_inner-returns t c =
    let args = c.args in
    let least = c.least-q in
    let is-small-beside = c.is_small_beside in
    let if1 = c.if-is_small_beside in
    let has-room-beside = c.has_room_beside
    in
    let if2 = c.if-has_room_beside in
    let write-module2 = c.write_module-m in
    let lay-head2 = c.lay_head-2 in
    alone-gives (module_made args.scope.now.op args.scope.now.card.now args.scope.now.root.now args.left args.scope.now.chain.now) args.at args.from args.to args.held.owner
    args.held.pairs args.work.now args.out.now _ least.ensures _ _ _ _ _ _ _ lay-head2.ensures _ _ is-small-beside.ensures
    has-room-beside.ensures if1.false if2.false write-module2.ensures

pub write_mod-overflow_sub-to : goal.write_mod-overflow_sub-to
write_mod-overflow_sub-to t c = omega (arith, c.requires.0.ordered)

pub write_mod-overflow_sub-f : goal.write_mod-overflow_sub-f
write_mod-overflow_sub-f t c =
    let args = c.args in
    let part = c.part in
    let content = c.content-c in
    let rest = c.rest in
    let rest2 = c.rest-2 in
    let rest3 = c.rest-body in
    body-inside args.scope.now.op args.scope.now.card.now args.scope.now.root.now part.result.now content.result.now rest.result.now rest2.result.now
    rest3.result.now content.result.now content.ensures rest.ensures rest2.ensures rest3.ensures _ refl

pub write_mod-overflow_add-f : goal.write_mod-overflow_add-f
write_mod-overflow_add-f t c =
    let args = c.args in
    let part = c.part in
    let content = c.content-c in
    omega (
      arith,
      content-small args.scope.now.card.now args.at args.to part.result.now content.result.now part.ensures content.ensures,
      c.requires.0.inside,
      c.requires.0.small,
    )

pub write_mod-overflow_add-at : goal.write_mod-overflow_add-at
write_mod-overflow_add-at t c = omega (arith, c.requires.0.ordered, c.requires.0.inside, c.requires.0.small)

pub write_mod-overflow_add-at-2 : goal.write_mod-overflow_add-at-2
write_mod-overflow_add-at-2 t c =
    let args = c.args in
    let part = c.part in
    let content = c.content-c in
    omega (
      arith,
      content-small args.scope.now.card.now args.at args.to part.result.now content.result.now part.ensures content.ensures,
      c.requires.0.ordered,
      c.requires.0.inside,
      c.requires.0.small,
    )

pub write_mod-slice_bounds-write_body-count : goal.write_mod-slice_bounds-write_body-count
write_mod-slice_bounds-write_body-count t c =
    let least = c.least-q in
    omega (arith, least.ensures)

pub write_mod-slice_bounds-write_body-start : goal.write_mod-slice_bounds-write_body-start
write_mod-slice_bounds-write_body-start t c =
    let least = c.least-q in
    omega (arith, least.ensures)

pub write_mod-write_body-b-requires : goal.write_mod-write_body-b-requires
write_mod-write_body-b-requires t c =
    let args = c.args in
    let part = c.part in
    let content = c.content-c in (
      omega (arith, c.decreases),
      (
        within-zero _ _ _ _ _ c.requires.0,
        c.requires.1,
        c.requires.2,
        omega (
          arith,
          content-small args.scope.now.card.now args.at args.to
              part.result.now content.result.now part.ensures content.ensures,
          c.requires.0.ordered,
          c.requires.0.inside,
          c.requires.0.small,
        ),
      ),
    )

pub write_mod-overflow_add-n : goal.write_mod-overflow_add-n
write_mod-overflow_add-n t c =
    let args = c.args in
    let content = c.content-c in
    let rest3 = c.rest-body in
    let part = c.part in
    let write-body = c.write_body-b in
    omega (
      arith,
      body-bound args.scope.now.op args.scope.now.card.now args.scope.now.root.now c.requires.0.small (args.left - 1) (omega (arith, c.requires.2)) args.left
          c.requires.2 args.scope.now.chain.now args.at (args.at + 6 + (length content.result.now - length rest3.result.now)) args.to c.requires.0.inside
          (table args.pairs args.work.now),
      content-small args.scope.now.card.now args.at args.to part.result.now content.result.now part.ensures
          content.ensures,
      write-body.ensures.length-is,
      c.requires.0.inside,
      c.requires.0.small,
    )

pub write_mod-overflow_add-n-2 : goal.write_mod-overflow_add-n-2
write_mod-overflow_add-n-2 t c =
    let args = c.args in
    let content = c.content-c in
    let rest3 = c.rest-body in
    let part = c.part in
    let write-body = c.write_body-b in
    omega (
      arith,
      body-bound args.scope.now.op args.scope.now.card.now args.scope.now.root.now c.requires.0.small (args.left - 1) (omega (arith, c.requires.2)) args.left
          c.requires.2 args.scope.now.chain.now args.at (args.at + 6 + (length content.result.now - length rest3.result.now)) args.to c.requires.0.inside
          (table args.pairs args.work.now),
      content-small args.scope.now.card.now args.at args.to part.result.now content.result.now part.ensures
          content.ensures,
      write-body.ensures.length-is,
      c.requires.0.inside,
      c.requires.0.small,
    )

pub write_mod-overflow_add-result : goal.write_mod-overflow_add-result
write_mod-overflow_add-result t c =
    let args = c.args in
    let content = c.content-c in
    let rest3 = c.rest-body in
    let part = c.part in
    let write-body = c.write_body-b in
    omega (
      arith,
      body-bound args.scope.now.op args.scope.now.card.now args.scope.now.root.now c.requires.0.small (args.left - 1) (omega (arith, c.requires.2)) args.left
          c.requires.2 args.scope.now.chain.now args.at (args.at + 6 + (length content.result.now - length rest3.result.now)) args.to c.requires.0.inside
          (table args.pairs args.work.now),
      content-small args.scope.now.card.now args.at args.to part.result.now content.result.now part.ensures
          content.ensures,
      write-body.ensures.length-is,
      c.requires.0.inside,
      c.requires.0.small,
    )

pub write_mod-returns : goal.write_mod-returns
write_mod-returns t c =
    let args = c.args in
    let part = c.part in
    let content = c.content-c in
    let rest = c.rest in
    let rest2 = c.rest-2 in
    let rest3 = c.rest-body in
    let part2 = c.part-2 in
    let lay = c.lay in
    let least = c.least-q in
    let write-body = c.write_body-b in
    let lay-head = c.lay_head in
    mod-all args.scope.now.op args.scope.now.card.now args.scope.now.root.now (module_made args.scope.now.op args.scope.now.card.now args.scope.now.root.now (args.left - 1)) args.left
    args.scope.now.chain.now args.at args.to (table args.pairs args.work.now) args.out.now part.result.now part.ensures
    content.result.now rest.result.now rest2.result.now rest3.result.now content.ensures rest.ensures rest2.ensures rest3.ensures _
    refl _ _ _ _ _ _ _ _ _ _ part2.ensures lay.ensures least.ensures write-body.ensures lay-head.ensures

pub write_module-overflow_sub-to : goal.write_module-overflow_sub-to
write_module-overflow_sub-to t c = omega (arith, c.requires.ordered)

pub write_module-returns-then-left-eq0 : goal.write_module-returns-then-left-eq0
write_module-returns-then-left-eq0 t c =
    let args = c.args in
    let part = c.part-r in
    let if1 = c.if-left-eq0 in
    let lay = c.lay in
    module-shallow args.scope.now.op args.scope.now.card.now args.scope.now.root.now args.left args.scope.now.chain.now args.at args.to args.held.owner args.held.pairs
    args.work.now args.out.now part.result.now part.ensures if1.true _ lay.ensures

pub write_module-returns-then-record_kind-ne96 : goal.write_module-returns-then-record_kind-ne96
write_module-returns-then-record_kind-ne96 t c =
    let args = c.args in
    let part = c.part-r in
    let if1 = c.if-left-eq0 in
    let record-kind = c.record_kind in
    let if2 = c.if-record_kind-ne96 in
    let lay2 = c.lay-then-record_kind-ne96 in
    module-other args.scope.now.op args.scope.now.card.now args.scope.now.root.now args.left args.scope.now.chain.now args.at args.to args.held.owner args.held.pairs
    args.work.now args.out.now part.result.now part.ensures if1.false _ record-kind.ensures.0 if2.true _ lay2.ensures

pub write_module-extend-requires : goal.write_module-extend-requires
write_module-extend-requires t c =
    let if1 = c.if-left-eq0 in
    names-fit _ _ _ _ _ c.requires if1.false

pub write_module-overflow_add-n : goal.write_module-overflow_add-n
write_module-overflow_add-n t c =
    let if1 = c.if-left-eq0 in
    omega (arith, names-fit _ _ _ _ _ c.requires if1.false)

pub write_module-slice_bounds-names-end : goal.write_module-slice_bounds-names-end
write_module-slice_bounds-names-end t c =
    let if1 = c.if-left-eq0 in
    omega (arith, names-fit _ _ _ _ _ c.requires if1.false)

pub write_module-slice_bounds-inner-end : goal.write_module-slice_bounds-inner-end
write_module-slice_bounds-inner-end t c =
    let extend = c.extend in
    let args = c.args in
    sym (ap length extend.ensures ∙ length-append args.scope.now.chain.now _)

pub write_module-returns-then-room-own : goal.write_module-returns-then-room-own
write_module-returns-then-room-own t c =
    let args = c.args in
    let part = c.part-r in
    let if1 = c.if-left-eq0 in
    let record-kind = c.record_kind in
    let if2 = c.if-record_kind-ne96 in
    let name-place = c.name_place in
    let extend = c.extend in
    let table_of = c.table_of-own in
    let room = c.room in
    let if3 = c.if-room-own in
    rw table_of.ensures.0
    (module-full args.scope.now.op args.scope.now.card.now args.scope.now.root.now args.left args.scope.now.chain.now args.at args.to args.held.owner args.held.pairs
    args.work.now args.out.now part.result.now part.ensures if1.false _ record-kind.ensures.0 if2.false _ _ name-place.ensures
    extend.ensures _ _ table_of.ensures.1 (rw room.ensures at if3.true))

pub write_module-write_mod-requires : goal.write_module-write_mod-requires
write_module-write_mod-requires t c =
    let if1 = c.if-left-eq0 in
    let extend = c.extend in
    (omega (arith, c.decreases), (within-inner _ _ _ _ _ c.requires if1.false _ _ extend.ensures, omega (arith, if1.false), omega (arith, c.requires.shallow)))

pub write_module-returns : goal.write_module-returns
write_module-returns t c =
    let args = c.args in
    let part = c.part-r in
    let if1 = c.if-left-eq0 in
    let record-kind = c.record_kind in
    let if2 = c.if-record_kind-ne96 in
    let name-place = c.name_place in
    let extend = c.extend in
    let table_of = c.table_of-own in
    let room = c.room in
    let if3 = c.if-room-own in
    let write-mod = c.write_mod in
    module-mod args.scope.now.op args.scope.now.card.now args.scope.now.root.now args.left args.scope.now.chain.now args.at args.to args.held.owner args.held.pairs
    args.work.now args.out.now part.result.now part.ensures if1.false _ record-kind.ensures.0 if2.false _ _ name-place.ensures
    extend.ensures _ _ table_of.ensures.1 (fits-room table_of.new.work _ _ room.ensures (omega (arith, if3.false))) _ _ _ _ _ _
    write-mod.ensures

pub write_saved-overflow_sub-k : goal.write_saved-overflow_sub-k
write_saved-overflow_sub-k t c = omega (arith, (small-fits _ _ _ c.requires.2).1)

pub write_saved-slice_bounds-copy-end-2 : goal.write_saved-slice_bounds-copy-end-2
write_saved-slice_bounds-copy-end-2 t c = refl

pub write_saved-slice_bounds-aside-end : goal.write_saved-slice_bounds-aside-end
write_saved-slice_bounds-aside-end t c = omega (arith, (small-fits _ _ _ c.requires.2).0)

pub write_saved-slice_bounds-copy-end-3 : goal.write_saved-slice_bounds-copy-end-3
write_saved-slice_bounds-copy-end-3 t c =
    let copy = c.copy in
    aside-long _ _ _ c.requires.2 _ copy.ensures

pub write_saved-overflow_add-m : goal.write_saved-overflow_add-m
write_saved-overflow_add-m t c =
    let write-module = c.write_module-m in
    omega (arith, module-fits _ _ _ _ _ _ _ _ _ _ _ _ _ _ _ _ c.requires.0 c.requires.1 write-module.ensures)

pub write_saved-overflow_add-result : goal.write_saved-overflow_add-result
write_saved-overflow_add-result t c =
    let write-module = c.write_module-m in
    omega (arith, module-fits _ _ _ _ _ _ _ _ _ _ _ _ _ _ _ _ c.requires.0 c.requires.1 write-module.ensures)

pub write_saved-returns : goal.write_saved-returns
write_saved-returns t c =
    let args = c.args in
    let least = c.least-q in
    let lay-head = c.lay_head in
    let copy = c.copy in
    let write-module = c.write_module-m in
    let copy2 = c.copy-2 in
    saved-gives (module_made args.scope.now.op args.scope.now.card.now args.scope.now.root.now args.left args.scope.now.chain.now) args.at args.from args.to 0
    args.pairs args.work.now args.out.now _ least.ensures _ _ _ _ _ _ _ lay-head.ensures c.requires.2 _ copy.ensures
    write-module.ensures (module-keeps _ _ _ _ _ _ _ _ _ _ _ _ _ _ _ write-module.ensures) _ copy2.ensures

pub write_saved-shape_of-out : goal.write_saved-shape_of-out
write_saved-shape_of-out t c = wrote-long (write_saved-returns t c)

pub write_saved-shape_of-work : goal.write_saved-shape_of-work
write_saved-shape_of-work t c = saved-keeps _ _ _ (write_saved-returns t c)
