-- `shortnames::lay_synonyms` meets its contract: synonym by synonym, by the laws of Wraps. Assumes nothing.
use mathlib.Core.Path.{refl}
use lib.ListN.{length}
use native.Mathlib.Omega.{arith}
use Rattle.shortnames.proofs.Wraps.{wrapping-none, wrapping-end, last-left, same-long, wrapping-unit, wrapping-next, wrapping-all}
use Rattle.shortnames.proofs.Wraps.{small_product, small-synonyms, before_last}
use Rattle.shortnames.proofs.lay_synonyms.Goals as goal

pub overflow_mul-left : goal.overflow_mul-left
overflow_mul-left c =
    let args = c.args in
    let pre = c.requires in
    omega (arith, small_product args.w (length args.name.now) pre.2 pre.0)

pub overflow_add-left : goal.overflow_add-left
overflow_add-left c =
    let args = c.args in
    let pre = c.requires in
    omega (arith, small_product args.w (length args.name.now) pre.2 pre.0, pre.1)

pub loop-j-init : goal.loop-j-init
loop-j-init c =
    let args = c.args in
    let pre = c.requires in (
      wrapping-none args.name.now args.r.now args.w args.at _ args.out.now _ refl refl,
      small-synonyms args.name.now args.r.now
          args.w args.at pre.0 pre.1 pre.2 pre.3,
    )

pub overflow_sub-left : goal.overflow_sub-left
overflow_sub-left c =
    let args = c.args in
    let loop = c.loop-j in
    let loop-test = c.loop-j-test in
    omega (
      arith,
      wrapping-unit args.name.now args.r.now args.w args.at _ args.out.now _ _ _ _ loop.invariant.0 _
          (before_last _ loop-test.true),
      loop.invariant.0.unit-is,
    )

pub overflow_add-p : goal.overflow_add-p
overflow_add-p c =
    let args = c.args in
    let loop = c.loop-j in
    omega (arith, wrapping-end args.name.now args.r.now args.w args.at _ args.out.now _ _ _ _ loop.invariant.0, loop.invariant.1)

pub lay_named-requires : goal.lay_named-requires
lay_named-requires c =
    let args = c.args in
    let loop = c.loop-j in
    let loop-test = c.loop-j-test in
    omega (
      arith,
      wrapping-end args.name.now args.r.now args.w args.at _ args.out.now _ _ _ _ loop.invariant.0,
      wrapping-unit args.name.now
          args.r.now args.w args.at _ args.out.now _ _ _ _ loop.invariant.0 _ (before_last _ loop-test.true),
      loop.invariant.0.unit-is,
      loop.invariant.1,
    )

pub overflow_add-p-in-loop-j : goal.overflow_add-p-in-loop-j
overflow_add-p-in-loop-j c =
    let args = c.args in
    let loop = c.loop-j in
    let loop-test = c.loop-j-test in
    omega (
      arith,
      wrapping-end args.name.now args.r.now args.w args.at _ args.out.now _ _ _ _ loop.invariant.0,
      wrapping-unit args.name.now
          args.r.now args.w args.at _ args.out.now _ _ _ _ loop.invariant.0 _ (before_last _ loop-test.true),
      loop.invariant.1,
    )

pub overflow_sub-left-in-loop-j : goal.overflow_sub-left-in-loop-j
overflow_sub-left-in-loop-j c =
    let args = c.args in
    let loop = c.loop-j in
    let loop-test = c.loop-j-test in
    omega (
      arith,
      wrapping-unit args.name.now args.r.now args.w args.at _ args.out.now _ _ _ _ loop.invariant.0 _
          (before_last _ loop-test.true),
    )

pub loop-j-preserved : goal.loop-j-preserved
loop-j-preserved c =
    let args = c.args in
    let loop = c.loop-j in
    let loop-test = c.loop-j-test in
    let lay-head = c.lay_head in
    let lay-named = c.lay_named in (
      wrapping-next args.name.now args.r.now args.w args.at _ args.out.now _ _ _ _ loop.invariant.0 _ (before_last _ loop-test.true) _ _
          lay-head.ensures lay-named.ensures,
      loop.invariant.1,
    )

pub overflow_add-result : goal.overflow_add-result
overflow_add-result c =
    let args = c.args in
    let loop = c.loop-j in
    let loop-test = c.loop-j-test in
    omega (
      arith,
      wrapping-end args.name.now args.r.now args.w args.at _ args.out.now _ _ _ _ loop.invariant.0,
      loop.invariant.1,
      loop.invariant.0.bytes_left,
      last-left args.name.now args.r.now args.w args.at _ args.out.now _ _ _ _ loop.invariant.0 (omega (arith, loop-test.false)),
    )

pub shape_of-out : goal.shape_of-out
shape_of-out c =
    let args = c.args in
    let loop = c.loop-j in
    let lay = c.lay in
    same-long args.name.now args.r.now args.w args.at _ args.out.now _ _ _ _ loop.invariant.0 _ lay.ensures

pub returns : goal.returns
returns c =
    let args = c.args in
    let loop = c.loop-j in
    let loop-test = c.loop-j-test in
    let lay = c.lay in
    wrapping-all args.name.now args.r.now args.w args.at _ args.out.now _ _ _ _ loop.invariant.0 (omega (arith, loop-test.false)) _
    lay.ensures
