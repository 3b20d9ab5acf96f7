-- `shortnames::unfit` meets its contract, test by test. Assumes nothing.
use mathlib.Core.Path.{refl}
use native.Mathlib.Omega.{arith}
use Rattle.shortnames.proofs.Wraps.{unfit-place, unfit-count, unfit-length}
use Rattle.shortnames.proofs.unfit.Goals as goal

pub returns-then-at-gt2305843009213693952 : goal.returns-then-at-gt2305843009213693952
returns-then-at-gt2305843009213693952 c =
    let args = c.args in
    let if1 = c.if-at-gt2305843009213693952 in
    unfit-place args.at args.w args.n if1.true

pub returns-then-w-gt65536 : goal.returns-then-w-gt65536
returns-then-w-gt65536 c =
    let args = c.args in
    let if1 = c.if-at-gt2305843009213693952 in
    let if2 = c.if-w-gt65536 in
    unfit-count args.at args.w args.n (omega (arith, if1.false)) if2.true

pub returns : goal.returns
returns c =
    let args = c.args in
    let if1 = c.if-at-gt2305843009213693952 in
    let if2 = c.if-w-gt65536 in
    unfit-length args.at args.w args.n _ (omega (arith, if1.false)) (omega (arith, if2.false)) refl
