-- `shortening_alone::shorten_alone` meets its contract, by the laws of Own. Assumes nothing.
use Rattle.std.proofs.Common.{rules, Err}
use mathlib.Core.Path.{◌≡◌, refl, sym}
use native.Mathlib.Omega.{arith}
use Rattle.shortening_alone.proofs.Own.{alone-refused}
use Rattle.shortening_alone.proofs.shorten_alone.Goals as goal

pub returns-in_err-admit : goal.returns-in_err-admit
returns-in_err-admit c =
    let args = c.args in
    let e : c.from_residual.result ≡ Err c.in_err-admit.field-0.0 = search rules in
    alone-refused args.pass args.card.now args.root.now args.out.now (λ i. (c.type_inv.card i).fits)
    (λ i. (c.type_inv.root i).fits) _ c.in_err-admit.ensures _ e refl

pub shorten_with-requires : goal.shorten_with-requires
shorten_with-requires c = (sym c.in_ok-admit.ensures, omega (arith, c.if-card-lt90.true), omega arith)

pub shorten_with-requires-then-card-lt594 : goal.shorten_with-requires-then-card-lt594
shorten_with-requires-then-card-lt594 c = (sym c.in_ok-admit.ensures, omega (arith, c.if-card-lt594.true), omega arith)

pub shorten_with-requires-then-card-lt2322 : goal.shorten_with-requires-then-card-lt2322
shorten_with-requires-then-card-lt2322 c = (sym c.in_ok-admit.ensures, omega (arith, c.if-card-lt2322.true), omega arith)

pub shorten_with-requires-2 : goal.shorten_with-requires-2
shorten_with-requires-2 c = (sym c.in_ok-admit.ensures, omega arith, omega arith)
