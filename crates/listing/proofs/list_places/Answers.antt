-- `listing::list_places` meets its contract. Assumes nothing.
use native.Mathlib.Omega.{arith}
use Rattle.listing.proofs.Beside.{listed-none, listed-within}
use Rattle.listing.proofs.Ring.{card-long, out-long, card-places}
use Rattle.listing.proofs.list_places.Goals as goal

pub returns-then-card-gt65536 : goal.returns-then-card-gt65536
returns-then-card-gt65536 c =
    let args = c.args in
    (listed-none args.list.now 0 args.out.now _ (card-long args.card.now args.out.now c.if-card-gt65536.true)).1

pub returns-then-out-gt2147483648 : goal.returns-then-out-gt2147483648
returns-then-out-gt2147483648 c =
    let args = c.args in
    (listed-none args.list.now 0 args.out.now _ (out-long args.card.now args.out.now (omega (arith, c.if-card-gt65536.false)) c.if-out-gt2147483648.true)).1

pub returns : goal.returns
returns c =
    let args = c.args in
    (listed-within args.list.now 0 args.out.now _ _ args.out.now _ _
    (card-places args.card.now args.out.now (omega (arith, c.if-card-gt65536.false)) (omega (arith, c.if-out-gt2147483648.false))) (omega arith)
    c.list_record.ensures).1
