-- `fitting::surely_fits` meets its contract. Assumes nothing.
use Rattle.fitting.proofs.Tests.{fits_not, fits-is}
use Rattle.fitting.proofs.surely_fits.Goals as goal

pub returns-then-is_wide : goal.returns-then-is_wide
returns-then-is_wide c =
    let args = c.args in
    let is_IsWide = c.is_wide in
    let if1 = c.if-is_wide in
    let room = c.room in
    fits-is args.op args.card.now args.out.now args.work.now is_IsWide.ensures if1.true _ room.ensures

pub returns : goal.returns
returns c =
    let args = c.args in
    let is_IsWide = c.is_wide in
    let if1 = c.if-is_wide in
    fits_not args.op args.card.now args.out.now args.work.now is_IsWide.ensures if1.false
