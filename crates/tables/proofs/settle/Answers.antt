-- `tables::settle` meets its contract. Assumes nothing.
use native.Mathlib.Omega.{arith}
use lib.ListN.{length-take}
use Rattle.tables.proofs.Owner.{settled-full, settled-own}
use Rattle.tables.proofs.settle.Goals as goal

pub returns-then-room-pairs : goal.returns-then-room-pairs
returns-then-room-pairs c =
    let args = c.args in
    let room = c.room in
    let if1 = c.if-room-pairs in
    settled-full args.pairs args.work.now _ room.ensures if1.true

pub slice_bounds-settle-end-2 : goal.slice_bounds-settle-end-2
slice_bounds-settle-end-2 c = simp length-take (omega arith)

pub returns : goal.returns
returns c =
    let args = c.args in
    let room = c.room in
    let if1 = c.if-room-pairs in
    let settle = c.settle in
    settled-own args.pairs args.work.now _ room.ensures if1.false _ settle.ensures
