-- `chains::head` meets its contract. Assumes nothing.
use Rattle.chains.proofs.Tests.{head-some, head-none}
use Rattle.chains.proofs.head.Goals as goal

pub returns-then-b-room : goal.returns-then-b-room
returns-then-b-room c =
    let room = c.room in
    let if1 = c.if-b-room in
    let word = c.word in
    head-some _ _ _ room.ensures if1.true _ word.ensures

pub returns : goal.returns
returns c =
    let room = c.room in
    let if1 = c.if-b-room in
    head-none _ _ _ room.ensures if1.false
