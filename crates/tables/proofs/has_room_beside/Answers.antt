-- `tables::has_room_beside` meets its contract. Assumes nothing.
use Rattle.tables.proofs.Beside.{beside-not, beside-is}
use Rattle.tables.proofs.has_room_beside.Goals as goal

pub returns-then-held-at : goal.returns-then-held-at
returns-then-held-at c = beside-not _ _ _ c.if-held-at.true

pub returns : goal.returns
returns c =
    let if1 = c.if-held-at in
    let own-words = c.own_words-k in
    let room = c.room in
    beside-is _ _ _ _ _ if1.false _ _ own-words.ensures room.ensures
