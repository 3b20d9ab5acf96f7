-- `chains::next` meets its contract. Assumes nothing.
use Rattle.chains.proofs.Tests.{next-zero, next_past, next-falls, next-not}
use Rattle.chains.proofs.next.Goals as goal

pub returns-then-g-eq0 : goal.returns-then-g-eq0
returns-then-g-eq0 c =
    let if1 = c.if-g-eq0 in
    next-zero _ _ if1.true

pub returns-then-room-g : goal.returns-then-room-g
returns-then-room-g c =
    let if1 = c.if-g-eq0 in
    let room = c.room in
    let if2 = c.if-room-g in
    next_past _ _ if1.false _ room.ensures if2.true

pub returns-then-l-g : goal.returns-then-l-g
returns-then-l-g c =
    let if1 = c.if-g-eq0 in
    let room = c.room in
    let if2 = c.if-room-g in
    let word = c.word-l in
    let if3 = c.if-l-g in
    next-falls _ _ if1.false _ room.ensures if2.false _ word.ensures.0 if3.true

pub returns : goal.returns
returns c =
    let if1 = c.if-g-eq0 in
    let room = c.room in
    let if2 = c.if-room-g in
    let word = c.word-l in
    let if3 = c.if-l-g in
    next-not _ _ if1.false _ room.ensures if2.false _ word.ensures.0 if3.false
