-- `adding::put` meets its contract: word by word. Assumes nothing.
use native.Mathlib.Omega.{arith}
use lib.ListN.{length-set}
use Rattle.adding.proofs.Tests.{put_is}
use Rattle.adding.proofs.put.Goals as goal

pub bounds-work-k-2 : goal.bounds-work-k-2
bounds-work-k-2 c = simp length-set (omega arith)

pub bounds-work-k-3 : goal.bounds-work-k-3
bounds-work-k-3 c = simp length-set (omega arith)

pub bounds-work-k-4 : goal.bounds-work-k-4
bounds-work-k-4 c = simp length-set (omega arith)

pub overflow_add-work-3 : goal.overflow_add-work-3
overflow_add-work-3 c =
    let head = c.head-first in
    let word = c.word-h in
    omega (arith, head.ensures.1, word.ensures.1)

pub overflow_cast-work : goal.overflow_cast-work
overflow_cast-work c =
    let head = c.head-first in
    let word = c.word-h in
    omega (arith, head.ensures.1, word.ensures.1)

pub bounds-work-k-5 : goal.bounds-work-k-5
bounds-work-k-5 c = simp length-set (omega arith)

pub bounds-work-j : goal.bounds-work-j
bounds-work-j c = simp length-set (omega arith)

pub bounds-work-j-2 : goal.bounds-work-j-2
bounds-work-j-2 c = simp length-set (omega arith)

pub returns : goal.returns
returns c =
    let head = c.head-first in
    let word = c.word-h in
    let word2 = c.word-l in
    put_is _ _ _ _ _ _ _ _ _ head.ensures.0 word.ensures.0 word2.ensures.0
