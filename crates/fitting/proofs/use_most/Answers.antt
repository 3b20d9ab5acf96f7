-- `fitting::use_most` meets its contract, by the laws of Tests. Assumes nothing.
use native.Mathlib.Omega.{arith}
use Rattle.fitting.proofs.Tests.{use-none, use-is}
use Rattle.fitting.proofs.use_most.Goals as goal

pub returns-then-place-eq0 : goal.returns-then-place-eq0
returns-then-place-eq0 c =
    let args = c.args in
    let word = c.word-place in
    let if1 = c.if-place-eq0 in
    (use-none args.card.now args.work.now args.i word.ensures.0 if1.true, omega arith)

pub returns : goal.returns
returns c =
    let args = c.args in
    let word = c.word-place in
    let if1 = c.if-place-eq0 in
    let part = c.part in
    let record-length = c.record_length-base in
    let word2 = c.word in (
      use-is args.card.now args.work.now args.i word.ensures.0 if1.false part.ensures record-length.ensures.0 word2.ensures.0,
      omega (arith, record-length.ensures, word2.ensures),
    )
