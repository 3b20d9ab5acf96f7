-- `seeking::pass` meets its contract: what is left of the chain has what the whole has. Assumes nothing.
use mathlib.Core.Path.{refl, sym, ◌∙◌}
use mathlib.Core.Bool.{true, false}
use native.Mathlib.Omega.{arith}
use Rattle.chains.specs.Chains.{may_be}
use Rattle.chains.proofs.Tests.{seek-start, seek-none, seek_found, seek-next, link-falls, link-not, may-number, may-placeless, may-not}
use Rattle.seeking.proofs.pass.Goals as goal

pub loop-p-init : goal.loop-p-init
loop-p-init c =
    let args = c.args in
    seek-start (may_be args.work.now args.field args.number) args.work.now args.from _ refl c.requires.0

pub returns-then-w-number : goal.returns-then-w-number
returns-then-w-number c =
    let args = c.args in
    let loop = c.loop-p in
    let loop-test = c.loop-p-test in
    let word = c.word-w in
    let if1 = c.if-w-number in
    seek_found (may_be args.work.now args.field args.number) args.work.now args.from _ loop.invariant loop-test.true true
    (may-number args.work.now args.field args.number _ _ word.ensures.0 if1.true) refl

pub returns-then-w-eq0 : goal.returns-then-w-eq0
returns-then-w-eq0 c =
    let args = c.args in
    let loop = c.loop-p in
    let loop-test = c.loop-p-test in
    let word = c.word-w in
    let if1 = c.if-w-number in
    let if2 = c.if-w-eq0 in
    seek_found (may_be args.work.now args.field args.number) args.work.now args.from _ loop.invariant loop-test.true true
    (may-placeless args.work.now args.field args.number _ _ word.ensures.0 if1.false if2.true) refl

pub loop-p-smaller-then-l-ahead : goal.loop-p-smaller-then-l-ahead
loop-p-smaller-then-l-ahead c =
    let loop-test = c.loop-p-test in
    let o = loop-test.true in omega arith

pub loop-p-preserved-then-l-ahead : goal.loop-p-preserved-then-l-ahead
loop-p-preserved-then-l-ahead c =
    let args = c.args in
    let loop = c.loop-p in
    let loop-test = c.loop-p-test in
    let word = c.word-w in
    let if1 = c.if-w-number in
    let if2 = c.if-w-eq0 in
    let word2 = c.word-l in
    let if3 = c.if-l-ahead in
    seek-next (may_be args.work.now args.field args.number) args.work.now args.from _ loop.invariant loop-test.true false (may-not
    args.work.now args.field args.number _ _ word.ensures.0 if1.false if2.false) refl _
    (sym if3.true ∙ (link-falls args.work.now loop.p (λ z. let o = loop-test.true in omega arith) _ refl loop.invariant.inside _
    word2.ensures.0 (let o = loop-test.true in let e = if3.true in omega arith)))

pub returns-then-ahead-l : goal.returns-then-ahead-l
returns-then-ahead-l c =
    let args = c.args in
    let loop = c.loop-p in
    let loop-test = c.loop-p-test in
    let word = c.word-w in
    let if1 = c.if-w-number in
    let if2 = c.if-w-eq0 in
    let word2 = c.word-l in
    let if4 = c.if-ahead-l in
    seek-none (may_be args.work.now args.field args.number) args.work.now args.from 0
    (seek-next (may_be args.work.now args.field args.number) args.work.now args.from _ loop.invariant loop-test.true false (may-not
    args.work.now args.field args.number _ _ word.ensures.0 if1.false if2.false) refl 0
    (link-not args.work.now loop.p (λ z. let o = loop-test.true in omega arith) _ refl loop.invariant.inside _ word2.ensures.0
    (let l = if4.true in omega arith))) (omega arith)

pub loop-p-smaller : goal.loop-p-smaller
loop-p-smaller c =
    let loop-test = c.loop-p-test in
    let if4 = c.if-ahead-l in
    let l = if4.false in let o = loop-test.true in omega arith

pub loop-p-preserved : goal.loop-p-preserved
loop-p-preserved c =
    let args = c.args in
    let loop = c.loop-p in
    let loop-test = c.loop-p-test in
    let word = c.word-w in
    let if1 = c.if-w-number in
    let if2 = c.if-w-eq0 in
    let word2 = c.word-l in
    let if4 = c.if-ahead-l in
    seek-next (may_be args.work.now args.field args.number) args.work.now args.from _ loop.invariant loop-test.true false (may-not
    args.work.now args.field args.number _ _ word.ensures.0 if1.false if2.false) refl _
    (link-falls args.work.now loop.p (λ z. let o = loop-test.true in omega arith) _ refl loop.invariant.inside _ word2.ensures.0
    (let l = if4.false in let o = loop-test.true in omega arith))

pub returns : goal.returns
returns c =
    let args = c.args in
    let loop = c.loop-p in
    let loop-test = c.loop-p-test in
    seek-none (may_be args.work.now args.field args.number) args.work.now args.from _ loop.invariant loop-test.false
