-- `fitting::is_roomy` meets its contract, test by test. Assumes nothing.
use mathlib.Core.Path.{sym}
use native.Mathlib.Omega.{arith}
use lib.Seq.{length-take-le}
use Rattle.prefix.specs.Prefix.{scope_of}
use Rattle.fitting.proofs.Tests.{roomy-full, roomy-card, roomy-grown, roomy-uses, roomy-is, own_room}
use Rattle.fitting.proofs.is_roomy.Goals as goal

pub returns-then-most-pairs : goal.returns-then-most-pairs
returns-then-most-pairs c =
    let args = c.args in
    let room = c.room-most in
    let if1 = c.if-most-pairs in
    roomy-full (scope_of args.scope.now) args.lent args.grown args.pairs args.work.now _ room.ensures
    if1.true

pub returns-then-lent-scope : goal.returns-then-lent-scope
returns-then-lent-scope c =
    let args = c.args in
    let room = c.room-most in
    let if1 = c.if-most-pairs in
    let if2 = c.if-lent-scope in
    roomy-card (scope_of args.scope.now) args.lent args.grown args.pairs args.work.now room.ensures
    if1.false if2.true

pub returns-then-over-grown : goal.returns-then-over-grown
returns-then-over-grown c =
    let args = c.args in
    let room = c.room-most in
    let if1 = c.if-most-pairs in
    let if2 = c.if-lent-scope in
    let if3 = c.if-over-grown in
    roomy-grown (scope_of args.scope.now) args.lent args.grown args.pairs args.work.now room.ensures
    if1.false if2.false if3.true

pub slice_bounds-uses_most-end : goal.slice_bounds-uses_most-end
slice_bounds-uses_most-end c =
    let own-words = c.own_words-k in
    sym (length-take-le _ _ (omega (arith, own-words.ensures)))

pub uses_most-requires : goal.uses_most-requires
uses_most-requires c =
    let args = c.args in
    let room = c.room-most in
    let if1 = c.if-most-pairs in
    let own-words = c.own_words-k in
    own_room args.work.now args.pairs _ room.ensures if1.false own-words.ensures

pub returns-then-over-grown-2 : goal.returns-then-over-grown-2
returns-then-over-grown-2 c =
    let args = c.args in
    let room = c.room-most in
    let if1 = c.if-most-pairs in
    let if2 = c.if-lent-scope in
    let if3 = c.if-over-grown in
    let own-words = c.own_words-k in
    let uses-most = c.uses_most in
    let if4 = c.if-over-grown-2 in
    roomy-uses (scope_of args.scope.now) args.lent args.grown args.pairs args.work.now room.ensures
    if1.false if2.false if3.false own-words.ensures uses-most.ensures if4.true

pub returns : goal.returns
returns c =
    let args = c.args in
    let room = c.room-most in
    let if1 = c.if-most-pairs in
    let if2 = c.if-lent-scope in
    let if3 = c.if-over-grown in
    let own-words = c.own_words-k in
    let uses-most = c.uses_most in
    let if4 = c.if-over-grown-2 in
    let has-few = c.has_few in
    roomy-is (scope_of args.scope.now) args.lent args.grown args.pairs args.work.now room.ensures
    if1.false if2.false if3.false own-words.ensures uses-most.ensures if4.false has-few.ensures
