-- `seeking::is_wanted` meets its contract: the number of the base, that of the name, the name, then the base. Assumes nothing.
use Rattle.prefix.specs.Prefix.{scope_of}
use Rattle.chains.proofs.Tests.{wanted-passed, wanted-number, wanted-other, wanted-same}
use mathlib.Core.Path.{ap}
use mathlib.Core.Bool.{not}
use Rattle.seeking.proofs.is_wanted.Goals as goal

pub returns-then-is_other : goal.returns-then-is_other
returns-then-is_other c =
    let args = c.args in
    let word = c.word-w in
    let is-other = c.is_other in
    let if1 = c.if-is_other in
    wanted-passed (scope_of args.scope.now) args.work.now args.name.now.bytes.now args.name.now.number args.want _ _ _
    word.ensures.0 is-other.ensures if1.true

pub returns-then-v-name : goal.returns-then-v-name
returns-then-v-name c =
    let args = c.args in
    let word2 = c.word-v in
    let if2 = c.if-v-name in
    wanted-number (scope_of args.scope.now) args.work.now args.name.now.bytes.now args.name.now.number args.want _ _
    word2.ensures.0 if2.true

pub returns-then-not-same_name : goal.returns-then-not-same_name
returns-then-not-same_name c =
    let args = c.args in
    let word2 = c.word-v in
    let if2 = c.if-v-name in
    let word3 = c.word in
    let part = c.part-own in
    let same_name = c.same_name in
    let if3 = c.if-not-same_name in
    wanted-other (scope_of args.scope.now) args.work.now args.name.now.bytes.now args.name.now.number args.want _ _
    word2.ensures.0 if2.false _ _ _ word3.ensures.0 part.ensures same_name.ensures (ap not if3.true)

pub returns : goal.returns
returns c =
    let args = c.args in
    let word2 = c.word-v in
    let if2 = c.if-v-name in
    let word3 = c.word in
    let part = c.part-own in
    let same_name = c.same_name in
    let if3 = c.if-not-same_name in
    let word = c.word-w in
    let has-wanted = c.has_wanted in
    wanted-same (scope_of args.scope.now) args.work.now args.name.now.bytes.now args.name.now.number args.want _ _
    word2.ensures.0 if2.false _ _ _ word3.ensures.0 part.ensures same_name.ensures (ap not if3.false) _ _ word.ensures.0
    has-wanted.ensures
