-- `comparing::same_base` meets its contract, test by test. Assumes nothing.
use Rattle.prefix.specs.Prefix.{scope_of}
use Rattle.comparing.proofs.Bases.{base-both-prefix, base-left, base-right, base-tags, base-paths}
use Rattle.comparing.proofs.same_base.Goals as goal

pub returns-then-b-eq0 : goal.returns-then-b-eq0
returns-then-b-eq0 c =
    let args = c.args in
    let if1 = c.if-a-eq0 in
    let if2 = c.if-b-eq0 in
    base-both-prefix (scope_of args.scope.now) args.v args.w if1.true if2.true

pub returns-then-a-eq0 : goal.returns-then-a-eq0
returns-then-a-eq0 c =
    let args = c.args in
    let is-prefix = c.is_prefix in
    let if1 = c.if-a-eq0 in
    let if2 = c.if-b-eq0 in
    let record-at = c.record_at in
    base-left (scope_of args.scope.now) args.v args.w _ _ is-prefix.ensures if1.true if2.false
    record-at.ensures

pub returns-then-b-eq0-2 : goal.returns-then-b-eq0-2
returns-then-b-eq0-2 c =
    let args = c.args in
    let is-prefix2 = c.is_prefix-then-b-eq0-2 in
    let if1 = c.if-a-eq0 in
    let if3 = c.if-b-eq0-2 in
    let record-at2 = c.record_at-then-b-eq0-2 in
    base-right (scope_of args.scope.now) args.v args.w _ _ is-prefix2.ensures if1.false if3.true
    record-at2.ensures

pub returns-then-v-w : goal.returns-then-v-w
returns-then-v-w c =
    let args = c.args in
    let if1 = c.if-a-eq0 in
    let if3 = c.if-b-eq0-2 in
    let if4 = c.if-v-w in
    base-tags (scope_of args.scope.now) args.v args.w if1.false if3.false if4.true

pub returns : goal.returns
returns c =
    let args = c.args in
    let if1 = c.if-a-eq0 in
    let if3 = c.if-b-eq0-2 in
    let if4 = c.if-v-w in
    let record-at3 = c.record_at-2 in
    let record-at4 = c.record_at-3 in
    let same-path = c.same_path in
    base-paths (scope_of args.scope.now) args.v args.w if1.false if3.false if4.false _ _ _
    record-at3.ensures record-at4.ensures same-path.ensures
