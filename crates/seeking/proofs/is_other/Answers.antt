-- `seeking::is_other` meets its contract, test by test. Assumes nothing.
use Rattle.chains.proofs.Tests.{other-unbased, other-prefix, other-sought-prefix, other-paths}
use Rattle.seeking.proofs.is_other.Goals as goal

pub returns-in_default : goal.returns-in_default
returns-in_default c = other-unbased _ _ (λ v e. c.in_default.not-Based v e)

pub returns-then-w-eq0 : goal.returns-then-w-eq0
returns-then-w-eq0 c =
    let args = c.args in
    let if1 = c.if-w-eq0 in
    other-prefix args.want args.w _ c.in-Based.is if1.true

pub returns-then-v-eq0 : goal.returns-then-v-eq0
returns-then-v-eq0 c =
    let args = c.args in
    let if1 = c.if-w-eq0 in
    let if2 = c.if-v-eq0 in
    other-sought-prefix args.want args.w _ c.in-Based.is if1.false if2.true

pub returns : goal.returns
returns c =
    let args = c.args in
    let if1 = c.if-w-eq0 in
    let if2 = c.if-v-eq0 in
    other-paths args.want args.w _ c.in-Based.is if1.false if2.false
