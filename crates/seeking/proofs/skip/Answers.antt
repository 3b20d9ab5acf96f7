-- `seeking::skip` meets its contract. Assumes nothing.
use Rattle.chains.proofs.Tests.{skip-unbased, skip-prefix, skip-path}
use Rattle.seeking.proofs.skip.Goals as goal

pub returns-in_default : goal.returns-in_default
returns-in_default c =
    let args = c.args in
    let pass = c.pass in
    skip-unbased _ _ _ _ args.want (λ v e. c.in_default.not-Based v e) pass.ensures

pub returns-then-v-eq0 : goal.returns-then-v-eq0
returns-then-v-eq0 c =
    let args = c.args in
    let if1 = c.if-v-eq0 in
    let pass = c.pass-then-v-eq0 in
    skip-prefix _ _ _ _ args.want _ c.in-Based.is if1.true pass.ensures

pub returns : goal.returns
returns c =
    let args = c.args in
    let if1 = c.if-v-eq0 in
    let pass = c.pass-2 in
    skip-path _ _ _ _ args.want _ c.in-Based.is if1.false pass.ensures
