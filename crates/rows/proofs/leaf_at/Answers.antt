-- `rows::leaf_at` meets its contract. Assumes nothing.
use Rattle.rows.proofs.Runs.{leaf-none, leaf-kept, leaf-text}
use Rattle.rows.proofs.leaf_at.Goals as goal

pub returns-in-0 : goal.returns-in-0
returns-in-0 c = λ k. rw c.in-0.is (leaf-none k)

pub returns-in-2 : goal.returns-in-2
returns-in-2 c = λ k. rw c.in-2.is (leaf-kept k)

pub returns-in_default : goal.returns-in_default
returns-in_default c = λ k. leaf-text c.args.p c.in_default.in_default-own.rest.0.1 c.in_default.in_default-own.rest.1 c.requires k
