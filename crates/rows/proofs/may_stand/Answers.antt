-- `rows::may_stand` meets its contract. Assumes nothing.
use native.Mathlib.Omega.{arith}
use Rattle.rows.proofs.Runs.{stands-more, stands-none}
use Rattle.rows.proofs.may_stand.Goals as goal

pub returns-in-0-to-3 : goal.returns-in-0-to-3
returns-in-0-to-3 c = c.leaf_at.ensures c.args.k

pub returns-in-4-to-26 : goal.returns-in-4-to-26
returns-in-4-to-26 c = c.place_of.ensures c.args.p (omega arith) (omega arith)

pub returns-in-27-to-31 : goal.returns-in-27-to-31
returns-in-27-to-31 c = let a = c.args in stands-none a.p a.k (omega arith) (omega arith)

pub returns-in_default : goal.returns-in_default
returns-in_default c = let a = c.args in stands-more a.p a.k (omega arith)
