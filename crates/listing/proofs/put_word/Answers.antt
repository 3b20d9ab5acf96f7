-- `listing::put_word` meets its contract. Assumes nothing.
use mathlib.Core.Path.{sym}
use native.Mathlib.Omega.{arith}
use Rattle.laying.proofs.Laws.{lay-set, lay-past}
use Rattle.listing.proofs.put_word.Goals as goal

pub returns-then-i-list : goal.returns-then-i-list
returns-then-i-list c = lay-set _ _ _ c.if-i-list.true

pub returns-else-i-list : goal.returns-else-i-list
returns-else-i-list c = sym (lay-past _ _ _ (omega (arith, c.if-i-list.false)))
