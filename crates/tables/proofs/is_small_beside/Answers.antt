-- `tables::is_small_beside` meets its contract. Assumes nothing.
use mathlib.Core.Path.{sym}
use native.Mathlib.Omega.{arith}
use Rattle.tables.proofs.Beside.{beside-not, small-not, small_is}
use Rattle.tables.proofs.is_small_beside.Goals as goal

pub returns-then-at-held : goal.returns-then-at-held
returns-then-at-held c = beside-not _ _ _ (λ e. c.if-at-held.true (sym e))

pub returns-then-b-gt64 : goal.returns-then-b-gt64
returns-then-b-gt64 c = small-not _ _ _ _ _ (sym c.if-at-held.false) c.if-b-gt64.true

pub returns : goal.returns
returns c = small_is _ _ _ _ _ (sym c.if-at-held.false) (omega (arith, c.if-b-gt64.false))
