-- `reading::may_end` meets its contract. Assumes nothing.
use mathlib.Core.Path.{sym}
use Rattle.reading.proofs.Rows.{ends-again, ends-fields}
use Rattle.reading.proofs.may_end.Goals as goal

pub returns-then-row-ge-MANY : goal.returns-then-row-ge-MANY
returns-then-row-ge-MANY c = sym (ends-again _ c.if-row-ge-MANY.true)

pub returns : goal.returns
returns c = sym (ends-fields _ c.if-row-ge-MANY.false)
