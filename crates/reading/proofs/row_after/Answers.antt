-- `reading::row_after` meets its contract. Assumes nothing.
use mathlib.Core.Path.{sym}
use Rattle.reading.proofs.Rows.{after-again, after-fields}
use Rattle.reading.proofs.row_after.Goals as goal

pub returns-then-row-ge-MANY : goal.returns-then-row-ge-MANY
returns-then-row-ge-MANY c = sym (after-again _ c.if-row-ge-MANY.true)

pub returns : goal.returns
returns c = sym (after-fields _ c.if-row-ge-MANY.false)
