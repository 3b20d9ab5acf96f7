-- `heads::lay_head` meets its contract: a whole head is written over its part, by a law of laying. Assumes nothing.
use mathlib.Core.Path.{ap, ◌∙◌}
use native.Mathlib.Omega.{arith}
use Rattle.laying.specs.Lays.{lay}
use Rattle.laying.proofs.Laws.{lay-mid}
use Rattle.heads.proofs.lay_head.Goals as goal

pub returns-then-at-out : goal.returns-then-at-out
returns-then-at-out c =
    lay-mid _ _ 6 _ (omega arith) c.copy_from_slice.ensures.len
    ∙ ap (lay c.args.out.now c.args.at) (c.copy_from_slice.ensures.after ∙ c.head-head.ensures)
