-- `laying::put_eight` meets its contract, by a law of laying. Assumes nothing.
use mathlib.Core.Path.{ap, ◌∙◌}
use Rattle.wire.proofs.Slices.{part-whole}
use Rattle.laying.specs.Lays.{lay}
use Rattle.laying.proofs.Laws.{lay-mid}
use Rattle.laying.proofs.put_eight.Goals as goal

pub returns : goal.returns
returns c =
    lay-mid _ _ 8 _ c.requires.1 c.copy_from_slice-2.ensures.len
    ∙ ap (lay c.args.out.now c.args.at) (c.copy_from_slice-2.ensures.after ∙ c.copy_from_slice.ensures.after ∙ part-whole c.args.src.now c.args.from 8)
