-- `listing::put` meets its contract: one word behind another. Assumes nothing.
use mathlib.Core.Path.{◌∙◌}
use mathlib.Core.List.{[], ◌∷◌}
use Rattle.laying.proofs.Laws.{lay-behind}
use Rattle.listing.proofs.put.Goals as goal

pub returns : goal.returns
returns c =
    let args = c.args in
    c.put_word-2.ensures
    ∙ rw c.put_word.ensures (lay-behind args.list.now _ (args.at ∷ []) (args.mark ∷ []))
