-- `comparing::base_word` meets its contract. Assumes nothing.
use mathlib.Core.Path.{refl}
use native.Mathlib.Omega.{arith}
use Rattle.comparing.proofs.Bases.{word-prefix, word-path}
use Rattle.comparing.proofs.base_word.Goals as goal

pub returns-then-place-eq0 : goal.returns-then-place-eq0
returns-then-place-eq0 c =
    let if1 = c.if-place-eq0 in
    word-prefix _ _ _ if1.true

pub returns : goal.returns
returns c =
    let if1 = c.if-place-eq0 in
    let record-at = c.record_at in
    let number = c.number in
    word-path _ _ _ _ _ _ (omega arith) if1.false refl record-at.ensures number.ensures
