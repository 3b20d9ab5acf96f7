-- `admission::admit` meets its contract, by the laws of Order and Plain. Assumes nothing.
use mathlib.Core.Path.{sym, ◌∙◌}
use native.Mathlib.Omega.{arith}
use Rattle.admission.proofs.Order.{work-short, card-long, root-long, both_read}
use Rattle.admission.proofs.Plain.{both-sound}
use Rattle.admission.proofs.admit.Goals as goal

pub returns-then-words-lt2048 : goal.returns-then-words-lt2048
returns-then-words-lt2048 c = work-short _ _ _ c.if-words-lt2048.true

pub returns-then-card-gt32768 : goal.returns-then-card-gt32768
returns-then-card-gt32768 c = card-long _ _ _ (omega (arith, c.if-words-lt2048.false)) c.if-card-gt32768.true

pub returns-then-root-gt256 : goal.returns-then-root-gt256
returns-then-root-gt256 c =
    root-long _ _ _ (omega (arith, c.if-words-lt2048.false)) (omega (arith, c.if-card-gt32768.false)) c.if-root-gt256.true

pub returns-then-is_extern : goal.returns-then-is_extern
returns-then-is_extern c =
    both_read _ _ _ _ (omega (arith, c.if-words-lt2048.false)) (omega (arith, c.if-card-gt32768.false)) (omega (arith, c.if-root-gt256.false))
    (both-sound _ _ (sym c.is_plain.ensures ∙ c.if-is_plain.true) (sym c.is_extern.ensures ∙ c.if-is_extern.true))

pub returns : goal.returns
returns c =
    both_read _ _ _ _ (omega (arith, c.if-words-lt2048.false)) (omega (arith, c.if-card-gt32768.false)) (omega (arith, c.if-root-gt256.false))
    c.read_both.ensures
