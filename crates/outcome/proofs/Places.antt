-- How large the place of an answer is. Assumes nothing.
use Rattle.std.specs.Prelude.{Ok, Err}
use mathlib.Core.Path.{◌≡◌, refl}
use mathlib.Core.Bool.{Bool, true, false, not, cond}
use Prim.Native.Nat.{ℕ, ◌≤◌}
use native.Mathlib.Omega.{arith}
use lib.ListN.{length}
use lib.Dec.{ltb}
use borrow.Author.Tests.{ltb-false}
use Rattle.answers.specs.Answers.{value}
use Rattle.answers.specs.Answers.{Verdict}
use Rattle.wire.specs.Numbers.{Bytes}
use Rattle.records.specs.Kinds.{mod'}
use Rattle.records.specs.Reading.{reading}
use Rattle.records.proofs.Faults.{Within, reading-within}
use Rattle.rast.specs.Operation.{shortening}
use Rattle.outcome.specs.Outcome.{good_root, admitted}

-- the place of a refusal
abbrev pub place : Verdict → ℕ
place (Ok _) = 0
place (Err a) = value (Err a)

within-place : (m : ℕ) (v : Verdict) → Within m v → place v ≤ m
unfolding Within
within-place m (Ok _) w = omega arith
within-place m (Err a) w = w.1

picked : (m : ℕ) (t : Bool) (v w : Verdict) → place v ≤ m → (t ≡ false → place w ≤ m) → place (cond t v w) ≤ m
picked m true v w p q = p
picked m false v w p q = q refl

-- it is within the longest card
pub admitted-place : (again : Bool) (card root : Bytes) (words : ℕ) → place (admitted (shortening again) card root words) ≤ 32768
unfolding admitted
admitted-place again card root words =
    picked 32768 (ltb words 2048) _ _ (omega arith)
    (λ t. picked 32768 (ltb 32768 (length card)) _ _ (omega arith)
    (λ l. picked 32768 (not (good_root (shortening again) root)) _ _ (omega arith)
    (λ t. let i = within-place (length card) (reading 48 mod' card) (reading-within 48 mod' card) in let k = ltb-false 32768 (length card) l in omega arith)))
