-- What a call with its answer as one number promises: the public call's promise, with the answer packed. Assumes nothing: these are definitions.
use Rattle.std.specs.Prelude.{◌≡◌, List, ℕ, ◌+◌, ◌*◌, ◌^◌, ◌<◌, ◌≤◌, length, take, Ok}
use Rattle.answers.specs.Answers.{number, value}
use Rattle.wire.specs.Numbers.{Bytes}
use Rattle.operation.specs.declared.Pass.{Pass}
use Rattle.operation.specs.Passes.{asked}
use Rattle.outcome.specs.Outcome.{Outcome, shorten}
use Rattle.shortening.specs.Shortened.{called}
use Rattle.size.specs.Bound.{times}
use Rattle.points.specs.Points.{NamesHold}

-- where an outcome is due
pub record PackedOutcome (pass : Pass) (card root : Bytes) (due : Outcome) (answer : ℕ) (out' : Bytes) : Type 0 where
  -- demands 1 and 2, as the public call has them for its pass; the number times 2 ^ 32, plus the length or place
  pub answer-is : answer ≡ number due.answer * 2 ^ 32 + value due.answer
  -- so the lower 32 bits are the length or place, and the others the number
  pub whole : value due.answer < 2 ^ 32
  pub out-is : out' ≡ due.out
  -- demand 3, and how long an output can be
  pub names : (n : ℕ) → due.answer ≡ Ok n → NamesHold (asked pass) card root (take n out')
  pub bound : (n : ℕ) → due.answer ≡ Ok n → n ≤ times (asked pass) * length card

-- with work words of its own, as if 2,048 were lent
abbrev pub PackedAlone : Pass → (card root out : Bytes) → ℕ → Bytes → Type 0
PackedAlone pass card root out answer out' = PackedOutcome pass card root (called pass card root out) answer out'

-- with lent work words
pub record PackedPromise (pass : Pass) (card root out : Bytes) (work : List ℕ) (answer : ℕ) (out' : Bytes) (work' : List ℕ) : Type 0 where
  pub packed : PackedOutcome pass card root (shorten (asked pass) card root out work) answer out'
  pub work-is : work' ≡ (shorten (asked pass) card root out work).work
