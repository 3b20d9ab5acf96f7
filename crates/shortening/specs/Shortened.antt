-- What the public call promises, of either pass: demands 1 and 2 as one equation with `shorten`, and demand 3. Where the pass is Straight, demand 2's tree is
-- that of 02, request 2. Assumes nothing: these are definitions.
use Rattle.std.specs.Prelude.{◌≡◌, cond, List, ℕ, ◌*◌, ◌≤◌, length, take, replicate, ltb, Ok, Err}
use Rattle.answers.specs.Answers.{Answer}
use Rattle.answers.specs.declared.Refusal.TheVariants.{FullTable, NoSpace}
use Rattle.wire.specs.Numbers.{Bytes}
use Rattle.rast.specs.Operation.{upstream}
use Rattle.size.specs.Bound.{times}
use Rattle.outcome.specs.Outcome.{Outcome, admitted, shorten}
use Rattle.points.specs.Points.{NamesHold}
use Rattle.operation.specs.declared.Pass.{Pass}
use Rattle.operation.specs.Passes.{asked}

-- the answer, with so many bytes lent for the output
abbrev pub answer_of : Answer → ℕ → Answer
answer_of (Err a) lent = Err a
answer_of (Ok n) lent = cond (ltb lent n) (Err NoSpace) (Ok n)

abbrev pub outcome : Answer → Bytes → List ℕ → Outcome
outcome answer out work = record { answer = answer; out = out; work = work }

pub record Promise (pass : Pass) (card root out : Bytes) (work : List ℕ) (answer : Answer) (out' : Bytes) (work' : List ℕ) : Type 0 where
  -- demands 1 and 2: whatever is lent, the answer, the out bytes and the work words are the definition's
  pub fixed : outcome answer out' work' ≡ shorten (asked pass) card root out work
  -- demand 3: where it accepts, every shortened name, looked up, gives back the path that stood there, and nothing else changed
  pub names : (n : ℕ) → answer ≡ Ok n → NamesHold (asked pass) card root (take n out')
  -- 02, request 2: where it accepts, the output is at most 4 times as long as the card, and 42 times by the text
  pub bound : (n : ℕ) → answer ≡ Ok n → n ≤ times (asked pass) * length card

-- the same of the answer and the out bytes alone, where an outcome is due
pub record Answered (pass : Pass) (card root : Bytes) (due : Outcome) (answer : Answer) (out' : Bytes) : Type 0 where
  pub answer-is : answer ≡ due.answer
  pub out-is : out' ≡ due.out
  pub names : (n : ℕ) → answer ≡ Ok n → NamesHold (asked pass) card root (take n out')
  pub bound : (n : ℕ) → answer ≡ Ok n → n ≤ times (asked pass) * length card

-- as if 2,048 work words that are zero were lent
abbrev pub called : Pass → (card root out : Bytes) → Outcome
called pass card root out = shorten (asked pass) card root out (replicate 2048 0)

-- what a call with work words of its own promises; they may be fewer
abbrev pub Alone : Pass → (card root out : Bytes) → Answer → Bytes → Type 0
Alone pass card root out answer out' = Answered pass card root (called pass card root out) answer out'

-- what such a call goes on with: a card and a root that are admitted, which is the same for every pass
abbrev pub Admitted : (card root : Bytes) → Type 0
Admitted card root = admitted upstream card root 2048 ≡ Ok tt
