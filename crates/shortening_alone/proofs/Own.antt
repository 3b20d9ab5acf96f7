-- The promise of a call with work words of its own. Assumes nothing.
use Rattle.std.specs.Prelude.{Ok, Err}
use mathlib.Core.Path.{◌≡◌, ap, ◌∙◌}
use mathlib.Core.List.{List}
use Prim.Native.Nat.{ℕ, ◌/◌, ◌<◌, ◌≤◌, min}
use lib.ListN.{length, get_or, replicate}
use Rattle.answers.specs.Answers.{Answer}
use Rattle.answers.specs.declared.Refusal.{Refusal}
use Rattle.answers.specs.Answers.{Verdict}
use Rattle.wire.specs.Numbers.{Bytes}
use Rattle.rast.specs.Operation.{upstream}
use Rattle.outcome.specs.Outcome.{admitted, shorten}
use Rattle.outcome.proofs.Accepted.{admitted-alike}
use Rattle.operation.specs.declared.Pass.{Pass}
use Rattle.operation.specs.declared.Shortening.{Shortening}
use Rattle.operation.specs.Passes.{repeats, asked}
use Rattle.operation.specs.Operations.{pass_of, operation_of, plain_of, weight_of}
use Rattle.operation.proofs.Lawful.{pass-plain}
use Rattle.operation.proofs.Weights.{plain-weight}
use Rattle.chains.specs.Chains.{room}
use Rattle.measuring.specs.Measured.{output, whole_output}
use Rattle.measured.proofs.Sound.{FullAt, few-full}
use Rattle.shortening.specs.Shortened.{answer_of, Alone, Admitted}
use Rattle.shortening.proofs.Kept.{promised, made, refused, answered}
use Rattle.shortening_alone.proofs.Enough.{enough}

abbrev own-words : List ℕ
own-words = replicate 2048 0

module _ (pass : Pass) (card root out : Bytes) (bc : (i : ℕ) → get_or card i 0 < 256) (br : (i : ℕ) → get_or root i 0 < 256) where
  pub alone-refused : (v : Verdict) → v ≡ admitted upstream card root 2048 → {r : Answer} (a : Refusal) → r ≡ Err a → v ≡ Err a → Alone pass card root out r out
  alone-refused v e a q h = answered (refused pass card root out own-words bc br v e a q h)

  module _ (is-admitted : Admitted card root) (op : Shortening) (p : op ≡ plain_of pass) where
    admits : admitted (operation_of op) card root 2048 ≡ Ok tt
    admits = admitted-alike (repeats (pass_of op)) card root 2048 ∙ is-admitted

    pub alone-kept : (words : List ℕ) → min (length card / 18) 512 ≤ room words → room words ≤ 512 → (w : Answer) (out' : Bytes) (words' : List ℕ)
        → output w out' words' ≡ whole_output op card root words out → (a : Answer) → a ≡ answer_of w (length out') → Alone pass card root out a out'
    alone-kept words l m w out' words' o a f =
        answered
        (promised pass card root out own-words a out' own-words bc br
        (rw f (made op (ap weight_of p ∙ plain-weight pass) card root out own-words bc br admits words
        (enough (FullAt op card root 2048 admits bc br) (length card) (few-full op card root 2048 admits bc br) (room words) l m) w out' words' o
        ∙ ap (λ (q : Pass). shorten (asked q) card root out own-words) (ap pass_of p ∙ pass-plain pass))))
