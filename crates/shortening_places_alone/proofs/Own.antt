-- The promise of a call with a list and work words of its own. Assumes nothing.
use Rattle.std.specs.Prelude.{Result, Ok, Err}
use mathlib.Core.Path.{◌≡◌, ◌∙◌}
use mathlib.Core.List.{List}
use Prim.Native.Nat.{ℕ, ◌/◌, ◌<◌, ◌≤◌, min}
use lib.ListN.{length, get_or, replicate}
use Rattle.answers.specs.declared.Refusal.{Refusal}
use Rattle.answers.specs.Answers.{Verdict}
use Rattle.wire.specs.Numbers.{Bytes}
use Rattle.rast.specs.Operation.{upstream}
use Rattle.outcome.specs.Outcome.{admitted}
use Rattle.outcome.proofs.Accepted.{admitted-alike}
use Rattle.operation.specs.declared.Pass.{Pass}
use Rattle.operation.specs.Passes.{repeats, asked}
use Rattle.chains.specs.Chains.{room}
use Rattle.placing.specs.declared.Listed.{Listed}
use Rattle.placing.specs.Placing.{placing, placed}
use Rattle.placed.proofs.Sound.{FullAt, few-full}
use Rattle.shortening.specs.Shortened.{Admitted}
use Rattle.shortening_places.specs.Placed.{Alone}
use Rattle.shortening_places.proofs.Kept.{promised, made, refused, answered}
use Rattle.shortening_alone.proofs.Enough.{enough}

abbrev own-words : List ℕ
own-words = replicate 2048 0

module _ (pass : Pass) (card root out : Bytes) (list : List ℕ) (bc : (i : ℕ) → get_or card i 0 < 256) (br : (i : ℕ) → get_or root i 0 < 256) where
  pub alone-refused : (v : Verdict) → v ≡ admitted upstream card root 2048 → {x : Result Listed Refusal} (a : Refusal) → x ≡ Err a
      → v ≡ Err a → Alone pass card root out list x out list
  alone-refused v e a q h = answered (refused pass card root out own-words list bc br v e a q h)

  module _ (is-admitted : Admitted card root) where
    admits : admitted (asked pass) card root 2048 ≡ Ok tt
    admits = admitted-alike (repeats pass) card root 2048 ∙ is-admitted

    pub alone-kept : (words : List ℕ) → min (length card / 18) 512 ≤ room words → room words ≤ 512 → (r : Result Listed Refusal) (out' : Bytes) (words' list' : List ℕ)
        → placing r out' words' list' ≡ placed pass card root words list out → Alone pass card root out list r out' list'
    alone-kept words l m r out' words' list' o =
        answered
        (promised pass card root out own-words list r out' own-words list' bc br
        (made pass card root out own-words list bc br admits words
        (enough (FullAt pass card root 2048 admits bc br) (length card) (few-full pass card root 2048 admits bc br) (room words) l m) r out' words' list' o))
