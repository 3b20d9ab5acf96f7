-- Demand 1, of every answer. Assumes nothing.
use Rattle.std.specs.Prelude.{Ok, Err}
use mathlib.Core.Path.{◌≡◌, refl}
use mathlib.Core.Bool.{false, true≢false, cond}
use mathlib.Core.List.{List}
use Prim.Native.Nat.{ℕ}
use lib.ListN.{length, replicate}
use lib.Dec.{eqb, ltb}
use Rattle.answers.specs.Answers.{number}
use Rattle.answers.specs.Answers.{Verdict}
use Rattle.wire.specs.Numbers.{Bytes}
use Rattle.records.specs.Record.{deep, tree}
use Rattle.rast.specs.Path.{MSel}
use Rattle.rast.specs.Operation.{Operation}
use Rattle.rast.specs.Mod.{name_of}
use Rattle.rast.proofs.Tests.{by-test, by-option}
use Rattle.outcome.specs.FullTable.{full_table}
use Rattle.outcome.specs.Outcome.{Outcome, is_sound, admitted, output, shorten}

module _ (op : Operation) (card root out : Bytes) (work : List ℕ) where
  abbrev O : Outcome
  O = shorten op card root out work

  -- once a card is admitted all work words are zero, however many a table takes, and else they are as they were; a refusal leaves the out buffer
  abbrev Left : Type 0
  Left =
      (O.work ≡ cond (is_sound (admitted op card root (length work))) (replicate (length work) 0) work)
      × (eqb (number O.answer) 0 ≡ false → O.out ≡ out)

  pub left : Left
  unfolding shorten
  left = go (admitted op card root (length work)) refl
    where
      go : (v : Verdict) → admitted op card root (length work) ≡ v → Left
      go (Err a) e = rw e (refl, λ h. refl)
      go (Ok _) e =
          by-option (full_table op (op.most_pairs (length work)) (deep (tree card)) (tree card) (MSel (tree root) (name_of (tree card))) 0)
          (λ t. by-test (ltb (length out) (length (output op card root out work)))
          (λ u. rw (e, t, u) (refl, λ h. refl))
          (λ u. rw (e, t, u) (refl, λ h. absurd (true≢false h))))
          (λ place t. rw (e, t) (refl, λ h. refl))
