-- The public call's promise, packed. Assumes nothing.
use mathlib.Core.Path.{◌≡◌, ap, ◌∙◌}
use mathlib.Core.List.{List}
use Prim.Native.Nat.{ℕ, ◌<◌}
use lib.ListN.{get_or}
use Rattle.answers.specs.Answers.{Answer}
use Rattle.answers.specs.Answers.{packed}
use Rattle.wire.specs.Numbers.{Bytes}
use Rattle.wire.proofs.Numbers.{are-bytes}
use Rattle.operation.specs.declared.Pass.{Pass}
use Rattle.operation.specs.Passes.{repeats, asked}
use Rattle.outcome.specs.Outcome.{Outcome, shorten}
use Rattle.shortening.specs.Shortened.{Promise, Answered}
use Rattle.shortening.proofs.Kept.{answered}
use Rattle.packing.proofs.Plain.{value-small, answer-plain}
use Rattle.packing.specs.Packed.{PackedOutcome, PackedPromise}

module _ (pass : Pass) (card root out : Bytes) (work : List ℕ) where
  abbrev Due : Outcome
  Due = shorten (asked pass) card root out work

  module _ (b : (i : ℕ) → get_or card i 0 < 256) (a : Answer) (out' : Bytes) (r : ℕ) (e : r ≡ packed a) where
    pub packs : Answered pass card root Due a out' → PackedOutcome pass card root Due r out'
    packs p =
        record {
          answer-is = e ∙ ap packed p.answer-is ∙ answer-plain (repeats pass) card root out work (are-bytes card b);
          whole = value-small (repeats pass) card root out work (are-bytes card b);
          out-is = p.out-is;
          names = λ n h. p.names n (p.answer-is ∙ h);
          bound = λ n h. p.bound n (p.answer-is ∙ h);
        }

    pub packs-promise : (work' : List ℕ) → Promise pass card root out work a out' work' → PackedPromise pass card root out work r out' work'
    packs-promise work' p = record { packed = packs (answered p); work-is = ap (λ (o : Outcome). o.work) p.fixed }
