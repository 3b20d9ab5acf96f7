-- The refusals 1 to 3 in their order, as the code has them in hand. Assumes nothing.
use Rattle.std.specs.Prelude.{Ok, Err}
use mathlib.Core.Path.{◌≡◌, refl, ◌∙◌}
use mathlib.Core.Bool.{not, cond}
use Prim.Native.Nat.{ℕ, ◌<◌, ◌≤◌}
use lib.ListN.{length}
use borrow.Author.Tests.{lt-leb, le-leb, lt-ltb, le-ltb}
use Rattle.answers.specs.declared.Refusal.TheVariants.{ShortWork, LongCard, BadRoot}
use Rattle.answers.specs.Answers.{Verdict}
use Rattle.wire.specs.Numbers.{Bytes}
use Rattle.records.specs.Kinds.{mod', path}
use Rattle.records.specs.Reading.{reading}
use Rattle.rast.specs.Operation.{upstream}
use Rattle.reading.specs.Reads.{root_then}
use Rattle.outcome.specs.Outcome.{is_sound, admitted}

module _ (card root : Bytes) (words : ℕ) where
  pub work-short : words < 2048 → Err ShortWork ≡ admitted upstream card root words
  unfolding admitted
  work-short h = rw (lt-ltb words 2048 h)

  pub card-long : 2048 ≤ words → 32768 < length card → Err LongCard ≡ admitted upstream card root words
  unfolding admitted
  card-long h g = rw (le-ltb words 2048 h, lt-ltb 32768 (length card) g)

  pub root-long : 2048 ≤ words → length card ≤ 32768 → 256 < length root → Err BadRoot ≡ admitted upstream card root words
  unfolding admitted
  root-long h g l = rw (le-ltb words 2048 h, le-ltb 32768 (length card) g, lt-leb (length root) 256 l)

  pub both_read : (v : Verdict) → 2048 ≤ words → length card ≤ 32768 → length root ≤ 256 → v ≡ root_then (reading 8 path root) (reading 48 mod' card)
      → v ≡ admitted upstream card root words
  unfolding admitted
  both_read v h g l e =
      rw (le-ltb words 2048 h, le-ltb 32768 (length card) g, le-leb (length root) 256 l) (e ∙ go (reading 8 path root) (reading 48 mod' card))
    where
      go : (r x : Verdict) → root_then r x ≡ cond (not (is_sound r)) (Err BadRoot) x
      go (Ok _) x = refl
      go (Err a) x = refl
