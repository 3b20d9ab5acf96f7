-- An answer's length or place is under 2 ^ 32, so that it stands whole in the packed number. Assumes nothing.
use Rattle.std.specs.Prelude.{Ok, Err}
use mathlib.Core.Path.{◌≡◌, refl, ap}
use mathlib.Core.Bool.{Bool}
use mathlib.Core.List.{List}
use Prim.Native.Nat.{ℕ, ◌+◌, ◌*◌, ◌-◌, ◌<◌, ◌≤◌}
use native.Mathlib.Omega.{arith}
use lib.ListN.{length, drop, length-take, length-drop}
use lib.Dec.{ltb}
use Rattle.answers.specs.declared.Refusal.TheVariants.{FullTable}
use Rattle.answers.specs.Answers.{Verdict}
use Rattle.answers.specs.Answers.{number, value, packed}
use Rattle.answers.proofs.Plain.{packed-plain}
use Rattle.wire.specs.Numbers.{Bytes, AreBytes}
use Rattle.records.specs.Record.{encode, tree, deep}
use Rattle.records.proofs.Tree.{encode-six}
use Rattle.rast.specs.Path.{MSel}
use Rattle.rast.specs.Operation.{Operation, shortening}
use Rattle.rast.specs.Mod.{name_of}
use Rattle.rast.proofs.Tests.{by-test, by-option}
use Rattle.size.proofs.Bound.{card-most}
use Rattle.outcome.specs.FullTable.{full_table}
use Rattle.outcome.specs.Outcome.{output, admitted, shorten}
use Rattle.outcome.proofs.Places.{admitted-place}
use Rattle.outcome.proofs.Accepted.{admitted-sound}
use Rattle.outcome.proofs.Full.{full-answer}

module _ (again : Bool) (card root out : Bytes) (work : List ℕ) (b : AreBytes card) where
  abbrev O : Operation
  O = shortening again

  -- a full table's place lies in the card
  full-small : (place : ℕ) → (shorten O card root out work).answer ≡ Err (FullTable place) → place ≤ length card
  full-small place h =
      let f = full-answer O refl card root out work b place h in
      let s = ap length f.stands in
      let t = length-take (length (encode f.found)) (drop place card) in
      let d = length-drop place card in
      let l = encode-six f.found in
      omega arith

  pub value-small : value (shorten O card root out work).answer < 4294967296
  unfolding shorten
  value-small = go (admitted O card root (length work)) refl
    where
      go : (v : Verdict) → admitted O card root (length work) ≡ v → value (shorten O card root out work).answer < 4294967296
      go (Err a) e =
          let p : value (Err a) ≤ 32768 = rw e at (admitted-place again card root (length work)) in
          rw e (omega arith)
      go (Ok _) e =
          let s = admitted-sound O card root (length work) e in
          by-option (full_table O (O.most_pairs (length work)) (deep (tree card)) (tree card) (MSel (tree root) (name_of (tree card))) 0)
          (λ t. by-test (ltb (length out) (length (output O card root out work)))
          (λ r. rw (e, t, r) (omega arith))
          (λ r. let l = card-most again (tree root) card b s.card-sound in let m = s.card-length in rw (e, t, r) (omega arith)))
          (λ x t. let l = full-small x (rw (e, t) refl) in let m = s.card-length in rw (e, t) (omega arith))

  -- THE LAW
  pub answer-plain : packed (shorten O card root out work).answer
      ≡ number (shorten O card root out work).answer * 4294967296 + value (shorten O card root out work).answer
  answer-plain = packed-plain (shorten O card root out work).answer value-small
