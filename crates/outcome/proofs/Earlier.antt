-- 02, request 5: what was not refused by 8 before is answered as before, whatever is lent; and more words change nothing of an acceptance. Assumes nothing.
use Rattle.std.specs.Prelude.{Ok, Err}
use mathlib.Core.Path.{◌≡◌, refl, ap, sym, ◌∙◌}
use mathlib.Core.List.{List}
use mathlib.Core.Bool.{Bool}
use mathlib.Core.Option.{Option, none, none-ne-some}
use Prim.Native.Nat.{ℕ, zero, suc, ◌≤◌, ◌<◌}
use native.Mathlib.Omega.{arith}
use lib.ListN.{length, replicate}
use lib.Dec.{ltb}
use borrow.Author.Tests.{ltb-false, le-ltb}
use Rattle.answers.specs.Answers.{number}
use Rattle.answers.specs.declared.Refusal.TheVariants.{FullTable}
use Rattle.answers.specs.Answers.{Verdict}
use Rattle.wire.specs.Numbers.{Bytes}
use Rattle.records.specs.Record.{Record, Records, nil, ◌▸◌, deep, is, tree}
use Rattle.rast.specs.Path.{Path, MSel}
use Rattle.rast.specs.Operation.{Operation, shortening}
use Rattle.rast.specs.Mod.{ExternMod?, name_of}
use Rattle.rast.proofs.Tests.{by-test, by-option}
use Rattle.factor_paths.specs.Mapping.{pairs}
use Rattle.factor_paths.specs.Apply.{mappings}
use Rattle.outcome.specs.FullTable.{first_in, full_table}
use Rattle.outcome.specs.Outcome.{Outcome, admitted, shorten}
use Rattle.outcome.specs.Earlier.{earlier}
use Rattle.outcome.proofs.Accepted.{admitted-sound, Passed, passed, passed-made}
use Rattle.outcome.proofs.Full.{in_decl}

-- where one search finds nothing in records, another that finds no more finds nothing
first-none : (f g : Record → ℕ → Option ℕ) → ((d : Record) (at : ℕ) → f d at ≡ none → g d at ≡ none)
    → (c : Records) (at : ℕ) → first_in f c at ≡ none → first_in g c at ≡ none
unfolding first_in
first-none f g h nil at e = refl
first-none f g h (d ▸ c) at e =
    by-option (f d at)
    (λ t. rw (h d at t) (first-none f g h c _ (rw t at e)))
    (λ x t. absurd (none-ne-some x (sym (rw t at e))))

module _ (op : Operation) (most more : ℕ) (l : most ≤ more) where
  -- by the depth that is left
  abbrev Law : ℕ → Type 0
  Law n = (m : Record) (p : Path) (at : ℕ) → full_table op most n m p at ≡ none → full_table op more n m p at ≡ none

  decl-none : (n : ℕ) → Law n → (p : Path) (d : Record) (at : ℕ) → in_decl op most n p d at ≡ none → in_decl op more n p d at ≡ none
  decl-none n law p d at e = by-test (is 0x62 d) (λ t. rw t (law _ _ _ (rw t at e))) (λ t. rw t)

  -- where there may be more pairs, no table is full that was not
  pub more-none : (n : ℕ) → Law n
  unfolding full_table
  more-none zero m p at e = refl
  more-none (suc n) m p at e =
      by-test (ExternMod? m) (λ t. rw t)
      (λ t. by-test (ltb most (pairs (mappings op m p).provenance))
      (λ b. absurd (none-ne-some at (sym (rw (t, b) at e))))
      (λ b. let q = ltb-false most (pairs (mappings op m p).provenance) b in
      rw (t, le-ltb more (pairs (mappings op m p).provenance) (omega (arith, q, l)))
      (first-none (in_decl op most n p) (in_decl op more n p) (decl-none n (more-none n) p) _ _ (rw (t, b) at e))))

module _ (again : Bool) (card root out : Bytes) (work : List ℕ) where
  abbrev O : Operation
  O = shortening again

  -- a card that is admitted comes with words for 512 pairs
  enough : admitted O card root (length work) ≡ Ok tt → 512 ≤ O.most_pairs (length work)
  enough e = let w = (admitted-sound O card root (length work) e).enough in omega (arith, w)

  -- THE LAW: a call that 8 was not the answer to is answered as before, and what is lent is after it as before
  pub unless-full : ((place : ℕ) → (earlier O card root out work).answer ≡ Err (FullTable place) → ⊥)
      → shorten O card root out work ≡ earlier O card root out work
  unfolding shorten
  unless-full h = go (admitted O card root (length work)) refl
    where
      go : (v : Verdict) → admitted O card root (length work) ≡ v → shorten O card root out work ≡ earlier O card root out work
      go (Err a) e = rw e
      go (Ok _) e =
          by-option (full_table O 512 (deep (tree card)) (tree card) (MSel (tree root) (name_of (tree card))) 0)
          (λ t. rw (
            e,
            t,
            more-none O 512 (O.most_pairs (length work)) (enough e) (deep (tree card)) (tree card)
                (MSel (tree root) (name_of (tree card))) 0 t,
          ))
          (λ place t. absurd (h place (rw (e, t))))

  -- so is every card that was accepted
  pub as_before : (n : ℕ) → (earlier O card root out work).answer ≡ Ok n → shorten O card root out work ≡ earlier O card root out work
  as_before n a = unless-full (λ place f. let z = ap number (sym a ∙ f) in omega (arith, z))

  -- and with fewer than 2,052 words, every card
  pub same-limit : length work < 2052 → shorten O card root out work ≡ earlier O card root out work
  unfolding shorten
  same-limit l = go (admitted O card root (length work)) refl
    where
      go : (v : Verdict) → admitted O card root (length work) ≡ v → shorten O card root out work ≡ earlier O card root out work
      go (Err a) e = rw e
      go (Ok _) e =
          let w = (admitted-sound O card root (length work) e).enough in
          let q : O.most_pairs (length work) ≡ 512 = omega (arith, w, l) in
          rw (e, q)

-- A card that is accepted is accepted with more words, and with the same output
pub with-more : (again : Bool) (card root out : Bytes) (work more : List ℕ) → length work ≤ length more → (n : ℕ)
    → (shorten (shortening again) card root out work).answer ≡ Ok n
    → shorten (shortening again) card root out more
    ≡ record { answer = Ok n; out = (shorten (shortening again) card root out work).out; work = replicate (length more) 0 }
with-more again card root out work more l n h =
    let p : Passed O card root out work n = passed O card root out work n h in
    let w = ltb-false (length work) 2048 p.enough in
    let q : Passed O card root out more n =
    record {
      enough = le-ltb (length more) 2048 (omega (arith, w, l));
      brief = p.brief;
      rooted = p.rooted;
      sound = p.sound;
      table = more-none O (O.most_pairs (length work)) (O.most_pairs (length more)) (omega (arith, l)) (deep (tree card)) (tree card)
          (MSel (tree root) (name_of (tree card))) 0 p.table;
      room = p.room;
    } in
    let a = passed-made O card root out work n p in
    let z = sym h ∙ ap (λ (o : Outcome). o.answer) a in
    passed-made O card root out more n q ∙ rw (a, z)
  where
    O : Operation
    O = shortening again
