-- The public call's promise with a list, packed. Assumes nothing.
use Rattle.std.specs.Prelude.{Result, Ok, Err}
use mathlib.Core.Path.{◌≡◌, refl, sym, ap, subst, ◌∙◌}
use mathlib.Core.Bool.{Bool, cond}
use mathlib.Core.List.{List}
use Prim.Native.Nat.{ℕ, ◌+◌, ◌*◌, ◌<◌}
use native.Mathlib.Omega.{arith}
use lib.ListN.{length, take, get_or}
use lib.Dec.{eqb, ltb}
use borrow.Author.Tests.{eq-eqb, ne_eqb}
use Rattle.answers.specs.Answers.{Verdict}
use Rattle.answers.specs.Answers.{number, value, packed}
use Rattle.answers.proofs.Plain.{packed-plain, refusal-numbered}
use Rattle.wire.specs.Numbers.{Bytes, AreBytes}
use Rattle.wire.proofs.Numbers.{are-bytes}
use Rattle.records.specs.Record.{tree}
use Rattle.rast.proofs.Tests.{by-test}
use Rattle.outcome.specs.Outcome.{Outcome, admitted, shorten}
use Rattle.outcome.proofs.Accepted.{admitted-sound, refused-number}
use Rattle.places.specs.Places.{Entry}
use Rattle.places.specs.Spots.{ListExact}
use Rattle.places.specs.Listing.{Listing, places, shorten_listing}
use Rattle.places.proofs.Few.{card-few}
use Rattle.operation.specs.declared.Pass.{Pass}
use Rattle.operation.specs.Passes.{repeats, asked}
use Rattle.answers.specs.declared.Refusal.{Refusal}
use Rattle.placing.specs.declared.Listed.{Listed}
use Rattle.shortening_places.specs.Placed.{answer_in, entries_in, Promise, Answered}
use Rattle.shortening_places.proofs.Kept.{answered}
use Rattle.packing.proofs.Plain.{value-small}
use Rattle.packing.specs.PackedPlaces.{PackedListing, PackedPlaces}

module _ (pass : Pass) (card root out : Bytes) (work list : List ℕ) (b : AreBytes card) where
  abbrev L : Listing
  L = shorten_listing (asked pass) card root out work list

  abbrev O : Outcome
  O = shorten (asked pass) card root out work

  abbrev Places : List Entry
  Places = places (asked pass) card root out work list

  -- a length or place stands whole in the packed number
  value-whole : value L.answer < 4294967296
  unfolding shorten_listing
  value-whole =
      let v = value-small (repeats pass) card root out work b in
      by-test (eqb (number O.answer) 0)
      (λ t. by-test (ltb (length list) (2 * length Places)) (λ u. rw (t, u) (omega arith)) (λ u. rw (t, u) v))
      (λ t. rw t v)

  -- and the number of entries in its word
  entries-most : length Places < 4294967296 → L.entries < 4294967296
  unfolding shorten_listing
  entries-most l =
      by-test (eqb (number O.answer) 0)
      (λ t. by-test (ltb (length list) (2 * length Places)) (λ u. rw (t, u) (omega arith)) (λ u. rw (t, u) l))
      (λ t. rw t (omega arith))

  pub entries-whole : L.entries < 4294967296
  unfolding shorten_listing shorten
  entries-whole = go (admitted (asked pass) card root (length work)) refl
    where
      go : (v : Verdict) → admitted (asked pass) card root (length work) ≡ v → L.entries < 4294967296
      go (Err a) e = rw (e, ne_eqb (number (Err a)) 0 (refused-number (asked pass) card root (length work) a e)) (omega arith)
      go (Ok _) e =
          let s = admitted-sound (asked pass) card root (length work) e in
          let f = card-few (repeats pass) (tree root) card b s.card-sound in
          let m = s.card-length in
          entries-most (omega (arith, f, m))

  answer-whole : packed L.answer ≡ number L.answer * 4294967296 + value L.answer
  answer-whole = packed-plain L.answer value-whole

module _ (pass : Pass) (card root out : Bytes) (work list : List ℕ) where
  abbrev Due : Listing
  Due = shorten_listing (asked pass) card root out work list

  module _ (b : (i : ℕ) → get_or card i 0 < 256) (r : Result Listed Refusal) (out' : Bytes) (list' : List ℕ) where
    pub entries_fit : Answered pass card root Due r out' list' → (entries_in r) < 4294967296
    entries_fit p = let e = p.entries-are in let l = entries-whole pass card root out work list (are-bytes card b) in omega (arith, e, l)

    module _ (entries a entries' : ℕ) (e : (a ≡ packed (answer_in r)) × (entries' ≡ cond (eqb (number (answer_in r)) 0) (entries_in r) entries)) where
      pub packs : Answered pass card root Due r out' list' → PackedListing pass card root Due entries a out' list' entries'
      packs p =
          record {
            answer-is = e.0 ∙ ap packed p.answer-is ∙ answer-whole pass card root out work list (are-bytes card b);
            whole = value-whole pass card root out work list (are-bytes card b);
            out-is = p.out-is;
            list-is = p.list-is;
            entries-are = rw (← p.answer-is, ← p.entries-are) e.1;
            names = λ n h. p.names n (p.answer-is ∙ h);
            bound = λ n h. p.bound n (p.answer-is ∙ h);
            exact = λ n h.
                let z : entries' ≡ (entries_in r) =
                e.1 ∙ ap (λ (x : Bool). cond x (entries_in r) entries) (eq-eqb (number (answer_in r)) 0 (ap number (p.answer-is ∙ h))) in
                subst (λ (k : ℕ). ListExact card (take n out') k list') (sym z) (p.exact n (p.answer-is ∙ h));
          }

      pub packs-promise : (work' : List ℕ) → Promise pass card root out work list r out' work' list'
          → PackedPlaces pass card root out work list entries a out' work' list' entries'
      packs-promise work' p = record { packed = packs (answered p); work-is = ap (λ (x : Listing). x.work) p.fixed }

-- a refusal leaves the lent word
pub left : (a : Refusal) (entries : ℕ) → entries ≡ cond (eqb (number (Err a)) 0) 0 entries
left a entries = rw (ne_eqb (number (Err a)) 0 (λ z. let n = refusal-numbered a in omega arith))
