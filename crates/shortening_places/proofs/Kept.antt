-- The promise with a list, by what admission and placing say. Assumes nothing.
use Rattle.std.specs.Prelude.{Result, Ok, Err}
use mathlib.Core.Path.{◌≡◌, refl, sym, ap, ◌∙◌}
use mathlib.Core.List.{List, ◌++◌}
use mathlib.Core.Option.{Option, none, some}
use Prim.Native.Nat.{ℕ, ◌*◌, ◌<◌}
use lib.ListN.{length, take, drop, get_or, replicate}
use lib.Dec.{ltb}
use borrow.Author.Tests.{ne_eqb}
use Rattle.answers.specs.Answers.{Answer}
use Rattle.answers.specs.Answers.{Verdict}
use Rattle.answers.specs.Answers.{number}
use Rattle.wire.specs.Numbers.{Bytes}
use Rattle.wire.proofs.Numbers.{are-bytes}
use Rattle.rast.specs.Operation.{upstream}
use Rattle.rast.proofs.Tests.{by-test}
use Rattle.outcome.specs.Outcome.{admitted, shorten}
use Rattle.outcome.proofs.Accepted.{refused-number, admitted-alike}
use Rattle.places.specs.Listing.{Listing, listing, shorten_listing}
use Rattle.places.proofs.Listings.{names-hold, length_most, list-exact}
use Rattle.operation.specs.declared.Pass.{Pass}
use Rattle.operation.specs.Passes.{repeats, asked}
use Rattle.work.specs.Taken.{for_table}
use Rattle.work.proofs.Lent.{most, words-all}
use Rattle.chains.specs.Chains.{room}
use Rattle.answers.specs.declared.Refusal.{Refusal}
use Rattle.placing.specs.declared.Listed.{Listed}
use Rattle.placing.specs.Placing.{placing, placed}
use Rattle.placed.proofs.Sound.{Whole, Places, FullAt, Result as Sound, placed-sound}
use Rattle.shortening_places.specs.Placed.{answer_in, entries_in, Promise, Answered}

-- what is answered is the definition's, so it keeps the promise
pub promised : (pass : Pass) (card root out : Bytes) (work list : List ℕ) (r : Result Listed Refusal) (out' : Bytes) (work' list' : List ℕ) → ((i : ℕ) → get_or card i 0 < 256)
    → ((i : ℕ) → get_or root i 0 < 256) → listing (answer_in r) (entries_in r) out' work' list' ≡ shorten_listing (asked pass) card root out work list
    → Promise pass card root out work list r out' work' list'
promised pass card root out work list r out' work' list' bc br e =
    record {
      fixed = e;
      names = λ n h. rw (← ap (λ (x : Listing). x.out) e) at
          (names-hold (repeats pass) card root out work list (are-bytes card bc) (are-bytes root br) n (ap (λ (x : Listing). x.answer) (sym e) ∙ h));
      bound = λ n h. length_most (repeats pass) card root out work list (are-bytes card bc) (are-bytes root br) n (ap (λ (x : Listing). x.answer) (sym e) ∙ h);
      exact = λ n h. rw (← ap (λ (x : Listing). x.out) e, ← ap (λ (x : Listing). x.entries) e, ← ap (λ (x : Listing). x.list) e) at
          (list-exact (repeats pass) card root out work list (are-bytes card bc) (are-bytes root br) n (ap (λ (x : Listing). x.answer) (sym e) ∙ h));
    }

-- what is written of a card that is admitted, by words that have room for as many pairs as there may be, or for all that the card can have
module _ (pass : Pass) (card root out : Bytes) (work list : List ℕ) (bc : (i : ℕ) → get_or card i 0 < 256) (br : (i : ℕ) → get_or root i 0 < 256)
    (is-sound : admitted (asked pass) card root (length work) ≡ Ok tt) (words : List ℕ)
    (enough : FullAt pass card root (length work) is-sound bc br (room words)
    ≡ FullAt pass card root (length work) is-sound bc br (upstream.most_pairs (length work)))
    (r : Result Listed Refusal) (out' : Bytes) (words' list' : List ℕ) (o : placing r out' words' list' ≡ placed pass card root words list out) where
  result : Sound pass card root (length work) is-sound bc br words list out (placing r out' words' list')
  result = rw o (placed-sound pass card root (length work) is-sound bc br words list out)

  is-listing : (x : Option ℕ) → FullAt pass card root (length work) is-sound bc br (upstream.most_pairs (length work)) ≡ x
      → listing (answer_in r) (entries_in r) out' (replicate (length work) 0) list' ≡ shorten_listing (asked pass) card root out work list
  unfolding shorten_listing shorten
  is-listing none q =
      rw (result.answer-is, result.out-is, result.list-is, enough, is-sound, q)
      (by-test (ltb (length out) (length (Whole pass card root (length work) is-sound bc br))) (λ t. rw t)
      (λ t. by-test (ltb (length list) (2 * length (Places pass card root (length work) is-sound bc br))) (λ u. rw (t, u)) (λ u. rw (t, u))))
  is-listing (some place) q = rw (result.answer-is, result.out-is, result.list-is, enough, is-sound, q)

  pub made : listing (answer_in r) (entries_in r) out' (replicate (length work) 0) list' ≡ shorten_listing (asked pass) card root out work list
  made = is-listing (FullAt pass card root (length work) is-sound bc br (upstream.most_pairs (length work))) refl

module _ (pass : Pass) (card root out : Bytes) (work list : List ℕ) (bc : (i : ℕ) → get_or card i 0 < 256) (br : (i : ℕ) → get_or root i 0 < 256)
    (v : Verdict) (e : v ≡ admitted upstream card root (length work)) where
  pub refused : {x : Result Listed Refusal} (a : Refusal) → x ≡ Err a → v ≡ Err a → Promise pass card root out work list x out work list
  unfolding shorten_listing shorten
  refused {x} a q h =
      let r : admitted (asked pass) card root (length work) ≡ Err a = admitted-alike (repeats pass) card root (length work) ∙ sym e ∙ h in
      promised pass card root out work list x out work list bc br
      (rw (q, r, ne_eqb (number (Err a)) 0 (refused-number (asked pass) card root (length work) a r)))

  module _ (h : v ≡ Ok tt) (used : ℕ) (u : used ≡ for_table (length work)) where
    is-sound : admitted (asked pass) card root (length work) ≡ Ok tt
    is-sound = admitted-alike (repeats pass) card root (length work) ∙ sym e ∙ h

    module _ (r : Result Listed Refusal) (out' : Bytes) (words list' : List ℕ) (o : placing r out' words list' ≡ placed pass card root (take used work) list out) where
      words_long : length words ≡ length (take used work)
      words_long = (result pass card root out work list bc br is-sound (take used work)
          (ap (FullAt pass card root (length work) is-sound bc br) (most work used u)) r out' words list' o).words_long

      pub kept : (work' : List ℕ) → work' ≡ replicate (length (words ++ drop used work)) 0
          → Promise pass card root out work list r out' work' list'
      kept work' z =
          promised pass card root out work list r out' work' list' bc br
          (rw (z ∙ ap (λ (n : ℕ). replicate n 0) (words-all work used u words words_long))
          (made pass card root out work list bc br is-sound (take used work)
          (ap (FullAt pass card root (length work) is-sound bc br) (most work used u)) r out' words list' o))

-- what is promised of all that is lent is promised of all but the work words
pub answered : {pass : Pass} {card root out : Bytes} {work list : List ℕ} {r : Result Listed Refusal} {out' : Bytes} {work' list' : List ℕ}
    → Promise pass card root out work list r out' work' list'
    → Answered pass card root (shorten_listing (asked pass) card root out work list) r out' list'
answered p =
    record {
      answer-is = ap (λ (x : Listing). x.answer) p.fixed;
      entries-are = ap (λ (x : Listing). x.entries) p.fixed;
      out-is = ap (λ (x : Listing). x.out) p.fixed;
      list-is = ap (λ (x : Listing). x.list) p.fixed;
      names = p.names;
      bound = p.bound;
      exact = p.exact;
    }
