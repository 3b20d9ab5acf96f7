-- What is measured, and which answer it gives, test by test. Assumes nothing.
use Rattle.answers.specs.Answers.{Answer}
use Rattle.std.specs.Prelude.{false, cond, Result, Ok, Err}
use mathlib.Core.Path.{◌≡◌, refl, sym, ap, ◌∙◌}
use mathlib.Core.List.{List, [], ◌++◌}
use Prim.Native.Nat.{◌+◌, ℕ, ◌-◌, ◌*◌, ◌/◌, ◌%◌, ◌^◌, ◌<◌, ◌≤◌}
use lib.ListN.{length, take, drop}
use native.Mathlib.Omega.{arith}
use lib.Dec.{ltb}
use borrow.Author.Tests.{lt-ltb, le-ltb, le-leb, lt-leb}
use Rattle.rast.proofs.Tests.{by-test}
use Rattle.answers.specs.declared.Refusal.TheVariants.{FullTable, NoSpace, ShortList}
use Rattle.wire.specs.Numbers.{Bytes}
use Rattle.places.specs.Places.{entry_words}
use Rattle.operation.specs.declared.Pass.{Pass}
use Rattle.operation.specs.declared.Shortening.{Shortening}
use Rattle.operation.specs.Operations.{plain_of, weighed_of}
use Rattle.adding.specs.Adds.{Table, table}
use Rattle.laying.specs.Lays.{lay, Laid}
use Rattle.laying.proofs.Laws.{lay-length}
use Rattle.listing.specs.Lists.{card_places}
use Rattle.modules.specs.Modules.{Made, card_made}
use Rattle.writing.specs.Wrote.{Wrote}
use Rattle.places.proofs.Words.{words-length}
use Rattle.measuring.specs.Measured.{Output, output, whole_output}
use Rattle.placing.specs.declared.Tally.{Tally}
use Rattle.answers.specs.declared.Refusal.{Refusal}
use Rattle.placing.specs.declared.Listed.{Listed}
use Rattle.placing.specs.Placing.{listed, Placing, placing, tally_of, weighed_made, plain_made, measured, counted_first, listed_after, written_first, placed}

none-laid : (b : Bytes) → lay [] 0 b ≡ []
unfolding lay
none-laid b = refl

module _ (pass : Pass) (op : Shortening) (p : op ≡ weighed_of pass) (card root : Bytes) (words : List ℕ)
    (out : Bytes) {part : Bytes} {words₁ : List ℕ} {len full owner pairs : ℕ}
    (w : Wrote [] part words₁ len full owner pairs (card_made op card root 65537 (table 0 words))) where
  full-is : full ≡ (weighed_made pass card root words).full
  unfolding weighed_made
  full-is = w.full_is ∙ rw p

  long-is : len ≡ length (weighed_made pass card root words).bytes
  unfolding weighed_made
  long-is = w.length-is ∙ rw p

  pub measured-leaves : (part ++ drop 0 out ≡ out) × (words₁ ≡ (weighed_made pass card root words).held.words)
  unfolding weighed_made
  measured-leaves = (ap (λ (x : Bytes). x ++ out) (w.laid ∙ none-laid _), ap (λ (x : Table). x.words) w.held-is ∙ rw p)

  pub measured-full : {place : ℕ} → full ≡ place + 1 → Err (FullTable place) ≡ measured (weighed_made pass card root words)
  measured-full {place} e =
      let q : (weighed_made pass card root words).full ≡ place + 1 = sym full-is ∙ e in
      let z : place + 1 - 1 ≡ place = omega arith in
      rw (q, lt-ltb 0 (place + 1) (omega arith), z)

  pub measured-tally : full ≡ 0 → (t : Tally) → t ≡ record { length = len % 2 ^ 24; entries = len / 2 ^ 24 }
      → Ok t ≡ measured (weighed_made pass card root words)
  measured-tally e t f =
      let q : (weighed_made pass card root words).full ≡ 0 = sym full-is ∙ e in
      rw (q, f, long-is)

module _ (pass : Pass) (card root : Bytes) (words list : List ℕ) (out : Bytes) {v : Result Tally Refusal} {out₁ : Bytes} {words₁ : List ℕ}
    (m : (v ≡ measured (weighed_made pass card root words)) × (out₁ ≡ out) × (words₁ ≡ (weighed_made pass card root words).held.words)) where
  abbrev M : Made
  M = weighed_made pass card root words

  pub refused-gives : {r : Result Listed Refusal} (a : Refusal) → r ≡ Err a → v ≡ Err a → placing r out₁ words₁ list ≡ counted_first pass card root words list out
  unfolding counted_first
  refused-gives a q e =
      let h : ◌≡◌ {A = Result Tally Refusal} (cond (ltb 0 M.full) (Err (FullTable (M.full - 1))) (Ok (tally_of M))) (Err a) = sym m.0 ∙ e in
      by-test (ltb 0 M.full)
      (λ y. let f : ◌≡◌ {A = Result Tally Refusal} (Err (FullTable (M.full - 1))) (Err a) = rw y at h in
      let g : a ≡ FullTable (M.full - 1) = cc in rw (q, g, m.1, m.2, y))
      (λ y. let f : ◌≡◌ {A = Result Tally Refusal} (Ok (tally_of M)) (Err a) = rw y at h in cc)

  module _ {t : Tally} (e : v ≡ Ok t) where
    counted : ◌≡◌ {A = Result Tally Refusal} (cond (ltb 0 M.full) (Err (FullTable (M.full - 1))) (Ok (tally_of M))) (Ok t)
    counted = sym m.0 ∙ e

    full_none : ltb 0 M.full ≡ false
    full_none =
        by-test (ltb 0 M.full)
        (λ y. let f : ◌≡◌ {A = Result Tally Refusal} (Err (FullTable (M.full - 1))) (Ok t) = rw y at counted in cc)
        (λ y. y)

    tally-is : t ≡ tally_of M
    tally-is = let f : ◌≡◌ {A = Result Tally Refusal} (Ok (tally_of M)) (Ok t) = rw full_none at counted in cc

    length-is : t.length ≡ length M.bytes % 2 ^ 24
    length-is = ap (λ (x : Tally). x.length) tally-is

    entries-are : t.entries ≡ length M.bytes / 2 ^ 24
    entries-are = ap (λ (x : Tally). x.entries) tally-is

    pub no-room-gives : length out₁ < t.length → placing (Err NoSpace) out₁ words₁ list ≡ counted_first pass card root words list out
    unfolding counted_first
    no-room-gives h =
        rw (m.1, m.2)
        (rw (full_none, lt-ltb (length out) (length M.bytes % 2 ^ 24) (rw (m.1, length-is) at h)))

    module _ (l : t.length ≤ length out₁) where
      pub few-words-gives : length list / 2 < t.entries → placing (Err ShortList) out₁ words₁ list ≡ counted_first pass card root words list out
      unfolding counted_first
      few-words-gives h =
          rw (m.1, m.2)
          (rw (
            full_none,
            le-ltb (length out) (length M.bytes % 2 ^ 24) (rw (m.1, length-is) at l),
            lt-ltb (length list / 2) (length M.bytes / 2 ^ 24) (rw entries-are at h),
          ))

      -- written, and then listed
      module _ (op : Shortening) (p : op ≡ plain_of pass) {after : Bytes} {words₂ : List ℕ} {len full owner pairs : ℕ}
          (w : Wrote out₁ after words₂ len full owner pairs (card_made op card root 65537 (table 0 words₁))) where
        pub written-long : length after ≡ length out₁
        written-long = ap length w.laid ∙ lay-length out₁ 0 _

        made-is : card_made op card root 65537 (table 0 words₁) ≡ plain_made pass card root words
        unfolding plain_made
        made-is = rw (p, m.2)

        pub done-gives : t.entries ≤ length list / 2 → {list₂ : List ℕ} {e : ℕ}
            → Laid list 0 (entry_words (card_places card (take t.length after))) e list₂
            → placing (listed (Ok t.length) t.entries) after words₂ list₂ ≡ counted_first pass card root words list out
        unfolding counted_first
        done-gives h x =
            rw (x.bytes, w.laid, ap (λ (y : Table). y.words) w.held-is, made-is, m.1, length-is, entries-are)
            (rw (
              full_none,
              le-ltb (length out) (length M.bytes % 2 ^ 24) (rw (m.1, length-is) at l),
              le-ltb (length list / 2) (length M.bytes / 2 ^ 24) (rw entries-are at h),
            ))

-- what was written, listed
module _ (card out : Bytes) (list : List ℕ) where
  pub refused-listed : {w : Answer} (a : Refusal) {r : Result Listed Refusal} → r ≡ Err a → w ≡ Err a → placing r out [] list ≡ listed_after card w out [] list
  refused-listed a q e = rw (q, e)

  pub no-room-listed : {w : Answer} (n : ℕ) → w ≡ Ok n → length out < n → placing (Err NoSpace) out [] list ≡ listed_after card w out [] list
  no-room-listed n e l = rw e (rw (lt-ltb (length out) n l))

  pub done-listed : {w : Answer} (n k : ℕ) → w ≡ Ok n → n ≤ length out → (list' : List ℕ)
      → Laid list 0 (entry_words (card_places card (take n out))) (2 * k) list' → placing (listed (Ok n) k) out [] list' ≡ listed_after card w out [] list
  done-listed n k e l list' x =
      let a = words-length (card_places card (take n out)) in
      let b = x.ends in
      let c : k ≡ length (card_places card (take n out)) = omega (arith, a, b) in
      rw e (rw (le-ltb (length out) n l, x.bytes, c))

-- with the words that writing left
pub listed-words : (card out : Bytes) (words list : List ℕ) (w : Answer) (r : Result Listed Refusal) (list' : List ℕ)
    → placing r out [] list' ≡ listed_after card w out [] list → placing r out words list' ≡ listed_after card w out words list
listed-words card out words list w r list' e = ap (λ (x : Placing). placing x.answer x.out words x.list) e ∙ same w
  where
    same : (w : Answer) → placing (listed_after card w out [] list).answer (listed_after card w out [] list).out words (listed_after card w out [] list).list
        ≡ listed_after card w out words list
    same (Err a) = refl
    same (Ok n) = by-test (ltb (length out) n) (λ t. rw t) (λ t. rw t)

module _ (pass : Pass) (card root out : Bytes) (words list : List ℕ) where
  pub first_gives : (op : Shortening) → op ≡ plain_of pass → length card / 6 ≤ length list → {w : Answer} {out' : Bytes} {words' : List ℕ}
      → output w out' words' ≡ whole_output op card root words out
      → {r : Result Listed Refusal} {list' : List ℕ} → placing r out' [] list' ≡ listed_after card w out' [] list
      → placing r out' words' list' ≡ placed pass card root words list out
  unfolding placed written_first
  first_gives op p l {w} {out'} {words'} o {r} {list'} x =
      rw (le-leb (length card / 6) (length list) l)
      (listed-words card out' words' list w r list' x ∙ ap (λ (y : Output). listed_after card y.answer y.out y.words list)
      (o ∙ ap (λ (q : Shortening). whole_output q card root words out) p))

  pub counted-gives : length list < length card / 6 → {o : Placing} → o ≡ counted_first pass card root words list out → o ≡ placed pass card root words list out
  unfolding placed
  counted-gives l e = e ∙ rw (lt-leb (length card / 6) (length list) l)
