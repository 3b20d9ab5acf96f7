-- What an answer with a list says: of an acceptance demand 3 holds and the list is exact; a refusal leaves the out buffer and the list.
-- The work words are those without a list. Assumes nothing.
use Rattle.std.specs.Prelude.{Ok, Err}
use mathlib.Core.Path.{◌≡◌, refl, ap, ap₂, sym, subst, ◌∙◌}
use mathlib.Core.Bool.{Bool, false, true≢false}
use mathlib.Core.List.{List, [], ◌++◌, append-nil}
use mathlib.Core.Option.{some}
use Prim.Native.Nat.{ℕ, ◌+◌, ◌*◌, ◌<◌, ◌≤◌}
use native.Mathlib.Omega.{arith}
use lib.ListN.{length, take, drop, length-append, length-drop}
use lib.Seq.{take-append_seam}
use lib.Dec.{eqb, ltb}
use borrow.Author.Tests.{ltb-false, eqb-false}
use Rattle.answers.specs.declared.Refusal.TheVariants.{ShortList}
use Rattle.answers.specs.Answers.{number}
use Rattle.wire.specs.Numbers.{Bytes, AreBytes}
use Rattle.records.specs.Record.{Record, leaf, node, encode, tree, children, nth, count}
use Rattle.records.specs.Kinds.{path, mod'}
use Rattle.records.proofs.Sound.{sound-reads}
use Rattle.records.proofs.Shape.{fits-shaped}
use Rattle.records.proofs.Starts.{Starts, starts-there}
use Rattle.rast.specs.Operation.{shortening}
use Rattle.rast.proofs.Chosen.{shortening-chooses}
use Rattle.rast.proofs.Tests.{by-test}
use Rattle.factor_paths.specs.Apply.{apply}
use Rattle.factor_paths.proofs.Shapes.{apply-read}
use Rattle.size.specs.Bound.{times}
use Rattle.size.proofs.Bound.{output-small}
use Rattle.outcome.specs.Outcome.{Outcome, shorten}
use Rattle.outcome.proofs.Accepted.{Accepted, accepted, accepted-times}
use Rattle.outcome.proofs.Lent.{left}
use Rattle.points.specs.Points.{NamesHold, outside}
use Rattle.points.proofs.Demand.{demand-3}
use Rattle.places.specs.Places.{Entry, entry_words, places_of}
use Rattle.places.specs.Spots.{Spot, spot, child_at, follow, Exact, ListExact}
use Rattle.places.specs.Listing.{Listing, places, shorten_listing}
use Rattle.places.proofs.Exact.{exact}
use Rattle.places.proofs.Meets.{there, child-starts}
use Rattle.places.proofs.Words.{words-length}

module _ (again : Bool) (card root out : Bytes) (work list : List ℕ) where
  abbrev L : Listing
  L = shorten_listing (shortening again) card root out work list

  abbrev O : Outcome
  O = shorten (shortening again) card root out work

  abbrev Places : List Entry
  Places = places (shortening again) card root out work list

  -- what is so of an acceptance
  pub record Accepts (n : ℕ) : Type 0 where
    pub answer : O.answer ≡ Ok n
    pub out-is : L.out ≡ O.out
    pub entries-are : L.entries ≡ length Places
    pub list-is : L.list ≡ entry_words Places ++ drop (2 * length Places) list
    pub room : ltb (length list) (2 * length Places) ≡ false

  pub accepts : (n : ℕ) → L.answer ≡ Ok n → Accepts n
  unfolding shorten_listing
  accepts n h =
      by-test (eqb (number O.answer) 0)
      (λ t. by-test (ltb (length list) (2 * length Places))
      (λ u. absurd (let z = ap number (rw (t, u) at h) in omega (arith, z)))
      (λ u. record { answer = rw (t, u) at h; out-is = rw (t, u); entries-are = rw (t, u); list-is = rw (t, u); room = u }))
      (λ t. absurd (let z = ap number (rw t at h) in let y = eqb-false (number O.answer) 0 t in y z))

  -- a refusal leaves the out buffer and the list, and says no entries
  pub refusal-leaves : eqb (number L.answer) 0 ≡ false → (L.out ≡ out) × (L.list ≡ list) × (L.entries ≡ 0)
  unfolding shorten_listing
  refusal-leaves h =
      by-test (eqb (number O.answer) 0)
      (λ t. by-test (ltb (length list) (2 * length Places)) (λ u. rw (t, u) (refl, refl, refl)) (λ u. absurd (true≢false (sym t ∙ (rw (t, u) at h)))))
      (λ t. rw t ((left (shortening again) card root out work).1 t, refl, refl))

  -- the work words are those without a list; so is the answer, but for 10
  pub as-without : (L.work ≡ O.work) × ((L.answer ≡ (Err ShortList) → ⊥) → L.answer ≡ O.answer)
  unfolding shorten_listing
  as-without =
      by-test (eqb (number O.answer) 0)
      (λ t. by-test (ltb (length list) (2 * length Places)) (λ u. rw (t, u) (refl, λ h. absurd (h refl))) (λ u. rw (t, u) (refl, λ h. refl)))
      (λ t. rw t (refl, λ h. refl))

  -- the list stays as long as it was
  pub list-long : length L.list ≡ length list
  unfolding shorten_listing
  list-long =
      by-test (eqb (number O.answer) 0)
      (λ t. by-test (ltb (length list) (2 * length Places)) (λ u. rw (t, u))
      (λ u. rw (t, u)
      (let a = length-append (entry_words Places) (drop (2 * length Places) list) in
      let b = length-drop (2 * length Places) list in
      let c = words-length Places in
      let d = ltb-false (length list) (2 * length Places) u in
      omega (arith, a, b, c, d))))
      (λ t. rw t)

  module _ (bc : AreBytes card) (br : AreBytes root) (n : ℕ) (h : L.answer ≡ Ok n) where
    -- demand 3
    pub names-hold : NamesHold (shortening again) card root (take n L.out)
    names-hold =
        let a = accepts n h in
        subst (λ (x : Bytes). NamesHold (shortening again) card root (take n x)) (sym a.out-is) (demand-3 again card root out work n bc br a.answer)

    -- how long it can be
    pub length_most : n ≤ times (shortening again) * length card
    length_most = accepted-times again card root out work n bc (accepts n h).answer

    output-is : tree (take n L.out) ≡ apply (shortening again) (tree root) (tree card)
    output-is =
        let a = accepts n h in
        let o : Accepted (shortening again) card root out work n = accepted (shortening again) card root out work n a.answer in
        let r = sound-reads 48 mod' card bc o.card-sound in
        let q = sound-reads 8 path root br o.root-sound in
        ap tree names-hold.defined
        ∙ apply-read (shortening again) (shortening-chooses again) (tree root) (tree card) r.fits (fits-shaped (tree root) path refl q.fits)
        (output-small again (tree root) card bc o.card-sound o.card-length)

    -- what a path leads to stands in the output
    stands : (path : List ℕ) (s : Spot) → follow path (spot 0 (tree card) (tree (take n L.out))) ≡ some s → Starts (take n L.out) s.at s.that
    stands path s q =
        there (take n L.out) path 0 (tree card) (tree (take n L.out)) s
        (record { after = []; is = sym (append-nil (encode (tree (take n L.out))) ∙ names-hold.output-tree) }) q

    child-there : (at i : ℕ) (r : Record) → i < count (children r) → Starts (take n L.out) at r
        → Starts (take n L.out) (child_at at r i) (nth i (children r))
    unfolding count
    child-there at i (leaf k b) l h = absurd (omega (arith, l))
    child-there at i (node k c) l h = child-starts at i k c l h

    -- THE LAW
    pub list-exact : ListExact card (take n L.out) L.entries L.list
    list-exact =
        let a = accepts n h in
        let hold = names-hold in
        let same : places_of 0 (tree card) (tree (take n L.out)) ≡ Places = ap (places_of 0 (tree card)) output-is in
        record {
          listed = Places;
          many = sym a.entries-are;
          words =
              ap₂ take (ap (λ (k : ℕ). 2 * k) a.entries-are ∙ sym (words-length Places)) a.list-is
              ∙ take-append_seam (entry_words Places) (drop (2 * length Places) list);
          exact = subst (Exact (spot 0 (tree card) (tree (take n L.out)))) same
              (exact (shortening again) (outside (shortening again) (tree root)) (tree card) (tree (take n L.out)) hold.points);
          there = λ path s q. starts-there (stands path s q);
          children-there = λ path s q i l. starts-there (child-there s.at i s.that l (stands path s q));
        }
