-- THE RESULT over a sound card, whatever is lent: 8, 9 or 10 with nothing written, or the text's output and the list of its changed points. Assumes nothing.
use Rattle.std.specs.Prelude.{Ok, Err}
use mathlib.Core.Path.{◌≡◌, refl, ap, sym, ◌∙◌}
use mathlib.Core.Bool.{false, cond}
use mathlib.Core.List.{List, [], ◌++◌}
use mathlib.Core.Option.{Option, none, some}
use Prim.Native.Nat.{ℕ, suc, ◌+◌, ◌-◌, ◌*◌, ◌/◌, ◌%◌, ◌^◌, ◌<◌, ◌≤◌, min}
use native.Mathlib.Omega.{arith}
use lib.ListN.{length, take, drop, get_or, length-append, length-drop}
use lib.Seq.{take-append_seam}
use lib.Dec.{leb, ltb}
use borrow.Author.Tests.{lt-ltb, le-ltb, ltb-true, ltb-false, leb-true}
use Rattle.answers.specs.declared.Refusal.TheVariants.{FullTable, NoSpace, ShortList}
use Rattle.wire.specs.Numbers.{Bytes}
use Rattle.wire.proofs.Numbers.{are-bytes}
use Rattle.records.specs.Record.{Record, encode, tree, deep}
use Rattle.records.specs.Kinds.{path}
use Rattle.records.proofs.Shape.{fits-shaped}
use Rattle.rast.specs.Path.{MSel, whether}
use Rattle.rast.specs.Mod.{name_of}
use Rattle.rast.proofs.Names.{shortening-names}
use Rattle.rast.proofs.Chosen.{shortening-chooses}
use Rattle.rast.proofs.Tests.{by-test}
use Rattle.factor_paths.specs.Apply.{apply}
use Rattle.factor_paths.proofs.Named.{shortening-marks}
use Rattle.factor_paths.proofs.Shapes.{apply-canonical}
use Rattle.size.proofs.Bound.{card-most}
use Rattle.outcome.specs.FullTable.{full_table}
use Rattle.outcome.specs.Outcome.{admitted}
use Rattle.outcome.proofs.Accepted.{admitted-sound}
use Rattle.points.proofs.Demand.{apply-point}
use Rattle.places.specs.Places.{Entry, entry_words, places_of}
use Rattle.places.proofs.Weighed.{weightless, weighed-length}
use Rattle.places.proofs.Few.{card-few}
use Rattle.places.proofs.Words.{words-length}
use Rattle.operation.specs.declared.Shortening.{Shortening}
use Rattle.operation.specs.declared.Pass.{Pass}
use Rattle.operation.specs.Passes.{repeats, asked}
use Rattle.operation.specs.Operations.{operation_of, plain_of, weighed_of, weight_bytes}
use Rattle.operation.proofs.Lawful.{pass-plain, pass-weighed}
use Rattle.operation.proofs.Weights.{weight-length, weight-none, plain-weight, weighed-weight}
use Rattle.chains.specs.Chains.{room}
use Rattle.adding.specs.Adds.{Table, table}
use Rattle.gathering.specs.Gathers.{span}
use Rattle.laying.specs.Lays.{lay}
use Rattle.laying.proofs.Laws.{lay-whole}
use Rattle.listing.specs.Lists.{card_places}
use Rattle.placed.proofs.Listing.{listing-card}
use Rattle.measuring.specs.Measured.{whole_output}
use Rattle.measured.proofs.Sound.{Result as Unweighed, few-full as unweighed-few, whole-sound}
use Rattle.modules.specs.Modules.{module_made, card_made}
use Rattle.modules.proofs.States.{found}
use Rattle.modules.proofs.Outermost.{Outermost, Reads, admitted-reads, outermost-is}
use Rattle.placing.specs.Placing.{listed, Placing, weighed_made, plain_made, counted_first, written_first, placed}

-- a weighed length taken apart
apart-length : (l e : ℕ) → l < 2 ^ 24 → (l + 2 ^ 24 * e) % 2 ^ 24 ≡ l
apart-length l e h = omega (arith, h)

apart-entries : (l e : ℕ) → l < 2 ^ 24 → (l + 2 ^ 24 * e) / 2 ^ 24 ≡ e
apart-entries l e h = omega (arith, h)

-- two words for each entry
two-each : (n e : ℕ) → ltb (n / 2) e ≡ ltb n (2 * e)
two-each n e =
    by-test (ltb n (2 * e)) (λ t. lt-ltb (n / 2) e (let l = ltb-true n (2 * e) t in omega (arith, l)) ∙ sym t)
    (λ t. le-ltb (n / 2) e (let l = ltb-false n (2 * e) t in omega (arith, l)) ∙ sym t)

module _ (pass : Pass) (card root : Bytes) (n : ℕ) (sound : admitted (asked pass) card root n ≡ Ok tt)
    (bc : (i : ℕ) → get_or card i 0 < 256) (br : (i : ℕ) → get_or root i 0 < 256) where
  abbrev Output : Record
  Output = apply (asked pass) (tree root) (tree card)

  abbrev pub Whole : Bytes
  Whole = encode Output

  abbrev pub Places : List Entry
  Places = places_of 0 (tree card) Output

  -- the first table with more than so many pairs
  abbrev pub FullAt : ℕ → Option ℕ
  FullAt most = full_table (asked pass) most (deep (tree card)) (tree card) (MSel (tree root) (name_of (tree card))) 0

  -- the walks that weigh and that write do this pass
  plain-sound : admitted (operation_of (plain_of pass)) card root n ≡ Ok tt
  plain-sound = rw (pass-plain pass) sound

  weighed-sound : admitted (operation_of (weighed_of pass)) card root n ≡ Ok tt
  weighed-sound = rw (pass-weighed pass) sound

  reads : Reads card root 8
  reads = admitted-reads (plain_of pass) card root n plain-sound bc br

  whole-small : length Whole < 2 ^ 24
  whole-small =
      let a = admitted-sound (asked pass) card root n sound in
      let b = card-most (repeats pass) (tree root) card (are-bytes card bc) a.card-sound in
      let l = a.card-length in
      omega (arith, b, l)

  is-module : (op : Shortening) (held : Table) → card_made op card root 65537 held ≡ module_made op card root 48 [] (span 0 (length card)) 65537 held
  unfolding card_made
  is-module op held = rw (le-ltb 65536 (length card) reads.small)

  -- what is laid, and what is listed of it
  places-are : card_places card Whole ≡ Places
  places-are =
      let e = reads.is-card.encoded in
      let s = whole-small in
      let c = apply-canonical (asked pass) (shortening-chooses (repeats pass)) (tree root) (tree card) reads.is-card.fits
      (fits-shaped (tree root) path refl reads.is-root.fits) (omega (arith, s)) in
      let l : length (encode (tree card)) ≤ 65536 = rw e reads.small in
      ap (λ (b : Bytes). card_places b Whole) (sym e)
      ∙ listing-card (asked pass) _ (tree card) Output reads.is-card.fits reads.is-card.canonical c
      (apply-point (asked pass) (shortening-names (repeats pass)) (shortening-chooses (repeats pass)) (shortening-marks (repeats pass)) (tree root)
      (tree card) reads.is-card.fits) reads.is-card.shallow l
      (omega (arith, s))

  -- no table has more pairs than the card has 18 bytes
  pub few-full : (most : ℕ) → length card / 18 ≤ most → FullAt most ≡ none
  few-full most h = rw (pass-plain pass) at (unweighed-few (plain_of pass) card root n plain-sound bc br most h)

  -- how many entries there can be
  few : 12 * length Places ≤ length card
  few = card-few (repeats pass) (tree root) card (are-bytes card bc) (admitted-sound (asked pass) card root n sound).card-sound

  -- what each answer leaves
  abbrev pub Chosen : {A : Type 0} → (most : ℕ) → (out : Bytes) (list : List ℕ) → (full : ℕ → A) → (no_room few_words done : A) → A
  Chosen most out list full no_room few_words done =
      whether (FullAt most) (cond (ltb (length out) (length Whole)) no_room (cond (ltb (length list) (2 * length Places)) few_words done)) full

  pub record Result (words list : List ℕ) (out : Bytes) (o : Placing) : Type 0 where
    pub answer-is : o.answer ≡ Chosen (room words) out list (λ place. listed (Err (FullTable place)) 0) (listed (Err NoSpace) 0) (listed (Err ShortList) 0)
        (listed (Ok (length Whole)) (length Places))
    pub out-is : o.out ≡ Chosen (room words) out list (λ place. out) out out (Whole ++ drop (length Whole) out)
    pub list-is : o.list ≡ Chosen (room words) out list (λ place. list) list list (entry_words Places ++ drop (2 * length Places) list)
    pub words_long : length o.words ≡ length words

  module _ (words : List ℕ) where
    first : Outermost (weighed_of pass) card root (room words) (table 0 words) (weighed_made pass card root words)
    unfolding weighed_made
    first =
        rw (is-module (weighed_of pass) (table 0 words))
        (outermost-is (weighed_of pass) card root n weighed-sound bc br 65537 (table 0 words) (λ e. absurd (omega (arith, e))))

    abbrev Left : List ℕ
    Left = (weighed_made pass card root words).held.words

    second : Outermost (plain_of pass) card root (room words) (table 0 Left) (plain_made pass card root words)
    unfolding plain_made
    second =
        rw (is-module (plain_of pass) (table 0 Left), sym (ap (λ (x : ℕ). min (x / 4) 65535) first.long))
        (outermost-is (plain_of pass) card root n plain-sound bc br 65537 (table 0 Left) (λ e. absurd (omega (arith, e))))

    full_is : (weighed_made pass card root words).full ≡ found (FullAt (room words))
    full_is = rw (pass-weighed pass) at first.full

    -- where no table is full
    module _ (e : FullAt (room words) ≡ none) where
      weighed-is : length (weighed_made pass card root words).bytes ≡ length Whole + 2 ^ 24 * length Places
      weighed-is =
          ap length (rw (pass-weighed pass) at first.bytes e) ∙ weighed-length (weight_bytes (weighed_of pass)) 0 (tree card) Output
          ∙ ap (λ (x : ℕ). length Whole + x * length Places) (weight-length (weighed_of pass) ∙ weighed-weight pass)

      plain-is : (plain_made pass card root words).bytes ≡ Whole
      plain-is = rw (pass-plain pass) at second.bytes e ∙ rw (weight-none (plain_of pass) (plain-weight pass)) (weightless (tree card) Output)

      length-is : length (weighed_made pass card root words).bytes % 2 ^ 24 ≡ length Whole
      length-is = ap (λ (x : ℕ). x % 2 ^ 24) weighed-is ∙ apart-length (length Whole) (length Places) whole-small

      entries-are : length (weighed_made pass card root words).bytes / 2 ^ 24 ≡ length Places
      entries-are = ap (λ (x : ℕ). x / 2 ^ 24) weighed-is ∙ apart-entries (length Whole) (length Places) whole-small

    counted-sound : (list : List ℕ) (out : Bytes) → Result words list out (counted_first pass card root words list out)
    unfolding counted_first
    counted-sound list out = go (FullAt (room words)) refl
      where
        listed : length Whole ≤ length out → 2 * length Places ≤ length list
            → lay list 0 (entry_words (card_places card (take (length Whole) (lay out 0 Whole)))) ≡ entry_words Places ++ drop (2 * length Places) list
        listed l k =
            let x = words-length Places in
            ap (λ (b : Bytes). lay list 0 (entry_words (card_places card (take (length Whole) b)))) (lay-whole out Whole l)
            ∙ ap (λ (b : Bytes). lay list 0 (entry_words (card_places card b))) (take-append_seam Whole (drop (length Whole) out))
            ∙ ap (λ (es : List Entry). lay list 0 (entry_words es)) places-are
            ∙ lay-whole list (entry_words Places) (omega (arith, x, k))
            ∙ ap (λ (m : ℕ). entry_words Places ++ drop m list) x

        go : (o : Option ℕ) → FullAt (room words) ≡ o → Result words list out (counted_first pass card root words list out)
        go none e =
            let zero-full : (weighed_made pass card root words).full ≡ 0 = full_is ∙ ap (λ (x : Option ℕ). whether x 0 suc) e in
            by-test (ltb (length out) (length Whole))
            (λ t. rw (zero-full, length-is e, t) (record { answer-is = rw (e, t); out-is = rw (e, t); list-is = rw (e, t); words_long = first.long }))
            (λ t. by-test (ltb (length list) (2 * length Places))
            (λ u. rw (zero-full, length-is e, entries-are e, t, two-each (length list) (length Places), u)
            (record { answer-is = rw (e, t, u); out-is = rw (e, t, u); list-is = rw (e, t, u); words_long = first.long }))
            (λ u. rw (zero-full, length-is e, entries-are e, t, two-each (length list) (length Places), u, plain-is e)
            (record {
              answer-is = rw (e, t, u);
              out-is = rw (e, t, u) (lay-whole out Whole (ltb-false (length out) (length Whole) t));
              list-is = rw (e, t, u) (listed (ltb-false (length out) (length Whole) t) (ltb-false (length list) (2 * length Places) u));
              words_long = second.long ∙ first.long;
            })))
        go (some place) e =
            let some-full : (weighed_made pass card root words).full ≡ suc place = full_is ∙ ap (λ (x : Option ℕ). whether x 0 suc) e in
            let less : suc place - 1 ≡ place = omega arith in
            rw (some-full, lt-ltb 0 (suc place) (omega arith), less)
            (record { answer-is = rw e; out-is = rw e; list-is = rw e; words_long = first.long })

    -- written as without a list: then the list suffices
    room-same : (out : Bytes) → length Whole ≤ length out → length (Whole ++ drop (length Whole) out) ≡ length out
    room-same out l = let a = length-append Whole (drop (length Whole) out) in let b = length-drop (length Whole) out in omega (arith, l, a, b)

    first-sound : (list : List ℕ) (out : Bytes) → length card / 6 ≤ length list → Result words list out (written_first pass card root words list out)
    unfolding written_first
    first-sound list out k = go (FullAt (room words)) refl
      where
        written : Unweighed (plain_of pass) card root n plain-sound bc br words out (whole_output (plain_of pass) card root words out)
        written = whole-sound (plain_of pass) card root n plain-sound bc br (plain-weight pass) words out

        answer-is : (whole_output (plain_of pass) card root words out).answer ≡ whether (FullAt (room words)) (Ok (length Whole)) (λ place. Err (FullTable place))
        answer-is = rw (pass-plain pass) at written.answer-is

        out-is : (whole_output (plain_of pass) card root words out).out
            ≡ whether (FullAt (room words)) (cond (ltb (length out) (length Whole)) out (Whole ++ drop (length Whole) out)) (λ place. out)
        out-is = rw (pass-plain pass) at written.out-is

        go : (o : Option ℕ) → FullAt (room words) ≡ o → Result words list out (written_first pass card root words list out)
        go (some place) e =
            rw (answer-is, out-is, e)
            (record { answer-is = rw e; out-is = rw e; list-is = rw e; words_long = written.words_long })
        go none e =
            by-test (ltb (length out) (length Whole))
            (λ t. rw (answer-is, out-is, e, t, t)
            (record { answer-is = rw (e, t); out-is = rw (e, t); list-is = rw (e, t); words_long = written.words_long }))
            (λ t. let l = ltb-false (length out) (length Whole) t in
            let f = few in
            let u : ltb (length list) (2 * length Places) ≡ false = le-ltb (length list) (2 * length Places) (omega (arith, f, k)) in
            let x = words-length Places in
            rw (
              answer-is,
              out-is,
              e,
              t,
              room-same out l,
              t,
              take-append_seam Whole (drop (length Whole) out),
              places-are,
              lay-whole list (entry_words Places) (let v = ltb-false (length list) (2 * length Places) u in omega (arith, x, v)),
              x,
            )
            (record { answer-is = rw (e, t, u); out-is = rw (e, t, u); list-is = rw (e, t, u); words_long = written.words_long }))

    -- THE LAW
    pub placed-sound : (list : List ℕ) (out : Bytes) → Result words list out (placed pass card root words list out)
    unfolding placed
    placed-sound list out =
        by-test (leb (length card / 6) (length list))
        (λ t. rw t (first-sound list out (leb-true (length card / 6) (length list) t)))
        (λ t. rw t (counted-sound list out))
