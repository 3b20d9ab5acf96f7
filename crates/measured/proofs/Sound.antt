-- THE RESULT over a sound card, whatever the out buffer and the words hold: the place of the first full table, or the length of the text's output; and where
-- the out buffer has room for that, its first bytes are exactly the output's and all others are as they were. Assumes nothing.
use Rattle.std.specs.Prelude.{Ok, Err}
use Rattle.answers.specs.declared.Refusal.TheVariants.{FullTable}
use mathlib.Core.Path.{◌≡◌, refl, ap, ◌∙◌}
use mathlib.Core.Bool.{true, cond, and-eq-true_iff}
use mathlib.Core.List.{List, [], ◌++◌}
use mathlib.Core.Option.{Option, none, some}
use Prim.Native.Nat.{ℕ, suc, ◌+◌, ◌-◌, ◌*◌, ◌/◌, ◌<◌, ◌≤◌, min}
use native.Mathlib.Omega.{arith}
use lib.ListN.{length, drop, get_or}
use lib.Dec.{leb, ltb}
use borrow.Author.Tests.{lt-ltb, le-ltb, ltb-false, leb-true}
use Rattle.wire.specs.Numbers.{Bytes}
use Rattle.wire.proofs.Numbers.{are-bytes}
use Rattle.records.specs.Record.{encode, tree, deep}
use Rattle.rast.specs.Path.{MSel, whether}
use Rattle.rast.specs.Mod.{name_of}
use Rattle.rast.proofs.Tests.{by-test}
use Rattle.factor_paths.specs.Apply.{apply}
use Rattle.size.specs.Bound.{times}
use Rattle.size.proofs.Bound.{card-bound}
use Rattle.outcome.specs.FullTable.{full_table}
use Rattle.outcome.specs.Outcome.{admitted}
use Rattle.outcome.proofs.Accepted.{admitted-sound}
use Rattle.outcome.proofs.Few.{few-none}
use Rattle.places.proofs.Weighed.{weighed, weightless}
use Rattle.operation.specs.declared.Shortening.{Shortening}
use Rattle.operation.specs.Passes.{repeats}
use Rattle.operation.specs.Operations.{pass_of, operation_of, weight_of, weight_bytes}
use Rattle.operation.proofs.Weights.{weight-none}
use Rattle.chains.specs.Chains.{room}
use Rattle.adding.specs.Adds.{Table, table}
use Rattle.gathering.specs.Gathers.{span}
use Rattle.laying.proofs.Laws.{lay-whole}
use Rattle.modules.specs.Modules.{module_made, card_made}
use Rattle.modules.proofs.Keeps.{table-length}
use Rattle.modules.proofs.Outermost.{Outermost, Own, admitted-reads, outermost-is, outermost-again, collected-own}
use Rattle.growth.specs.Grows.{card_growth}
use Rattle.fitting.specs.Fitting.{surely_fits, is_roomy}
use Rattle.measuring.specs.Measured.{Output, output, first_made, written, direct, in_two, outermost, collected, whole_output}
use Rattle.measured.proofs.Roomy.{roomy-none, roomy-fits}

module _ (op : Shortening) (card root : Bytes) (n : ℕ) (sound : admitted (operation_of op) card root n ≡ Ok tt)
    (bc : (i : ℕ) → get_or card i 0 < 256) (br : (i : ℕ) → get_or root i 0 < 256) where
  -- the first table with more than so many pairs
  abbrev pub FullAt : ℕ → Option ℕ
  FullAt most = full_table (operation_of op) most (deep (tree card)) (tree card) (MSel (tree root) (name_of (tree card))) 0

  abbrev pub Bytes' : Bytes
  Bytes' = encode (apply (operation_of op) (tree root) (tree card))

  small : length card ≤ 65536
  small = (admitted-reads op card root n sound bc br).small

  is-module : (owner : ℕ) (held : Table) → card_made op card root owner held ≡ module_made op card root 48 [] (span 0 (length card)) owner held
  unfolding card_made
  is-module owner held = rw (le-ltb 65536 (length card) small)

  output-bounded : length Bytes' ≤ times (operation_of op) * length card
  output-bounded = card-bound (repeats (pass_of op)) (tree root) card (are-bytes card bc) (admitted-sound (operation_of op) card root n sound).card-sound

  -- no table has more pairs than the card has 18 bytes
  pub few-full : (most : ℕ) → length card / 18 ≤ most → FullAt most ≡ none
  few-full most h =
      let reads = admitted-reads op card root n sound bc br in
      let long : length (encode (tree card)) ≡ length card = ap length reads.is-card.encoded in
      few-none (operation_of op) most (deep (tree card)) (tree card) (MSel (tree root) (name_of (tree card))) 0 reads.is-card.fits
      (rw long (let z : length card / 18 ≤ most = omega arith in z))

  -- what the out buffer holds after it
  abbrev pub OutAfter : ℕ → Bytes → Bytes
  OutAfter most out = whether (FullAt most) (cond (ltb (length out) (length Bytes')) out (Bytes' ++ drop (length Bytes') out)) (λ place. out)

  pub record Result (words : List ℕ) (out : Bytes) (o : Output) : Type 0 where
    pub answer-is : o.answer ≡ whether (FullAt (room words)) (Ok (length Bytes')) (λ place. Err (FullTable place))
    pub out-is : o.out ≡ OutAfter (room words) out
    pub words_long : length o.words ≡ length words

  -- an operation without weights makes the output itself
  unweighed : weight_of op ≡ 0 → weighed (weight_bytes op) (tree card) (apply (operation_of op) (tree root) (tree card)) ≡ Bytes'
  unweighed z = rw (weight-none op z) (weightless (tree card) (apply (operation_of op) (tree root) (tree card)))

  -- given whose table the words hold
  module _ (z : weight_of op ≡ 0) (owner : ℕ) (held : Table) (own : owner ≡ 0 → Own card root op held) where
    abbrev Words : List ℕ
    Words = held.words

    first : Outermost op card root (room Words) held (first_made op card root owner held)
    unfolding first_made
    first = rw (is-module owner held) (outermost-is op card root n sound bc br owner held own)

    second : Outermost op card root (room Words) (first_made op card root owner held).held (written op card root owner held)
    unfolding written
    second =
        rw (is-module (first_made op card root owner held).owner (first_made op card root owner held).held)
        (outermost-again op card root n sound bc br held (first_made op card root owner held) first)

    -- written at once: no table is full, and the output has room
    at_once : (out : Bytes) → FullAt (room Words) ≡ none → length Bytes' ≤ length out → Result Words out (direct op card root owner held out)
    unfolding direct
    at_once out e fits =
        let zero-full : (first_made op card root owner held).full ≡ 0 = first.full ∙ ap (λ (x : Option ℕ). whether x 0 suc) e in
        let b = first.bytes e ∙ unweighed z in
        rw (zero-full, b)
        (record {
          answer-is = rw e;
          out-is = rw (e, le-ltb (length out) (length Bytes') fits) (lay-whole out Bytes' fits);
          words_long = first.long;
        })

    -- measured first
    in-two : (out : Bytes) → Result Words out (in_two op card root owner held out)
    unfolding in_two
    in-two out = go (FullAt (room Words)) refl
      where
        go : (o : Option ℕ) → FullAt (room Words) ≡ o → Result Words out (in_two op card root owner held out)
        go none e =
            let zero-full : (first_made op card root owner held).full ≡ 0 = first.full ∙ ap (λ (x : Option ℕ). whether x 0 suc) e in
            let b = first.bytes e ∙ unweighed z in
            let b₂ = second.bytes e ∙ unweighed z in
            by-test (ltb (length out) (length Bytes'))
            (λ t. rw (zero-full, b, t) (record { answer-is = rw e; out-is = rw (e, t); words_long = first.long }))
            (λ t. rw (zero-full, b, t)
            (record {
              answer-is = rw e;
              out-is = rw (e, t, b₂) (lay-whole out Bytes' (ltb-false (length out) (length Bytes') t));
              words_long = second.long ∙ first.long;
            }))
        go (some place) e =
            let some-full : (first_made op card root owner held).full ≡ suc place = first.full ∙ ap (λ (x : Option ℕ). whether x 0 suc) e in
            let less : suc place - 1 ≡ place = omega arith in
            rw (some-full, lt-ltb 0 (suc place) (omega arith), less) (record { answer-is = rw e; out-is = rw e; words_long = first.long })

  -- the words of the outermost module's table are as many
  long_same : (words : List ℕ) → length (collected op card root words).words ≡ length words
  unfolding collected
  long_same words = table-length (outermost op card root) 48 0 65537 (table 0 words)

  as_many : {words words' : List ℕ} {out : Bytes} {o : Output} → length words' ≡ length words → Result words' out o → Result words out o
  as_many {words} {words'} {out} {o} e r =
      let m : room words' ≡ room words = ap (λ (x : ℕ). min (x / 4) 65535) e in
      record { answer-is = rw m at r.answer-is; out-is = rw m at r.out-is; words_long = r.words_long ∙ e }

  -- THE LAW
  pub whole-sound : weight_of op ≡ 0 → (words : List ℕ) (out : Bytes) → Result words out (whole_output op card root words out)
  unfolding whole_output
  whole-sound z words out = by-test (surely_fits op card out words) (λ t. rw t (sure t)) (λ t. rw t (as_many (long_same words) other))
    where
      mine : Own card root op (collected op card root words)
      mine = unfold collected in collected-own op card root n sound bc br words

      sure : surely_fits op card out words ≡ true → Result words out (direct op card root 65537 (table 0 words) out)
      sure t =
          let g = (and-eq-true_iff (leb (times (operation_of op) * length card) (length out)) (leb (length card / 18) (room words))).0 (unfold surely_fits in t) in
          let wide = leb-true (times (operation_of op) * length card) (length out) g.0 in
          let bound = output-bounded in
          at_once z 65537 (table 0 words) (λ e. absurd (omega (arith, e))) out (few-full (room words) (leb-true (length card / 18) (room words) g.1)) (omega
          arith)

      other : Result (collected op card root words).words out
          (cond (is_roomy (outermost op card root) (length out) (card_growth op card) (collected op card root words)) (direct op card root 0 (collected op card root words) out)
          (in_two op card root 0 (collected op card root words) out))
      other =
          by-test (is_roomy (outermost op card root) (length out) (card_growth op card) (collected op card root words))
          (λ t. rw t (at_once z 0 (collected op card root words) (λ e. mine) out
          (roomy-none op card root n sound bc br (collected op card root words) mine out t)
          (roomy-fits op card root n sound bc br (collected op card root words) mine out t)))
          (λ t. rw t (in-two z 0 (collected op card root words) (λ e. mine) out))
