-- What is measured and what is written, test by test. Assumes nothing.
use mathlib.Core.Path.{◌≡◌, refl, ap, ap₂, sym, ◌∙◌}
use mathlib.Core.Bool.{Bool, true, false, not, and-eq-true_iff}
use mathlib.Core.List.{List, [], ◌∷◌, ◌++◌}
use Prim.Native.Nat.{ℕ, ◌+◌, ◌-◌, ◌<◌, ◌≤◌}
use native.Mathlib.Omega.{arith}
use lib.ListN.{length, drop}
use lib.Dec.{eqb, leb, ltb}
use borrow.Author.Tests.{lt-ltb, le-ltb, lt-leb, le-leb, leb-true}
use Rattle.answers.specs.declared.Refusal.TheVariants.{FullTable}
use Rattle.std.specs.Prelude.{Ok, Err}
use Rattle.wire.specs.Numbers.{Bytes}
use Rattle.wire.proofs.Slices.{tail-is}
use Rattle.records.specs.Record.{kind_of}
use Rattle.operation.specs.declared.Shortening.{Shortening}
use Rattle.adding.specs.Adds.{Table, table}
use Rattle.adding.specs.Settles.{settled_table}
use Rattle.prefix.specs.Prefix.{scope}
use Rattle.fields.specs.Fields.{name_place}
use Rattle.gathering.specs.Gathers.{gathered}
use Rattle.tables.specs.Tables.{table_of}
use Rattle.laying.specs.Lays.{lay}
use Rattle.modules.specs.Modules.{Made, made, module_made, card_made}
use Rattle.writing.specs.Wrote.{Wrote}
use Rattle.growth.specs.Grows.{card_growth}
use Rattle.fitting.specs.Fitting.{surely_fits, is_roomy}
use Rattle.measuring.specs.Measured.{stays_whole, Output, output, first_made, written, direct, in_two, outermost, collected, whole_output}

-- nothing is laid over no bytes
none-laid : (b : Bytes) → lay [] 0 b ≡ []
unfolding lay
none-laid b = refl

-- a card that stays as it is
module _ (card : Bytes) where
  pub stays-not : 65536 < length card → false ≡ stays_whole card
  unfolding stays_whole
  stays-not l = rw (lt-leb (length card) 65536 l)

  pub stays-other : length card ≤ 65536 → {k : ℕ} → k ≡ kind_of card → not (eqb k 0x60) ≡ stays_whole card
  unfolding stays_whole
  stays-other l e = rw (le-leb (length card) 65536 l, e)

  module _ {b : Bool} (e : b ≡ stays_whole card) (t : b ≡ true) (op : Shortening) (root : Bytes) (owner : ℕ) (held : Table) where
    tests : (leb (length card) 65536 ≡ true) × (not (eqb (kind_of card) 0x60) ≡ true)
    unfolding stays_whole
    tests = (and-eq-true_iff (leb (length card) 65536) (not (eqb (kind_of card) 0x60))).0 (sym e ∙ t)

    made-whole : card_made op card root owner held ≡ made card 0 owner held
    unfolding card_made module_made
    made-whole =
        let l = leb-true (length card) 65536 tests.0 in
        rw (le-ltb 65536 (length card) l, tail-is card 0, tests.1)

    pub direct-whole : (out : Bytes) {after : Bytes} → after ≡ lay out 0 card → output (Ok (length card)) after held.words ≡ direct op card root owner held out
    unfolding direct first_made
    direct-whole out x = rw (x, made-whole)

-- written at once
module _ (op : Shortening) (card root : Bytes) (owner₀ : ℕ) (held₀ : Table) {out after : Bytes} {words₁ : List ℕ} {len full owner pairs : ℕ}
    (w : Wrote out after words₁ len full owner pairs (card_made op card root owner₀ held₀)) where
  abbrev M : Made
  M = card_made op card root owner₀ held₀

  held : words₁ ≡ M.held.words
  held = ap (λ (t : Table). t.words) w.held-is

  pub direct-full : {place : ℕ} → full ≡ place + 1 → output (Err (FullTable place)) after words₁ ≡ direct op card root owner₀ held₀ out
  unfolding direct first_made
  direct-full {place} e =
      let q : M.full ≡ place + 1 = sym w.full_is ∙ e in
      let z : place + 1 - 1 ≡ place = omega arith in
      rw (held, w.laid, q, lt-ltb 0 (place + 1) (omega arith), z)

  pub direct-gives : full ≡ 0 → output (Ok len) after words₁ ≡ direct op card root owner₀ held₀ out
  unfolding direct first_made
  direct-gives e =
      let q : M.full ≡ 0 = sym w.full_is ∙ e in
      rw (held, w.laid, w.length-is, q)

-- measured first
module _ (op : Shortening) (card root : Bytes) (owner₀ : ℕ) (held₀ : Table) (out : Bytes) {part : Bytes} {words₁ : List ℕ} {len full owner pairs : ℕ}
    (w : Wrote [] part words₁ len full owner pairs (card_made op card root owner₀ held₀)) where
  -- out comes back as it was
  pub same_out : part ++ drop 0 out ≡ out
  same_out = ap (λ (x : Bytes). x ++ out) (w.laid ∙ none-laid _)

  is-full : full ≡ (first_made op card root owner₀ held₀).full
  unfolding first_made
  is-full = w.full_is

  is-length : len ≡ length (first_made op card root owner₀ held₀).bytes
  unfolding first_made
  is-length = w.length-is

  is-words : words₁ ≡ (first_made op card root owner₀ held₀).held.words
  unfolding first_made
  is-words = ap (λ (t : Table). t.words) w.held-is

  again : card_made op card root owner (table pairs words₁) ≡ written op card root owner₀ held₀
  unfolding written first_made
  again = ap₂ (card_made op card root) w.owner-is w.held-is

  pub full-gives : {place : ℕ} → full ≡ place + 1 → output (Err (FullTable place)) (part ++ drop 0 out) words₁ ≡ in_two op card root owner₀ held₀ out
  unfolding in_two
  full-gives {place} e =
      let q : (first_made op card root owner₀ held₀).full ≡ place + 1 = sym is-full ∙ e in
      let z : place + 1 - 1 ≡ place = omega arith in
      rw (same_out, is-words, q, lt-ltb 0 (place + 1) (omega arith), z)

  module _ (e : full ≡ 0) where
    none-full : ltb 0 (first_made op card root owner₀ held₀).full ≡ false
    none-full = let q : (first_made op card root owner₀ held₀).full ≡ 0 = sym is-full ∙ e in rw q

    pub no-room-gives : length (part ++ drop 0 out) < len → output (Ok len) (part ++ drop 0 out) words₁ ≡ in_two op card root owner₀ held₀ out
    unfolding in_two
    no-room-gives h =
        rw (same_out, is-words, is-length)
        (rw (none-full, lt-ltb (length out) (length (first_made op card root owner₀ held₀).bytes) (rw (same_out, is-length) at h)))

    pub room-gives : len ≤ length (part ++ drop 0 out) → {after : Bytes} {words₂ : List ℕ} {len₂ full₂ owner₂ pairs₂ : ℕ}
        → Wrote (part ++ drop 0 out) after words₂ len₂ full₂ owner₂ pairs₂ (card_made op card root owner (table pairs words₁))
        → output (Ok len) after words₂ ≡ in_two op card root owner₀ held₀ out
    unfolding in_two
    room-gives h x =
        rw (x.laid, same_out, ap (λ (t : Table). t.words) x.held-is, again, is-length)
        (rw (none-full, le-ltb (length out) (length (first_made op card root owner₀ held₀).bytes) (rw (same_out, is-length) at h)))

-- which of them
module _ (op : Shortening) (card root : Bytes) (words : List ℕ) (out : Bytes) where
  pub surely-gives : {o : Output} {b : Bool} → b ≡ surely_fits op card out words → b ≡ true → o ≡ direct op card root 65537 (table 0 words) out
      → o ≡ whole_output op card root words out
  unfolding whole_output
  surely-gives e t x = x ∙ rw (← e, t)

  -- place is where the outermost module's name stands, and mine its table, as the code has them
  module _ {b : Bool} (e : b ≡ surely_fits op card out words) (t : b ≡ false) {place : ℕ} (p : place ≡ name_place card 0) {mine : Table}
      {surveyed : Table} (g : surveyed ≡ gathered (scope op card root (place ∷ [])) 48 0 words) (m : mine ≡ settled_table surveyed)
      {grown : ℕ} (h : grown ≡ card_growth op card) {d : Bool} (f : d ≡ is_roomy (scope op card root (place ∷ [])) (length out) grown mine) where
    is-mine : mine ≡ collected op card root words
    unfolding collected table_of
    is-mine = m ∙ ap settled_table g ∙ rw p

    is-roomy : is_roomy (outermost op card root) (length out) (card_growth op card) (collected op card root words) ≡ d
    is-roomy = rw (← is-mine, ← p, ← h) (sym f)

    pub roomy-gives : {o : Output} → d ≡ true → o ≡ direct op card root 0 mine out → o ≡ whole_output op card root words out
    unfolding whole_output
    roomy-gives y x = x ∙ rw (← e, t, is-roomy, y, ← is-mine)

    pub other-gives : {o : Output} → d ≡ false → o ≡ in_two op card root 0 mine out → o ≡ whole_output op card root words out
    unfolding whole_output
    other-gives y x = x ∙ rw (← e, t, is-roomy, y, ← is-mine)
