-- The output is measured before a byte of it is written (01, "The console's answers": 8 and 9 leave the out buffer), unless it surely has room, and every table
-- too, as it has over a sound card where `surely_fits` or `is_roomy` say so. Assumes nothing: these are definitions.
use Rattle.answers.specs.Answers.{Answer}
use Rattle.answers.specs.declared.Refusal.TheVariants.{FullTable}
use Rattle.std.specs.Prelude.{Ok, Err}
use Rattle.std.specs.Prelude.{Bool, not, ◌&&◌, cond, List, [], ◌∷◌, ℕ, ◌-◌, length, eqb, leb, ltb}
use Rattle.wire.specs.Numbers.{Bytes}
use Rattle.records.specs.Record.{kind_of}
use Rattle.operation.specs.declared.Shortening.{Shortening}
use Rattle.prefix.specs.Prefix.{Scope, scope}
use Rattle.adding.specs.Adds.{Table, table}
use Rattle.fields.specs.Fields.{name_place}
use Rattle.tables.specs.Tables.{table_of}
use Rattle.laying.specs.Lays.{lay}
use Rattle.modules.specs.Modules.{Made, card_made}
use Rattle.growth.specs.Grows.{card_growth}
use Rattle.fitting.specs.Fitting.{surely_fits, is_roomy}

-- what is answered, and what the out buffer and the words then hold
pub record Output : Type 0 where
  pub answer : Answer
  pub out : Bytes
  pub words : List ℕ

abbrev pub output : Answer → Bytes → List ℕ → Output
output answer out words = record { answer = answer; out = out; words = words }

-- whether a card stays as it is: it is no longer than places reach, and its record is no Mod
unfoldable pub stays_whole : Bytes → Bool
stays_whole card = leb (length card) 65536 && not (eqb (kind_of card) 0x60)

module _ (op : Shortening) (card root : Bytes) where
  -- by words that hold this table, of the module at a place: at place 65537 stands none
  unfoldable pub first_made : ℕ → Table → Made
  first_made owner held = card_made op card root owner held

  -- and once more, by the words as they are then
  unfoldable pub written : ℕ → Table → Made
  written owner held = card_made op card root (first_made owner held).owner (first_made owner held).held

  -- written at once
  unfoldable pub direct : ℕ → Table → Bytes → Output
  direct owner held out =
      let m : Made = first_made owner held in
      cond (ltb 0 m.full) (output (Err (FullTable (m.full - 1))) (lay out 0 m.bytes) m.held.words)
      (output (Ok (length m.bytes)) (lay out 0 m.bytes) m.held.words)

  -- measured, and then written where there is room
  unfoldable pub in_two : ℕ → Table → Bytes → Output
  in_two owner held out =
      let m : Made = first_made owner held in
      let w : Made = written owner held in
      let n : ℕ = length m.bytes in
      cond (ltb 0 m.full) (output (Err (FullTable (m.full - 1))) out m.held.words)
      (cond (ltb (length out) n) (output (Ok n) out m.held.words) (output (Ok n) (lay out 0 w.bytes) w.held.words))

  -- the outermost module, and its table
  abbrev pub outermost : Scope
  outermost = scope op card root (name_place card 0 ∷ [])

  unfoldable pub collected : List ℕ → Table
  collected words = table_of outermost 48 0 65537 (table 0 words)

  unfoldable pub whole_output : List ℕ → Bytes → Output
  whole_output words out =
      let mine : Table = collected words in
      cond (surely_fits op card out words) (direct 65537 (table 0 words) out)
      (cond (is_roomy outermost (length out) (card_growth op card) mine) (direct 0 mine out) (in_two 0 mine out))
