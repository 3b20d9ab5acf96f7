-- The output with its list (02, request 1). A list that has a word for every six bytes of a sound card suffices (places/proofs/Few): the output is then written
-- as without a list, and listed. Else it is measured and counted first, so that 8, 9 and 10 are known before anything is written. Assumes nothing: these are
-- definitions.
use Rattle.std.specs.Prelude.{cond, List, ℕ, ◌-◌, ◌/◌, ◌%◌, ◌^◌, length, take, leb, ltb, Result, Ok, Err}
use Rattle.answers.specs.Answers.{Answer}
use Rattle.answers.specs.declared.Refusal.{Refusal}
use Rattle.answers.specs.declared.Refusal.TheVariants.{FullTable, NoSpace, ShortList}
use Rattle.wire.specs.Numbers.{Bytes}
use Rattle.operation.specs.declared.Pass.{Pass}
use Rattle.operation.specs.Operations.{plain_of, weighed_of}
use Rattle.adding.specs.Adds.{table}
use Rattle.laying.specs.Lays.{lay}
use Rattle.places.specs.Places.{Entry, entry_words}
use Rattle.listing.specs.Lists.{card_places}
use Rattle.modules.specs.Modules.{Made, card_made}
use Rattle.measuring.specs.Measured.{Output, whole_output}
use Rattle.placing.specs.declared.Tally.{Tally}
use Rattle.placing.specs.declared.Listed.{Listed}

-- an answer, and how many entries its list has where it accepts
abbrev pub listed : Answer → ℕ → Result Listed Refusal
listed (Ok length) entries = Ok (record { length = length; entries = entries })
listed (Err a) entries = Err a

-- what is answered, and what the out buffer, the words and the list then hold
pub record Placing : Type 0 where
  pub answer : Result Listed Refusal
  pub out : Bytes
  pub words : List ℕ
  pub list : List ℕ

abbrev pub placing : Result Listed Refusal → Bytes → (words list : List ℕ) → Placing
placing answer out words list = record { answer = answer; out = out; words = words; list = list }

-- a weighed length taken apart: each entry weighs 2 ^ 24, and an output is shorter than that
abbrev pub tally_of : Made → Tally
tally_of m = record { length = length m.bytes % 2 ^ 24; entries = length m.bytes / 2 ^ 24 }

-- or 8
abbrev pub measured : Made → Result Tally Refusal
measured m = cond (ltb 0 m.full) (Err (FullTable (m.full - 1))) (Ok (tally_of m))

-- listed after it was written
abbrev pub listed_after : (card : Bytes) → Answer → Bytes → (words list : List ℕ) → Placing
listed_after card (Err a) out words list = placing (Err a) out words list
listed_after card (Ok n) out words list =
    let es : List Entry = card_places card (take n out) in
    cond (ltb (length out) n) (placing (listed (Err NoSpace) 0) out words list) (placing (listed (Ok n) (length es)) out words (lay list 0 (entry_words es)))

module _ (pass : Pass) (card root : Bytes) where
  unfoldable pub weighed_made : List ℕ → Made
  weighed_made words = card_made (weighed_of pass) card root 65537 (table 0 words)

  -- the output itself, by words that hold no table
  unfoldable pub plain_made : List ℕ → Made
  plain_made words = card_made (plain_of pass) card root 65537 (table 0 (weighed_made words).held.words)

  unfoldable pub counted_first : (words list : List ℕ) → Bytes → Placing
  counted_first words list out =
      let m : Made = weighed_made words in
      let w : Made = plain_made words in
      let t : Tally = tally_of m in
      let after : Bytes = lay out 0 w.bytes in
      cond (ltb 0 m.full) (placing (listed (Err (FullTable (m.full - 1))) 0) out m.held.words list)
      (cond (ltb (length out) t.length) (placing (listed (Err NoSpace) 0) out m.held.words list)
      (cond (ltb (length list / 2) t.entries) (placing (listed (Err ShortList) 0) out m.held.words list)
      (placing (listed (Ok t.length) t.entries) after w.held.words (lay list 0 (entry_words (card_places card (take t.length after)))))))

  unfoldable pub written_first : (words list : List ℕ) → Bytes → Placing
  written_first words list out =
      let o : Output = whole_output (plain_of pass) card root words out in
      listed_after card o.answer o.out o.words list

  unfoldable pub placed : (words list : List ℕ) → Bytes → Placing
  placed words list out = cond (leb (length card / 6) (length list)) (written_first words list out) (counted_first words list out)
