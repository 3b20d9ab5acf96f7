-- 01, "The console's answers", and demand 1: what a call answers, and what the lent memory then holds. Assumes nothing: these are definitions.
use Rattle.std.specs.Prelude.{List, ◌++◌, Bool, true, false, ◌&&◌, not, cond, ℕ, length, drop, replicate, leb, ltb, Ok, Err}
use Rattle.answers.specs.Answers.{Answer}
use Rattle.answers.specs.declared.Refusal.{Refusal}
use Rattle.answers.specs.declared.Refusal.TheVariants.{ShortWork, LongCard, BadRoot, FullTable, NoSpace}
use Rattle.answers.specs.Answers.{Verdict}
use Rattle.wire.specs.Numbers.{Bytes}
use Rattle.records.specs.Record.{encode, tree, deep}
use Rattle.records.specs.Kinds.{path}
use Rattle.records.specs.Reading.{reading}
use Rattle.rast.specs.Path.{MSel, whether}
use Rattle.rast.specs.Operation.{Operation}
use Rattle.rast.specs.Mod.{name_of}
use Rattle.factor_paths.specs.Apply.{apply}
use Rattle.outcome.specs.FullTable.{full_table}

-- an answer, and what the out buffer and the work words hold after it
pub record Outcome : Type 0 where
  pub answer : Answer
  pub out : Bytes
  pub work : List ℕ

abbrev pub is_sound : Verdict → Bool
is_sound (Ok _) = true
is_sound (Err a) = false

abbrev pub good_root : Operation → Bytes → Bool
good_root op root = leb (length root) op.most_root_bytes && is_sound (reading op.root_depth path root)

-- 1, 2 and 3, then 4 to 7 and 11
module _ (op : Operation) (card root : Bytes) (words : ℕ) where
  unfoldable pub admitted : Verdict
  admitted =
      let read : Verdict = reading op.card_depth op.outermost card in
      cond (ltb words op.fewest_words) (Err ShortWork)
      (cond (ltb op.most_card_bytes (length card)) (Err LongCard)
      (cond (not (good_root op root)) (Err BadRoot) read))

module _ (op : Operation) (card root out : Bytes) (work : List ℕ) where
  -- the out buffer is left, and the work words are left or zero
  abbrev pub refusal : Refusal → Outcome
  refusal a = record { answer = Err a; out = out; work = work }

  abbrev pub zeros : List ℕ
  zeros = replicate (length work) 0

  abbrev pub late_refusal : Refusal → Outcome
  late_refusal a = record { answer = Err a; out = out; work = zeros }

  abbrev pub output : Bytes
  output = encode (apply op (tree root) (tree card))

  -- 9, or acceptance
  abbrev pub written : Outcome
  written =
      cond (ltb (length out) (length output)) (late_refusal NoSpace)
      (record { answer = Ok (length output); out = output ++ drop (length output) out; work = zeros })

  -- 8, where a table may have so many pairs, and then 9
  abbrev pub shortened : ℕ → Outcome
  shortened most =
      whether (full_table op most (deep (tree card)) (tree card) (MSel (tree root) (name_of (tree card))) 0)
      written (λ place. late_refusal (FullTable place))

  abbrev pub after_reading : ℕ → Verdict → Outcome
  after_reading most (Err a) = refusal a
  after_reading most (Ok _) = shortened most

  -- what is answered where a table may have so many pairs
  abbrev pub shorten_within : ℕ → Outcome
  shorten_within most = after_reading most (admitted op card root (length work))

  -- and so many are as the operation says of the words lent (02, request 5)
  unfoldable pub shorten : Outcome
  shorten = shorten_within (op.most_pairs (length work))
