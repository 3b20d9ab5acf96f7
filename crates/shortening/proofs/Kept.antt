-- The promise, by what admission and measuring say. Assumes nothing.
use Rattle.std.specs.Prelude.{Ok, Err}
use mathlib.Core.Path.{◌≡◌, refl, sym, ap, ◌∙◌}
use mathlib.Core.Bool.{cond}
use mathlib.Core.List.{List, ◌++◌}
use mathlib.Core.Option.{Option, none, some}
use Prim.Native.Nat.{ℕ, ◌<◌, ◌≤◌}
use native.Mathlib.Omega.{arith}
use lib.ListN.{length, take, drop, get_or, replicate, length-drop, length-append}
use lib.Dec.{ltb}
use borrow.Author.Tests.{ltb-false, lt-ltb, le-ltb}
use Rattle.answers.specs.Answers.{Answer}
use Rattle.answers.specs.declared.Refusal.{Refusal}
use Rattle.answers.specs.declared.Refusal.TheVariants.{FullTable, NoSpace}
use Rattle.answers.specs.Answers.{Verdict}
use Rattle.wire.specs.Numbers.{Bytes}
use Rattle.wire.proofs.Numbers.{are-bytes}
use Rattle.rast.specs.Path.{whether}
use Rattle.rast.specs.Operation.{upstream}
use Rattle.rast.proofs.Tests.{by-test}
use Rattle.outcome.specs.Outcome.{Outcome, admitted, shorten}
use Rattle.outcome.proofs.Accepted.{admitted-alike, accepted-times}
use Rattle.points.proofs.Demand.{demand-3}
use Rattle.operation.specs.declared.Pass.{Pass}
use Rattle.operation.specs.declared.Shortening.{Shortening}
use Rattle.operation.specs.Passes.{repeats, asked}
use Rattle.operation.specs.Operations.{pass_of, operation_of, plain_of, weight_of}
use Rattle.operation.proofs.Lawful.{pass-plain}
use Rattle.operation.proofs.Weights.{plain-weight}
use Rattle.chains.specs.Chains.{room}
use Rattle.work.specs.Taken.{for_table}
use Rattle.work.proofs.Lent.{most, words-all}
use Rattle.measuring.specs.Measured.{output, whole_output}
use Rattle.measured.proofs.Sound.{FullAt, Bytes', Result, whole-sound}
use Rattle.shortening.specs.Shortened.{answer_of, outcome, Promise, Answered}

-- an outcome that is the definition's keeps the promise
pub promised : (pass : Pass) (card root out : Bytes) (work : List ℕ) (a : Answer) (out' : Bytes) (work' : List ℕ) → ((i : ℕ) → get_or card i 0 < 256) →
    ((i : ℕ) → get_or root i 0 < 256)
    → outcome a out' work' ≡ shorten (asked pass) card root out work → Promise pass card root out work a out' work'
promised pass card root out work a out' work' bc br e =
    record {
      fixed = e;
      names = λ n h. rw (← ap (λ (o : Outcome). o.out) e) at
          (demand-3 (repeats pass) card root out work n (are-bytes card bc) (are-bytes root br) (ap (λ (o : Outcome). o.answer) (sym e) ∙ h));
      bound = λ n h. accepted-times (repeats pass) card root out work n (are-bytes card bc) (ap (λ (o : Outcome). o.answer) (sym e) ∙ h);
    }

-- what is made of a card that is admitted, by words that have room for as many pairs as there may be, or for all that the card can have
module _ (op : Shortening) (weightless : weight_of op ≡ 0) (card root out : Bytes) (work : List ℕ)
    (bc : (i : ℕ) → get_or card i 0 < 256) (br : (i : ℕ) → get_or root i 0 < 256)
    (is-sound : admitted (operation_of op) card root (length work) ≡ Ok tt) (words : List ℕ)
    (enough-words : FullAt op card root (length work) is-sound bc br (room words)
    ≡ FullAt op card root (length work) is-sound bc br (upstream.most_pairs (length work))) where
  abbrev Whole : Bytes
  Whole = Bytes' op card root (length work) is-sound bc br

  abbrev Place : Option ℕ
  Place = FullAt op card root (length work) is-sound bc br (upstream.most_pairs (length work))

  room-same : length Whole ≤ length out → length (Whole ++ drop (length Whole) out) ≡ length out
  room-same l = let a = length-append Whole (drop (length Whole) out) in let b = length-drop (length Whole) out in omega arith

  module _ (w : Answer) (out' : Bytes) (words' : List ℕ) (o : output w out' words' ≡ whole_output op card root words out) where
    result : Result op card root (length work) is-sound bc br words out (output w out' words')
    result = rw o (whole-sound op card root (length work) is-sound bc br weightless words out)

    answer-is : (x : Option ℕ) → Place ≡ x → w ≡ whether x (Ok (length Whole)) (λ place. Err (FullTable place))
    answer-is x q = result.answer-is ∙ ap (λ (y : Option ℕ). whether y (Ok (length Whole)) (λ place. Err (FullTable place))) (enough-words ∙ q)

    out-is : (x : Option ℕ) → Place ≡ x → out' ≡ whether x (cond (ltb (length out) (length Whole)) out (Whole ++ drop (length Whole) out)) (λ place. out)
    out-is x q = result.out-is ∙ ap (λ (y : Option ℕ). whether y (cond (ltb (length out) (length Whole)) out (Whole ++ drop (length Whole) out))
        (λ place. out)) (enough-words ∙ q)

    is-outcome : (x : Option ℕ) → Place ≡ x
        → outcome (answer_of w (length out')) out' (replicate (length work) 0) ≡ shorten (operation_of op) card root out work
    unfolding shorten
    is-outcome none q =
        rw (out-is none q, answer-is none q, is-sound, q)
        (by-test (ltb (length out) (length Whole)) (λ t. rw (t, t))
        (λ t. rw (t, room-same (ltb-false (length out) (length Whole) t), t)))
    is-outcome (some place) q = rw (out-is (some place) q, answer-is (some place) q, is-sound, q)

    pub made : outcome (answer_of w (length out')) out' (replicate (length work) 0) ≡ shorten (operation_of op) card root out work
    made = is-outcome Place refl

-- a card refused, by any pass
module _ (pass : Pass) (card root out : Bytes) (work : List ℕ) (bc : (i : ℕ) → get_or card i 0 < 256) (br : (i : ℕ) → get_or root i 0 < 256)
    (v : Verdict) (e : v ≡ admitted upstream card root (length work)) where
  pub refused : {r : Answer} (a : Refusal) → r ≡ Err a → v ≡ Err a → Promise pass card root out work r out work
  unfolding shorten
  refused {r} a q h = promised pass card root out work r out work bc br (rw (q, admitted-alike (repeats pass) card root (length work), ← e, h))

  module _ (h : v ≡ Ok tt) (used : ℕ) (u : used ≡ for_table (length work)) where
    module _ (op : Shortening) (p : op ≡ plain_of pass) (w : Answer) (out' : Bytes) (words : List ℕ)
        (o : output w out' words ≡ whole_output op card root (take used work) out) where
      same-pass : pass_of op ≡ pass
      same-pass = ap pass_of p ∙ pass-plain pass

      weightless : weight_of op ≡ 0
      weightless = ap weight_of p ∙ plain-weight pass

      is-sound : admitted (operation_of op) card root (length work) ≡ Ok tt
      is-sound = admitted-alike (repeats (pass_of op)) card root (length work) ∙ sym e ∙ h

      words_long : length words ≡ length (take used work)
      words_long = (rw (← o) at (whole-sound op card root (length work) is-sound bc br weightless (take used work) out)).words_long

      pub kept : (work' : List ℕ) → work' ≡ replicate (length (words ++ drop used work)) 0 → (a : Answer) → a ≡ answer_of w (length out')
          → Promise pass card root out work a out' work'
      kept work' z a f =
          promised pass card root out work a out' work' bc br
          (rw (f, z ∙ ap (λ (n : ℕ). replicate n 0) (words-all work used u words words_long))
          (made op weightless card root out work bc br is-sound (take used work)
          (ap (FullAt op card root (length work) is-sound bc br) (most work used u)) w out' words o
          ∙ ap (λ (q : Pass). shorten (asked q) card root out work) same-pass))

-- what is promised of all that is lent is promised of the answer and the out bytes
pub answered : {pass : Pass} {card root out : Bytes} {work : List ℕ} {a : Answer} {out' : Bytes} {work' : List ℕ} → Promise pass card root out work a out' work'
    → Answered pass card root (shorten (asked pass) card root out work) a out'
answered p =
    record {
      answer-is = ap (λ (o : Outcome). o.answer) p.fixed;
      out-is = ap (λ (o : Outcome). o.out) p.fixed;
      names = p.names;
      bound = p.bound;
    }

-- the answer, case by case
pub answer-refused : {r w : Answer} (a : Refusal) (lent : ℕ) → r ≡ Err a → w ≡ Err a → r ≡ answer_of w lent
answer-refused a lent q h = rw (q, h)

pub answer-no-space : (w : Answer) (n lent : ℕ) → w ≡ Ok n → lent < n → (Err NoSpace) ≡ answer_of w lent
answer-no-space w n lent h l = rw h (rw (lt-ltb lent n l))

pub answer-room : (w : Answer) (n lent : ℕ) → w ≡ Ok n → n ≤ lent → Ok n ≡ answer_of w lent
answer-room w n lent h l = rw h (rw (le-ltb lent n l))
