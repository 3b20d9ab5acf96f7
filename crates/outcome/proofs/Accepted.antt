-- What an acceptance says of what was lent, and of what is put out. Assumes nothing.
use Rattle.std.specs.Prelude.{Ok, Err}
use mathlib.Core.Path.{◌≡◌, refl, ap, sym, ◌∙◌}
use mathlib.Core.List.{List, ◌++◌}
use mathlib.Core.Bool.{Bool, true, false, false≢true}
use mathlib.Core.Option.{none}
use Prim.Native.Nat.{ℕ, ◌*◌, ◌≤◌}
use native.Mathlib.Omega.{arith}
use lib.ListN.{length, drop, replicate}
use lib.Dec.{leb, ltb}
use borrow.Author.Tests.{ltb-false, leb-true}
use Rattle.answers.specs.Answers.{number, value}
use Rattle.answers.specs.Answers.{Answer}
use Rattle.answers.proofs.Plain.{refusal-numbered}
use Rattle.answers.specs.declared.Refusal.{Refusal}
use Rattle.answers.specs.declared.Refusal.TheVariants.{ShortWork, LongCard, BadRoot, ShortRecord, WrongKind}
use Rattle.answers.specs.declared.Refusal.TheVariants.{TooDeep, LeftOver, FullTable, NoSpace, ShortList, NoName}
use Rattle.answers.specs.Answers.{Verdict}
use Rattle.wire.specs.Numbers.{Bytes, AreBytes}
use Rattle.records.specs.Record.{deep, tree}
use Rattle.records.specs.Kinds.{path}
use Rattle.records.specs.Reading.{reading}
use Rattle.records.proofs.Run.{both}
use Rattle.records.proofs.Faults.{fault, fair, reading-fair}
use Rattle.rast.specs.Path.{MSel}
use Rattle.rast.specs.Operation.{Operation, upstream, shortening}
use Rattle.rast.specs.Mod.{name_of}
use Rattle.rast.proofs.Tests.{by-test, by-option}
use Rattle.size.specs.Bound.{times}
use Rattle.size.proofs.Bound.{card-bound}
use Rattle.outcome.specs.FullTable.{full_table}
use Rattle.outcome.specs.Outcome.{Outcome, is_sound, good_root, admitted, output, after_reading, shorten}

pub record Accepted (op : Operation) (card root out : Bytes) (work : List ℕ) (n : ℕ) : Type 0 where
  pub words : op.fewest_words ≤ length work
  pub card-length : length card ≤ op.most_card_bytes
  pub root-length : length root ≤ op.most_root_bytes
  pub root-sound : reading op.root_depth path root ≡ Ok tt
  pub card-sound : reading op.card_depth op.outermost card ≡ Ok tt
  pub no-full-table : full_table op (op.most_pairs (length work)) (deep (tree card)) (tree card) (MSel (tree root) (name_of (tree card))) 0 ≡ none
  pub fits : length (output op card root out work) ≤ length out
  pub long : n ≡ length (output op card root out work)
  pub out-is : (shorten op card root out work).out ≡ output op card root out work ++ drop (length (output op card root out work)) out
  pub work-is : (shorten op card root out work).work ≡ replicate (length work) 0

is-sound : (v : Verdict) → is_sound v ≡ true → v ≡ Ok tt
is-sound (Ok _) e = refl
is-sound (Err a) e = absurd (false≢true e)

-- no refusal is an acceptance
never : {X : Type 0} (a : Answer) (n : ℕ) → (number a ≡ 0 → ⊥) → a ≡ Ok n → X
never a n h e = absurd (h (ap number e))

-- nor is one by which a card is not admitted
pub refused-number : (op : Operation) (card root : Bytes) (words : ℕ) (a : Refusal) → admitted op card root words ≡ Err a → number (Err a) ≡ 0 → ⊥
refused-number op card root words a h z = let n = refusal-numbered a in omega arith

-- a card that is admitted
-- the operations admit alike
pub admitted-alike : (again : Bool) (card root : Bytes) (words : ℕ) → admitted (shortening again) card root words ≡ admitted upstream card root words
unfolding admitted
admitted-alike again card root words = refl

pub record Admitted (op : Operation) (card root : Bytes) (words : ℕ) : Type 0 where
  pub enough : op.fewest_words ≤ words
  pub card-length : length card ≤ op.most_card_bytes
  pub root-length : length root ≤ op.most_root_bytes
  pub root-sound : reading op.root_depth path root ≡ Ok tt
  pub card-sound : reading op.card_depth op.outermost card ≡ Ok tt

pub admitted-sound : (op : Operation) (card root : Bytes) (words : ℕ) → admitted op card root words ≡ Ok tt → Admitted op card root words
unfolding admitted
admitted-sound op card root words h =
    by-test (ltb words op.fewest_words) (λ a. not-refused (rw a at h))
    (λ a. by-test (ltb op.most_card_bytes (length card)) (λ b. not-refused (rw (a, b) at h))
    (λ b. by-test (good_root op root)
    (λ g. let r = both (leb (length root) op.most_root_bytes) (is_sound (reading op.root_depth path root)) g in
    record {
      enough = ltb-false words op.fewest_words a;
      card-length = ltb-false op.most_card_bytes (length card) b;
      root-length = leb-true (length root) op.most_root_bytes r.0;
      root-sound = is-sound (reading op.root_depth path root) r.1;
      card-sound = rw (a, b, g) at h;
    })
    (λ g. not-refused (rw (a, b, g) at h))))
  where
    not-refused : {a : Refusal} → ◌≡◌ {A = Verdict} (Err a) (Ok tt) → Admitted op card root words
    not-refused z = absurd (false≢true (ap is_sound z))

module _ (op : Operation) (card root out : Bytes) (work : List ℕ) (n : ℕ) where
  abbrev made : Outcome
  made =
      let o : Bytes = output op card root out work in
      record { answer = Ok (length o); out = o ++ drop (length o) out; work = replicate (length work) 0 }

  -- the checks, each passed
  pub record Passed : Type 0 where
    pub enough : ltb (length work) op.fewest_words ≡ false
    pub brief : ltb op.most_card_bytes (length card) ≡ false
    pub rooted : good_root op root ≡ true
    pub sound : reading op.card_depth op.outermost card ≡ Ok tt
    pub table : full_table op (op.most_pairs (length work)) (deep (tree card)) (tree card) (MSel (tree root) (name_of (tree card))) 0 ≡ none
    pub room : ltb (length out) (length (output op card root out work)) ≡ false

  pub passed-made : Passed → shorten op card root out work ≡ made
  unfolding shorten admitted
  passed-made p = rw (p.enough, p.brief, p.rooted, p.sound, p.table, p.room)

  passed-admitted : Passed → admitted op card root (length work) ≡ Ok tt
  unfolding admitted
  passed-admitted p = rw (p.enough, p.brief, p.rooted, p.sound)

  pub passed : (shorten op card root out work).answer ≡ Ok n → Passed
  unfolding shorten admitted
  passed h =
      by-test (ltb (length work) op.fewest_words) (λ a. never (Err ShortWork) n (λ z. omega arith) (rw a at h))
      (λ a. by-test (ltb op.most_card_bytes (length card)) (λ b. never (Err LongCard) n (λ z. omega arith) (rw (a, b) at h))
      (λ b. by-test (good_root op root)
      (λ g. go a b g (reading op.card_depth op.outermost card) refl (reading-fair op.card_depth op.outermost card) (rw (a, b, g) at h))
      (λ g. never (Err BadRoot) n (λ z. omega arith) (rw (a, b, g) at h))))
    where
      go : ltb (length work) op.fewest_words ≡ false → ltb op.most_card_bytes (length card) ≡ false → good_root op root ≡ true →
          (v : Verdict) → reading op.card_depth op.outermost card ≡ v → fair (reading op.card_depth op.outermost card) ≡ true
          → (after_reading op card root out work (op.most_pairs (length work)) v).answer ≡ Ok n → Passed
      go a b g (Err x) e f h = never (Err x) n (λ z. let m = refusal-numbered x in omega arith) h
      go a b g (Ok _) e f h =
          by-option (full_table op (op.most_pairs (length work)) (deep (tree card)) (tree card) (MSel (tree root) (name_of (tree card))) 0)
          (λ t. by-test (ltb (length out) (length (output op card root out work)))
          (λ r. never (Err NoSpace) n (λ z. omega arith) (rw (t, r) at h))
          (λ r. record { enough = a; brief = b; rooted = g; sound = e; table = t; room = r }))
          (λ place t. never (Err (FullTable place)) n (λ z. omega arith) (rw t at h))

  -- an acceptance is one after every check
  pub accepted : (shorten op card root out work).answer ≡ Ok n → Accepted op card root out work n
  accepted h =
      let p : Passed = passed h in
      let e : shorten op card root out work ≡ made = passed-made p in
      let a : Admitted op card root (length work) = admitted-sound op card root (length work) (passed-admitted p) in
      record {
        words = a.enough;
        card-length = a.card-length;
        root-length = a.root-length;
        root-sound = a.root-sound;
        card-sound = a.card-sound;
        no-full-table = p.table;
        fits = ltb-false (length out) (length (output op card root out work)) p.room;
        long = ap value (sym h ∙ ap (λ (o : Outcome). o.answer) e);
        out-is = ap (λ (o : Outcome). o.out) e;
        work-is = ap (λ (o : Outcome). o.work) e;
      }

-- and how long an output can be
pub accepted-times : (again : Bool) (card root out : Bytes) (work : List ℕ) (n : ℕ) → AreBytes card
    → (shorten (shortening again) card root out work).answer ≡ Ok n → n ≤ times (shortening again) * length card
accepted-times again card root out work n b h =
    let a = accepted (shortening again) card root out work n h in
    rw a.long (card-bound again (tree root) card b a.card-sound)
