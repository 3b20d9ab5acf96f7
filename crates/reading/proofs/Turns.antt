-- The loop over a row's records, turn by turn, as the code has it in hand: what is left to read gives the answer. Assumes nothing.
use Rattle.std.specs.Prelude.{Ok, Err}
use mathlib.Core.Path.{◌≡◌, refl, ap, ap₂, sym, ◌∙◌}
use mathlib.Core.List.{map}
use mathlib.Core.Bool.{Bool, true, false, not, cond}
use Prim.Native.Nat.{ℕ, zero, suc, ◌+◌, ◌-◌, ◌*◌, ◌/◌, ◌%◌, ◌<◌, ◌≤◌}
use native.Mathlib.Omega.{arith}
use lib.ListN.{length, take, drop, length-take, length-drop}
use borrow.Author.Tests.{ne_eqb, lt-ltb, le-ltb, not-true, not-false}
use Rattle.answers.specs.declared.Refusal.{Refusal}
use Rattle.answers.specs.declared.Refusal.TheVariants.{ShortRecord, WrongKind, TooDeep, LeftOver, NoName}
use Rattle.answers.specs.Answers.{Verdict}
use Rattle.wire.specs.Numbers.{Bytes, num, between}
use Rattle.wire.proofs.Less.{less}
use Rattle.wire.proofs.Within.{Within, within_all, within-take, within-drop, within-own}
use Rattle.records.specs.Record.{length_of, kind_of, content_of, rest_of}
use Rattle.records.specs.Kinds.{Place, stands, row_of, Content, bytes, content_at}
use Rattle.records.specs.Reading.{short, nameless, and_then}
use Rattle.records.proofs.Tree.{long-enough, content-length}
use Rattle.rows.specs.Codes.{place_of, code_of}
use Rattle.rows.proofs.Codes.{leaf-bytes}
use Rattle.rows.proofs.Names.{no-name-due}
use Rattle.reading.specs.Reads.{reads, reads_record}
use Rattle.reading.specs.Codes.{row_content, row_after, row_ends, row_in, Good}
use Rattle.reading.proofs.Laws.{reads-record, reads-done, reads-left_over}
use Rattle.reading.proofs.Rows.{next-none, next-some, good-after, good-valid, row-end, inner-good, inner-reads, inner-empty}

-- one record's tests, in their order
pub record-short : (left at : ℕ) (p : Place) (s : Bytes) → short s ≡ true → reads_record left p at s ≡ Err (ShortRecord at)
unfolding reads_record
record-short zero at p s y = rw y
record-short (suc left) at p s y = rw y

record-wrong : (left at : ℕ) (p : Place) (s : Bytes) → short s ≡ false → stands p (kind_of s) ≡ false → reads_record left p at s ≡ Err (WrongKind at)
unfolding reads_record
record-wrong zero at p s y x = rw (y, x)
record-wrong (suc left) at p s y x = rw (y, x)

record-deep : (left at : ℕ) (p : Place) (s : Bytes) → short s ≡ false → stands p (kind_of s) ≡ true → left ≡ 0 → reads_record left p at s ≡ Err (TooDeep at)
unfolding reads_record
record-deep zero at p s y x z = rw (y, x)
record-deep (suc left) at p s y x z = absurd (omega arith)

record-nameless : (left at : ℕ) (p : Place) (s : Bytes) → short s ≡ false → stands p (kind_of s) ≡ true → (left ≡ 0 → ⊥)
    → nameless p (kind_of s) (content_of s) ≡ true → reads_record left p at s ≡ Err (NoName at)
unfolding reads_record
record-nameless zero at p s y x z m = absurd (z refl)
record-nameless (suc left) at p s y x z m = rw (y, x, m)

record-inside : (left at : ℕ) (p : Place) (s : Bytes) → short s ≡ false → stands p (kind_of s) ≡ true → (left ≡ 0 → ⊥)
    → nameless p (kind_of s) (content_of s) ≡ false → reads_record left p at s ≡ reads (left - 1) (content_at p (kind_of s)) (at + 6) (content_of s)
unfolding reads_record
record-inside zero at p s y x z m = absurd (z refl)
record-inside (suc left) at p s y x z m =
    rw (y, x, m) (ap (λ (m : ℕ). reads m (content_at p (kind_of s)) (at + 6) (content_of s)) (let o : left ≡ suc left - 1 = omega arith in o))

-- where a turn stands: at place i with a row and a depth that is left, which read on give the answer w
pub record Turn (w : Verdict) (card : Bytes) (to deep i row left : ℕ) : Type 0 where
  pub inside : i ≤ to
  pub good : Good row
  pub under : left ≤ deep
  pub same : w ≡ reads left (row_content row) i (between card i to)

pub turn-start : (card : Bytes) (from to row deep : ℕ) → Good row → from ≤ to
    → Turn (reads deep (row_content row) from (between card from to)) card to deep from row deep
turn-start card from to row deep g h = record { inside = h; good = g; under = omega arith; same = refl }

part_length : (card : Bytes) (i to : ℕ) → to ≤ length card → length (between card i to) ≡ to - i
part_length card i to h = simp (length-take, length-drop) (omega arith)

sound-then : (v : Verdict) → and_then v (Ok tt) ≡ v
sound-then (Ok _) = refl
sound-then (Err a) = refl

module _ {w : Verdict} {card : Bytes} {to deep i row left : ℕ} (t : Turn w card to deep i row left) where
  -- the end of the bytes
  at-end : to ≤ i → w ≡ cond (row_ends row) (Ok tt) (Err (ShortRecord i))
  at-end h =
      let z : to - i ≡ 0 = omega arith in
      t.same ∙ ap (λ (n : ℕ). reads left (row_content row) i (take n (drop i card))) z ∙ row-end left i row t.good

  pub turn_end : {b : Bool} → to ≤ i → b ≡ row_ends row → b ≡ true → Ok tt ≡ w
  turn_end h e y = sym (at-end h ∙ ap (λ (x : Bool). cond x (Ok tt) (Err (ShortRecord i))) (sym e ∙ y))

  pub turn-cut : {b : Bool} → to ≤ i → b ≡ row_ends row → b ≡ false → Err (ShortRecord i) ≡ w
  turn-cut h e y = sym (at-end h ∙ ap (λ (x : Bool). cond x (Ok tt) (Err (ShortRecord i))) (sym e ∙ y))

  module _ (l : i < to) (h : to ≤ length card) where
    bytes_left : 0 < length (between card i to)
    bytes_left = let n = part_length card i to h in omega arith

    -- bytes that should not be there
    pub turn-left : row % 256 ≡ 0 → Err (LeftOver i) ≡ w
    turn-left z =
        sym (t.same ∙ reads-left_over left (row_content row) i (between card i to) (next-none row (between card i to) t.good z bytes_left))

    -- a record at the place in the row's lowest byte, and its refusals
    module _ (z : row % 256 ≡ 0 → ⊥) where
      at-record : w ≡ and_then (reads_record left (place_of (row % 256)) i (between card i to))
          (reads left (row_content (row_after row)) (i + (4 + length_of (between card i to))) (rest_of (between card i to)))
      at-record =
          t.same
          ∙ reads-record left (row_content row) i (between card i to) (place_of (row % 256)) (row_content (row_after row))
          (next-some row (between card i to) t.good z bytes_left)

      refused : {v : Verdict} (a : Refusal) → v ≡ Err a → reads_record left (place_of (row % 256)) i (between card i to) ≡ Err a → v ≡ w
      refused a e r =
          e
          ∙ sym (at-record
          ∙ ap (λ (x : Verdict). and_then x (reads left (row_content (row_after row)) (i + (4 + length_of (between card i to))) (rest_of (between card i to)))) r)

      module _ {b : Bool} (f : b ≡ short (between card i to)) where
        pub turn-short : b ≡ true → Err (ShortRecord i) ≡ w
        turn-short y = refused (ShortRecord i) refl (record-short left i (place_of (row % 256)) (between card i to) (sym f ∙ y))

        module _ (y : b ≡ false) {k : ℕ} (g : k ≡ kind_of (between card i to)) {d : Bool} (q : d ≡ stands (place_of (row % 256)) k) where
          pub turn-wrong : not d ≡ true → Err (WrongKind i) ≡ w
          turn-wrong x =
              refused (WrongKind i) refl
              (record-wrong left i (place_of (row % 256)) (between card i to) (sym f ∙ y)
              (sym (q ∙ ap (stands (place_of (row % 256))) g) ∙ not-true d x))

-- a record whose kind may stand there: its kind, where it ends and the row after it
pub record Head (w : Verdict) (card : Bytes) (to deep i row left k e after : ℕ) : Type 0 where
  pub turn : Turn w card to deep i row left
  pub more : i < to
  pub whole : to ≤ length card
  pub some : row % 256 ≡ 0 → ⊥
  pub long : short (between card i to) ≡ false
  pub kind : k ≡ kind_of (between card i to)
  pub standing : stands (place_of (row % 256)) k ≡ true
  pub ends : e ≡ i + 4 + length_of (between card i to)
  pub then : after ≡ row_after row
  pub after-head : i + 6 ≤ e
  pub inside : e ≤ to

pub head : {w : Verdict} {card : Bytes} {to deep i row left k n after : ℕ} {b d : Bool} → Turn w card to deep i row left → i < to → to ≤ length card
    → (row % 256 ≡ 0 → ⊥) → b ≡ short (between card i to) → b ≡ false → k ≡ kind_of (between card i to) → d ≡ stands (place_of (row % 256)) k
    → not d ≡ false → n ≡ length_of (between card i to) → after ≡ row_after row
    → Head w card to deep i row left k (i + 4 + n) after
head {card = card} {to = to} {i = i} {d = d} t l h z f y g q x m a =
    let s = long-enough (between card i to) (sym f ∙ y) in
    let p = part_length card i to h in
    let two = s.two in
    let all = s.inside in
    record {
      turn = t;
      more = l;
      whole = h;
      some = z;
      long = sym f ∙ y;
      kind = g;
      standing = sym q ∙ not-false d x;
      ends = ap (λ (j : ℕ). i + 4 + j) m;
      then = a;
      after-head = omega arith;
      inside = omega arith;
    }

module _ {w : Verdict} {card : Bytes} {to deep i row left k e after : ℕ} (f : Head w card to deep i row left k e after) where
  -- its content and what follows it, as parts of the card
  content-part : content_of (between card i to) ≡ between card (i + 6) e
  content-part =
      let s : Bytes = between card i to in
      let c = content-length s f.long in
      let m : length (content_of s) ≡ e - (i + 6) = (let x = f.ends in let y = f.after-head in omega arith) in
      let p : Within card (i + 6) (content_of s) =
      within-take card (i + 6) (drop 6 s) (within-drop card i s (within_all card i (to - i) s refl) 6) (length_of s - 2) in
      sym (within-own card (i + 6) (content_of s) p) ∙ ap (λ (n : ℕ). take n (drop (i + 6) card)) m

  rest_part : rest_of (between card i to) ≡ between card e to
  rest_part =
      let s : Bytes = between card i to in
      let d = length-drop (4 + length_of s) s in
      let a = part_length card i to f.whole in
      let m : length (rest_of s) ≡ to - e = (let x = f.ends in omega arith) in
      let o : i + (4 + length_of s) ≡ e = (let x = f.ends in omega arith) in
      let p : Within card (i + (4 + length_of s)) (rest_of s) = within-drop card i s (within_all card i (to - i) s refl) (4 + length_of s) in
      sym (within-own card (i + (4 + length_of s)) (rest_of s) p) ∙ ap₂ (λ (n j : ℕ). take n (drop j card)) m o

  then-rest : w ≡ and_then (reads_record left (place_of (row % 256)) i (between card i to)) (reads left (row_content (row_after row)) e (between card e to))
  then-rest =
      at-record f.turn f.more f.whole f.some
      ∙ ap₂ (λ (n : ℕ) (c : Bytes). and_then (reads_record left (place_of (row % 256)) i (between card i to)) (reads left (row_content (row_after row)) n c))
      (let x = f.ends in let o : i + (4 + length_of (between card i to)) ≡ e = omega arith in o) rest_part

  -- a sound record on
  on : reads_record left (place_of (row % 256)) i (between card i to) ≡ Ok tt → Turn w card to deep e after left
  on v =
      record {
        inside = f.inside;
        good = rw f.then (good-after row f.turn.good);
        under = f.turn.under;
        same =
            then-rest ∙ ap (λ (x : Verdict). and_then x (reads left (row_content (row_after row)) e (between card e to))) v
            ∙ ap (λ (r : ℕ). reads left (row_content r) e (between card e to)) (sym f.then);
      }

  stands-there : stands (place_of (row % 256)) (kind_of (between card i to)) ≡ true
  stands-there = ap (stands (place_of (row % 256))) (sym f.kind) ∙ f.standing

  -- too deep
  pub turn-deep : left ≡ 0 → Err (TooDeep i) ≡ w
  turn-deep o =
      refused f.turn f.more f.whole f.some (TooDeep i) refl
      (record-deep left i (place_of (row % 256)) (between card i to) f.long stands-there o)

  -- not too deep
  module _ (deeper : left ≡ 0 → ⊥) where
    -- its name, by the kind and the part in hand
    name-there : {b : Bool} → b ≡ nameless (place_of (row % 256)) k (between card (i + 6) e)
        → nameless (place_of (row % 256)) (kind_of (between card i to)) (content_of (between card i to)) ≡ b
    name-there x = ap₂ (nameless (place_of (row % 256))) (sym f.kind) content-part ∙ sym x

    -- no name
    pub turn-nameless : {b : Bool} → b ≡ nameless (place_of (row % 256)) k (between card (i + 6) e) → b ≡ true → Err (NoName i) ≡ w
    turn-nameless x y =
        refused f.turn f.more f.whole f.some (NoName i) refl
        (record-nameless left i (place_of (row % 256)) (between card i to) f.long stands-there deeper (name-there x ∙ y))

    record-reads : {b : Bool} → b ≡ nameless (place_of (row % 256)) k (between card (i + 6) e) → b ≡ false
        → reads_record left (place_of (row % 256)) i (between card i to)
        ≡ reads (left - 1) (content_at (place_of (row % 256)) k) (i + 6) (between card (i + 6) e)
    record-reads x y =
        record-inside left i (place_of (row % 256)) (between card i to) f.long stands-there deeper (name-there x ∙ y)
        ∙ ap₂ (λ (x : ℕ) (c : Bytes). reads (left - 1) (content_at (place_of (row % 256)) x) (i + 6) c) (sym f.kind) content-part

    -- a leaf
    pub turn-leaf : row % 256 < 4 → {b : Bool} → b ≡ nameless (place_of (row % 256)) k (between card (i + 6) e) → b ≡ false
        → Turn w card to deep e after left
    turn-leaf g x y =
        on (record-reads x y ∙ ap (λ (c : Content). reads (left - 1) c (i + 6) (between card (i + 6) e)) (leaf-bytes (row % 256) k f.some g f.standing)
        ∙ reads-done (left - 1) bytes (i + 6) (between card (i + 6) e) refl)

    -- a record that holds nothing
    module _ (g : 4 ≤ row % 256) where
      inner-named : reads_record left (place_of (row % 256)) i (between card i to)
          ≡ reads (left - 1) (content_at (place_of (row % 256)) k) (i + 6) (between card (i + 6) e)
      inner-named = record-reads (sym (no-name-due (row % 256) k (between card (i + 6) e) (λ z. omega arith))) refl

      module _ (n : e ≡ i + 6) {r : ℕ} (x : r ≡ num (map code_of (row_of k))) {b : Bool} (y : b ≡ row_ends r) where
        hollow : reads_record left (place_of (row % 256)) i (between card i to) ≡ cond b (Ok tt) (Err (ShortRecord e))
        hollow =
            let o : e - (i + 6) ≡ 0 = omega arith in
            inner-named ∙ ap (λ (m : ℕ). reads (left - 1) (content_at (place_of (row % 256)) k) (i + 6) (take m (drop (i + 6) card))) o
            ∙ inner-empty (row % 256) k (good-valid row f.turn.good) (omega arith) f.standing (left - 1) (i + 6)
            ∙ ap₂ (λ (q : Bool) (m : ℕ). cond q (Ok tt) (Err (ShortRecord m))) (sym (y ∙ ap row_ends x)) (sym n)

        pub turn-empty : not b ≡ false → Turn w card to deep e after left
        turn-empty v = on (hollow ∙ ap (λ (q : Bool). cond q (Ok tt) (Err (ShortRecord e))) (not-false b v))

        pub turn-hollow : not b ≡ true → Err (ShortRecord e) ≡ w
        turn-hollow v =
            refused f.turn f.more f.whole f.some (ShortRecord e) refl
            (hollow ∙ ap (λ (q : Bool). cond q (Ok tt) (Err (ShortRecord e))) (not-true b v))

      -- a record that holds others
      module _ (n : e ≡ i + 6 → ⊥) {inner : ℕ} (x : inner ≡ row_in (row % 256) k) where
        pub turn-good : Good inner
        turn-good = rw x (inner-good (row % 256) k (good-valid row f.turn.good))

        inner-is : reads_record left (place_of (row % 256)) i (between card i to) ≡ reads (left - 1) (row_content inner) (i + 6) (between card (i + 6) e)
        inner-is =
            let m = part_length card (i + 6) e (let u = f.inside in let v = f.whole in omega arith) in
            let u = less (i + 6) e f.after-head (λ z. n (sym z)) in
            inner-named
            ∙ sym (ap (λ (r : ℕ). reads (left - 1) (row_content r) (i + 6) (between card (i + 6) e)) x
            ∙ inner-reads (row % 256) k (good-valid row f.turn.good) (omega arith) f.standing (left - 1) (i + 6) (between card (i + 6) e) (omega arith))

        -- the last of its parent is read on with
        pub turn_last : e ≡ to → {b : Bool} → b ≡ row_ends after → b ≡ true → Turn w card to deep (i + 6) inner (left - 1)
        turn_last o {b} y v =
            let u = f.turn.under in
            record {
              inside = (let q = f.after-head in omega arith);
              good = turn-good;
              under = omega arith;
              same =
                  then-rest
                  ∙ ap (λ (q : Verdict). and_then (reads_record left (place_of (row % 256)) i (between card i to)) q) (last_rest o b y v)
                  ∙ sound-then (reads_record left (place_of (row % 256)) i (between card i to))
                  ∙ inner-is ∙ ap (λ (m : ℕ). reads (left - 1) (row_content inner) (i + 6) (between card (i + 6) m)) o;
            }
          where
            last_rest : e ≡ to → (b : Bool) → b ≡ row_ends after → b ≡ true → reads left (row_content (row_after row)) e (between card e to) ≡ Ok tt
            last_rest o b y v =
                let q : to - e ≡ 0 = omega arith in
                ap (λ (m : ℕ). reads left (row_content (row_after row)) e (take m (drop e card))) q
                ∙ row-end left e (row_after row) (good-after row f.turn.good)
                ∙ ap (λ (c : Bool). cond c (Ok tt) (Err (ShortRecord e))) (ap row_ends (sym f.then) ∙ sym y ∙ v)

        -- any other is entered
        module _ {v : Verdict} (y : v ≡ reads (left - 1) (row_content inner) (i + 6) (between card (i + 6) e)) where
          pub turn-fault : {a : Refusal} → v ≡ Err a → v ≡ w
          turn-fault {a} z = refused f.turn f.more f.whole f.some a z (inner-is ∙ sym y ∙ z)

          pub turn-inner : v ≡ Ok tt → Turn w card to deep e after left
          turn-inner z = on (inner-is ∙ sym y ∙ z)
