-- The whole of a card's or a root's bytes: one record, and nothing after it. One byte behind the record is enough to see. Assumes nothing.
use Rattle.std.specs.Prelude.{Ok, Err}
use mathlib.Core.Path.{◌≡◌, refl, ap, ap₂, sym, ◌∙◌}
use mathlib.Core.List.{[], ◌∷◌}
use mathlib.Core.Bool.{Bool, true, not, cond}
use Prim.Native.Nat.{min, ℕ, zero, suc, ◌+◌, ◌-◌, ◌<◌}
use native.Mathlib.Omega.{arith}
use native.Mathlib.Decide.{dec_lt}
use lib.ListN.{length, take, drop, length-take, length-drop}
use lib.Dec.{ltb}
use borrow.Author.Tests.{lt-ltb}
use Rattle.answers.specs.declared.Refusal.{Refusal}
use Rattle.answers.specs.declared.Refusal.TheVariants.{BadRoot, ShortRecord, WrongKind, TooDeep, LeftOver, NoName}
use Rattle.answers.specs.Answers.{Verdict}
use Rattle.wire.specs.Numbers.{Bytes, num, between}
use Rattle.wire.proofs.Slices.{tail-is}
use Rattle.wire.proofs.Within.{Within, within_all, within-drop, within-front}
use Rattle.records.specs.Record.{length_of, kind_of, content_of, rest_of}
use Rattle.records.specs.Kinds.{Place, stands, these, content_at, mod', path}
use Rattle.records.specs.Reading.{short, nameless, and_then, reading}
use Rattle.records.proofs.Tree.{enough-long}
use Rattle.rast.proofs.Tests.{by-test}
use Rattle.rows.specs.Codes.{place_of}
use Rattle.rows.proofs.Codes.{place-mod, place-path}
use Rattle.reading.specs.Reads.{reads, reads_record, root_then}
use Rattle.reading.specs.Codes.{row_content}
use Rattle.reading.proofs.Laws.{reads-record, reads-left_over, next-left, reading-is}
use Rattle.reading.proofs.Rows.{content-of-one}
use Rattle.reading.proofs.Turns.{record-short}

-- a record is read by these three
same-record : (limit at : ℕ) (p : Place) (u s : Bytes) → short u ≡ short s → kind_of u ≡ kind_of s → content_of u ≡ content_of s
    → reads_record limit p at u ≡ reads_record limit p at s
unfolding reads_record
same-record zero at p u s a b c =
    ap₂ (λ (x : Bool) (k : ℕ). cond x (Err (ShortRecord at)) (cond (not (stands p k)) (Err (WrongKind at)) (Err (TooDeep at)))) a b
same-record (suc limit) at p u s a b c =
    ap (λ (x : Bool). cond x (Err (ShortRecord at))
    (cond (not (stands p (kind_of u))) (Err (WrongKind at))
    (cond (nameless p (kind_of u) (content_of u)) (Err (NoName at)) (reads limit (content_at p (kind_of u)) (at + 6) (content_of u))))) a
    ∙ ap₂ (λ (k : ℕ) (d : Bytes). cond (short s) (Err (ShortRecord at))
    (cond (not (stands p k)) (Err (WrongKind at)) (cond (nameless p k d) (Err (NoName at)) (reads limit (content_at p k) (at + 6) d)))) b c

small-short : (s : Bytes) → length_of s < 2 → short s ≡ true
small-short s h = by-test (ltb (length s) 6) (λ e. rw e) (λ e. rw (e, lt-ltb (length_of s) 2 h))

module _ (limit : ℕ) (p : Place) (s : Bytes) where
  pub whole-all : reads limit (these (p ∷ [])) 0 (between s 0 (length s)) ≡ reading limit p s
  whole-all = ap (reads limit (these (p ∷ [])) 0) (tail-is s 0) ∙ sym (reading-is limit p s)

  -- bytes that are left over, of whatever begins as s does and has one byte more than its record
  then-left : (u : Bytes) → length_of u ≡ length_of s → 4 + length_of s < length u → reads_record limit p 0 u ≡ reads_record limit p 0 s
      → reads limit (these (p ∷ [])) 0 u ≡ and_then (reads_record limit p 0 s) (Err (LeftOver (4 + length_of s)))
  then-left u e h r =
      let d : length (rest_of u) ≡ length u - (4 + length_of u) = length-drop (4 + length_of u) u in
      reads-record limit (these (p ∷ [])) 0 u p (these []) refl
      ∙ ap₂ and_then r (reads-left_over limit (these []) (0 + (4 + length_of u)) (rest_of u) (next-left (these []) 0 (rest_of u) refl (omega arith) refl)
      ∙ ap (λ (n : ℕ). Err (LeftOver n)) (let o : 0 + (4 + length_of u) ≡ 4 + length_of s = omega arith in o))

  module _ (m : ℕ) (e : m ≡ 5 + length_of s) (h : m < length s) where
    cut-length : length (between s 0 m) ≡ m
    cut-length = simp (length-take, length-drop) (omega arith)

    cut : Within s 0 (between s 0 m)
    cut = within_all s 0 (m - 0) (between s 0 m) refl

    cut-says : length_of (between s 0 m) ≡ length_of s
    cut-says = let l = cut-length in ap num (within-front s 0 (between s 0 m) cut 4 (omega arith))

    cut_record : reads_record limit p 0 (between s 0 m) ≡ reads_record limit p 0 s
    cut_record =
        let u : Bytes = between s 0 m in
        let l : length u ≡ m = cut-length in
        let n : length_of u ≡ length_of s = cut-says in
        elim (dec_lt (length_of s) 2) [
          | yes a ↦ record-short limit 0 p u (small-short u (omega arith)) ∙ sym (record-short limit 0 p s (small-short s a))
          | no a ↦ (let d = length-drop 4 u in
              let c = length-drop 6 u in
              same-record limit 0 p u s
              (enough-long u (record { six = omega arith; two = omega arith; inside = omega arith })
              ∙ sym (enough-long s (record { six = omega arith; two = omega arith; inside = omega arith })))
              (ap num (within-front s 4 (drop 4 u) (within-drop s 0 u cut 4) 2 (omega arith)))
              (ap (λ (k : ℕ). take (k - 2) (drop 6 u)) n ∙ within-front s 6 (drop 6 u) (within-drop s 0 u cut 6) (length_of s - 2) (omega arith)))
        ]

    pub whole-cut : reads limit (these (p ∷ [])) 0 (between s 0 m) ≡ reading limit p s
    whole-cut =
        let l : length (between s 0 m) ≡ m = cut-length in
        then-left (between s 0 m) cut-says (omega arith) cut_record
        ∙ sym (reading-is limit p s ∙ then-left s refl (omega arith) refl)

-- the same by the row of the one place
pub row-all : (limit p : ℕ) (s : Bytes) (m : ℕ) → 0 < p → p < 32 → m ≡ length s → reads limit (row_content p) 0 (between s 0 m) ≡ reading limit (place_of p) s
row-all limit p s m n h e = rw (content-of-one p n h, e) (whole-all limit (place_of p) s)

pub row_cut : (limit p : ℕ) (s : Bytes) (m : ℕ) → 0 < p → p < 32 → m ≡ 5 + length_of s → m < length s
    → reads limit (row_content p) 0 (between s 0 m) ≡ reading limit (place_of p) s
row_cut limit p s m n h e l = rw (content-of-one p n h) (whole-cut limit (place_of p) s m e l)

-- of what follows the one record at most one byte is looked at
pub read-least : (limit p : ℕ) (s : Bytes) (n m : ℕ) → 0 < p → p < 32 → n ≡ length_of s → m ≡ min (length s) (5 + n)
    → reads limit (row_content p) 0 (between s 0 m) ≡ reading limit (place_of p) s
read-least limit p s n m a b l e =
    elim (dec_lt (5 + n) (length s)) [
      | yes h ↦ row_cut limit p s m a b (omega (arith, e, l, h)) (omega (arith, e, h))
      | no h ↦ row-all limit p s m a b (omega (arith, e, h))
    ]

-- a card's and a root's places
pub read-card-is : (v : Verdict) (card : Bytes) → v ≡ reading 48 (place_of 7) card → v ≡ reading 48 mod' card
read-card-is v card e = e ∙ ap (λ (p : Place). reading 48 p card) place-mod

pub read-root-is : (v : Verdict) (root : Bytes) → v ≡ reading 8 (place_of 4) root → v ≡ reading 8 path root
read-root-is v root e = e ∙ ap (λ (p : Place). reading 8 p root) place-path

-- a root that is sound, and one that is not
pub both-card : (v x : Verdict) (root card : Bytes) → v ≡ reading 8 (place_of 4) root → v ≡ Ok tt → x ≡ reading 48 (place_of 7) card
    → x ≡ root_then (reading 8 path root) (reading 48 mod' card)
both-card v x root card r y e = rw (sym (read-root-is v root r) ∙ y) (read-card-is x card e)

pub both-root : (v : Verdict) (a : Refusal) (root card : Bytes) → v ≡ reading 8 (place_of 4) root → v ≡ Err a
    → Err BadRoot ≡ root_then (reading 8 path root) (reading 48 mod' card)
both-root v a root card r y = rw (sym (read-root-is v root r) ∙ y)
