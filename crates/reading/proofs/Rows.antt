-- The laws of rows: what comes next in the content that a row stands for, what is left after one record, and which row a record holds.
-- Assumes nothing.
use Rattle.std.specs.Prelude.{Ok, Err}
use mathlib.Core.Path.{◌≡◌, refl, ap, sym, ◌∙◌}
use mathlib.Core.List.{List, [], ◌∷◌, map}
use mathlib.Core.Bool.{Bool, true, cond}
use Prim.Native.Nat.{ℕ, zero, suc, ◌+◌, ◌-◌, ◌*◌, ◌/◌, ◌%◌, ◌^◌, ◌<◌, ◌≤◌}
use native.Mathlib.Nat.{pow-suc, le_of_suc-le-suc, not-suc-le-zero}
use native.Mathlib.Omega.{arith}
use native.Mathlib.Decide.{dec_le}
use lib.ListN.{length, get_or}
use lib.Dec.{eqb, ltb}
use borrow.Author.Tests.{eqb-true, eqb-false, ltb-false, le-leb, lt-leb, eq-eqb, ne_eqb}
use Rattle.answers.specs.Answers.{Verdict}
use Rattle.answers.specs.declared.Refusal.TheVariants.{ShortRecord}
use Rattle.wire.specs.Numbers.{Bytes, num}
use Rattle.records.specs.Kinds.{Place, stands, row_of, Content, bytes, these, any, at_most_one, content_at}
use Rattle.records.specs.Reading.{left_over, record-at, next}
use Rattle.rast.proofs.Tests.{by-test}
use Rattle.rows.specs.Codes.{place_of, code_of, table}
use Rattle.rows.proofs.Codes.{Coded, AllCoded, code-first, code-rest, row-coded, row-short, row-past, inner-kind}
use Rattle.rows.proofs.Codes.{content-one, content-seq, content-option, base-seq, base-option}
use Rattle.rows.proofs.Tables.{table_at}
use Rattle.reading.specs.Reads.{reads}
use Rattle.reading.specs.Codes.{Valid, many, places_in, row_content, row_after, row_ends, row_in, AllValid, Good, again, fields}
use Rattle.reading.proofs.Laws.{reads-record, reads-done, reads_none}

-- the places of a row
places-none : (n row : ℕ) → row % 256 ≡ 0 → places_in n row ≡ []
unfolding places_in
places-none zero row z = refl
places-none (suc n) row z = rw (eq-eqb (row % 256) 0 z)

places-some : (n row : ℕ) → (row % 256 ≡ 0 → ⊥) → places_in (suc n) row ≡ place_of (row % 256) ∷ places_in n (row / 256)
unfolding places_in
places-some n row z = rw (ne_eqb (row % 256) 0 z)

-- where all its bytes are seen, one more finds nothing
places-enough : (n row : ℕ) → AllValid n row → places_in n row ≡ places_in (suc n) row
unfolding places_in AllValid
places-enough zero row e = rw e
places-enough (suc n) row v = ap (λ (ps : List Place). cond (eqb (row % 256) 0) [] (place_of (row % 256) ∷ ps)) (places-enough n (row / 256) v.1)

small-valid : (c : ℕ) → c < 32 → Valid c
small-valid c h = record { small = omega arith; some-seq = λ e. omega arith; some-option = λ e. omega arith }

valid-none : (n : ℕ) → AllValid n 0
unfolding AllValid
valid-none zero = refl
valid-none (suc n) = (small-valid 0 (omega arith), valid-none n)

valid-more : (n row : ℕ) → AllValid n row → AllValid (suc n) row
unfolding AllValid
valid-more zero row e = (small-valid (row % 256) (omega arith), let z : row / 256 ≡ 0 = omega arith in z)
valid-more (suc n) row v = (v.0, valid-more n (row / 256) v.1)

valid-below : (n row : ℕ) → AllValid n row → row < 256 ^ n
unfolding AllValid
valid-below zero row e = omega arith
valid-below (suc n) row v = let b = valid-below n (row / 256) v.1 in rw (pow-suc 256 n) (omega arith)

-- what a row stands for, by its range
module _ (row : ℕ) (h : row < many) where
  content-fields : row_content row ≡ these (places_in 8 row)
  unfolding row_content
  content-fields = rw (lt-leb many row h)

  pub after-fields : row_after row ≡ row / 256
  unfolding row_after
  after-fields = rw (lt-leb many row h)

  pub ends-fields : row_ends row ≡ eqb (row % 256) 0
  unfolding row_ends
  ends-fields = rw (lt-leb many row h)

module _ (row : ℕ) (h : many ≤ row) where
  content-again : row_content row ≡ any (place_of (row % 256))
  unfolding row_content
  content-again = rw (le-leb many row h)

  pub after-again : row_after row ≡ row
  unfolding row_after
  after-again = rw (le-leb many row h)

  pub ends-again : row_ends row ≡ true
  unfolding row_ends
  ends-again = rw (le-leb many row h)

-- what comes next: nothing more, or a record at the place in the lowest byte
pub next-none : (row : ℕ) (s : Bytes) → Good row → row % 256 ≡ 0 → 0 < length s → next (row_content row) s ≡ left_over
next-none row [] g z h = absurd (omega arith)
next-none row (b ∷ t) (again m p l) z h = absurd (omega arith)
next-none row (b ∷ t) (fields m v) z h = rw (content-fields row m, places-none 8 row z)

pub next-some : (row : ℕ) (s : Bytes) → Good row → (row % 256 ≡ 0 → ⊥) → 0 < length s
    → next (row_content row) s ≡ record-at (place_of (row % 256)) (row_content (row_after row))
unfolding AllValid
next-some row [] g z h = absurd (omega arith)
next-some row (b ∷ t) (again m p l) z h = rw (after-again row m, content-again row m)
next-some row (b ∷ t) (fields m v) z h =
    ap (λ (c : Content). next c (b ∷ t)) (content-fields row m ∙ ap these (places-some 7 row z))
    ∙ ap (λ (c : Content). record-at (place_of (row % 256)) c)
    (ap these (places-enough 7 (row / 256) v.1) ∙ sym (content-fields (row / 256) (omega arith)) ∙ ap row_content (sym (after-fields row m)))

pub good-after : (row : ℕ) → Good row → Good (row_after row)
unfolding AllValid
good-after row (again m p l) = rw (after-again row m) (again m p l)
good-after row (fields m v) = rw (after-fields row m) (fields (omega arith) (valid-more 7 (row / 256) v.1))

pub good-valid : (row : ℕ) → Good row → Valid (row % 256)
unfolding AllValid
good-valid row (again m p l) = small-valid (row % 256) l
good-valid row (fields m v) = v.0

-- a row of one place
pub good-one : (p : ℕ) → p < 32 → Good p
unfolding AllValid
good-one p h =
    let e : p % 256 ≡ p = omega arith in
    let z : p / 256 ≡ 0 = omega arith in
    fields (omega arith) (rw e (small-valid p h), rw z (valid-none 7))

pub content-of-one : (p : ℕ) → 0 < p → p < 32 → row_content p ≡ these (place_of p ∷ [])
content-of-one p n h =
    let e : p % 256 ≡ p = omega arith in
    let z : p / 256 ≡ 0 = omega arith in
    content-fields p (omega arith) ∙ ap these (places-some 7 p (λ x. omega arith) ∙ rw (e, z, places-none 7 0 refl))

-- no bytes are left
pub row-end : (left at row : ℕ) → Good row → reads left (row_content row) at [] ≡ cond (row_ends row) (Ok tt) (Err (ShortRecord at))
row-end left at row (again m p l) = rw (content-again row m, ends-again row m) (reads-done left (any (place_of (row % 256))) at [] refl)
row-end left at row (fields m v) =
    ap (λ (c : Content). reads left c at []) (content-fields row m)
    ∙ by-test (eqb (row % 256) 0)
    (λ e. rw (places-none 8 row (eqb-true (row % 256) 0 e), ends-fields row m, e) (reads-done left (these []) at [] refl))
    (λ e. rw (places-some 7 row (eqb-false (row % 256) 0 e), ends-fields row m, e)
    (reads_none left (these (place_of (row % 256) ∷ places_in 7 (row / 256))) at (place_of (row % 256)) (these (places_in 7 (row / 256))) refl))

-- the number of places that have numbers is a row of them
code-valid : (p : Place) → Coded p → Valid (code_of p)
code-valid p c =
    let n = c.number in
    record {
      small = n.below;
      some-seq = λ e. (let s = n.some c.more in omega arith);
      some-option = λ e. (let s = n.some c.more in omega arith);
    }

codes-valid : (ps : List Place) → AllCoded ps → (n : ℕ) → length ps ≤ n → AllValid n (num (map code_of ps))
unfolding AllCoded AllValid num
codes-valid [] a n h = valid-none n
codes-valid (p ∷ ps) a zero h = absurd (not-suc-le-zero h)
codes-valid (p ∷ ps) a (suc n) h =
    let r : ℕ = num (map code_of ps) in
    (rw (code-first p r a.0) (code-valid p a.0), rw (code-rest p r a.0) (codes-valid ps a.1 n (le_of_suc-le-suc h)))

codes-places : (ps : List Place) → AllCoded ps → (n : ℕ) → length ps ≤ n → places_in n (num (map code_of ps)) ≡ ps
unfolding AllCoded num
codes-places [] a n h = places-none n 0 refl
codes-places (p ∷ ps) a zero h = absurd (not-suc-le-zero h)
codes-places (p ∷ ps) a (suc n) h =
    let r : ℕ = num (map code_of ps) in
    let m = a.0.more in
    let l = code-first p r a.0 in
    places-some n (code_of p + 256 * r) (λ z. omega arith)
    ∙ rw (l, code-rest p r a.0, a.0.is, codes-places ps a.1 n (le_of_suc-le-suc h))

-- the row of a kind
abbrev row_number : ℕ → ℕ
row_number k = num (map code_of (row_of k))

row-fields : (k : ℕ) → AllValid 7 (row_number k)
row-fields k = codes-valid (row_of k) (row-coded k) 7 (row-short k)

row_below : (k : ℕ) → row_number k < many
row_below k = let b : row_number k < 256 ^ 7 = valid-below 7 (row_number k) (row-fields k) in omega arith

row-good : (k : ℕ) → Good (row_number k)
row-good k = fields (row_below k) (valid-more 7 (row_number k) (row-fields k))

row-content : (k : ℕ) → row_content (row_number k) ≡ these (row_of k)
row-content k =
    let s = row-short k in
    content-fields (row_number k) (row_below k) ∙ ap these (codes-places (row_of k) (row-coded k) 8 (omega arith))

pub row_read : (t : List ℕ) (x k : ℕ) → t ≡ table → x ≡ cond (ltb k 135) (get_or t k 0) 0 → x ≡ num (map code_of (row_of k))
unfolding num
row_read t x k e r =
    r ∙ ap (λ (y : List ℕ). cond (ltb k 135) (get_or y k 0) 0) e
    ∙ by-test (ltb k 135) (λ b. rw b (table_at k)) (λ b. rw (b, row-past k (ltb-false k 135 b)))

-- a number's three ranges
ranges : {X : Type 0} (c : ℕ) → (c < 32 → X) → (32 ≤ c → c < 64 → X) → (64 ≤ c → X) → X
ranges c f g k =
    elim (dec_le 64 c) [
      | yes a ↦ k a
      | no a ↦ elim (dec_le 32 c) [ yes b ↦ g b (omega arith) | no b ↦ f (omega arith) ]
    ]

pub in_one : (p k : ℕ) → p < 32 → row_in p k ≡ num (map code_of (row_of k))
unfolding row_in
in_one p k h = rw (lt-leb 64 p (omega arith), lt-leb 32 p h)

pub in-seq : (p k : ℕ) → 32 ≤ p → p < 64 → row_in p k ≡ many + (p - 32)
unfolding row_in
in-seq p k h g = rw (lt-leb 64 p g, le-leb 32 p h)

pub in-option : (p k : ℕ) → 64 ≤ p → row_in p k ≡ p - 64
unfolding row_in
in-option p k h = rw (le-leb 64 p h)

-- a List's kind has no row
list-ends : (at k : ℕ) → k ≡ 2 → ◌≡◌ {A = Verdict} (Ok tt) (cond (row_ends (num (map code_of (row_of k)))) (Ok tt) (Err (ShortRecord at)))
unfolding row_of code_of num row_ends
list-ends at k e = rw e

-- the row that a record holds is one, and reads as the record's content does, where that is not empty
module _ (p k : ℕ) (v : Valid p) where
  seq-some : 32 ≤ p → 0 < p - 32
  seq-some h =
      elim (dec_le 33 p) [
        | yes a ↦ omega arith
        | no a ↦ absurd (v.some-seq (omega arith))
      ]

  option-some : 64 ≤ p → 0 < p - 64
  option-some h =
      elim (dec_le 65 p) [
        | yes a ↦ omega arith
        | no a ↦ absurd (v.some-option (omega arith))
      ]

  pub inner-good : Good (row_in p k)
  inner-good =
      ranges p
      (λ h. rw (in_one p k h) (row-good k))
      (λ h g.
      let s = seq-some h in
      rw (in-seq p k h g) (again (omega arith) (omega arith) (omega arith)))
      (λ h. let l = v.small in rw (in-option p k h) (good-one (p - 64) (omega arith)))

  option-one : (left at : ℕ) (q : Place) (s : Bytes) → 0 < length s → reads left (these (q ∷ [])) at s ≡ reads left (at_most_one q) at s
  option-one left at q [] h = absurd (omega arith)
  option-one left at q (b ∷ t) h =
      reads-record left (these (q ∷ [])) at (b ∷ t) q (these []) refl ∙ sym (reads-record left (at_most_one q) at (b ∷ t) q (these []) refl)

  module _ (g : 3 < p) (st : stands (place_of p) k ≡ true) (left at : ℕ) where
    kind-content : p < 32 → content_at (place_of p) k ≡ these (row_of k)
    kind-content h = content-one p k h (λ e. omega arith) ∙ ap (λ (b : Bool). cond b bytes (these (row_of k))) (inner-kind p k g h st)

    pub inner-reads : (s : Bytes) → 0 < length s → reads left (row_content (row_in p k)) at s ≡ reads left (content_at (place_of p) k) at s
    inner-reads s n =
        ranges p
        (λ h. ap (λ (c : Content). reads left c at s) (ap row_content (in_one p k h) ∙ row-content k ∙ sym (kind-content h)))
        (λ h l.
        let e : (many + (p - 32)) % 256 ≡ p - 32 = omega arith in
        ap (λ (c : Content). reads left c at s)
        (ap row_content (in-seq p k h l) ∙ content-again (many + (p - 32)) (omega arith) ∙ ap (λ (x : ℕ). any (place_of x)) e ∙ sym (content-seq p k h l)))
        (λ h.
        let l = v.small in
        ap (λ (c : Content). reads left c at s) (ap row_content (in-option p k h) ∙ content-of-one (p - 64) (option-some h) (omega arith))
        ∙ option-one left at (place_of (p - 64)) s n
        ∙ ap (λ (c : Content). reads left c at s) (sym (content-option p k h l)))

    -- a record that holds nothing
    pub inner-empty : reads left (content_at (place_of p) k) at [] ≡ cond (row_ends (num (map code_of (row_of k)))) (Ok tt) (Err (ShortRecord at))
    inner-empty =
        ranges p
        (λ h. ap (λ (c : Content). reads left c at []) (kind-content h ∙ sym (row-content k)) ∙ row-end left at (row_number k) (row-good k))
        (λ h l.
        ap (λ (c : Content). reads left c at []) (content-seq p k h l) ∙ reads-done left (any (place_of (p - 32))) at [] refl
        ∙ list-ends at k (eqb-true k 2 (sym (ap (λ (q : Place). stands q k) (base-seq p h l)) ∙ st)))
        (λ h.
        ap (λ (c : Content). reads left c at []) (content-option p k h v.small) ∙ reads-done left (at_most_one (place_of (p - 64))) at [] refl
        ∙ list-ends at k (eqb-true k 2 (sym (ap (λ (q : Place). stands q k) (base-option p h)) ∙ st)))
