-- The laws of the places as numbers. What holds of every row rests on one test over all rows, what holds of every place of one record on one
-- test over those, and antt computes both. Assumes nothing.
use mathlib.Core.Path.{◌≡◌, refl, sym, ap, ap₂, ◌∙◌}
use mathlib.Core.List.{List, [], ◌∷◌}
use mathlib.Core.Bool.{Bool, true, false, ◌&&◌, ◌||◌, cond, false≢true}
use Prim.Native.Nat.{ℕ, zero, suc, ◌+◌, ◌-◌, ◌*◌, ◌/◌, ◌%◌, ◌<◌, ◌≤◌}
use native.Mathlib.Omega.{arith}
use native.Mathlib.Decide.{dec_lt}
use lib.ListN.{length, get_or-eq_default}
use lib.Dec.{eqb, leb, ltb}
use borrow.Author.Tests.{eqb-true, ltb-true, leb-true, le-leb, lt-leb, le-ltb, ne_eqb}
use Rattle.records.specs.Record.{is_leaf}
use Rattle.records.specs.Kinds.{Place, kinds, name, seq, option, one, Row, rows, row_in, row_of, stands, mod', path, bytes, these, any, at_most_one, content_at}
use Rattle.records.proofs.Run.{both, within}
use Rattle.rows.specs.Codes.{bases, base_of, place_of, same_place, code_of}

-- a test at each of n numbers from a on
abbrev pub each : (ℕ → Bool) → ℕ → ℕ → Bool
each f zero a = true
each f (suc n) a = f a && each f n (suc a)

pub each_at : (f : ℕ → Bool) (n a : ℕ) → each f n a ≡ true → (k : ℕ) → a ≤ k → k < a + n → f k ≡ true
each_at f zero a t k l h = absurd (omega arith)
each_at f (suc n) a t k l h =
    elim (dec_lt a k) [
      | yes g ↦ each_at f n (suc a) (both (f a) (each f n (suc a)) t).1 k (omega arith) (omega arith)
      | no g ↦ let e : k ≡ a = omega arith in rw e (both (f a) (each f n (suc a)) t).0
    ]

-- two places that test the same are the same
same_place-true : (p q : Place) → same_place p q ≡ true → p ≡ q
same_place-true (kinds a b) (kinds c d) h = let e = both (eqb a c) (eqb b d) h in ap₂ kinds (eqb-true a c e.0) (eqb-true b d e.1)
same_place-true (kinds a b) name h = cc
same_place-true (kinds a b) (seq q) h = cc
same_place-true (kinds a b) (option q) h = cc
same_place-true name (kinds c d) h = cc
same_place-true name name h = refl
same_place-true name (seq q) h = cc
same_place-true name (option q) h = cc
same_place-true (seq p) (kinds c d) h = cc
same_place-true (seq p) name h = cc
same_place-true (seq p) (seq q) h = ap seq (same_place-true p q h)
same_place-true (seq p) (option q) h = cc
same_place-true (option p) (kinds c d) h = cc
same_place-true (option p) name h = cc
same_place-true (option p) (seq q) h = cc
same_place-true (option p) (option q) h = ap option (same_place-true p q h)

-- the test of a row: its kind, how many places it has, and of each that its number leads back to it and is 0, 32 or 64 and then 1 to 26
right_place : Place → Bool
right_place p = same_place (place_of (code_of p)) p && (ltb (code_of p) 96 && (ltb 0 (code_of p % 32) && ltb (code_of p % 32) 27))

right_places : List Place → Bool
right_places [] = true
right_places (p ∷ ps) = right_place p && right_places ps

right_row : ℕ → List Place → Bool
right_row k ps = ltb k 135 && (leb (length ps) 7 && right_places ps)

right_rows : List Row → Bool
right_rows [] = true
right_rows (r ∷ rs) = right_row r.kind r.places && right_rows rs

-- so a row has at most seven places, a kind from 135 on has none, and each place is right
record Right (k : ℕ) (ps : List Place) : Type 0 where
  short : length ps ≤ 7
  past : 135 ≤ k → ps ≡ []
  places : right_places ps ≡ true

right-none : (k : ℕ) → Right k []
unfolding right_places
right-none k = record { short = omega arith; past = λ h. refl; places = refl }

right-row : (k : ℕ) (ps : List Place) → right_row k ps ≡ true → Right k ps
unfolding right_row
right-row k ps t =
    let a = both (ltb k 135) (leb (length ps) 7 && right_places ps) t in
    let b = both (leb (length ps) 7) (right_places ps) a.1 in
    let l = ltb-true k 135 a.0 in
    record { short = leb-true (length ps) 7 b.0; past = λ h. absurd (omega arith); places = b.1 }

right-in : (rs : List Row) → right_rows rs ≡ true → (k : ℕ) → Right k (row_in rs k)
unfolding right_rows
right-in [] t k = right-none k
right-in (r ∷ rs) t k = let a = both (right_row r.kind r.places) (right_rows rs) t in go (eqb k r.kind) refl a.0 (right-in rs a.1 k)
  where
    go : (b : Bool) → eqb k r.kind ≡ b → right_row r.kind r.places ≡ true → Right k (row_in rs k) → Right k (cond b r.places (row_in rs k))
    go true e here there = rw (eqb-true k r.kind e) (right-row r.kind r.places here)
    go false e here there = there

right : (k : ℕ) → Right k (row_of k)
unfolding row_of right_rows right_row right_places right_place place_of code_of
right k = right-in rows refl k

-- what the number c of a place that occurs is: 0, or 0, 32 or 64 and then 1 to 26
pub record Number (c : ℕ) : Type 0 where
  pub below : c < 96
  pub within : c % 32 < 27
  pub some : 0 < c → 0 < c % 32

pub record Coded (p : Place) : Type 0 where
  pub is : place_of (code_of p) ≡ p
  pub number : Number (code_of p)
  pub more : 0 < code_of p

right-place : (p : Place) → right_place p ≡ true → Coded p
unfolding right_place
right-place p t =
    let c : ℕ = code_of p in
    let a = both (same_place (place_of c) p) (ltb c 96 && (ltb 0 (c % 32) && ltb (c % 32) 27)) t in
    let b = both (ltb c 96) (ltb 0 (c % 32) && ltb (c % 32) 27) a.1 in
    let d = both (ltb 0 (c % 32)) (ltb (c % 32) 27) b.1 in
    let s : 0 < c % 32 = ltb-true 0 (c % 32) d.0 in
    record {
      is = same_place-true (place_of c) p a.0;
      number = record { below = ltb-true c 96 b.0; within = ltb-true (c % 32) 27 d.1; some = λ h. s };
      more = omega arith;
    }

-- its number is the lowest byte of a row that starts with it, and what follows is above
pub code-first : (p : Place) (r : ℕ) → Coded p → (code_of p + 256 * r) % 256 ≡ code_of p
code-first p r c = let b = c.number.below in omega arith

pub code-rest : (p : Place) (r : ℕ) → Coded p → (code_of p + 256 * r) / 256 ≡ r
code-rest p r c = let b = c.number.below in omega arith

-- each place of a row has a number
unfoldable pub AllCoded : List Place → Type 0
AllCoded [] = Unit {0}
AllCoded (p ∷ ps) = Coded p × AllCoded ps

all_coded : (ps : List Place) → right_places ps ≡ true → AllCoded ps
unfolding right_places AllCoded
all_coded [] t = tt
all_coded (p ∷ ps) t = let a = both (right_place p) (right_places ps) t in (right-place p a.0, all_coded ps a.1)

pub row-coded : (k : ℕ) → AllCoded (row_of k)
row-coded k = all_coded (row_of k) (right k).places

-- a row's places fit in seven bytes, and past the table there is none
pub row-short : (k : ℕ) → length (row_of k) ≤ 7
row-short k = (right k).short

pub row-past : (k : ℕ) → 135 ≤ k → row_of k ≡ []
row-past k h = (right k).past h

-- the place that a number means: under 32 of one record, from 32 on a seq, from 64 on an Option
pub place-one : (c : ℕ) → c < 32 → place_of c ≡ base_of c
unfolding place_of
place-one c h = rw (lt-leb 64 c (omega arith), lt-leb 32 c h)

pub base-seq : (c : ℕ) → 32 ≤ c → c < 64 → place_of c ≡ seq (base_of (c - 32))
unfolding place_of
base-seq c h g = rw (lt-leb 64 c g, le-leb 32 c h)

pub base-option : (c : ℕ) → 64 ≤ c → place_of c ≡ option (base_of (c - 64))
unfolding place_of
base-option c h = rw (le-leb 64 c h)

pub place-seq : (c : ℕ) → 32 ≤ c → c < 64 → place_of c ≡ seq (place_of (c - 32))
place-seq c h g = base-seq c h g ∙ ap seq (sym (place-one (c - 32) (omega arith)))

pub place-option : (c : ℕ) → 64 ≤ c → c < 96 → place_of c ≡ option (place_of (c - 64))
place-option c h g = base-option c h ∙ ap option (sym (place-one (c - 64) (omega arith)))

-- the places of the roots
pub place-path : place_of 4 ≡ path
unfolding place_of
place-path = refl

pub place-mod : place_of 7 ≡ mod'
unfolding place_of
place-mod = refl

-- a place of one record is no seq and no Option, and only place 3 is a Text that a PMemberSelect holds
abbrev pub one_at : ℕ → Place → Bool
one_at i (kinds from to) = true
one_at i name = eqb i 3
one_at i (seq p) = false
one_at i (option p) = false

-- past the places of one record
pub base-past : (c : ℕ) → 27 ≤ c → base_of c ≡ one 0
base-past c h = get_or-eq_default bases (one 0) {n = c} h

base-one : (c : ℕ) → one_at c (base_of c) ≡ true
base-one c =
    elim (dec_lt c 27) [
      | yes h ↦ each_at (λ i. one_at i (base_of i)) 27 0 refl c (omega arith) (omega arith)
      | no h ↦ ap (one_at c) (base-past c (omega arith))
    ]

pub place-is-one : (c : ℕ) → c < 32 → one_at c (place_of c) ≡ true
place-is-one c h = ap (one_at c) (place-one c h) ∙ base-one c

-- at a place of one record from 4 on stands no leaf
inner_at : ℕ → Place → Bool
inner_at i (kinds from to) = ltb i 4 || ltb 3 from
inner_at i name = ltb i 4
inner_at i (seq p) = false
inner_at i (option p) = false

pub inner-kind : (c k : ℕ) → 3 < c → c < 32 → stands (place_of c) k ≡ true → is_leaf k ≡ false
unfolding inner_at
inner-kind c k h l t =
    elim (dec_lt c 27) [
      | yes g ↦ go (base_of c) (each_at (λ i. inner_at i (base_of i)) 27 0 refl c (omega arith) (omega arith))
          (sym (ap (λ (q : Place). stands q k) (place-one c l)) ∙ t)
      | no g ↦ (let e = within 0 0 k (sym (ap (λ (q : Place). stands q k) (place-one c l ∙ base-past c (omega arith))) ∙ t) in
          let z : k ≡ 0 = omega arith in ap is_leaf z)
    ]
  where
    go : (p : Place) → inner_at c p ≡ true → stands p k ≡ true → is_leaf k ≡ false
    go (kinds from to) i e =
        let f : ltb 3 from ≡ true = sym (ap (λ (b : Bool). b || ltb 3 from) (le-ltb c 4 (omega arith))) ∙ i in
        let w = within from to k e in
        let f' = ltb-true 3 from f in
        rw (ne_eqb k 1 (λ x. omega arith), ne_eqb k 3 (λ x. omega arith))
    go name i e = absurd (false≢true (sym (le-ltb c 4 (omega arith)) ∙ i))
    go (seq p) i e = cc
    go (option p) i e = cc

-- at the places of one record before that stands one
pub leaf-bytes : (c k : ℕ) → (c ≡ 0 → ⊥) → c < 4 → stands (place_of c) k ≡ true → content_at (place_of c) k ≡ bytes
unfolding content_at place_of
leaf-bytes zero k n h t = absurd (n refl)
leaf-bytes (suc zero) k n h t = let w = within 1 1 k t in let e : k ≡ 1 = omega arith in rw e
leaf-bytes (suc (suc zero)) k n h t = let w = within 3 3 k t in let e : k ≡ 3 = omega arith in rw e
leaf-bytes (suc (suc (suc zero))) k n h t = refl
leaf-bytes (suc (suc (suc (suc c)))) k n h t = absurd (omega arith)

-- what a record of kind k at a place holds, by the place's number
pub content-name : (k : ℕ) → content_at (place_of 3) k ≡ bytes
unfolding content_at place_of
content-name k = refl

pub content-one : (c k : ℕ) → c < 32 → (c ≡ 3 → ⊥) → content_at (place_of c) k ≡ cond (is_leaf k) bytes (these (row_of k))
unfolding content_at
content-one c k h n = go (place_of c) (place-is-one c h)
  where
    go : (p : Place) → one_at c p ≡ true → content_at p k ≡ cond (is_leaf k) bytes (these (row_of k))
    go (kinds from to) t = refl
    go name t = absurd (n (eqb-true c 3 t))
    go (seq p) t = cc
    go (option p) t = cc

pub content-seq : (c k : ℕ) → 32 ≤ c → c < 64 → content_at (place_of c) k ≡ any (place_of (c - 32))
unfolding content_at
content-seq c k h g = rw (place-seq c h g)

pub content-option : (c k : ℕ) → 64 ≤ c → c < 96 → content_at (place_of c) k ≡ at_most_one (place_of (c - 64))
unfolding content_at
content-option c k h g = rw (place-option c h g)
