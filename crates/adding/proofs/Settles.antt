-- A SETTLED TABLE has the pairs that it had, in just the words that they take, and its chains are whole. Assumes nothing.
use mathlib.Core.Path.{◌≡◌, refl, sym, ap, subst, ◌∙◌}
use mathlib.Core.List.{List, ◌++◌}
use Prim.Native.Nat.{ℕ, zero, suc, ◌+◌, ◌-◌, ◌*◌, ◌/◌, ◌%◌, ◌<◌, ◌≤◌, min}
use native.Mathlib.Omega.{arith}
use native.Mathlib.Nat.{add-zero}
use lib.ListN.{length, take, get_or, set, length-append, take-append-drop}
use lib.Seq.{get_or-set_other, get_or-take, length-take-le, take-append_seam}
use lib.Dec.{eqb, ltb}
use borrow.Author.Tests.{eqb-true, eqb-false, le-ltb}
use Rattle.rast.proofs.Tests.{by-test}
use Rattle.prefix.specs.Prefix.{Scope}
use Rattle.comparing.specs.Compares.{number_of, place_in, base_word}
use Rattle.chains.specs.Chains.{room, name_at, number_at, word_at, bucket_of}
use Rattle.pairs.specs.Stored.{Stored}
use Rattle.adding.specs.Adds.{Table, table, started_from, started, put_pair}
use Rattle.adding.specs.Holds.{pair_at, pairs_from, pairs_in, Chained, Has}
use Rattle.adding.specs.Settles.{put_again, put_again_from, settled, own_words, free_words, settled_table}
use Rattle.adding.proofs.Starts.{started-length, start_has}
use Rattle.adding.proofs.Again.{again-length}
use Rattle.adding.proofs.Puts.{put-others, put-at, put-len, put-base}
use Rattle.adding.proofs.Keeps.{chained-put}

-- words that have the same three words for each of n pairs
abbrev Same : List ℕ → List ℕ → ℕ → Type 0
Same words these n = (i k : ℕ) → i < n → k < 3 → get_or words (4 * i + k) 0 ≡ get_or these (4 * i + k) 0

pub from-length : (words : List ℕ) (i n : ℕ) → length (put_again_from words i n) ≡ length words
unfolding put_again_from
from-length words i zero = refl
from-length words i (suc n) = from-length (put_again words i) (suc i) n ∙ again-length words i

pub settled-length : (words : List ℕ) → length (settled words) ≡ length words
unfolding settled
settled-length words = from-length (started words) 0 (room words) ∙ started-length words

-- putting a pair again leaves the three words of each
again-own : (words : List ℕ) (i : ℕ) → i < room words → (k : ℕ) → k < 3 → get_or (put_again words i) (4 * i + k) 0 ≡ get_or words (4 * i + k) 0
unfolding put_again
again-own words i r zero l =
    let z : 4 * i + 0 ≡ 4 * i = omega arith in
    rw z (put-at words i (bucket_of words (number_at words i)) (get_or words (4 * i) 0) (get_or words (4 * i + 1) 0) (word_at words i) r)
again-own words i r (suc zero) l =
    put-len words i (bucket_of words (number_at words i)) (get_or words (4 * i) 0) (get_or words (4 * i + 1) 0) (word_at words i) r
again-own words i r (suc (suc zero)) l =
    put-base words i (bucket_of words (number_at words i)) (get_or words (4 * i) 0) (get_or words (4 * i + 1) 0) (word_at words i) r
again-own words i r (suc (suc (suc k))) l = absurd (omega arith)

again-other : (words : List ℕ) (i j k : ℕ) → (j ≡ i → ⊥) → k < 3 → get_or (put_again words i) (4 * j + k) 0 ≡ get_or words (4 * j + k) 0
unfolding put_again
again-other words i j k d l =
    put-others words i (bucket_of words (number_at words i)) (get_or words (4 * i) 0) (get_or words (4 * i + 1) 0) (word_at words i) j k d l

again-same : (words : List ℕ) (i : ℕ) → i < room words → (j k : ℕ) → k < 3 → get_or (put_again words i) (4 * j + k) 0 ≡ get_or words (4 * j + k) 0
again-same words i r j k l =
    by-test (eqb j i) (λ t. rw (eqb-true j i t) (again-own words i r k l)) (λ t. again-other words i j k (eqb-false j i t) l)

-- each base is a word, and each name's number its own
abbrev Word : Scope → List ℕ → ℕ → Type 0
Word s words i =
    (word_at words i ≡ base_word s.op s.card (place_in (word_at words i))) × (number_at words i ≡ number_of s.op (name_at s.card words i))

abbrev Words : Scope → List ℕ → ℕ → Type 0
Words s words n = (i : ℕ) → i < n → Word s words i

word_same : (s : Scope) (words these : List ℕ) (n i : ℕ) → Same words these n → i < n → Word s these i → Word s words i
word_same s words these n i h l w =
    let z : 4 * i + 0 ≡ 4 * i = omega arith in
    let a : get_or words (4 * i) 0 ≡ get_or these (4 * i) 0 = rw z at (h i 0 l (omega arith)) in
    rw (a, h i 1 l (omega arith), h i 2 l (omega arith)) w

halves : (x : ℕ) → x % 65536 + 65536 * (x / 65536) ≡ x
halves x = omega arith

module _ (s : Scope) where
  chained-again : (words : List ℕ) (i : ℕ) → i < room words → Word s words i → Chained s words i → Chained s (put_again words i) (suc i)
  unfolding put_again
  chained-again words i r e c =
      let at = get_or words (4 * i) 0 in
      let len = get_or words (4 * i + 1) 0 in
      let place = place_in (word_at words i) in
      let base = base_word s.op s.card place in
      let put = chained-put s words i at len place (let z : place < 65536 = omega arith in z) r c in
      let own = subst (λ (x : ℕ). Chained s (put_pair words i (bucket_of words x) (at % 65536 + 65536 * x) len base) (suc i)) (sym e.1) put in
      let whole = subst (λ (x : ℕ). Chained s (put_pair words i (bucket_of words (number_at words i)) x len base) (suc i)) (halves at) own in
      subst (λ (x : ℕ). Chained s (put_pair words i (bucket_of words (number_at words i)) at len x) (suc i)) (sym e.0) whole

  -- n pairs put again behind i that are: the chains of all are whole, and each is what it was
  pub record Rechained (these words : List ℕ) (n : ℕ) : Type 0 where
    pub long : length words ≡ length these
    pub same : Same words these (room these)
    pub chained : Chained s words n

  rechained : (these words : List ℕ) → Words s these (room these) → (i n : ℕ) → i + n ≤ room these → Rechained these words i
      → Rechained these (put_again_from words i n) (i + n)
  unfolding put_again_from
  rechained these words b i zero l h = rw add-zero h
  rechained these words b i (suc n) l h =
      let long = h.long in
      let r : i < room words = omega arith in
      let z : suc i + n ≡ i + suc n = omega arith in
      rw (sym z)
      (rechained these (put_again words i) b (suc i) n (omega arith)
      (record {
        long = again-length words i ∙ h.long;
        same = λ j k g o. again-same words i r j k o ∙ h.same j k g o;
        chained = chained-again words i r (word_same s words these (room these) i h.same (omega arith) (b i (omega arith))) h.chained;
      }))

-- starting a table leaves the three words of each pair
started-same : (words : List ℕ) (i n j k : ℕ) → k < 3 → get_or (started_from words i n) (4 * j + k) 0 ≡ get_or words (4 * j + k) 0
unfolding started_from
started-same words i zero j k l = refl
started-same words i (suc n) j k l =
    started-same (set words (4 * i + 3) 0) (suc i) n j k l ∙ get_or-set_other words (4 * i + 3) (4 * j + k) 0 0 (λ e. absurd (omega arith))

-- words that have the same three words for each pair have the same pairs
pairs-same : (s : Scope) (words these : List ℕ) (m : ℕ) → Same words these m → (i n : ℕ) → i + n ≤ m → pairs_from s words i n ≡ pairs_from s these i n
unfolding pairs_from pair_at
pairs-same s words these m h i zero l = refl
pairs-same s words these m h i (suc n) l =
    let z : 4 * i + 0 ≡ 4 * i = omega arith in
    let a : get_or words (4 * i) 0 ≡ get_or these (4 * i) 0 = rw z at (h i 0 (omega arith) (omega arith)) in
    rw (a, h i 1 (omega arith) (omega arith), h i 2 (omega arith) (omega arith), pairs-same s words these m h (suc i) n (omega arith))

module _ (s : Scope) (words : List ℕ) (n : ℕ) (r : n ≤ room words) where
  abbrev Own : List ℕ
  Own = take (4 * n) words

  pub own-length : length Own ≡ 4 * n
  own-length = length-take-le (4 * n) words (omega arith)

  own_room : room Own ≡ n
  own_room = let l = own-length in omega arith

  own_same : Same Own words n
  own_same i k g l = get_or-take (4 * n) words (4 * i + k) 0 (omega arith)

  own-words : Chained s words n → Words s Own (room Own)
  own-words c i l =
      let e = own_room in
      word_same s Own words n i own_same (omega arith) (c.bases i (omega arith), c.numbers i (omega arith))

  started-rechained : Rechained s Own (started Own) 0
  unfolding started
  started-rechained =
      record {
        long = started-length Own;
        same = λ j k g l. started-same Own 0 (room Own) j k l;
        chained = (start_has s Own).chained (omega arith);
      }

  settled_is : Chained s words n → Rechained s Own (settled Own) n
  unfolding settled
  settled_is c =
      let e = own_room in
      let z : 0 + room Own ≡ n = omega arith in
      subst (Rechained s Own (put_again_from (started Own) 0 (room Own))) z
      (rechained s Own (started Own) (own-words c) 0 (room Own) (omega arith) started-rechained)

  settled-pairs : Chained s words n → pairs_in s (settled Own) n ≡ pairs_in s words n
  settled-pairs c =
      let e = own_room in
      pairs-same s (settled Own) words n (λ i k g l. (settled_is c).same i k (omega arith) l ∙ own_same i k g l) 0 n (omega arith)

  -- THE LAW
  pub settled-has : (ps : List Stored) → Has s (table n words) ps → Has s (table n (settled Own)) ps
  settled-has ps h =
      let e : room (settled Own) ≡ n = ap (λ (x : ℕ). min (x / 4) 65535) (settled-length Own) ∙ own_room in
      let c = h.count in
      let fits : length ps ≤ room words = omega arith in
      record {
        count = omega arith;
        pairs = λ l. settled-pairs (h.chained fits) ∙ h.pairs fits;
        chained = λ l. (settled_is (h.chained fits)).chained;
      }

-- what a table that is not full is once settled
module _ (t : Table) where
  pub settled-table-count : (settled_table t).count ≡ t.count
  unfolding settled_table
  settled-table-count = by-test (ltb (room t.words) t.count) (λ e. rw e) (λ e. rw e)

  pub settled-table-length : length (settled_table t).words ≡ length t.words
  unfolding settled_table
  settled-table-length =
      by-test (ltb (room t.words) t.count) (λ e. rw e)
      (λ e. rw e
      (length-append (settled (own_words t)) (free_words t)
      ∙ ap (λ (x : ℕ). x + length (free_words t)) (settled-length (own_words t))
      ∙ sym (length-append (own_words t) (free_words t)) ∙ ap length (take-append-drop (4 * t.count) t.words)))

  pub settled-own : t.count ≤ room t.words → own_words (settled_table t) ≡ settled (own_words t)
  unfolding settled_table
  settled-own r =
      let l : length (settled (own_words t)) ≡ 4 * t.count =
      settled-length (own_words t) ∙ length-take-le (4 * t.count) t.words (omega arith) in
      rw (le-ltb (room t.words) t.count r)
      (ap (λ (x : ℕ). take x (settled (own_words t) ++ free_words t)) (sym l) ∙ take-append_seam (settled (own_words t)) (free_words t))
