-- Putting a pair into a table whose chains are whole: the pairs are one more, and the chains are whole. Assumes nothing.
use mathlib.Core.Path.{◌≡◌, refl, sym, ap, ap₂, ◌∙◌}
use mathlib.Core.List.{List, [], ◌∷◌, ◌++◌}
use mathlib.Core.Bool.{Bool, cond}
use Prim.Native.Nat.{ℕ, zero, suc, ◌+◌, ◌*◌, ◌/◌, ◌%◌, ◌<◌, ◌≤◌}
use native.Mathlib.Omega.{arith}
use lib.ListN.{take, drop, get_or}
use lib.Dec.{eqb}
use borrow.Author.Tests.{eqb-true, eqb-false, ne_eqb}
use Rattle.wire.specs.Numbers.{Bytes}
use Rattle.wire.proofs.Less.{less}
use Rattle.rast.proofs.Tests.{by-test}
use Rattle.prefix.specs.Prefix.{Scope}
use Rattle.comparing.specs.Compares.{number_of, place_in, base_word, base_at}
use Rattle.comparing.proofs.Bases.{word-place}
use Rattle.chains.specs.Chains.{room, name_at, number_at, word_at, bucket_of, head_of, next_of}
use Rattle.chains.proofs.Tests.{bucket-inside}
use Rattle.pairs.specs.Stored.{Stored, stored}
use Rattle.adding.specs.Adds.{put_pair, name_in, named_in, bucket_in, word_in}
use Rattle.adding.specs.Holds.{latest, pair_at, pairs_from, pairs_in, bucket_at, is_in, Chained}
use Rattle.adding.proofs.Chain.{latest-most, latest-same}
use Rattle.adding.proofs.Puts.{put-length, put_first, put-at, put-len, put-base, put-heads, put_next, put-nexts}

eqb-turned : (x y : ℕ) → eqb x y ≡ eqb y x
eqb-turned x y = by-test (eqb x y) (λ t. rw (eqb-true x y t)) (λ t. let d = eqb-false x y t in t ∙ sym (ne_eqb y x (λ z. d (sym z))))

pairs-last : (s : Scope) (words : List ℕ) (i n : ℕ) → pairs_from s words i (suc n) ≡ pairs_from s words i n ++ (pair_at s words (i + n) ∷ [])
unfolding pairs_from
pairs-last s words i zero = ap (λ (j : ℕ). pair_at s words j ∷ []) (let e : i ≡ i + 0 = omega arith in e)
pairs-last s words i (suc n) =
    ap (λ (x : List Stored). pair_at s words i ∷ x)
    (pairs-last s words (suc i) n
    ∙ ap (λ (j : ℕ). pairs_from s words (suc i) n ++ (pair_at s words j ∷ [])) (let e : suc i + n ≡ i + suc n = omega arith in e))

module _ (s : Scope) (words : List ℕ) (n at len base : ℕ) (small : base < 65536) (r : n < room words) (c : Chained s words n) where
  abbrev Name : Bytes
  Name = name_in s words at len base

  abbrev Bucket : ℕ
  Bucket = bucket_in s words at len base

  abbrev Word : ℕ
  Word = word_in s words at len base

  abbrev First : ℕ
  First = named_in s words at len base

  abbrev Put : List ℕ
  Put = put_pair words n Bucket First len Word

  first-kept : (i : ℕ) → i < n → get_or Put (4 * i) 0 ≡ get_or words (4 * i) 0
  first-kept i h = let z : 4 * i + 0 ≡ 4 * i = omega arith in rw z at (put_first words n Bucket First len Word i 0 h (omega arith))

  name-kept : (i : ℕ) → i < n → name_at s.card Put i ≡ name_at s.card words i
  name-kept i h =
      ap₂ (λ (x y : ℕ). take y (drop (x % 65536) s.card))
      (first-kept i h) (put_first words n Bucket First len Word i 1 h (omega arith))

  word_kept : (i : ℕ) → i < n → word_at Put i ≡ word_at words i
  word_kept i h = put_first words n Bucket First len Word i 2 h (omega arith)

  name_new : name_at s.card Put n ≡ Name
  name_new =
      rw (put-at words n Bucket First len Word r, put-len words n Bucket First len Word r)
      (ap (λ (x : ℕ). take len (drop x s.card)) (low (at % 65536) (number_of s.op Name) (omega arith)))
    where
      low : (x y : ℕ) → x < 65536 → (x + 65536 * y) % 65536 ≡ x
      low x y l = omega arith

  number-new : number_at Put n ≡ number_of s.op Name
  number-new = rw (put-at words n Bucket First len Word r) (high (at % 65536) (number_of s.op Name) (omega arith))
    where
      high : (x y : ℕ) → x < 65536 → (x + 65536 * y) / 65536 ≡ y
      high x y l = omega arith

  word-new : word_at Put n ≡ Word
  word-new = put-base words n Bucket First len Word r

  pair-kept : (i : ℕ) → i < n → pair_at s Put i ≡ pair_at s words i
  unfolding pair_at
  pair-kept i h = rw (name-kept i h, word_kept i h)

  pairs-kept : (i m : ℕ) → i + m ≤ n → pairs_from s Put i m ≡ pairs_from s words i m
  unfolding pairs_from
  pairs-kept i zero h = refl
  pairs-kept i (suc m) h = ap₂ (λ (x : Stored) (y : List Stored). x ∷ y) (pair-kept i (omega arith)) (pairs-kept (suc i) m (omega arith))

  pair-new : pair_at s Put n ≡ stored Name (base_at s base)
  unfolding pair_at
  pair-new = rw (name_new, word-new, word-place s.op s.card base small)

  pub pairs-put : pairs_in s Put (suc n) ≡ pairs_in s words n ++ (stored Name (base_at s base) ∷ [])
  pairs-put =
      pairs-last s Put 0 n
      ∙ ap₂ (λ (x : List Stored) (y : Stored). x ++ (y ∷ [])) (pairs-kept 0 n (omega arith))
      (ap (pair_at s Put) (let z : 0 + n ≡ n = omega arith in z) ∙ pair-new)

  -- buckets depend on numbers and on how many words there are
  bucket-long : (number : ℕ) → bucket_of Put number ≡ bucket_of words number
  unfolding bucket_of
  bucket-long number = rw (put-length words n Bucket First len Word)

  bucket-kept : (i : ℕ) → i < n → bucket_at Put i ≡ bucket_at words i
  bucket-kept i h = bucket-long (number_at Put i) ∙ ap (λ (x : ℕ). bucket_of words (x / 65536)) (first-kept i h)

  bucket-new : bucket_at Put n ≡ Bucket
  bucket-new = bucket-long (number_at Put n) ∙ ap (bucket_of words) number-new

  latest-kept : (b m : ℕ) → m ≤ n → latest (is_in Put b) m ≡ latest (is_in words b) m
  latest-kept b m h = latest-same (is_in Put b) (is_in words b) m (λ i l. ap (λ (x : ℕ). eqb x b) (bucket-kept i (omega arith)))

  bucket-most : Bucket < room words
  bucket-most = bucket-inside words (number_of s.op Name) (omega arith)

  head-most : head_of words Bucket ≤ n
  head-most = rw (c.heads Bucket bucket-most) (latest-most (is_in words Bucket) n)

  head_small : head_of words Bucket < 65536
  head_small = let h = head-most in omega arith

  heads-put : (b : ℕ) → b < room Put → head_of Put b ≡ latest (is_in Put b) (suc n)
  unfolding latest
  heads-put b h =
      let e = put-length words n Bucket First len Word in
      put-heads words n Bucket First len Word r bucket-most head_small b
      ∙ rw (bucket-new, latest-kept b n (omega arith), c.heads b (omega arith))
      (ap (λ (x : Bool). cond x (suc n) (latest (is_in words b) n)) (eqb-turned b Bucket))

  links-put : (i : ℕ) → i < suc n → next_of Put (suc i) ≡ latest (is_in Put (bucket_at Put i)) i
  links-put i h =
      by-test (eqb i n)
      (λ t. rw (eqb-true i n t, bucket-new, latest-kept Bucket n (omega arith))
      (put_next words n Bucket First len Word r bucket-most head_small head-most ∙ c.heads Bucket bucket-most))
      (λ t. let l : i < n = less i n (omega arith) (eqb-false i n t) in
      rw (bucket-kept i l, latest-kept (bucket_at words i) i (omega arith))
      (put-nexts words n Bucket First len Word r bucket-most head_small i l ∙ c.links i l))

  bases-put : (i : ℕ) → i < suc n → word_at Put i ≡ base_word s.op s.card (place_in (word_at Put i))
  bases-put i h =
      by-test (eqb i n)
      (λ t. rw (eqb-true i n t, word-new) (ap (base_word s.op s.card) (sym (word-place s.op s.card base small))))
      (λ t. let l : i < n = less i n (omega arith) (eqb-false i n t) in rw (word_kept i l) (c.bases i l))

  numbers-put : (i : ℕ) → i < suc n → number_at Put i ≡ number_of s.op (name_at s.card Put i)
  numbers-put i h =
      by-test (eqb i n)
      (λ t. rw (eqb-true i n t) (number-new ∙ ap (number_of s.op) (sym name_new)))
      (λ t. let l : i < n = less i n (omega arith) (eqb-false i n t) in
      ap (λ (x : ℕ). x / 65536) (first-kept i l) ∙ c.numbers i l ∙ ap (number_of s.op) (sym (name-kept i l)))

  pub chained-put : Chained s Put (suc n)
  chained-put = record { heads = heads-put; links = links-put; bases = bases-put; numbers = numbers-put }
