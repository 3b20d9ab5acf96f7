-- The bytes of an output with a weight behind each changed point, and that their length says how many there are. Assumes nothing.
use mathlib.Core.Path.{◌≡◌, refl, sym, ap, ap₂, subst, ◌∙◌}
use mathlib.Core.Bool.{cond}
use mathlib.Core.List.{List, [], ◌++◌, append-nil, append_assoc}
use Prim.Native.Nat.{ℕ, suc, ◌+◌, ◌*◌}
use native.Mathlib.Nat.{mul-add, mul-suc}
use native.Mathlib.Omega.{arith}
use lib.ListN.{length, length-append}
use lib.Dec.{eqb, ltb}
use borrow.Author.Tests.{eqb-true, lt-ltb, le-ltb}
use Rattle.wire.specs.Numbers.{Bytes}
use Rattle.records.specs.Record.{Record, Records, leaf, node, nil, ◌▸◌, ◌▸▸◌, record_bytes, encode, encode_all, map_all, count}
use Rattle.records.proofs.Tree.{record-length}
use Rattle.rast.proofs.Tests.{by-test}
use Rattle.points.specs.Points.{Meeting, short_type, short_expr, module', elsewhere, meeting}
use Rattle.places.specs.Places.{Entry, listed, places_of, places_in}

-- whole with a weight behind it where a name is shortened
abbrev pub heavy : Bytes → Meeting → (whole parts : Bytes) → Bytes
heavy z short_type whole parts = whole ++ z
heavy z short_expr whole parts = whole ++ z
heavy z module' whole parts = parts
heavy z elsewhere whole parts = parts

-- as places_of and places_in go
unfoldable mutual
  pub weighed : Bytes → (this that : Record) → Bytes
  weighed z (leaf k b) that = encode that
  weighed z (node k c) (leaf j d) = encode (leaf j d)
  weighed z (node k c) (node j d) = heavy z (meeting k j) (encode (node j d)) (record_bytes j (weighed_all z c d))

  pub weighed_all : Bytes → (these those : Records) → Bytes
  weighed_all z nil nil = []
  weighed_all z nil (s ▸ d) = encode s ++ (z ++ weighed_all z nil d)
  weighed_all z (r ▸ c) nil = []
  weighed_all z (r ▸ c) (s ▸ d) =
      cond (ltb (count c) (count d)) (encode s ++ (z ++ weighed_all z (r ▸ c) d)) (weighed z r s ++ weighed_all z c d)

-- records put ahead, each with a weight behind it
unfoldable pub weighed_ahead : Bytes → Records → Bytes
weighed_ahead z nil = []
weighed_ahead z (u ▸ c) = encode u ++ (z ++ weighed_ahead z c)

-- what a function makes of each is as many
pub mapped-count : (f : Record → Record) (c : Records) → count c ≡ count (map_all f c)
unfolding count map_all
mapped-count f nil = refl
mapped-count f (r ▸ c) = ap suc (mapped-count f c)

-- kinds that are the same never shorten
heavy-same : (z : Bytes) (k : ℕ) (whole parts : Bytes) → heavy z (meeting k k) whole parts ≡ parts
heavy-same z k whole parts =
    by-test (eqb k 0x2D) (λ e. subst (λ (k : ℕ). heavy z (meeting k k) whole parts ≡ parts) (sym (eqb-true k 0x2D e)) refl)
    (λ e. by-test (eqb k 0x5C) (λ f. subst (λ (k : ℕ). heavy z (meeting k k) whole parts ≡ parts) (sym (eqb-true k 0x5C f)) refl)
    (λ f. by-test (eqb k 0x60) (λ g. rw (e, f, g)) (λ g. rw (e, f, g))))

module _ (z : Bytes) where
  pub weighed-node : (k : ℕ) (c d : Records) → weighed z (node k c) (node k d) ≡ record_bytes k (weighed_all z c d)
  unfolding weighed
  weighed-node k c d = heavy-same z k (encode (node k d)) (record_bytes k (weighed_all z c d))

  -- where as many follow
  pub weighed-beside : (r : Record) (c : Records) (s : Record) (d : Records) → count c ≡ count d
      → weighed_all z (r ▸ c) (s ▸ d) ≡ weighed z r s ++ weighed_all z c d
  unfolding weighed
  weighed-beside r c s d e = rw (le-ltb (count c) (count d) (omega (arith, e)))

  -- what is left as it is
  mutual
    unfolding weighed encode

    pub weighed-self : (r : Record) → weighed z r r ≡ encode r
    weighed-self (leaf k b) = refl
    weighed-self (node k c) = weighed-node k c c ∙ ap (record_bytes k) (weighed-selves c)

    weighed-selves : (c : Records) → weighed_all z c c ≡ encode_all c
    weighed-selves nil = refl
    weighed-selves (r ▸ c) = weighed-beside r c r c refl ∙ ap₂ ◌++◌ (weighed-self r) (weighed-selves c)

  -- those put ahead, and then the others
  pub weighed-ahead : (us c d : Records) → count c ≡ count d → weighed_all z c (us ▸▸ d) ≡ weighed_ahead z us ++ weighed_all z c d
  unfolding weighed weighed_ahead ◌▸▸◌ count
  weighed-ahead nil c d e = refl
  weighed-ahead (u ▸ us) nil d e =
      ap (λ (x : Bytes). encode u ++ (z ++ x)) (weighed-ahead us nil d e)
      ∙ simp append_assoc
  weighed-ahead (u ▸ us) (r ▸ c) d e =
      rw (lt-ltb (count c) (count (us ▸▸ d)) (let l = count-ahead us d in omega (arith, e)))
      (ap (λ (x : Bytes). encode u ++ (z ++ x)) (weighed-ahead us (r ▸ c) d e)
      ∙ simp append_assoc)
    where
      count-ahead : (c d : Records) → count (c ▸▸ d) ≡ count c + count d
      count-ahead nil d = omega arith
      count-ahead (r ▸ c) d = ap suc (count-ahead c d) ∙ omega arith

-- without a weight they are the output's
heavy-none : (m : Meeting) (whole parts : Bytes) → parts ≡ whole → heavy [] m whole parts ≡ whole
heavy-none short_type whole parts e = append-nil whole
heavy-none short_expr whole parts e = append-nil whole
heavy-none module' whole parts e = e
heavy-none elsewhere whole parts e = e

mutual
  unfolding weighed encode

  pub weightless : (this that : Record) → weighed [] this that ≡ encode that
  weightless (leaf k b) that = refl
  weightless (node k c) (leaf j d) = refl
  weightless (node k c) (node j d) =
      heavy-none (meeting k j) (encode (node j d)) (record_bytes j (weighed_all [] c d)) (ap (record_bytes j) (weightless-all c d))

  weightless-all : (c d : Records) → weighed_all [] c d ≡ encode_all d
  weightless-all nil nil = refl
  weightless-all nil (s ▸ d) = ap (λ (x : Bytes). encode s ++ x) (weightless-all nil d)
  weightless-all (r ▸ c) nil = refl
  weightless-all (r ▸ c) (s ▸ d) =
      by-test (ltb (count c) (count d))
      (λ e. rw e (ap (λ (x : Bytes). encode s ++ x) (weightless-all (r ▸ c) d)))
      (λ e. rw e (ap₂ ◌++◌ (weightless r s) (weightless-all c d)))

-- THE LAW: their length is the output's, and a weight for each entry
module _ (z : Bytes) where
  heavy-length : (m : Meeting) (at n : ℕ) (whole parts : Bytes) (es : List Entry) → length whole ≡ n → length parts ≡ n + length z * length es
      → length (heavy z m whole parts) ≡ n + length z * length (listed m at es)
  heavy-length short_type at n whole parts es e f = let a = length-append whole z in omega (arith, e, a)
  heavy-length short_expr at n whole parts es e f = let a = length-append whole z in omega (arith, e, a)
  heavy-length module' at n whole parts es e f = f
  heavy-length elsewhere at n whole parts es e f = f

  ahead-length : (s : Record) (x : Bytes) (n m : ℕ) → length x ≡ n + length z * m → length (encode s ++ (z ++ x)) ≡ length (encode s) + n + length z * suc m
  ahead-length s x n m e =
      let a = length-append (encode s) (z ++ x) in
      let b = length-append z x in
      let c : length z * suc m ≡ length z * m + length z = mul-suc (length z) m in
      omega (arith, a, b, c, e)

  mutual
    unfolding weighed encode places_of

    pub weighed-length : (at : ℕ) (this that : Record) → length (weighed z this that) ≡ length (encode that) + length z * length (places_of at this that)
    weighed-length at (leaf k b) that = omega arith
    weighed-length at (node k c) (leaf j d) = omega arith
    weighed-length at (node k c) (node j d) =
        heavy-length (meeting k j) at (length (encode (node j d))) (encode (node j d)) (record_bytes j (weighed_all z c d)) (places_in (at + 6) c d) refl
        (let a = record-length j (weighed_all z c d) in
        let b = record-length j (encode_all d) in
        let i = weighed-lengths (at + 6) c d in
        omega (arith, a, b, i))

    weighed-lengths : (at : ℕ) (c d : Records) → length (weighed_all z c d) ≡ length (encode_all d) + length z * length (places_in at c d)
    weighed-lengths at nil nil = omega arith
    weighed-lengths at nil (s ▸ d) =
        let next = at + length (encode s) in
        let i = ahead-length s (weighed_all z nil d) (length (encode_all d)) (length (places_in next nil d)) (weighed-lengths next nil d) in
        let a = length-append (encode s) (encode_all d) in
        omega (arith, i, a)
    weighed-lengths at (r ▸ c) nil = omega arith
    weighed-lengths at (r ▸ c) (s ▸ d) =
        let next = at + length (encode s) in
        let a = length-append (encode s) (encode_all d) in
        by-test (ltb (count c) (count d))
        (λ e. rw e
        (let i = ahead-length s (weighed_all z (r ▸ c) d) (length (encode_all d)) (length (places_in next (r ▸ c) d)) (weighed-lengths next (r ▸ c) d) in
        omega (arith, i, a)))
        (λ e. rw e
        (let i = weighed-length at r s in
        let j = weighed-lengths next c d in
        let b = length-append (weighed z r s) (weighed_all z c d) in
        let f = length-append (places_of at r s) (places_in next c d) in
        let g = ap (λ (n : ℕ). length z * n) f ∙ mul-add (length z) (length (places_of at r s)) (length (places_in next c d)) in
        omega (arith, i, j, a, b, g)))
