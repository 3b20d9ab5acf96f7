-- The laws of records and their bytes. Assumes nothing.
use mathlib.Core.Path.{◌≡◌, refl, sym, ap, ap₂, ◌∙◌}
use mathlib.Core.List.{[], ◌∷◌, ◌++◌, append_assoc, append-nil}
use mathlib.Core.Bool.{Bool, true, false, ◌||◌, cond}
use Prim.Native.Nat.{ℕ, zero, suc, ◌+◌, ◌-◌, ◌^◌, ◌<◌, ◌≤◌}
use native.Mathlib.Nat.{le_refl, lt_of_lt_of_le, pow-le-pow_right, zero-lt-suc}
use native.Mathlib.Omega.{arith}
use lib.ListN.{length, take, drop, length-append, length-take, length-drop, take-append-drop}
use lib.Seq.{drop_at, drop-drop, take-append_seam, length-take-le}
use lib.Dec.{ltb}
use borrow.Author.Tests.{ltb-false, le-ltb}
use Rattle.wire.specs.Numbers.{Bytes, AreBytes, le, num}
use Rattle.wire.proofs.Numbers.{le-length, le-num, num-le, num-below, take-bytes, drop-bytes, take-le, drop_le}
use Rattle.records.specs.Record.{Record, Records, leaf, node, nil, ◌▸◌, is_leaf, record_bytes, encode, encode_all, length_of, kind_of}
use Rattle.records.specs.Record.{content_of, rest_of, parse, nth, tree}
use Rattle.records.specs.Reading.{short}
use Rattle.records.specs.Canonical.{Canonical, CanonicalAll}

-- what is not too short for a record: its length, its kind and as many bytes as its length counts
pub record Enough (s : Bytes) : Type 0 where
  pub six : 6 ≤ length s
  pub two : 2 ≤ length_of s
  pub inside : 4 + length_of s ≤ length s

-- bytes that are enough for a record are not short
pub enough-long : (s : Bytes) → Enough s → short s ≡ false
enough-long s e = rw (le-ltb (length s) 6 e.six, le-ltb (length_of s) 2 e.two, le-ltb (length s) (4 + length_of s) e.inside)

none : (a b c : Bool) → (a || b || c) ≡ false → (a ≡ false) × (b ≡ false) × (c ≡ false)
none true b c h = (h, cc, cc)
none false true c h = (refl, h, cc)
none false false c h = (refl, refl, h)

-- bytes that are not short are enough for a record
pub long-enough : (s : Bytes) → short s ≡ false → Enough s
long-enough s h =
    let n = none (ltb (length s) 6) (ltb (length_of s) 2) (ltb (length s) (4 + length_of s)) h in
    record { six = ltb-false (length s) 6 n.0; two = ltb-false (length_of s) 2 n.1; inside = ltb-false (length s) (4 + length_of s) n.2 }

-- a record is six bytes longer than its content
pub record-length : (k : ℕ) (content : Bytes) → length (record_bytes k content) ≡ 6 + length content
record-length k content = simp (length-append, le-length) (omega arith)

-- a record's bytes and the rest, part by part
parts : (k : ℕ) (content rest : Bytes) → record_bytes k content ++ rest ≡ le 4 (2 + length content) ++ (le 2 k ++ (content ++ rest))
parts k content rest = simp append_assoc

drop-6 : (s : Bytes) → drop 6 s ≡ drop 2 (drop 4 s)
drop-6 s = sym (drop-drop 2 4 s)

-- the front of a record's bytes and the rest
module _ (k : ℕ) (content rest : Bytes) (small : k < 65536) (bounded : 2 + length content < 2 ^ 32) where
  -- the length at the front of a record's bytes
  pub front_length : length_of (record_bytes k content ++ rest) ≡ 2 + length content
  front_length = rw (parts, take-le) (num-le 4 (2 + length content) bounded)

  -- the kind at the front of a record's bytes
  pub front-kind : kind_of (record_bytes k content ++ rest) ≡ k
  front-kind = rw (parts, drop_le, take-le) (num-le 2 k small)

  front-six : drop 6 (record_bytes k content ++ rest) ≡ content ++ rest
  front-six = drop-6 (record_bytes k content ++ rest) ∙ rw (parts, drop_le) (drop_le 2 k (content ++ rest))

  -- the content at the front of a record's bytes
  pub front-content : content_of (record_bytes k content ++ rest) ≡ content
  front-content =
      let e : length_of (record_bytes k content ++ rest) - 2 ≡ length content = rw front_length (omega arith) in
      rw (e, front-six) (take-append_seam content rest)

  -- what follows a record's bytes
  pub front_rest : rest_of (record_bytes k content ++ rest) ≡ rest
  front_rest = rw front_length (drop_at (record_bytes k content) rest (4 + (2 + length content)) (record-length k content ∙ omega arith))

  -- a record's bytes are not short of a record
  pub front-short : short (record_bytes k content ++ rest) ≡ false
  front-short =
      let l : length (record_bytes k content ++ rest) ≡ 6 + length content + length rest =
      length-append (record_bytes k content) rest ∙ ap (λ (n : ℕ). n + length rest) (record-length k content) in
      let f = front_length in
      enough-long (record_bytes k content ++ rest) (record { six = omega arith; two = omega arith; inside = omega arith })

-- the content of bytes is bytes
pub content-bytes : (s : Bytes) → AreBytes s → AreBytes (content_of s)
content-bytes s h = take-bytes (length_of s - 2) (drop 6 s) (drop-bytes 6 s h)

-- what follows in bytes is bytes
pub rest-bytes : (s : Bytes) → AreBytes s → AreBytes (rest_of s)
rest-bytes s h = drop-bytes (4 + length_of s) s h

num-take : (w : ℕ) (s : Bytes) → AreBytes s → num (take w s) < 256 ^ w
num-take w s h =
    let l : length (take w s) ≤ w = simp length-take (omega arith) in
    lt_of_lt_of_le (num-below (take w s) (take-bytes w s h)) (pow-le-pow_right (zero-lt-suc 255) l)

-- a kind is under 65536
pub kind-small : (s : Bytes) → AreBytes s → kind_of s < 65536
kind-small s h = num-take 2 (drop 4 s) (drop-bytes 4 s h)

-- a length is under 2 ^ 32
pub length-small : (s : Bytes) → AreBytes s → length_of s < 2 ^ 32
length-small s h = num-take 4 s h

le-take : (w : ℕ) (s : Bytes) → AreBytes s → w ≤ length s → le w (num (take w s)) ≡ take w s
le-take w s h l = ap (λ (n : ℕ). le n (num (take w s))) (sym (length-take-le w s l)) ∙ le-num (take w s) (take-bytes w s h)

-- the record at the front of bytes that are not short
module _ (s : Bytes) (long : short s ≡ false) where
  -- the content is two bytes less than the length says
  pub content-length : length (content_of s) + 2 ≡ length_of s
  content-length =
      let e = long-enough s long in
      let d = length-drop 6 s in
      let t : length (content_of s) ≡ length_of s - 2 = length-take-le (length_of s - 2) (drop 6 s) (omega arith) in
      omega arith

  -- the content and the rest are six bytes less than all
  pub rest-length : length (content_of s) + 6 + length (rest_of s) ≡ length s
  rest-length =
      let e = long-enough s long in
      let c = content-length in
      let d = length-drop (4 + length_of s) s in
      omega arith

  content-rest : content_of s ++ rest_of s ≡ drop 6 s
  content-rest =
      let a = long-enough s long in
      let e : 6 + (length_of s - 2) ≡ 4 + length_of s = omega arith in
      let d : drop (length_of s - 2) (drop 6 s) ≡ rest_of s = drop-drop (length_of s - 2) 6 s ∙ ap (λ (n : ℕ). drop n s) e in
      ap (λ (t : Bytes). content_of s ++ t) (sym d) ∙ take-append-drop (length_of s - 2) (drop 6 s)

  -- the bytes are those of the record at their front, and the rest
  pub record-split : AreBytes s → s ≡ record_bytes (kind_of s) (content_of s) ++ rest_of s
  record-split h =
      let e = long-enough s long in
      let c = content-length in
      let d = length-drop 4 s in
      let m : 2 + length (content_of s) ≡ length_of s = omega arith in
      let a : le 4 (2 + length (content_of s)) ≡ take 4 s = ap (le 4) m ∙ le-take 4 s h (omega arith) in
      let b : le 2 (kind_of s) ≡ take 2 (drop 4 s) = le-take 2 (drop 4 s) (drop-bytes 4 s h) (omega arith) in
      let f : le 2 (kind_of s) ++ (content_of s ++ rest_of s) ≡ drop 4 s = ap₂ ◌++◌ b (content-rest ∙ drop-6 s) ∙ take-append-drop 2 (drop 4 s) in
      sym (parts (kind_of s) (content_of s) (rest_of s) ∙ ap₂ ◌++◌ a f ∙ take-append-drop 4 s)

-- parse, one record on
pub parse-step : (n : ℕ) (s : Bytes) → 0 < length s
    → parse (suc n) s ≡ cond (is_leaf (kind_of s)) (leaf (kind_of s) (content_of s)) (node (kind_of s) (parse n (content_of s))) ▸ parse n (rest_of s)
unfolding parse
parse-step n [] h = absurd (omega arith)
parse-step n (b ∷ s) h = refl

-- parse finds nothing in no bytes
pub parse-nil : (n : ℕ) → parse n [] ≡ nil
unfolding parse
parse-nil zero = refl
parse-nil (suc n) = refl

-- a record's bytes are at least six
pub encode-six : (r : Record) → 6 ≤ length (encode r)
unfolding encode
encode-six (leaf k b) = let l = record-length k b in omega arith
encode-six (node k c) = let l = record-length k (encode_all c) in omega arith

-- parse of one record's bytes and the rest
pub parse-front : (n k : ℕ) (content rest : Bytes) → k < 65536 → 2 + length content < 2 ^ 32
    → parse (suc n) (record_bytes k content ++ rest) ≡ cond (is_leaf k) (leaf k content) (node k (parse n content)) ▸ parse n rest
parse-front n k content rest small bounded =
    let l = length-append (record_bytes k content) rest in
    let m = record-length k content in
    parse-step n (record_bytes k content ++ rest) (omega arith)
    ∙ rw (front-kind k content rest small bounded, front-content k content rest small bounded, front_rest k content rest small bounded)

mutual
  unfolding Canonical encode

  -- parse finds a canonical record at the front again
  pub parse-encode : (r : Record) (n : ℕ) (rest : Bytes) → Canonical r → length (encode r) ≤ suc n → parse (suc n) (encode r ++ rest) ≡ r ▸ parse n rest
  parse-encode (leaf k b) n rest h l = parse-front n k b rest h.1 h.2 ∙ rw h.0
  parse-encode (node k c) n rest h l =
      let m = record-length k (encode_all c) in
      parse-front n k (encode_all c) rest h.1 h.2 ∙ rw (h.0, parse-encode_all c n h.3 (omega arith))

  -- parse finds canonical records again
  pub parse-encode_all : (c : Records) (n : ℕ) → CanonicalAll c → length (encode_all c) ≤ n → parse n (encode_all c) ≡ c
  parse-encode_all nil n h l = parse-nil n
  parse-encode_all (r ▸ c) zero h l =
      let a = length-append (encode r) (encode_all c) in
      let b = encode-six r in
      absurd (omega arith)
  parse-encode_all (r ▸ c) (suc n) h l =
      let a = length-append (encode r) (encode_all c) in
      let b = encode-six r in
      parse-encode r n (encode_all c) h.0 (omega arith) ∙ rw (parse-encode_all c n h.1 (omega arith))

-- the tree of a canonical record's bytes is the record
pub tree-encode : (r : Record) → Canonical r → tree (encode r) ≡ r
unfolding tree encode nth Canonical
tree-encode r h =
    let e : encode_all (r ▸ nil) ≡ encode r = append-nil (encode r) in
    let p : parse (length (encode_all (r ▸ nil))) (encode_all (r ▸ nil)) ≡ r ▸ nil =
    parse-encode_all (r ▸ nil) (length (encode_all (r ▸ nil))) (h, tt) (le_refl (length (encode_all (r ▸ nil)))) in
    ap tree (sym e) ∙ ap (nth 0) p

-- two canonical records with the same bytes are the same
pub encode_injective : (r q : Record) → Canonical r → Canonical q → encode r ≡ encode q → r ≡ q
encode_injective r q h g e = sym (tree-encode r h) ∙ ap tree e ∙ tree-encode q g

-- canonical records with the same bytes are the same
pub encode_all-injective : (c d : Records) → CanonicalAll c → CanonicalAll d → encode_all c ≡ encode_all d → c ≡ d
encode_all-injective c d h g e =
    sym (parse-encode_all c (length (encode_all c)) h (le_refl (length (encode_all c))))
    ∙ ap (λ (s : Bytes). parse (length s) s) e
    ∙ parse-encode_all d (length (encode_all d)) g (le_refl (length (encode_all d)))
