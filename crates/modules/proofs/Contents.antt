-- The bytes of a Mod: what stands ahead of its body, where its declarations start, and the Mod put together again. Assumes nothing.
use mathlib.Core.Path.{◌≡◌, ap, sym, ◌∙◌}
use mathlib.Core.List.{◌++◌, append_assoc, append-nil}
use Prim.Native.Nat.{ℕ, ◌+◌, ◌-◌}
use native.Mathlib.Omega.{arith}
use lib.ListN.{length, take, length-append}
use lib.Seq.{take_at}
use Rattle.wire.specs.Numbers.{Bytes, between}
use Rattle.records.specs.Record.{Record, Records, node, nil, ◌▸◌, ◌▸▸◌, record_bytes, encode, encode_all, content_of, rest_of, count, first, skip}
use Rattle.records.specs.Canonical.{Canonical}
use Rattle.records.proofs.Tree.{record-length}
use Rattle.records.proofs.Front.{encode-rest}
use Rattle.records.proofs.Starts.{Starts, AllStart, starts-there, content-start, first-starts, skip-start}
use Rattle.rewriting.proofs.Walks.{alone-content}
use Rattle.places.proofs.Weighed.{weighed, weighed_all, weighed_ahead, weighed-node, weighed-self, weighed-ahead}
use Rattle.modules.specs.Modules.{body_in, ahead_in}

-- a record's bytes alone, where it starts and ends
pub span-there : {s : Bytes} {o : ℕ} {r : Record} → Starts s o r → between s o (o + length (encode r)) ≡ encode r
span-there {s} {o} {r} p = let e : o + length (encode r) - o ≡ length (encode r) = omega arith in rw e (starts-there p)

-- a record that holds one
pub holds-one : (k : ℕ) (r : Record) → record_bytes k (encode r) ≡ encode (node k (r ▸ nil))
unfolding encode
holds-one k r = rw append-nil

pub weighed-one : (z : Bytes) (k : ℕ) (r s : Record) → record_bytes k (weighed z r s) ≡ weighed z (node k (r ▸ nil)) (node k (s ▸ nil))
unfolding weighed count
weighed-one z k r s = sym (weighed-node z k (r ▸ nil) (s ▸ nil) ∙ ap (record_bytes k) (append-nil (weighed z r s)))

pub one-ends : (k : ℕ) (r : Record) (from : ℕ) → from + length (encode (node k (r ▸ nil))) ≡ from + 6 + length (encode r)
one-ends k r from =
    let a : length (encode (node k (r ▸ nil))) ≡ length (record_bytes k (encode r)) = sym (ap length (holds-one k r)) in
    let b = record-length k (encode r) in
    omega arith

module _ (d a n : Record) (c : Records) where
  abbrev pub Mod : Record
  Mod = node 0x60 (d ▸ a ▸ n ▸ node 0x02 c ▸ nil)

  abbrev pub Ahead : Bytes
  Ahead = encode_all (d ▸ a ▸ n ▸ nil)

  split : encode_all (d ▸ a ▸ n ▸ node 0x02 c ▸ nil) ≡ Ahead ++ encode (node 0x02 c)
  unfolding encode_all
  split = simp (append_assoc, append-nil)

  split-length : length (encode_all (d ▸ a ▸ n ▸ node 0x02 c ▸ nil)) ≡ length Ahead + (6 + length (encode_all c))
  unfolding encode
  split-length =
      let b = length-append Ahead (encode (node 0x02 c)) in
      let e = record-length 0x02 (encode_all c) in
      ap length split ∙ omega arith

  module _ (h : Canonical Mod) where
    pub mod-content : content_of (encode Mod) ≡ encode_all (d ▸ a ▸ n ▸ node 0x02 c ▸ nil)
    mod-content = alone-content Mod h

    pub body_is : body_in (encode_all (d ▸ a ▸ n ▸ node 0x02 c ▸ nil)) ≡ encode (node 0x02 c)
    unfolding encode_all Canonical
    body_is =
        ap (λ (x : Bytes). rest_of (rest_of x)) (encode-rest d (encode_all (a ▸ n ▸ node 0x02 c ▸ nil)) h.3.0)
        ∙ ap rest_of (encode-rest a (encode_all (n ▸ node 0x02 c ▸ nil)) h.3.1.0)
        ∙ encode-rest n (encode_all (node 0x02 c ▸ nil)) h.3.1.1.0
        ∙ append-nil (encode (node 0x02 c))

    pub ahead-is : ahead_in (encode_all (d ▸ a ▸ n ▸ node 0x02 c ▸ nil)) ≡ Ahead
    ahead-is =
        let all = encode_all (d ▸ a ▸ n ▸ node 0x02 c ▸ nil) in
        let b = encode (node 0x02 c) in
        let e : length all ≡ length Ahead + length b = ap length split ∙ length-append Ahead b in
        rw body_is (ap (take (length all - length b)) split ∙ take_at Ahead b (length all - length b) (omega arith))

  -- where the body's declarations start and end
  pub body-ends : (at : ℕ) → at + length (encode Mod) ≡ at + 6 + length Ahead + 6 + length (encode_all c)
  unfolding encode
  body-ends at =
      let l = split-length in
      let r = record-length 0x60 (encode_all (d ▸ a ▸ n ▸ node 0x02 c ▸ nil)) in
      omega arith

  pub body-starts : {s : Bytes} {at : ℕ} → Starts s at Mod → AllStart s (at + 6 + length Ahead + 6) c
  unfolding first skip
  body-starts st = content-start (first-starts (skip-start 3 (d ▸ a ▸ n ▸ node 0x02 c ▸ nil) (content-start st)))

-- a Mod of what stands ahead, uses and declarations, beside the card's
pub mod-whole : (z : Bytes) (d a n : Record) (b c e : Records) → count c ≡ count e
    → record_bytes 0x60 (encode_all (d ▸ a ▸ n ▸ nil) ++ record_bytes 0x02 (weighed_ahead z b ++ weighed_all z c e)) ≡ weighed z (Mod d a n c) (Mod d a n (b ▸▸ e))
unfolding encode_all weighed count
mod-whole z d a n b c e g =
    let body = record_bytes 0x02 (weighed_ahead z b ++ weighed_all z c e) in
    let inside : weighed_all z (d ▸ a ▸ n ▸ node 0x02 c ▸ nil) (d ▸ a ▸ n ▸ node 0x02 (b ▸▸ e) ▸ nil) ≡ encode_all (d ▸ a ▸ n ▸ nil) ++ body
    = rw (weighed-self z d, weighed-self z a, weighed-self z n, weighed-node z 0x02 c (b ▸▸ e), weighed-ahead z b c e g) (simp (append_assoc, append-nil)) in
    sym (weighed-node z 0x60 (d ▸ a ▸ n ▸ node 0x02 c ▸ nil) (d ▸ a ▸ n ▸ node 0x02 (b ▸▸ e) ▸ nil) ∙ ap (record_bytes 0x60) inside)
