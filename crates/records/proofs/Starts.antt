-- Where the records of a tree start in bytes that hold the tree's: by the lengths of those before them. Assumes nothing.
use mathlib.Core.Path.{◌≡◌, ap, sym, subst, ◌∙◌}
use mathlib.Core.List.{◌++◌, append_assoc}
use Prim.Native.Nat.{ℕ, zero, suc, ◌+◌}
use native.Mathlib.Nat.{add-zero}
use native.Mathlib.Omega.{arith}
use lib.ListN.{length, take, drop, length-append}
use lib.Seq.{take-append_seam, drop-append_seam, drop-drop}
use Rattle.wire.specs.Numbers.{Bytes}
use Rattle.records.specs.Record.{Record, Records, node, nil, ◌▸◌, encode, encode_all, first, skip}
use Rattle.records.proofs.Front.{encode-inside}

-- a record starts at a place of s
pub record Starts (s : Bytes) (o : ℕ) (r : Record) : Type 0 where
  pub after : Bytes
  pub is : drop o s ≡ encode r ++ after

-- and records do, one after the other
pub record AllStart (s : Bytes) (o : ℕ) (c : Records) : Type 0 where
  pub after : Bytes
  pub is : drop o s ≡ encode_all c ++ after

module _ {s : Bytes} where
  -- its bytes are there
  pub starts-there : {o : ℕ} {r : Record} → Starts s o r → take (length (encode r)) (drop o s) ≡ encode r
  starts-there {r = r} p = rw p.is (take-append_seam (encode r) p.after)

  -- what it holds starts six bytes on
  pub content-start : {o k : ℕ} {c : Records} → Starts s o (node k c) → AllStart s (o + 6) c
  content-start {o} {k} {c} p = record { after = p.after; is = sym (drop-drop 6 o s) ∙ ap (drop 6) p.is ∙ encode-inside (node k c) p.after }

  pub first-starts : {o : ℕ} {r : Record} {c : Records} → AllStart s o (r ▸ c) → Starts s o r
  unfolding encode_all
  first-starts {r = r} {c = c} p = record { after = encode_all c ++ p.after; is = p.is ∙ append_assoc (encode r) (encode_all c) p.after }

  pub rest-start : {o : ℕ} {r : Record} {c : Records} → AllStart s o (r ▸ c) → AllStart s (o + length (encode r)) c
  unfolding first-starts
  rest-start {o} {r} {c} p =
      record {
        after = p.after;
        is = sym (drop-drop (length (encode r)) o s) ∙ ap (drop (length (encode r))) (first-starts p).is
            ∙ drop-append_seam (encode r) (encode_all c ++ p.after);
      }

  -- what follows the first i
  pub skip-start : (i : ℕ) {o : ℕ} (c : Records) → AllStart s o c → AllStart s (o + length (encode_all (first i c))) (skip i c)
  unfolding encode_all first skip
  skip-start zero c p = rw add-zero p
  skip-start (suc i) nil p = rw add-zero p
  skip-start (suc i) {o} (r ▸ c) p =
      let e : o + length (encode r) + length (encode_all (first i c)) ≡ o + length (encode r ++ encode_all (first i c)) = rw length-append (omega arith) in
      subst (λ (n : ℕ). AllStart s n (skip i c)) e (skip-start i c (rest-start p))
