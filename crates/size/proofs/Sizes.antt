-- The length of a record's bytes, as a sum over its tree. Assumes nothing.
use mathlib.Core.Path.{◌≡◌, refl, ap₂, ◌∙◌}
use Prim.Native.Nat.{ℕ, ◌+◌, ◌≤◌}
use native.Mathlib.Omega.{arith}
use lib.ListN.{length, length-append}
use Rattle.records.specs.Record.{Record, Records, leaf, node, nil, ◌▸◌, ◌▸▸◌, encode, encode_all}
use Rattle.records.proofs.Tree.{record-length}

-- a head is 6 bytes
unfoldable mutual
  pub size : Record → ℕ
  size (leaf k b) = 6 + length b
  size (node k c) = 6 + size_all c

  pub size_all : Records → ℕ
  size_all nil = 0
  size_all (r ▸ c) = size r + size_all c

mutual
  unfolding encode size

  -- a record has as many bytes as its size
  pub encode-size : (r : Record) → length (encode r) ≡ size r
  encode-size (leaf k b) = record-length k b
  encode-size (node k c) = record-length k (encode_all c) ∙ rw (encode_all-size c)

  -- and records have
  pub encode_all-size : (c : Records) → length (encode_all c) ≡ size_all c
  encode_all-size nil = refl
  encode_all-size (r ▸ c) = length-append (encode r) (encode_all c) ∙ ap₂ ◌+◌ (encode-size r) (encode_all-size c)

-- a record has at least a head
pub size-six : (r : Record) → 6 ≤ size r
unfolding size
size-six (leaf k b) = omega arith
size-six (node k c) = omega arith

-- the size of records and more
pub size-append : (c d : Records) → size_all (c ▸▸ d) ≡ size_all c + size_all d
unfolding size ◌▸▸◌
size-append nil d = omega arith
size-append (r ▸ c) d = let i = size-append c d in omega arith
