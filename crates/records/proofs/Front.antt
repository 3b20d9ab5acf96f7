-- The bytes of a canonical record and what follows them. Assumes nothing.
use mathlib.Core.Path.{◌≡◌, refl}
use mathlib.Core.List.{◌++◌}
use mathlib.Core.Bool.{false}
use Prim.Native.Nat.{◌+◌, ◌^◌, ◌<◌}
use native.Mathlib.Omega.{arith}
use lib.ListN.{length, drop}
use Rattle.wire.specs.Numbers.{Bytes, le}
use Rattle.records.specs.Record.{Record, leaf, node, record_bytes, encode, encode_all, length_of, kind_of, content_of, rest_of, kind}
use Rattle.records.specs.Reading.{short}
use Rattle.records.specs.Canonical.{Canonical}
use Rattle.records.proofs.Tree.{record-length, front_length, front-kind, front-content, front_rest, front-short}

-- what stands after the length and the kind
abbrev pub inside : Record → Bytes
inside (leaf k b) = b
inside (node k c) = encode_all c

encode-is : (r : Record) → encode r ≡ record_bytes (kind r) (inside r)
unfolding encode
encode-is (leaf k b) = refl
encode-is (node k c) = refl

small : (r : Record) → Canonical r → kind r < 65536
unfolding Canonical
small (leaf k b) h = h.1
small (node k c) h = h.1

bounded : (r : Record) → Canonical r → 2 + length (inside r) < 2 ^ 32
unfolding Canonical
bounded (leaf k b) h = h.2
bounded (node k c) h = h.2

-- past the length and the kind
pub encode-inside : (r : Record) (rest : Bytes) → drop 6 (encode r ++ rest) ≡ inside r ++ rest
unfolding le
encode-inside r rest = rw (encode-is r)

module _ (r : Record) (rest : Bytes) (h : Canonical r) where
  pub encode-kind : kind_of (encode r ++ rest) ≡ kind r
  encode-kind = rw (encode-is r) (front-kind (kind r) (inside r) rest (small r h) (bounded r h))

  pub encode-content : content_of (encode r ++ rest) ≡ inside r
  encode-content = rw (encode-is r) (front-content (kind r) (inside r) rest (small r h) (bounded r h))

  pub encode-rest : rest_of (encode r ++ rest) ≡ rest
  encode-rest = rw (encode-is r) (front_rest (kind r) (inside r) rest (small r h) (bounded r h))

  pub encode-short : short (encode r ++ rest) ≡ false
  encode-short = rw (encode-is r) (front-short (kind r) (inside r) rest (small r h) (bounded r h))

  -- its length says where the rest starts
  pub encode-length : 4 + length_of (encode r ++ rest) ≡ length (encode r)
  encode-length =
      let f : length_of (record_bytes (kind r) (inside r) ++ rest) ≡ 2 + length (inside r) = front_length (kind r) (inside r) rest (small r h) (bounded r h) in
      let l = record-length (kind r) (inside r) in
      rw (encode-is r) (omega arith)
