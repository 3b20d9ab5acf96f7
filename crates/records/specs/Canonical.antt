-- Records that can be read back from their bytes. Assumes nothing: these are definitions.
use Rattle.std.specs.Prelude.{◌≡◌, true, false, ℕ, ◌+◌, ◌^◌, ◌<◌, length}
use Rattle.records.specs.Record.{Record, Records, leaf, node, nil, ◌▸◌, is_leaf, encode_all}

-- a tree that parse finds again: a leaf of a leaf's kind, a node of another, each kind and each length in its bytes
unfoldable mutual
  pub Canonical : Record → Type 0
  Canonical (leaf k b) = (is_leaf k ≡ true) × (k < 65536) × (2 + length b < 2 ^ 32)
  Canonical (node k c) = (is_leaf k ≡ false) × (k < 65536) × (2 + length (encode_all c) < 2 ^ 32) × CanonicalAll c

  pub CanonicalAll : Records → Type 0
  CanonicalAll nil = Unit {0}
  CanonicalAll (r ▸ c) = Canonical r × CanonicalAll c
