-- The head of a record as bytes. Assumes nothing: it is a definition.
use Rattle.std.specs.Prelude.{◌++◌, ℕ}
use Rattle.wire.specs.Numbers.{Bytes, le}

-- a record's head: the length that counts the bytes after itself, and the kind
abbrev pub head_bytes : ℕ → ℕ → Bytes
head_bytes n k = le 4 n ++ le 2 k
