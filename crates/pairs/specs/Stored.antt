-- Pairs as bytes, in the order in which they were first stored. Assumes nothing: these are definitions.
use Rattle.std.specs.Prelude.{List, [], ◌∷◌, ◌++◌, Bool, false, ◌&&◌, ◌||◌, cond}
use Rattle.wire.specs.Numbers.{Bytes}
use Rattle.records.specs.Record.{encode}
use Rattle.operation.specs.declared.Shortening.{Shortening}
use Rattle.operation.specs.Operations.{operation_of, same_paths}
use Rattle.pairs.specs.Pairs.{Pair}

-- the bytes of a name, and of a base's record
pub record Stored : Type 0 where
  pub name : Bytes
  pub base : Bytes

abbrev pub stored : Bytes → Bytes → Stored
stored k b = record { name = k; base = b }

-- the bytes that a pair is
abbrev pub bytes_of : Pair → Stored
bytes_of p = stored p.name (encode p.base)

module _ (op : Shortening) where
  unfoldable pub holds_pair : List Stored → Bytes → Bytes → Bool
  holds_pair [] k b = false
  holds_pair (p ∷ t) k b = ((operation_of op).same_name p.name k && same_paths op p.base b) || holds_pair t k b

  -- a pair is put last, if it is not there
  unfoldable pub store : List Stored → Bytes → Bytes → List Stored
  store t k b = cond (holds_pair t k b) t (t ++ (stored k b ∷ []))
