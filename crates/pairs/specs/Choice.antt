-- What a table says: the base chosen for a name, and the uses (ToFinalReplacement and ToUseStatements, over pairs as bytes). Assumes nothing: these are
-- definitions.
use Rattle.std.specs.Prelude.{List, [], ◌∷◌, ◌++◌, Bool, false, ◌||◌, cond, ℕ, zero, suc, length, take}
use Rattle.std.proofs.Math.Option.{Option, none, some}
use Rattle.wire.specs.Numbers.{Bytes}
use Rattle.records.specs.Record.{record_bytes, encode}
use Rattle.rast.specs.Path.{dafny_runtime, whether}
use Rattle.rast.specs.Final.{final_path}
use Rattle.operation.specs.declared.Shortening.{Shortening}
use Rattle.operation.specs.Operations.{operation_of, same_paths}
use Rattle.prefix.specs.Prefix.{selection}
use Rattle.pairs.specs.Stored.{Stored, stored}

-- among a name's bases, given the prefix
unfoldable pub choice : Shortening → Bytes → List Bytes → Option Bytes
choice op prefix bases = final_path (same_paths op) (encode dafny_runtime) prefix bases

-- the pair that i pairs stand ahead of, and its base
unfoldable pub pair_of : List Stored → ℕ → Option Stored
pair_of [] i = none
pair_of (p ∷ t) zero = some p
pair_of (p ∷ t) (suc i) = pair_of t i

abbrev pub base_of : List Stored → ℕ → Option Bytes
base_of t i = whether (pair_of t i) none (λ p. some p.base)

module _ (op : Shortening) where
  -- the bases that stand with a name
  unfoldable pub bases_named : List Stored → Bytes → List Bytes
  bases_named [] k = []
  bases_named (p ∷ t) k = cond ((operation_of op).same_name p.name k) (p.base ∷ bases_named t k) (bases_named t k)

  unfoldable pub named : List Stored → Bytes → Bool
  named [] k = false
  named (p ∷ t) k = (operation_of op).same_name p.name k || named t k

  module _ (prefix : Bytes) (t : List Stored) where
    -- the base of the use that pair i brings: the one chosen for its name, unless a pair ahead has the name, or it is the prefix
    unfoldable pub use_of : ℕ → Option Bytes
    use_of i =
        whether (pair_of t i) none
        (λ p. cond (named (take i t) p.name) none
        (whether (choice op prefix (bases_named t p.name)) none (λ b. cond (same_paths op b prefix) none (some b))))

    -- the uses that n pairs from pair i on bring, and all of them: names and bases
    unfoldable pub uses_from : ℕ → ℕ → List Stored
    uses_from i zero = []
    uses_from i (suc n) =
        let others : List Stored = uses_from (suc i) n in
        whether (pair_of t i) others (λ p. whether (use_of i) others (λ b. stored p.name b ∷ others))

    abbrev pub uses : List Stored
    uses = uses_from 0 (length t)

-- the bytes of a use's declaration
abbrev pub use_bytes : Stored → Bytes
use_bytes u = record_bytes 0x6A (record_bytes 0x80 (record_bytes 0x03 (1 ∷ []) ++ selection u.base (record_bytes 0x01 u.name)))
