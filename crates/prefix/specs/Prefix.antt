-- A module's prefix as bytes, by the places of the enclosing modules' names in the card (01, applyPrefix). Assumes nothing: these are definitions.
use Rattle.std.specs.Prelude.{List, ◌++◌, Bool, false, cond, ℕ, zero, suc, ◌-◌, length, take, drop, get_or, eqb}
use Rattle.wire.specs.Numbers.{Bytes, same_bytes}
use Rattle.records.specs.Record.{record_bytes, record_at}
use Rattle.rast.specs.Operation.{Operation}
use Rattle.operation.specs.declared.Shortening.{Shortening}
use Rattle.operation.specs.Operations.{operation_of}
use Rattle.prefix.specs.declared.Scope as Lent

-- PMemberSelect(base, name), of the bytes of base and of name's record
abbrev pub selection : Bytes → Bytes → Bytes
selection base name = record_bytes 0x13 (base ++ name)

-- whether bytes are PMemberSelect of something and this name, and the bytes of that something: what stands between the head and the name
abbrev pub base_of : Bytes → Bytes → Bytes
base_of path name = take (length path - 6 - length name) (drop 6 path)

abbrev pub is_selection : Bytes → Bytes → Bool
is_selection path name = same_bytes path (selection (base_of path name) name)

-- whether the name of module n of a chain stands twice: a nested one's does where the operation adds it again
abbrev pub twice : Operation → ℕ → Bool
twice op n = cond (eqb n 0) false op.names_again

-- root, then the names of the first n modules; chain has the places of the names' records, the outermost's first
unfoldable pub prefix_up_to : Operation → (card root : Bytes) → List ℕ → ℕ → Bytes
prefix_up_to op card root chain zero = root
prefix_up_to op card root chain (suc n) =
    let name : Bytes = record_at card (get_or chain n 0) in
    let inner : Bytes = selection (prefix_up_to op card root chain n) name in
    cond (twice op n) (selection inner name) inner

unfoldable pub prefix_of : Operation → (card root : Bytes) → List ℕ → Bytes
prefix_of op card root chain = prefix_up_to op card root chain (length chain)

-- what a module's names and bases are read in: the operation, the card, the root, and the places of the names of the modules around it and of its own
pub record Scope : Type 0 where
  pub op : Shortening
  pub card : Bytes
  pub root : Bytes
  pub chain : List ℕ

abbrev pub scope : Shortening → (card root : Bytes) → List ℕ → Scope
scope op card root chain = record { op = op; card = card; root = root; chain = chain }

-- the same of the code's, which lends the card, the root and the chain
abbrev pub scope_of : Lent.Scope → Scope
scope_of s = scope s.op s.card.now s.root.now s.chain.now

abbrev pub prefix_in : Scope → Bytes
prefix_in s = prefix_of (operation_of s.op) s.card s.root s.chain
