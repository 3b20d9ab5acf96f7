-- A module in a module of the card: where its name stands, and its prefix. Assumes nothing.
use mathlib.Core.Path.{◌≡◌, ap}
use mathlib.Core.List.{List, [], ◌∷◌, ◌++◌}
use Prim.Native.Nat.{ℕ, ◌+◌, ◌<◌, ◌≤◌}
use native.Mathlib.Omega.{arith}
use lib.ListN.{length, drop, length-append, length-take, length-drop}
use borrow.Author.Tests.{lt-ltb}
use Rattle.wire.specs.Numbers.{Bytes}
use Rattle.records.specs.Record.{Record, leaf, nil, ◌▸◌, encode, encode_all, length_of, record_at}
use Rattle.records.specs.Kinds.{mod'}
use Rattle.records.specs.Canonical.{Canonical}
use Rattle.records.proofs.Tree.{record-length, encode-six}
use Rattle.records.proofs.Fits.{Fits}
use Rattle.records.proofs.Starts.{Starts}
use Rattle.rast.specs.Path.{Name, Path, MSel}
use Rattle.rast.specs.Operation.{nested}
use Rattle.rast.specs.Mod.{name_of}
use Rattle.rast.proofs.Tests.{one_of}
use Rattle.operation.specs.declared.Shortening.{Shortening}
use Rattle.operation.specs.Operations.{operation_of}
use Rattle.prefix.specs.Prefix.{prefix_in, scope}
use Rattle.prefix.proofs.Nested.{nested-prefix}
use Rattle.prefix.proofs.Long.{prefix-length, most-small}
use Rattle.fields.specs.Fields.{name_place}
use Rattle.gathering.proofs.Mapped.{name-record, selected-canonical}

-- a record that starts in the card ends in it
pub ends-within : (card : Bytes) (at : ℕ) (m : Record) → Starts card at m → at + length (encode m) ≤ length card
ends-within card at m p =
    let a = length-drop at card in
    let b : length (drop at card) ≡ length (encode m ++ p.after) = ap length p.is in
    let c = length-append (encode m) p.after in
    let d = encode-six m in
    omega arith

selected-length : (p : Path) (n : Name) → length (encode (MSel p n)) ≡ length (encode p) + length n + 12
unfolding encode
selected-length p n =
    let a = length-append (encode p) (encode_all (leaf 0x01 n ▸ nil)) in
    let b = length-append (encode (leaf 0x01 n)) [] in
    let c = record-length 0x01 n in
    let d = record-length 0x13 (encode_all (p ▸ leaf 0x01 n ▸ nil)) in
    omega arith

module _ (card : Bytes) (at : ℕ) (m : Record) (starts : Starts card at m) (fits : Fits m mod') (canonical : Canonical m) where
  -- the module's name, by its place in the card
  pub name-there : record_at card (name_place card at) ≡ encode (leaf 0x01 (name_of m))
  unfolding name_place
  name-there =
      let e = ends-within card at m starts in
      let s = encode-six m in
      rw (lt-ltb at (length card) (omega arith)) (name-record card at m starts fits canonical)

  pub name-small : length (name_of m) + 6 ≤ length card
  unfolding encode
  name-small =
      let o = name_place card at in
      let a = record-length 0x01 (name_of m) in
      let b : length (record_at card o) ≡ length (encode (leaf 0x01 (name_of m))) = ap length name-there in
      let t = length-take (4 + length_of (drop o card)) (drop o card) in
      let d = length-drop o card in
      omega arith

  -- its prefix in a module that has one
  module _ (op : Shortening) (root : Bytes) (chain : List ℕ) (S : Path) (prefix-is : prefix_in (scope op card root chain) ≡ encode S) where
    pub inner-prefix : 0 < length chain → prefix_in (scope op card root (chain ++ (name_place card at ∷ []))) ≡ encode (nested (operation_of op) S (name_of m))
    inner-prefix some = nested-prefix (operation_of op) card root (name_place card at) (name_of m) name-there chain S some prefix-is

    pub inner-canonical : length card ≤ 65536 → length root ≤ 65536 → length chain ≤ 48 → Canonical S → Canonical (nested (operation_of op) S (name_of m))
    inner-canonical small rooted deep c =
        let a : length (prefix_in (scope op card root chain)) ≡ length (encode S) = ap length prefix-is in
        let b = prefix-length (operation_of op) card root chain in
        let d = most-small (length card) (length chain) small deep in
        let e = name-small in
        let f = selected-length S (name_of m) in
        let g = selected-canonical S (name_of m) c (omega arith) in
        one_of Canonical (operation_of op).names_again (selected-canonical (MSel S (name_of m)) (name_of m) g (omega arith)) g
