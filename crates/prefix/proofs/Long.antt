-- How long a prefix is at most: each module of the chain adds two names, and a name is no longer than the card. Assumes nothing.
use mathlib.Core.List.{List}
use mathlib.Core.Bool.{Bool, true, false, cond}
use Prim.Native.Nat.{ℕ, zero, suc, ◌+◌, ◌*◌, ◌≤◌}
use native.Mathlib.Omega.{arith}
use lib.ListN.{length, take, drop, get_or, length-take, length-drop}
use Rattle.wire.specs.Numbers.{Bytes}
use Rattle.records.specs.Record.{record_at, length_of}
use Rattle.rast.specs.Operation.{Operation}
use Rattle.prefix.specs.Prefix.{selection, twice, prefix_up_to, prefix_of}
use Rattle.prefix.proofs.Selections.{selection-length}

record-fits : (card : Bytes) (at : ℕ) → length (record_at card at) ≤ length card
record-fits card at =
    let a = length-take (4 + length_of (drop at card)) (drop at card) in
    let b = length-drop at card in
    omega arith

one_more : (t : Bool) (base name : Bytes) (m : ℕ) → length name ≤ m
    → length (cond t (selection (selection base name) name) (selection base name)) ≤ length base + (12 + m + m)
one_more true base name m h =
    let a = selection-length base name in
    let b = selection-length (selection base name) name in
    omega arith
one_more false base name m h = let a = selection-length base name in omega arith

-- the most that n modules add
unfoldable pub most : ℕ → ℕ → ℕ
most m zero = 0
most m (suc n) = most m n + (12 + m + m)

pub up-to-length : (op : Operation) (card root : Bytes) (chain : List ℕ) (n : ℕ) → length (prefix_up_to op card root chain n) ≤ length root + most (length card) n
unfolding prefix_up_to most
up-to-length op card root chain zero = omega arith
up-to-length op card root chain (suc n) =
    let a = up-to-length op card root chain n in
    let b = one_more (twice op n) (prefix_up_to op card root chain n) (record_at card (get_or chain n 0)) (length card) (record-fits card (get_or chain n 0)) in
    omega arith

pub prefix-length : (op : Operation) (card root : Bytes) (chain : List ℕ) → length (prefix_of op card root chain) ≤ length root + most (length card) (length chain)
unfolding prefix_of
prefix-length op card root chain = up-to-length op card root chain (length chain)

-- of a chain of at most 48 modules in a card of at most 65,536 bytes, it can be written in a record
most-is : (m n : ℕ) → m ≤ 65536 → most m n ≤ n * 131084
unfolding most
most-is m zero h = omega arith
most-is m (suc n) h = let a = most-is m n h in omega arith

pub most-small : (m n : ℕ) → m ≤ 65536 → n ≤ 48 → most m n ≤ 48 * 131084
most-small m n h l = let b = most-is m n h in omega arith
