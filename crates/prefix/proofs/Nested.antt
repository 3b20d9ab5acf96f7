-- A module's prefix in bytes is the bytes of the prefix that the Dafny text makes: one name more, and in a module what the operation makes of it. Assumes
-- nothing.
use mathlib.Core.Path.{◌≡◌, refl, ap, ap₂, sym, ◌∙◌}
use mathlib.Core.List.{List, [], ◌∷◌, ◌++◌, append-nil}
use mathlib.Core.Bool.{Bool, true, false, cond}
use Prim.Native.Nat.{ℕ, zero, suc, ◌<◌, ◌≤◌}
use native.Mathlib.Omega.{arith}
use lib.ListN.{length, length-append, get_or-append}
use lib.Seq.{get_or-append_seam}
use borrow.Author.Tests.{ne_eqb}
use Rattle.wire.specs.Numbers.{Bytes}
use Rattle.records.specs.Record.{leaf, record_bytes, encode, record_at}
use Rattle.rast.specs.Path.{Path, Name, MSel}
use Rattle.rast.specs.Operation.{Operation, nested}
use Rattle.prefix.specs.Prefix.{selection, prefix_up_to, prefix_of}

selection-is : (base : Path) (name : Name) → selection (encode base) (encode (leaf 0x01 name)) ≡ encode (MSel base name)
unfolding encode
selection-is base name = ap (λ (s : Bytes). record_bytes 0x13 (encode base ++ s)) (sym (append-nil (encode (leaf 0x01 name))))

-- the first modules of a chain alone make the prefix up to them
front : (op : Operation) (card root : Bytes) (chain more : List ℕ) (n : ℕ) → n ≤ length chain
    → prefix_up_to op card root (chain ++ more) n ≡ prefix_up_to op card root chain n
unfolding prefix_up_to
front op card root chain more zero h = refl
front op card root chain more (suc n) h = rw (front op card root chain more n (omega arith), get_or-append chain more 0 n (omega arith))

module _ (op : Operation) (card root : Bytes) (o : ℕ) (name : Name) (named : record_at card o ≡ encode (leaf 0x01 name)) where
  -- the outermost module's
  pub outermost-prefix : (R : Path) → root ≡ encode R → prefix_of op card root (o ∷ []) ≡ encode (MSel R name)
  unfolding prefix_of prefix_up_to
  outermost-prefix R e = ap₂ selection e named ∙ selection-is R name

  -- that of a module in one that has a prefix
  pub nested-prefix : (chain : List ℕ) (S : Path) → 0 < length chain → prefix_of op card root chain ≡ encode S
      → prefix_of op card root (chain ++ (o ∷ [])) ≡ encode (nested op S name)
  unfolding prefix_of prefix_up_to
  nested-prefix chain S some e =
      let l : length (chain ++ (o ∷ [])) ≡ suc (length chain) = length-append chain (o ∷ []) ∙ omega arith in
      rw (
        l,
        front op card root chain (o ∷ []) (length chain) (omega arith),
        get_or-append_seam chain o [] 0,
        ne_eqb (length chain) 0 (λ z. omega arith),
        e,
        named,
      )
      (entered op.names_again)
    where
      entered : (again : Bool)
          → cond again (selection (selection (encode S) (encode (leaf 0x01 name))) (encode (leaf 0x01 name))) (selection (encode S) (encode (leaf 0x01 name)))
          ≡ encode (cond again (MSel (MSel S name) name) (MSel S name))
      entered true = ap (λ (s : Bytes). selection s (encode (leaf 0x01 name))) (selection-is S name) ∙ selection-is (MSel S name) name
      entered false = selection-is S name
