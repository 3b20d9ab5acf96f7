-- An output is never longer than so many times its card: 42 times where a Fn's types are walked again, else 4 times. Assumes nothing.
use Rattle.std.specs.Prelude.{Ok}
use mathlib.Core.Path.{◌≡◌, refl, sym, ap, subst}
use mathlib.Core.List.{[], ◌∷◌}
use mathlib.Core.Bool.{Bool, false}
use Prim.Native.Nat.{ℕ, zero, suc, ◌+◌, ◌*◌, ◌^◌, ◌≤◌, ◌<◌}
use native.Mathlib.Omega.{arith}
use lib.ListN.{length}
use Rattle.wire.specs.Numbers.{Bytes, AreBytes}
use Rattle.records.specs.Record.{Record, Records, node, nil, ◌▸◌, children, deep, deep_all, set_nth, map_all, encode, tree, is}
use Rattle.records.specs.Kinds.{kinds, mod', these, any, row_of, content_at}
use Rattle.records.specs.Reading.{reading}
use Rattle.records.proofs.Fits.{Fits, FitsAll}
use Rattle.records.proofs.Run.{◌⨾◌}
use Rattle.records.proofs.Leaves.{node_at, these-no-bytes}
use Rattle.records.proofs.ByRow.{by_row, by_kind, by-seq}
use Rattle.records.proofs.Sound.{sound-reads}
use Rattle.rast.specs.Path.{Path, MSel}
use Rattle.rast.specs.Operation.{Operation, nested, shortening, straight}
use Rattle.rast.specs.Mod.{name_of}
use Rattle.rast.proofs.Tests.{by-test, one_of}
use Rattle.factor_paths.specs.Mapping.{FinalReplacement}
use Rattle.factor_paths.specs.Apply.{paths_to_remove, imports, apply_prefix, apply}
use Rattle.factor_paths.specs.Walk.{walk_decl}
use Rattle.factor_paths.proofs.Modules.{ModFields, mod-fields, module-walk, extern-walk}
use Rattle.size.specs.Bound.{times, Bounded}
use Rattle.size.proofs.Sizes.{size, size_all, size-append, encode-size}
use Rattle.size.proofs.Walked.{charge, charge_all, once}
use Rattle.size.proofs.Declared.{declared-size}
use Rattle.size.proofs.Mapped.{imports-size}

-- a module that is at most 48 deep becomes at most so many times as large
abbrev Grows : Operation → (Record → Path → Record) → Type 0
Grows op f = (m : Record) (S : Path) → Fits m mod' → deep m ≤ 48 → size (f m S) ≤ times op * size m

module _ (op : Operation) (rep : FinalReplacement) (f : Record → Path → Record) (grows : Grows op f) (S : Path) where
  -- what becomes of a declaration, with what its paths are charged
  abbrev Fine : Record → Type 0
  Fine d = deep d ≤ 46 → size (walk_decl op rep f S d) + charge d ≤ times op * size d

  -- a module in one
  nested-size : (m : Record) → Fits m mod' → Fine (node 0x62 (m ▸ nil))
  unfolding walk_decl set_nth deep size charge
  nested-size m h l = let i = grows m (nested op S (name_of m)) h (omega arith) in omega (arith, once op 6)

  decl-size : (d : Record) → Fits d (kinds 0x62 0x6A) → Fine d
  unfolding walk_decl content_at row_of
  decl-size d h =
      by-test (is 0x62 d)
      (λ e. let n = node_at d (kinds 0x62 0x6A) 0x62 (these (mod' ∷ [])) e refl (these-no-bytes (mod' ∷ [])) h in
      subst Fine (sym n.is-node) (by_row (mod' ∷ []) (λ c. Fine (node 0x62 c)) nested-size (children d) n.fits))
      (λ e l. rw e (declared-size op rep d h l))

  decls-size : (c : Records) → FitsAll c (any (kinds 0x62 0x6A)) → deep_all c ≤ 46
      → size_all (map_all (walk_decl op rep f S) c) + charge_all c ≤ times op * size_all c
  unfolding map_all deep size charge
  decls-size =
      by-seq Fine (λ c. deep_all c ≤ 46 → size_all (map_all (walk_decl op rep f S) c) + charge_all c ≤ times op * size_all c) (kinds 0x62 0x6A) decl-size
      (λ l. omega arith)
      (λ d c h hs l. let i = h (omega arith) in let j = hs (omega arith) in omega arith)

-- a Mod, its uses and its declarations
mod-size : (op : Operation) (n : ℕ) → Grows op (apply_prefix op n) → (m : Record) (S : Path) (h : ModFields m) → size_all (imports op m S) ≤ charge_all h.body
    → deep m ≤ 48 → size (apply_prefix op (suc n) m S) ≤ times op * size m
unfolding size deep
mod-size op n grows m S h u l =
    let body = map_all (walk_decl op (paths_to_remove op m S) (apply_prefix op n) S) h.body in
    let d = ap deep h.is-mod in
    let s = ap (λ m. times op * size m) h.is-mod in
    let a = size-append (imports op m S) body in
    let b = decls-size op (paths_to_remove op m S) (apply_prefix op n) grows S h.body h.body-fits (omega arith) in
    let o = once op (12 + size h.doc + size h.attributes + size h.named) in
    rw (module-walk op n S m h) (omega arith)

-- applyPrefix makes a module that is at most 48 deep at most so many times as large
pub applied-size : (again : Bool) (n : ℕ) (m : Record) (S : Path) → Fits m mod' → deep m ≤ 48
    → size (apply_prefix (shortening again) n m S) ≤ times (shortening again) * size m
applied-size again zero m S h l = unfold apply_prefix in omega (arith, once (shortening again) (size m))
applied-size again (suc n) m S h l =
    by_kind 0x60 1 m
    ((λ f. let i = mod-fields m f in mod-size (shortening again) n (applied-size again n) m S i (imports-size again m i S) l)
    ⨾ (λ f. rw (extern-walk (shortening again) (suc n) S m f) (omega (arith, once (shortening again) (size m))))) h

-- THE THEOREM: an output is never longer than so many times its card
pub output-bound : (again : Bool) (root : Path) (m : Record) → Fits m mod' → deep m ≤ 48
    → length (encode (apply (shortening again) root m)) ≤ times (shortening again) * length (encode m)
unfolding apply
output-bound again root m h l = rw (encode-size (apply (shortening again) root m), encode-size m) (applied-size again (deep m) m (MSel root (name_of m)) h l)

-- and so of a card's bytes that read sound, whatever the root
pub card-bound : (again : Bool) → Bounded (shortening again)
card-bound again root card h e =
    let r = sound-reads _ _ card h e in
    rw r.encoded at (output-bound again root (tree card) r.fits r.shallow)

-- 42 times will do for either operation
pub card-most : (again : Bool) (root : Path) (card : Bytes) → AreBytes card
    → reading (shortening again).card_depth (shortening again).outermost card ≡ Ok tt
    → length (encode (apply (shortening again) root (tree card))) ≤ 42 * length card
card-most again root card h e =
    let b = card-bound again root card h e in
    let m : times (shortening again) * length card ≤ 42 * length card = one_of (λ t. t * length card ≤ 42 * length card) again (omega arith) (omega arith) in
    omega arith

-- THE THEOREM of 02, request 2
pub straight-bound : (root : Path) (card : Bytes) → AreBytes card → reading 48 mod' card ≡ Ok tt
    → length (encode (apply straight root (tree card))) ≤ 4 * length card
straight-bound = card-bound false

-- so the four bytes of a record's length hold an output's
pub output-small : (again : Bool) (root : Path) (card : Bytes) → AreBytes card
    → reading (shortening again).card_depth (shortening again).outermost card ≡ Ok tt → length card ≤ (shortening again).most_card_bytes
    → length (encode (apply (shortening again) root (tree card))) < 2 ^ 32
output-small again root card h e l = let b = card-most again root card h e in omega arith
