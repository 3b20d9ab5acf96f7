-- Where there is room for a pair for every 18 bytes of a module, no table is full. Assumes nothing.
use mathlib.Core.Path.{◌≡◌, refl, sym, ap, subst}
use mathlib.Core.List.{[], ◌∷◌}
use mathlib.Core.Bool.{true, false}
use mathlib.Core.Option.{none}
use Prim.Native.Nat.{ℕ, zero, suc, ◌+◌, ◌*◌, ◌≤◌, ◌<◌, ◌/◌}
use native.Mathlib.Omega.{arith}
use lib.ListN.{length}
use lib.Dec.{ltb}
use borrow.Author.Tests.{le-ltb}
use Rattle.records.specs.Record.{Record, Records, encode, nth, is}
use Rattle.records.specs.Kinds.{kinds, mod', any, row_of, content_at}
use Rattle.records.proofs.Fits.{Fits, FitsAll}
use Rattle.records.proofs.Run.{◌⨾◌}
use Rattle.records.proofs.ByRow.{by_kind, by-is, by-seq}
use Rattle.rast.specs.Path.{Path}
use Rattle.rast.specs.Operation.{Operation, nested}
use Rattle.rast.specs.Mod.{name_of}
use Rattle.rast.proofs.Tests.{by-test}
use Rattle.factor_paths.specs.Mapping.{pairs}
use Rattle.factor_paths.specs.Apply.{mappings}
use Rattle.factor_paths.proofs.Modules.{ModFields, mod-fields}
use Rattle.size.proofs.Sizes.{size, size_all, encode-size}
use Rattle.size.proofs.Pairs.{pairs-few}
use Rattle.outcome.specs.FullTable.{first_in, full_table}
use Rattle.outcome.proofs.Full.{in_decl, extern-none}

module _ (op : Operation) (most : ℕ) where
  -- fewer bytes than one pair more than there may be would take
  abbrev Small : ℕ → Type 0
  Small bytes = bytes < 18 * (most + 1)

  -- by the depth that is left
  abbrev Law : ℕ → Type 0
  Law n = (m : Record) (S : Path) (at : ℕ) → Fits m mod' → Small (size m) → full_table op most n m S at ≡ none

  module _ (n : ℕ) (law : Law n) (S : Path) where
    abbrev None : Record → Type 0
    None d = Small (size d) → (at : ℕ) → in_decl op most n S d at ≡ none

    decl-none : (d : Record) → Fits d (kinds 0x62 0x6A) → None d
    unfolding row_of content_at nth size
    decl-none d f l at =
        by-test (is 0x62 d)
        (λ t. by-is None (kinds 0x62 0x6A) 0x62 (mod' ∷ []) refl (λ m h l at. law m (nested op S (name_of m)) _ h (omega arith)) d f t l at)
        (λ t. rw t)

    body-none : (c : Records) → FitsAll c (any (kinds 0x62 0x6A)) → Small (size_all c) → (at : ℕ) → first_in (in_decl op most n S) c at ≡ none
    unfolding first_in size
    body-none =
        by-seq None (λ c. Small (size_all c) → (at : ℕ) → first_in (in_decl op most n S) c at ≡ none) (kinds 0x62 0x6A) decl-none (λ l at. refl)
        (λ d c h hs l at. rw (h (omega arith) at) (hs (omega arith) _))

    -- a module has few pairs, and those in its body are smaller
    mod-none : (m : Record) → ModFields m → (at : ℕ) → Fits m mod' → Small (size m) → full_table op most (suc n) m S at ≡ none
    unfolding full_table size nth
    mod-none m h at f l =
        let s = ap size h.is-mod in
        subst (λ m. ltb most (pairs (mappings op m S).provenance) ≡ false → full_table op most (suc n) m S at ≡ none) (sym h.is-mod)
        (λ e. rw e (body-none h.body h.body-fits (omega arith) _))
        (le-ltb most _ (omega (arith, pairs-few op m S f, encode-size m)))

  few : (n : ℕ) → Law n
  unfolding full_table
  few zero m S at f l = refl
  few (suc n) m S at f l = by_kind 0x60 1 m ((λ g. mod-none n (few n) S m (mod-fields m g) at f l) ⨾ extern-none op most (suc n) m S at) f

-- THE LAW: where there may be a pair for every 18 bytes of a module, neither it nor a module in it has too many
pub few-none : (op : Operation) (most n : ℕ) (m : Record) (S : Path) (at : ℕ) → Fits m mod' → length (encode m) / 18 ≤ most → full_table op most n m S at ≡ none
few-none op most n m S at f l = few op most n m S at f (let e = encode-size m in omega arith)

module _ (op : Operation) (most n : ℕ) (S : Path) where
  -- nor has a module in a declaration that is so small
  pub declared-few : (d : Record) → Fits d (kinds 0x62 0x6A) → (is 0x62 d ≡ true → length (encode d) / 18 ≤ most) → (at : ℕ) → in_decl op most n S d at ≡ none
  declared-few d f l at =
      by-test (is 0x62 d)
      (λ t. let b = l t in let e = encode-size d in decl-none op most n (few op most n) S d f (omega arith) at)
      (λ t. rw t)

  -- where a module has no more pairs than that, and no module in its body has
  pub apart_none : (m : Record) (at : ℕ) → Fits m mod' → pairs (mappings op m S).provenance ≤ most
      → ((h : ModFields m) → (place : ℕ) → first_in (in_decl op most n S) h.body place ≡ none) → full_table op most (suc n) m S at ≡ none
  unfolding full_table nth
  apart_none m at f l b = by_kind 0x60 1 m ((λ g. held (mod-fields m g)) ⨾ extern-none op most (suc n) m S at) f
    where
      held : ModFields m → full_table op most (suc n) m S at ≡ none
      held h =
          subst (λ m. ltb most (pairs (mappings op m S).provenance) ≡ false → full_table op most (suc n) m S at ≡ none) (sym h.is-mod)
          (λ e. rw e (b h _)) (le-ltb most _ l)
