-- An output is no longer than its card, the outermost module's uses and what the card's paths can grow by. Assumes nothing.
use Rattle.std.specs.Prelude.{Ok}
use mathlib.Core.Path.{◌≡◌, refl, sym, ap, subst, ◌∙◌}
use mathlib.Core.Bool.{Bool, true, false, or-true, or-false}
use mathlib.Core.List.{[], ◌∷◌, append-nil}
use Prim.Native.Nat.{ℕ, zero, suc, ◌+◌, ◌≤◌}
use native.Mathlib.Omega.{arith}
use lib.ListN.{length}
use Rattle.wire.specs.Numbers.{Bytes, AreBytes, between}
use Rattle.wire.proofs.Slices.{tail-is}
use Rattle.records.specs.Record.{Record, Records, node, nil, ◌▸◌, children, deep, deep_all, set_nth, map_all, encode, encode_all, tree, is, length_of}
use Rattle.records.specs.Kinds.{kinds, mod', these, any, row_of, content_at}
use Rattle.records.specs.Reading.{reading}
use Rattle.records.specs.Canonical.{Canonical, CanonicalAll}
use Rattle.records.proofs.Fits.{Fits, FitsAll}
use Rattle.records.proofs.Run.{◌⨾◌}
use Rattle.records.proofs.Leaves.{node_at, these-no-bytes}
use Rattle.records.proofs.ByRow.{by_row, by_kind, by-seq}
use Rattle.records.proofs.Front.{encode-length}
use Rattle.records.proofs.Sound.{sound-reads}
use Rattle.rast.specs.Path.{Path, MSel}
use Rattle.rast.specs.Operation.{Operation, nested}
use Rattle.rast.specs.Mod.{name_of}
use Rattle.rast.proofs.Tests.{by-test}
use Rattle.factor_paths.specs.Mapping.{FinalReplacement}
use Rattle.factor_paths.specs.Apply.{paths_to_remove, imports, apply_prefix, apply}
use Rattle.factor_paths.specs.Walk.{walk_decl}
use Rattle.factor_paths.proofs.Tidy.{fits-paths}
use Rattle.factor_paths.proofs.Modules.{ModFields, mod-fields, module-walk, extern-walk}
use Rattle.size.proofs.Sizes.{size, size_all, size-append, encode-size, encode_all-size}
use Rattle.size.proofs.Walked.{charge, charge_all}
use Rattle.size.proofs.Mapped.{imports-size}
use Rattle.operation.specs.declared.Shortening.{Shortening}
use Rattle.operation.specs.Passes.{repeats}
use Rattle.operation.specs.Operations.{pass_of, operation_of}
use Rattle.rewriting.specs.Rewrites.{parts_of}
use Rattle.rewriting.proofs.Parts.{encode_each, parts_all}
use Rattle.growth.specs.Grows.{sum, growth, growth_all, card_growth}
use Rattle.growth.proofs.Turns.{part-is}
use Rattle.growth.proofs.Walked.{due, due-none, due-sum, held-growth, walk-grows}

module _ (op : Shortening) where
  abbrev O : Operation
  O = operation_of op

  -- what the bytes of a record grow by in which no type is wrapped more than once, as in a declaration and around it
  abbrev grown : ℕ → Bool → Record → ℕ
  grown depth charged r = growth op depth charged false 1 (encode r)

  abbrev grown_all : ℕ → Bool → Records → ℕ
  grown_all depth charged c = sum (growth op depth charged false 1) (encode_each c)

  -- what f makes of a module, its uses and all, is no longer than the module and its growth where uses are charged
  abbrev Grows : (Record → Path → Record) → Type 0
  Grows f = (depth : ℕ) (m : Record) (S : Path) → Fits m mod' → Canonical m → deep m ≤ depth → size (f m S) ≤ size m + grown depth true m

  module _ (rep : FinalReplacement) (f : Record → Path → Record) (grows : Grows f) (S : Path) (charged : Bool) where
    -- what becomes of a declaration, with what its paths are charged
    abbrev Fine : Record → Type 0
    Fine d = (depth : ℕ) → Canonical d → deep d ≤ depth → size (walk_decl O rep f S d) + due charged (charge d) ≤ size d + grown depth charged d

    -- a module in one
    nested-fine : (m : Record) → Fits m mod' → Fine (node 0x62 (m ▸ nil))
    unfolding walk_decl set_nth deep size charge Canonical sum encode_each
    nested-fine m h zero c l = absurd (omega arith)
    nested-fine m h (suc depth) c l =
        let i = grows depth m (nested O S (name_of m)) h c.3.0 (omega arith) in
        let d = due-none charged in
        rw (held-growth op depth charged false 1 0x62 (m ▸ nil) refl refl refl refl c, or-true charged) (omega arith)

    decl-fine : (d : Record) → Fits d (kinds 0x62 0x6A) → Fine d
    unfolding walk_decl content_at row_of
    decl-fine d h =
        by-test (is 0x62 d)
        (λ e. let n = node_at d (kinds 0x62 0x6A) 0x62 (these (mod' ∷ [])) e refl (these-no-bytes (mod' ∷ [])) h in
        subst Fine (sym n.is-node) (by_row (mod' ∷ []) (λ c. Fine (node 0x62 c)) nested-fine (children d) n.fits))
        (λ e depth c l. rw e (walk-grows op rep depth charged false 1 d (fits-paths d (kinds 0x62 0x6A) h) c l))

    decls-fine : (c : Records) → FitsAll c (any (kinds 0x62 0x6A)) → (depth : ℕ) → CanonicalAll c → deep_all c ≤ depth
        → size_all (map_all (walk_decl O rep f S) c) + due charged (charge_all c) ≤ size_all c + grown_all depth charged c
    unfolding map_all deep size charge Canonical sum encode_each
    decls-fine =
        by-seq Fine (λ c. (depth : ℕ) → CanonicalAll c → deep_all c ≤ depth
        → size_all (map_all (walk_decl O rep f S) c) + due charged (charge_all c) ≤ size_all c + grown_all depth charged c) (kinds 0x62 0x6A) decl-fine
        (λ depth c l. let d = due-none charged in omega arith)
        (λ d c h hs depth a l. let i = h depth a.0 (omega arith) in
        let j = hs depth a.1 (omega arith) in
        let s = due-sum charged (charge d) (charge_all c) in
        omega arith)

  -- a Mod, its uses and its declarations
  mod-grows : (n : ℕ) → Grows (apply_prefix O n) → (charged : Bool) (depth : ℕ) (m : Record) (S : Path) (h : ModFields m) → Canonical m → deep m ≤ depth
      → size (apply_prefix O (suc n) m S) + due charged (charge_all h.body) ≤ size m + size_all (imports O m S) + grown depth charged m
  unfolding size deep Canonical sum encode_each
  mod-grows n grows charged zero m S h c l = let d = ap deep h.is-mod in absurd (omega arith)
  mod-grows n grows charged (suc zero) m S h c l = let d = ap deep h.is-mod in absurd (omega arith)
  mod-grows n grows charged (suc (suc depth)) m S h c l =
      let fields = h.doc ▸ h.attributes ▸ h.named ▸ node 0x02 h.body ▸ nil in
      let made = map_all (walk_decl O (paths_to_remove O m S) (apply_prefix O n) S) h.body in
      let d = ap deep h.is-mod in
      let s = ap size h.is-mod in
      let k : Canonical (node 0x60 fields) = rw h.is-mod at c in
      let a = size-append (imports O m S) made in
      let g : grown (suc (suc depth)) charged m ≡ grown_all (suc depth) charged fields =
      ap (grown (suc (suc depth)) charged) h.is-mod
      ∙ rw (or-false charged) at (held-growth op (suc depth) charged false 1 0x60 fields refl refl refl refl k) in
      let i : grown (suc depth) charged (node 0x02 h.body) ≡ grown_all depth charged h.body =
      rw (or-false charged) at (held-growth op depth charged false 1 0x02 h.body refl refl refl refl k.3.1.1.1.0) in
      let b = decls-fine (paths_to_remove O m S) (apply_prefix O n) grows S charged h.body h.body-fits depth k.3.1.1.1.0.3
      (omega arith) in
      rw (module-walk O n S m h) (omega arith)

  -- a nested module: what its paths are charged pays for its uses
  nested-grows : (n : ℕ) → Grows (apply_prefix O n)
  nested-grows zero depth m S h c l = unfold apply_prefix in omega arith
  nested-grows (suc n) depth m S h c l =
      by_kind 0x60 1 m
      ((λ f. let u = imports-size (repeats (pass_of op)) m (mod-fields m f) S in
      let i = mod-grows n (nested-grows n) true depth m S (mod-fields m f) c l in omega arith)
      ⨾ (λ f. rw (extern-walk O (suc n) S m f) (omega arith))) h

  -- the outermost module: its uses stand by themselves
  outermost-grows : (n depth : ℕ) (m : Record) (S : Path) → Fits m mod' → Canonical m → deep m ≤ depth
      → size (apply_prefix O n m S) ≤ size m + size_all (imports O m S) + grown depth false m
  outermost-grows zero depth m S h c l = unfold apply_prefix in omega arith
  outermost-grows (suc n) depth m S h c l =
      by_kind 0x60 1 m
      ((λ f. let i = mod-grows n (nested-grows n) false depth m S (mod-fields m f) c l in omega arith)
      ⨾ (λ f. rw (extern-walk O (suc n) S m f) (omega arith))) h

  -- a record's bytes are one part
  one-part : (r : Record) → Canonical r → growth_all op 48 false false 1 (encode r) ≡ grown 48 false r
  unfolding growth_all sum encode_each encode_all CanonicalAll
  one-part r h =
      let e : parts_of (encode r) ≡ encode r ∷ [] = ap parts_of (sym (append-nil (encode r))) ∙ parts_all (r ▸ nil) (h, tt) in
      rw e (omega arith)

  -- THE THEOREM: whatever the root, an output is no longer than its card that reads sound, what the card's paths can grow by and the outermost module's uses
  pub card-grows : (root : Path) (card : Bytes) → AreBytes card → reading O.card_depth O.outermost card ≡ Ok tt → length card ≤ 65536
      → length (encode (apply O root (tree card)))
      ≤ length card + card_growth op card + length (encode_all (imports O (tree card) (MSel root (name_of (tree card)))))
  unfolding apply card_growth
  card-grows root card h e l =
      let r = sound-reads O.card_depth O.outermost card h e in
      let m = tree card in
      let S = MSel root (name_of m) in
      let n : 4 + length_of card ≡ length card =
      ap (λ (c : Bytes). 4 + length_of c) (sym r.encoded ∙ sym (append-nil (encode m))) ∙ encode-length m [] r.canonical ∙ ap length r.encoded in
      let g : card_growth op card ≡ grown 48 false m =
      sym (part-is op card 0 (4 + length_of card) false false 1 48 (omega arith) (omega arith) l (omega arith))
      ∙ ap (λ (k : ℕ). growth_all op 48 false false 1 (between card 0 k)) n ∙ ap (growth_all op 48 false false 1) (tail-is card 0)
      ∙ ap (growth_all op 48 false false 1) (sym r.encoded) ∙ one-part m r.canonical in
      let s : length card ≡ size m = ap length (sym r.encoded) ∙ encode-size m in
      let i = outermost-grows (deep m) 48 m S r.fits r.canonical r.shallow in
      rw (encode-size (apply_prefix O (deep m) m S), encode_all-size (imports O m S), g) (omega arith)
