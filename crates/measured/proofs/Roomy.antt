-- WHERE THERE SURELY IS ROOM by the outermost module's table, no table of an admitted card is full, and its output has room. Assumes nothing.
use Rattle.std.specs.Prelude.{Ok}
use mathlib.Core.Path.{◌≡◌, refl, ap, sym, ◌∙◌}
use mathlib.Core.Bool.{true, false, ◌&&◌, and-eq-true_iff, false≢true}
use mathlib.Core.Option.{none}
use Prim.Native.Nat.{ℕ, suc, ◌+◌, ◌-◌, ◌/◌, ◌<◌, ◌≤◌}
use native.Mathlib.Omega.{arith}
use lib.ListN.{length, get_or}
use lib.Dec.{eqb, leb, ltb}
use borrow.Author.Tests.{leb-true, ltb-false}
use Rattle.wire.specs.Numbers.{Bytes}
use Rattle.wire.proofs.Numbers.{are-bytes}
use Rattle.records.specs.Record.{Record, Records, leaf, node, nil, ◌▸◌, encode, encode_all, content_of, rest_of, kind_of, tree, deep, is}
use Rattle.records.specs.Kinds.{kinds, any}
use Rattle.records.specs.Canonical.{Canonical, CanonicalAll}
use Rattle.records.proofs.Fits.{StandsAll, FitsAll}
use Rattle.rast.specs.Path.{Path}
use Rattle.rast.proofs.Tests.{by-test}
use Rattle.factor_paths.specs.Apply.{apply}
use Rattle.factor_paths.proofs.Modules.{ModFields}
use Rattle.outcome.specs.FullTable.{first_in, full_table}
use Rattle.outcome.specs.Outcome.{admitted}
use Rattle.outcome.proofs.Accepted.{admitted-sound}
use Rattle.outcome.proofs.Full.{in_decl}
use Rattle.outcome.proofs.Few.{declared-few, apart_none}
use Rattle.operation.specs.declared.Shortening.{Shortening}
use Rattle.operation.specs.Operations.{operation_of}
use Rattle.chains.specs.Chains.{room}
use Rattle.adding.specs.Adds.{Table}
use Rattle.adding.specs.Settles.{own_words}
use Rattle.rewriting.specs.Rewrites.{parts_of, body_of}
use Rattle.rewriting.proofs.Parts.{encode_each, parts_all}
use Rattle.growth.specs.Grows.{card_growth}
use Rattle.growth.proofs.Grown.{card-grows}
use Rattle.fitting.specs.Fitting.{are_few, nested_few, uses_most, is_roomy}
use Rattle.rewriting.proofs.Walks.{alone-kind, alone-content}
use Rattle.modules.proofs.Contents.{mod-content, body_is}
use Rattle.modules.proofs.Outermost.{Prefix, Own, Reads, admitted-reads}
use Rattle.measuring.specs.Measured.{outermost}
use Rattle.measured.proofs.Uses.{uses-fit}

-- a declaration that is not too large
few-first : (most : ℕ) (d : Record) (c : Records) → Canonical d → are_few most (encode_each (d ▸ c)) ≡ true
    → (is 0x62 d ≡ true → length (encode d) / 18 ≤ most) × (are_few most (encode_each c) ≡ true)
unfolding are_few encode_each
few-first most d c h e =
    by-test (eqb (kind_of (encode d)) 0x62 && ltb most (length (encode d) / 18))
    (λ t. absurd (false≢true (rw t at e)))
    (λ t. ((λ g. small (rw (alone-kind d h, g) at t)), rw t at e))
  where
    small : ltb most (length (encode d) / 18) ≡ false → length (encode d) / 18 ≤ most
    small = ltb-false most (length (encode d) / 18)

-- where none is, no module in them has a full table
nested-none : (op : Shortening) (most n : ℕ) (S : Path) (c : Records) → FitsAll c (any (kinds 0x62 0x6A)) → CanonicalAll c → are_few most (encode_each c) ≡ true
    → (at : ℕ) → first_in (in_decl (operation_of op) most n S) c at ≡ none
unfolding first_in StandsAll Canonical
nested-none op most n S nil f h e at = refl
nested-none op most n S (d ▸ c) f h e at =
    let w = few-first most d c h.0 e in
    rw (declared-few (operation_of op) most n S d f.0 w.0 at) (nested-none op most n S c f.1 h.1 w.1 _)

deep-suc : (m : Record) → deep m ≡ suc (deep m - 1)
unfolding deep
deep-suc (leaf k b) = omega arith
deep-suc (node k c) = omega arith

module _ (op : Shortening) (card root : Bytes) (n : ℕ) (sound : admitted (operation_of op) card root n ≡ Ok tt)
    (bc : (i : ℕ) → get_or card i 0 < 256) (br : (i : ℕ) → get_or root i 0 < 256) where
  reads : Reads card root (operation_of op).root_depth
  reads = admitted-reads op card root n sound bc br

  -- the declarations of the card's Mod
  body-of : (h : ModFields (tree card)) → CanonicalAll h.body × (body_of card ≡ encode_all h.body)
  unfolding Canonical
  body-of h =
      let c = reads.is-card.canonical in
      let m : Canonical (node 0x60 (h.doc ▸ h.attributes ▸ h.named ▸ node 0x02 h.body ▸ nil)) = rw h.is-mod at c in (
        m.3.1.1.1.0.3,
        rw (← reads.is-card.encoded, h.is-mod)
            (ap body_in' (mod-content h.doc h.attributes h.named h.body m) ∙ ap content_of (body_is h.doc h.attributes h.named h.body m)
            ∙ alone-content (node 0x02 h.body) m.3.1.1.1.0),
      )
    where
      body_in' : Bytes → Bytes
      body_in' c = content_of (rest_of (rest_of (rest_of c)))

  module _ (t : Table) (own : Own card root op t) (out : Bytes) (e : is_roomy (outermost op card root) (length out) (card_growth op card) t ≡ true) where
    abbrev Most : ℕ
    Most = room t.words

    abbrev Bound : ℕ
    Bound = length card + card_growth op card + uses_most card (own_words t) t.count

    tests : (t.count ≤ Most) × (Bound ≤ length out) × (nested_few card Most ≡ true)
    unfolding is_roomy
    tests =
        let a = (and-eq-true_iff (leb t.count Most) (leb Bound (length out) && nested_few card Most)).0 e in
        let b = (and-eq-true_iff (leb Bound (length out)) (nested_few card Most)).0 a.1 in
        (leb-true t.count Most a.0, leb-true Bound (length out) b.0, b.1)

    pub roomy-none : full_table (operation_of op) Most (deep (tree card)) (tree card) (Prefix card root) 0 ≡ none
    unfolding nested_few
    roomy-none =
        let a = tests.0 in
        let c = own.count in
        ap (λ (d : ℕ). full_table (operation_of op) Most d (tree card) (Prefix card root) 0) (deep-suc (tree card))
        ∙ apart_none (operation_of op) Most (deep (tree card) - 1) (Prefix card root) (tree card) 0 reads.is-card.fits (omega arith)
        (λ h. let b = body-of h in
        nested-none op Most (deep (tree card) - 1) (Prefix card root) h.body h.body-fits b.0
        (ap (are_few Most) (sym (ap parts_of b.1 ∙ parts_all h.body b.0)) ∙ tests.2))

    pub roomy-fits : length (encode (apply (operation_of op) (tree root) (tree card))) ≤ length out
    roomy-fits =
        let g = card-grows op (tree root) card (are-bytes card bc) (admitted-sound (operation_of op) card root n sound).card-sound reads.small in
        let u = uses-fit op card root (operation_of op).root_depth reads t own tests.0 in
        let b = tests.1 in
        omega arith
