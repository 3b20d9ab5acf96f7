-- Where the bytes of a declaration have its own name. Assumes nothing.
use mathlib.Core.Path.{◌≡◌, refl, ap, sym, subst, ◌∙◌}
use mathlib.Core.List.{List, [], ◌∷◌}
use mathlib.Core.Bool.{true, false}
use Prim.Native.Nat.{ℕ, ◌+◌, ◌<◌}
use native.Mathlib.Omega.{arith}
use lib.ListN.{length, drop}
use lib.Seq.{drop-drop}
use lib.Dec.{eqb, ltb, lit≤}
use borrow.Author.Tests.{eq-eqb, ne_eqb, le-ltb}
use Rattle.wire.specs.Numbers.{Bytes}
use Rattle.records.specs.Record.{Record, Records, leaf, node, nil, ◌▸◌, encode_all, content_of, kind, text, children, nth, field, is, skip}
use Rattle.records.specs.Kinds.{Place, kinds, one, seq, type, row_of, these, content_at}
use Rattle.records.specs.Canonical.{Canonical}
use Rattle.records.proofs.Fits.{StandsAll, Fits, FitsAll}
use Rattle.records.proofs.Run.{◌⨾◌}
use Rattle.records.proofs.Leaves.{fits-stands, leaf-right, one-kind, NodeAt, node_at, these-no-bytes}
use Rattle.records.proofs.ByRow.{by-kinds, by-is}
use Rattle.records.proofs.Front.{inside}
use Rattle.rast.specs.Path.{Name, Path}
use Rattle.rast.specs.Operation.{Operation}
use Rattle.rast.proofs.Tests.{by-test}
use Rattle.factor_paths.specs.Mapping.{Mapping, Add}
use Rattle.factor_paths.specs.PathsVisitor.{VisitTraitName, VisitModDeclSingle}
use Rattle.fields.specs.Fields.{offset_of, trait_name_at, name_at}
use Rattle.records.proofs.Starts.{Starts}
use Rattle.gathering.proofs.Parts.{starts-kind, starts-content, starts-within, starts-front, starts_first, starts-field}

-- a name's Text starts at a place of s, which is not 0
pub record Named (s : Bytes) (o : ℕ) (n : Name) : Type 0 where
  pub there : eqb o 0 ≡ false
  pub within : ltb (length s) o ≡ false
  pub content : content_of (drop o s) ≡ n

-- what becomes of a mapping by the name that starts at a place of s: nothing where the place is 0
pub data Puts (op : Operation) (s : Bytes) (o : ℕ) (a : Mapping) (S : Path) : Mapping → Type 0 where
  nothing : o ≡ 0 → Puts op s o a S a
  puts : (n : Name) → Named s o n → Puts op s o a S (Add op a n S)

-- a Text is its bytes under its kind
pub is-text : (r : Record) → Fits r (one 0x01) → leaf 0x01 (text r) ≡ r
unfolding content_at
is-text = leaf-right (one 0x01) 0x01 (one-kind 0x01) refl

module _ {s : Bytes} where
  named : {o : ℕ} {r : Record} → 0 < o → Starts s o r → Fits r (one 0x01) → Canonical r → Named s o (text r)
  named {o} {r} l p f h =
      record {
        there =
            ne_eqb o 0 (λ z. omega arith);
        within = le-ltb (length s) o (starts-within p);
        content = starts-content p h ∙ ap inside (sym (is-text r f));
      }

  -- the name is the first field of a record, and the third
  first-named : {o k : ℕ} {n : Record} {c : Records} → Starts s o (node k (n ▸ c)) → Fits n (one 0x01) → Canonical (node k (n ▸ c)) → Named s (o + 6) (text n)
  unfolding Canonical
  first-named {o} {k} {n} {c} p f h = named (omega arith) (starts_first p n c refl) f h.3.0

  third-named : {k : ℕ} {x y n : Record} {c : Records} → Starts s 0 (node k (x ▸ y ▸ n ▸ c)) → Fits n (one 0x01) → Canonical (node k (x ▸ y ▸ n ▸ c))
      → Named s (6 + offset_of 2 (drop 6 s)) (text n)
  unfolding Canonical skip
  third-named {k} {x} {y} {n} {c} p f h = named (omega arith) (starts-field p 2 n c h.3 refl) f h.3.1.1.0

  moved : {o q : ℕ} {n : Name} → o ≡ q → Named s o n → Named s q n
  moved e h = rw e at h

-- a record alone, at a kind whose third field is its name
abbrev Third : Record → Type 0
Third r = Canonical r → Named (encode_all (r ▸ nil)) (6 + offset_of 2 (drop 6 (encode_all (r ▸ nil)))) (text (field 2 r))

third : (k : ℕ) (ps : List Place) → content_at (one k) k ≡ these (one 0x01 ∷ one 0x03 ∷ one 0x01 ∷ ps) → (r : Record) → Fits r (one k) → Third r
unfolding StandsAll nth
third k ps e r f =
    let a : NodeAt r k (these (one 0x01 ∷ one 0x03 ∷ one 0x01 ∷ ps)) = node_at r (one k) k (these (one 0x01 ∷ one 0x03 ∷ one 0x01 ∷ ps))
    (eq-eqb (kind r) k (one-kind k (kind r) (fits-stands r (one k) f))) e (these-no-bytes _) f in
    subst Third (sym a.is-node) (go (children r) a.fits)
  where
    go : (c : Records) → FitsAll c (these (one 0x01 ∷ one 0x03 ∷ one 0x01 ∷ ps)) → Third (node k c)
    go nil f h = absurd f
    go (x ▸ nil) f h = absurd f.1
    go (x ▸ y ▸ nil) f h = absurd f.1.1
    go (x ▸ y ▸ n ▸ c) f h = third-named (starts-front (node k (x ▸ y ▸ n ▸ c)) nil) f.1.1.0 h

module _ (op : Operation) (a : Mapping) (S : Path) where
  -- a trait's type
  module _ (s : Bytes) (o : ℕ) where
    abbrev OfTrait : Record → Type 0
    OfTrait t = Starts s o t → Canonical t → Puts op s (trait_name_at o s) a S (VisitTraitName op a t S)

    -- TIdentifier(name)
    alone : (t : Record) → Fits t type → is 0x2C t ≡ true → OfTrait t
    unfolding content_at row_of nth trait_name_at VisitTraitName
    alone = by-is OfTrait type 0x2C (one 0x01 ∷ []) refl (λ n f p h. rw (starts-kind p h) (puts (text n) (first-named p f h)))

    -- TypeApp(TIdentifier(name), _)
    applied : (u v : Record) → Fits u type → is 0x2C u ≡ true → OfTrait (node 0x2E (u ▸ v ▸ nil))
    unfolding Canonical content_at row_of nth trait_name_at VisitTraitName
    applied u v f e =
        by-is (λ u. OfTrait (node 0x2E (u ▸ v ▸ nil))) type 0x2C (one 0x01 ∷ []) refl
        (λ n f p h.
        let q = starts_first p (node 0x2C (n ▸ nil)) (v ▸ nil) refl in
        rw (starts-kind p h, drop-drop 6 o s, starts-kind q h.3.0) (puts (text n) (moved (omega arith) (first-named q f h.3.0))))
        u f e

    -- TypeApp, of this or of another type
    app : (t : Record) → Fits t type → is 0x2E t ≡ true → OfTrait t
    unfolding Canonical content_at row_of nth trait_name_at VisitTraitName
    app =
        by-is OfTrait type 0x2E (type ∷ seq type ∷ []) refl
        (λ u f v g. by-test (is 0x2C u) (applied u v f)
        (λ e p h. rw (starts-kind p h, drop-drop 6 o s, starts-kind (starts_first p u (v ▸ nil) refl) h.3.0, e) (nothing refl)))

    trait-puts : (t : Record) → Fits t type → OfTrait t
    unfolding trait_name_at VisitTraitName
    trait-puts t f =
        by-test (is 0x2C t) (alone t f)
        (λ d. by-test (is 0x2E t) (app t f) (λ e p h. rw (starts-kind p h, d, e) (nothing refl)))

  abbrev OfDecl : Record → Type 0
  OfDecl d = Canonical d → Puts op (encode_all (children d)) (name_at (kind d) (encode_all (children d))) a S (VisitModDeclSingle op a d S)

  -- ModDecl(mod)
  module-puts : (m : Record) → Fits m (kinds 0x60 0x61) → OfDecl (node 0x62 (m ▸ nil))
  unfolding Canonical row_of nth name_at VisitModDeclSingle
  module-puts =
      by-kinds (λ m. OfDecl (node 0x62 (m ▸ nil))) 0x60 1 (lit≤ tt)
      ((λ x hx y hy n hn b hb h. rw (starts-kind (starts-front (node 0x60 (x ▸ y ▸ n ▸ b ▸ nil)) nil) h.3.0)
      (puts (text n) (third-named (starts-front (node 0x60 (x ▸ y ▸ n ▸ b ▸ nil)) nil) hn h.3.0)))
      ⨾ (λ n hn h. rw (starts-kind (starts-front (node 0x61 (n ▸ nil)) nil) h.3.0)
      (puts (text n) (first-named (starts-front (node 0x61 (n ▸ nil)) nil) hn h.3.0))))

  -- TraitDecl(tr)
  trait_decl-puts : (t : Record) → Fits t (one 0x7B) → OfDecl (node 0x68 (t ▸ nil))
  unfolding Canonical row_of nth skip name_at VisitModDeclSingle
  trait_decl-puts =
      by-kinds (λ m. OfDecl (node 0x68 (m ▸ nil))) 0x7B 0 (lit≤ tt)
      (λ x hx y hy z hz t ht u hu v hv h.
      trait-puts _ _ t ht (starts-field (starts-front (node 0x7B (x ▸ y ▸ z ▸ t ▸ u ▸ v ▸ nil)) nil) 3 t (u ▸ v ▸ nil) h.3.0.3 refl)
      h.3.0.3.1.1.1.0)

  -- TopFnDecl(fn)
  top_fn-puts : (f : Record) → Fits f (one 0x7C) → OfDecl (node 0x69 (f ▸ nil))
  unfolding Canonical row_of nth skip name_at VisitModDeclSingle
  top_fn-puts =
      by-kinds (λ m. OfDecl (node 0x69 (m ▸ nil))) 0x7C 0 (lit≤ tt)
      (λ x hx y hy z hz.
      by-kinds (λ f. OfDecl (node 0x69 (node 0x7C (x ▸ y ▸ z ▸ f ▸ nil) ▸ nil))) 0x7D 0 (lit≤ tt)
      (λ n hn ps hps fs hfs r hr b hb h.
      let q = starts-field (starts-front (node 0x7C (x ▸ y ▸ z ▸ node 0x7D (n ▸ ps ▸ fs ▸ r ▸ b ▸ nil) ▸ nil)) nil) 3 (node 0x7D (n ▸ ps ▸ fs ▸ r ▸ b ▸ nil))
      nil h.3.0.3 refl in
      puts (text n) (moved (omega arith) (first-named q hn h.3.0.3.1.1.1.0))))

  -- THE LAW: the place that name_at finds has the name that the visitor adds, and is 0 where it adds none
  pub decl-puts : (d : Record) → Fits d (kinds 0x62 0x6A) → OfDecl d
  unfolding Canonical content_at row_of nth name_at VisitModDeclSingle
  decl-puts =
      by-kinds OfDecl 0x62 8 (lit≤ tt)
      (module-puts
      ⨾ (λ r f h. puts _ (third 0x70 _ refl r f h.3.0))
      ⨾ (λ r f h. puts _ (third 0x71 _ refl r f h.3.0))
      ⨾ (λ r f h. puts _ (third 0x72 _ refl r f h.3.0))
      ⨾ (λ r f h. puts _ (third 0x73 _ refl r f h.3.0))
      ⨾ (λ r f h. nothing refl)
      ⨾ trait_decl-puts
      ⨾ top_fn-puts
      ⨾ (λ r f h. nothing refl))
