-- THE LAW: of a sound card and an output whose points hold, the entries over the bytes are the places of the two trees. Assumes nothing.
use mathlib.Core.Path.{◌≡◌, refl, sym, ap, ap₂, subst, ◌∙◌}
use mathlib.Core.Bool.{false, ◌&&◌}
use mathlib.Core.List.{List, [], ◌∷◌, ◌++◌, append-nil}
use Prim.Native.Nat.{ℕ, zero, suc, ◌+◌, ◌-◌, ◌^◌, ◌≤◌}
use native.Mathlib.Omega.{arith}
use lib.ListN.{length, take, drop, length-append}
use lib.Dec.{eqb, lit<}
use borrow.Author.Tests.{eqb-true, le-ltb, lt-ltb}
use Rattle.wire.specs.Numbers.{Bytes}
use Rattle.records.specs.Record.{Record, Records, leaf, node, nil, ◌▸◌, text, encode, encode_all, count, skip, nth, set_nth, deep, deep_all}
use Rattle.records.specs.Record.{content_of, rest_of}
use Rattle.records.specs.Kinds.{Place, kinds, one, mod', Content, content_at, any}
use Rattle.records.specs.Canonical.{Canonical, CanonicalAll}
use Rattle.records.proofs.Tree.{record-length}
use Rattle.records.proofs.Front.{encode-content, encode-rest}
use Rattle.records.proofs.Fits.{Stands, Fits, FitsAll}
use Rattle.records.proofs.FitsRead.{fits_next}
use Rattle.records.proofs.Leaves.{leaf-right, one-kind}
use Rattle.records.proofs.ByRow.{fits-there}
use Rattle.rast.specs.Operation.{Operation}
use Rattle.rast.proofs.Tests.{by-test}
use Rattle.factor_paths.proofs.Modules.{ModFields, mod-fields}
use Rattle.points.specs.Points.{Module, Point, Points}
use Rattle.places.specs.Places.{Entry, entry, places_of, places_in}
use Rattle.rewriting.proofs.Parts.{encode_each, parts_all}
use Rattle.rewriting.proofs.Walks.{alone-kind, alone-content}
use Rattle.rewriting.specs.Rewrites.{body_of}
use Rattle.listing.specs.Lists.{uses_from, end_of, besides, besides_body, record_places, card_places}
use Rattle.listing.proofs.Ring.{text-places, kept-places, card-places}

each-count : (c : Records) → length (encode_each c) ≡ count c
unfolding encode_each count
each-count nil = refl
each-count (r ▸ c) = ap suc (each-count c)

each-skip : (n : ℕ) (c : Records) → drop n (encode_each c) ≡ encode_each (skip n c)
unfolding encode_each skip
each-skip zero c = refl
each-skip (suc n) nil = refl
each-skip (suc n) (r ▸ c) = each-skip n c

canonical-skip : (n : ℕ) (c : Records) → CanonicalAll c → CanonicalAll (skip n c)
unfolding skip CanonicalAll
canonical-skip zero c h = h
canonical-skip (suc n) nil h = h
canonical-skip (suc n) (r ▸ c) h = canonical-skip n c h.1

count-skip : (n : ℕ) (c : Records) → count (skip n c) ≡ count c - n
unfolding skip count
count-skip zero c = omega arith
count-skip (suc n) nil = omega arith
count-skip (suc n) (r ▸ c) = let i = count-skip n c in omega arith

-- uses put ahead of what lies beside a body
ahead-sound : (f : ℕ → Bytes → Bytes → List Entry) (c : Records) (n : ℕ) (d : Records) → n + count c ≡ count d
    → ((at : ℕ) → besides f at (encode_each c) (encode_each (skip n d)) ≡ places_in at c (skip n d)) → (at : ℕ)
    → uses_from at (take n (encode_each d)) ++ besides f (end_of at (take n (encode_each d))) (encode_each c) (encode_each (skip n d)) ≡ places_in at c d
unfolding uses_from end_of encode_each count skip places_in
ahead-sound f c zero d e h at = h at
ahead-sound f c (suc n) nil e h at = absurd (omega arith)
ahead-sound f nil (suc n) (s ▸ d) e h at =
    ap (λ (es : List Entry). entry at 3 ∷ es) (ahead-sound f nil n d (omega arith) h (at + length (encode s)))
ahead-sound f (r ▸ c) (suc n) (s ▸ d) e h at =
    rw (lt-ltb (count c) (count d) (omega arith))
    (ap (λ (es : List Entry). entry at 3 ∷ es) (ahead-sound f (r ▸ c) n d (omega arith) h (at + length (encode s))))

-- a Mod by its fields
abbrev Mod : (p q r : Record) → Records → Record
Mod p q r e = node 0x60 (p ▸ q ▸ r ▸ node 0x02 e ▸ nil)

module _ (p q r : Record) (e : Records) (h : Canonical (Mod p q r e)) where
  body_is : body_of (encode (Mod p q r e)) ≡ encode_all e
  unfolding Canonical encode_all
  body_is =
      ap (λ (s : Bytes). content_of (rest_of (rest_of (rest_of s)))) (alone-content (Mod p q r e) h)
      ∙ ap (λ (s : Bytes). content_of (rest_of (rest_of s))) (encode-rest p (encode_all (q ▸ r ▸ node 0x02 e ▸ nil)) h.3.0)
      ∙ ap (λ (s : Bytes). content_of (rest_of s)) (encode-rest q (encode_all (r ▸ node 0x02 e ▸ nil)) h.3.1.0)
      ∙ ap content_of (encode-rest r (encode_all (node 0x02 e ▸ nil)) h.3.1.1.0)
      ∙ encode-content (node 0x02 e) [] h.3.1.1.1.0

  body-long : length (encode (Mod p q r e)) ≡ 12 + length (encode p) + length (encode q) + length (encode r) + length (encode_all e)
  unfolding encode
  body-long =
      let a = record-length 0x60 (encode_all (p ▸ q ▸ r ▸ node 0x02 e ▸ nil)) in
      let b = length-append (encode p) (encode_all (q ▸ r ▸ node 0x02 e ▸ nil)) in
      let c = length-append (encode q) (encode_all (r ▸ node 0x02 e ▸ nil)) in
      let d = length-append (encode r) (encode_all (node 0x02 e ▸ nil)) in
      let f = length-append (encode (node 0x02 e)) [] in
      let g = record-length 0x02 (encode_all e) in
      omega arith

module _ (op : Operation) where
  points-count : (m : Module) (c d : Records) → Points op m c d → count c ≡ count d
  unfolding Points count
  points-count m nil nil h = refl
  points-count m nil (s ▸ d) h = absurd h
  points-count m (r ▸ c) nil h = absurd h
  points-count m (r ▸ c) (s ▸ d) h = ap suc (points-count m c d h.1)

  -- the law, of records that go at most so deep
  Sounds : ℕ → Type 0
  Sounds depth = (m : Module) (this that : Record) (p : Place) → Fits this p → Canonical this → Canonical that → Point op m this that → deep this ≤ depth
      → (at : ℕ) → record_places depth at (encode this) (encode that) ≡ places_of at this that

  module _ (depth : ℕ) (sound : Sounds depth) where
    beside-sound : (m : Module) (c d : Records) (x : Content) → FitsAll c x → CanonicalAll c → CanonicalAll d → Points op m c d → deep_all c ≤ depth
        → (at : ℕ) → besides (record_places depth) at (encode_each c) (encode_each d) ≡ places_in at c d
    unfolding besides encode_each places_in Points CanonicalAll deep_all Sounds
    beside-sound m nil nil x f a b q l at = refl
    beside-sound m nil (s ▸ d) x f a b q l at = absurd q
    beside-sound m (r ▸ c) nil x f a b q l at = absurd q
    beside-sound m (r ▸ c) (s ▸ d) x f a b q l at =
        let n = fits_next x (0 ∷ []) r c (lit< tt) f in
        rw (le-ltb (count c) (count d) (omega (arith, points-count m c d q.1)))
        (ap₂ ◌++◌ (sound m r s n.place n.fits a.0 b.0 q.0 (omega arith) at)
        (beside-sound m c d n.more n.others a.1 b.1 q.1 (omega arith) (at + length (encode s))))

    -- a Mod beside another, by their fields
    fields-sound : (m : Module) (x y z : Bytes) (body : Records) (p q r : Record) (e : Records) → FitsAll body (any (kinds 0x62 0x6A))
        → Canonical (Mod (leaf 0x01 x) (leaf 0x03 y) (leaf 0x01 z) body) → Canonical (Mod p q r e) → Points op m body (skip (count e - count body) e)
        → deep_all body ≤ depth → (at : ℕ) → record_places (suc depth) at (encode (Mod (leaf 0x01 x) (leaf 0x03 y) (leaf 0x01 z) body)) (encode (Mod p q r e))
        ≡ places_of at (Mod (leaf 0x01 x) (leaf 0x03 y) (leaf 0x01 z) body) (Mod p q r e)
    unfolding record_places besides_body places_of count Canonical
    fields-sound m x y z body p q r e f a b points l at =
        let this : Record = Mod (leaf 0x01 x) (leaf 0x03 y) (leaf 0x01 z) body in
        let that : Record = Mod p q r e in
        let n : ℕ = count e - count body in
        let start : ℕ = at + 6 + length (encode p) + length (encode q) + length (encode r) + 6 in
        let many : n + count body ≡ count e = omega (arith, points-count m body (skip n e) points, count-skip n e) in
        let o : at + (length (encode that) - length (encode_all e)) ≡ start = omega (arith, body-long p q r e b) in
        rw (
          alone-kind this a,
          body_is (leaf 0x01 x) (leaf 0x03 y) (leaf 0x01 z) body a,
          body_is p q r e b,
          parts_all body a.3.1.1.1.0.3,
          parts_all e b.3.1.1.1.0.3,
          each-count e,
          each-count body,
          each-skip n e,
          o,
        )
        (ahead-sound (record_places depth) body n e many
        (beside-sound m body (skip n e) (any (kinds 0x62 0x6A)) f a.3.1.1.1.0.3 (canonical-skip n e b.3.1.1.1.0.3) points l) start
        ∙ sym (append-nil (places_in start body e)))

    mod-sound : (m : Module) (x y z : Bytes) (body : Records) (j : ℕ) (d : Records) → FitsAll body (any (kinds 0x62 0x6A))
        → Canonical (Mod (leaf 0x01 x) (leaf 0x03 y) (leaf 0x01 z) body) → Canonical (node j d)
        → Point op m (Mod (leaf 0x01 x) (leaf 0x03 y) (leaf 0x01 z) body) (node j d) → deep_all body ≤ depth → (at : ℕ)
        → record_places (suc depth) at (encode (Mod (leaf 0x01 x) (leaf 0x03 y) (leaf 0x01 z) body)) (encode (node j d))
        ≡ places_of at (Mod (leaf 0x01 x) (leaf 0x03 y) (leaf 0x01 z) body) (node j d)
    unfolding Point set_nth nth
    mod-sound m x y z body j nil f a b h l at = absurd h.2
    mod-sound m x y z body j (p ▸ nil) f a b h l at = absurd h.2.1
    mod-sound m x y z body j (p ▸ q ▸ nil) f a b h l at = absurd h.2.1.1
    mod-sound m x y z body j (p ▸ q ▸ r ▸ nil) f a b h l at = absurd h.2.1.1.1
    mod-sound m x y z body j (p ▸ q ▸ r ▸ s ▸ t ▸ d) f a b h l at = absurd h.2.1.1.1.1
    mod-sound m x y z body j (p ▸ q ▸ r ▸ leaf i e ▸ nil) f a b h l at = absurd h.2.1.1.1.0
    mod-sound m x y z body j (p ▸ q ▸ r ▸ node i e ▸ nil) f a b h l at =
        let this : Record = Mod (leaf 0x01 x) (leaf 0x03 y) (leaf 0x01 z) body in
        let last = h.2.1.1.1.0 in
        let g : node j (p ▸ q ▸ r ▸ node i e ▸ nil) ≡ Mod p q r e = ap₂ (λ (u v : ℕ). node u (p ▸ q ▸ r ▸ node v e ▸ nil)) h.0 last.0 in
        subst (λ (s : Record). Canonical s → record_places (suc depth) at (encode this) (encode s) ≡ places_of at this s) (sym g)
        (λ b. fields-sound _ x y z body p q r e f a b last.1 l at) b

    module _ (m : Module) (k : ℕ) (c : Records) (j : ℕ) (d : Records) (p : Place) (f : Fits (node k c) p) (a : Canonical (node k c))
        (b : Canonical (node j d)) (q : Point op m (node k c) (node j d)) (l : deep (node k c) ≤ suc depth) (at : ℕ) where
      module-sound : k ≡ 0x60 → record_places (suc depth) at (encode (node k c)) (encode (node j d)) ≡ places_of at (node k c) (node j d)
      unfolding deep content_at
      module-sound e =
          let w : ModFields (node k c) = mod-fields (node k c) (fits-there k c p (one 0x60) (omega arith) f (rw e)) in
          let x = leaf-right (one 0x01) 0x01 (one-kind 0x01) refl w.doc w.doc-fits in
          let y = leaf-right (one 0x03) 0x03 (one-kind 0x03) refl w.attributes w.attributes-fits in
          let z = leaf-right (one 0x01) 0x01 (one-kind 0x01) refl w.named w.named-fits in
          let g : Mod (leaf 0x01 (text w.doc)) (leaf 0x03 (text w.attributes)) (leaf 0x01 (text w.named)) w.body ≡ node k c =
          rw (x, y, z) (sym w.is-mod) in
          subst (λ (r : Record). Canonical r → Point op m r (node j d) → deep r ≤ suc depth
          → record_places (suc depth) at (encode r) (encode (node j d)) ≡ places_of at r (node j d)) g
          (λ a q l. mod-sound m (text w.doc) (text w.attributes) (text w.named) w.body j d w.body-fits a b q (omega arith) at) a q l

      other-sound : (eqb k 0x2D && eqb j 0x37) ≡ false → (eqb k 0x5C && eqb j 0x42) ≡ false → eqb k 0x60 ≡ false
          → record_places (suc depth) at (encode (node k c)) (encode (node j d)) ≡ places_of at (node k c) (node j d)
      unfolding record_places places_of Point Canonical deep Stands
      other-sound t u v =
          let h : (j ≡ k) × Points op m c d = rw (t, u, v) at q in
          rw (
            alone-kind (node k c) a,
            alone-kind (node j d) b,
            t,
            u,
            v,
            a.0,
            alone-content (node k c) a,
            alone-content (node j d) b,
            parts_all c a.3,
            parts_all d b.3,
          ) (beside-sound m c d (content_at p k) f.1 a.3 b.3 h.1 (omega arith) (at + 6))

      node-sound : record_places (suc depth) at (encode (node k c)) (encode (node j d)) ≡ places_of at (node k c) (node j d)
      unfolding record_places places_of
      node-sound =
          by-test (eqb k 0x2D && eqb j 0x37)
          (λ t. rw (alone-kind (node k c) a, alone-kind (node j d) b, t))
          (λ t. by-test (eqb k 0x5C && eqb j 0x42)
          (λ u. rw (alone-kind (node k c) a, alone-kind (node j d) b, t, u))
          (λ u. by-test (eqb k 0x60) (λ v. module-sound (eqb-true k 0x60 v)) (λ v. other-sound t u v)))

  leaf-sound : (depth k : ℕ) (b : Bytes) (that : Record) → Canonical (leaf k b) → (at : ℕ) → record_places (suc depth) at (encode (leaf k b)) (encode that) ≡ []
  unfolding Canonical
  leaf-sound depth k b that a at =
      let deep : suc depth ≡ 0 → ⊥ = λ e. omega arith in
      let r : Bytes = encode (leaf k b) in
      by-test (eqb k 0x01) (λ t. text-places at r (encode that) (suc depth) deep k (sym (alone-kind (leaf k b) a)) (eqb-true k 0x01 t))
      (λ t. kept-places at r (encode that) (suc depth) deep k (sym (alone-kind (leaf k b) a)) (eqb-true k 0x03 (rw t at a.0)))

  record-sound : (depth : ℕ) → Sounds depth
  unfolding Sounds deep Point places_of
  record-sound zero m (leaf k b) that p f a c q l at = absurd (omega arith)
  record-sound zero m (node k c) that p f a d q l at = absurd (omega arith)
  record-sound (suc depth) m (leaf k b) that p f a c q l at = leaf-sound depth k b that a at
  record-sound (suc depth) m (node k c) (leaf j d) p f a b q l at = absurd q
  record-sound (suc depth) m (node k c) (node j d) p f a b q l at = node-sound depth (record-sound depth) m k c j d p f a b q l at

  -- THE LAW
  pub listing-places : (m : Module) (this that : Record) (p : Place) → Fits this p → Canonical this → Canonical that → Point op m this that
      → (depth at : ℕ) → deep this ≤ depth → record_places depth at (encode this) (encode that) ≡ places_of at this that
  unfolding Sounds
  listing-places m this that p f a b q depth at l = record-sound depth m this that p f a b q l at

  -- of a whole card and its output
  pub listing-card : (m : Module) (this that : Record) → Fits this mod' → Canonical this → Canonical that → Point op m this that → deep this ≤ 48
      → length (encode this) ≤ 65536 → length (encode that) ≤ 2 ^ 31 → card_places (encode this) (encode that) ≡ places_of 0 this that
  listing-card m this that f a b q l small most =
      card-places (encode this) (encode that) small most ∙ listing-places m this that mod' f a b q 48 0 l
