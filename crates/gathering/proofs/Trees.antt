-- Collecting over the bytes of a module that fits does to any accumulator what the one walk over its records does to a mapping. Assumes nothing.
use mathlib.Core.Path.{◌≡◌, refl, ap, sym, subst, ◌∙◌}
use mathlib.Core.List.{[], ◌∷◌, append-nil}
use mathlib.Core.Bool.{Bool, true, false, cond}
use mathlib.Core.Option.{none, some}
use Prim.Native.Nat.{ℕ, zero, suc, ◌+◌, ◌-◌, ◌%◌, ◌<◌, ◌≤◌}
use native.Mathlib.Omega.{arith}
use lib.ListN.{length, take, drop, length-take, length-drop}
use lib.Dec.{eqb}
use borrow.Author.Tests.{eqb-true, ne_eqb}
use Rattle.wire.specs.Numbers.{Bytes, same_bytes, between}
use Rattle.wire.proofs.Within.{within-own}
use Rattle.records.specs.Record.{Record, Records, leaf, node, nil, ◌▸◌, encode, encode_all, length_of, kind_of, content_of, rest_of, kind, text, nth, field, is}
use Rattle.records.specs.Record.{deep, deep_all, first_record}
use Rattle.records.specs.Kinds.{Place, kinds, stands, type, expr, mod', Content, content_at}
use Rattle.records.specs.Reading.{short}
use Rattle.records.specs.Canonical.{Canonical, CanonicalAll}
use Rattle.records.proofs.Tree.{encode-six, record-length}
use Rattle.records.proofs.Fits.{Stands, StandsAll, Fits, FitsAll}
use Rattle.records.proofs.Run.{within}
use Rattle.records.proofs.ByRow.{fits-there}
use Rattle.records.proofs.FitsRead.{Comes, fits_next}
use Rattle.records.proofs.Front.{encode-kind, encode-content, encode-rest, encode-short}
use Rattle.records.proofs.Starts.{Starts, AllStart, starts-there, content-start, first-starts, rest-start}
use Rattle.rast.specs.Path.{Name, Path, Self, MSel, Selected, whether}
use Rattle.rast.specs.Operation.{Operation}
use Rattle.rast.proofs.Tests.{by-test, either}
use Rattle.factor_paths.specs.Mapping.{Mapping, Add, equal}
use Rattle.factor_paths.specs.PathsVisitor.{VisitTypeSingle, VisitExprSingle, PathsVisitor}
use Rattle.factor_paths.specs.LookUp.{bare}
use Rattle.factor_paths.specs.Collects.{Visited, a_type, an_expr, a_decl, holds, visited_as, enters, single, collects, collects_all}
use Rattle.factor_paths.proofs.Tidy.{PathIn, Paths, fits-paths}
use Rattle.operation.specs.declared.Shortening.{Shortening}
use Rattle.operation.specs.Passes.{repeats}
use Rattle.operation.specs.Operations.{pass_of, operation_of}
use Rattle.paths.proofs.Bytes.{paths-same}
use Rattle.prefix.specs.Prefix.{Scope, prefix_in}
use Rattle.comparing.specs.Compares.{base_at}
use Rattle.fields.specs.Fields.{name_at}
use Rattle.visiting.specs.Visits.{visit_path, visit_name}
use Rattle.visiting.proofs.Paths.{fit, record-within, p-within, as-within, p-fits}
use Rattle.visiting.proofs.Own.{own-within}
use Rattle.gathering.specs.Gathers.{span, gather_each, gather_as, gather_self, gather}
use Rattle.gathering.proofs.Parts.{encode-first, all_there, spans_of, spans-are}
use Rattle.gathering.proofs.Names.{Puts, nothing, puts, decl-puts}

self-canonical : Canonical Self
unfolding Canonical encode_all
self-canonical = (refl, omega arith, omega arith, tt)

-- Self is told by its bytes
self-same : (op : Shortening) (b : Path) → Canonical b → same_bytes (encode b) (encode Self) ≡ equal (operation_of op) b Self
self-same op b c = paths-same (repeats (pass_of op)) b Self c self-canonical

-- what the visitor makes of a path that selects a name, and of any path that a path type or a path expression holds
module _ (op : Operation) where
  abbrev chosen : Bool → Mapping → Path → Name → Mapping
  chosen inExpr a b n = cond (equal op b Self) a (Add op a (cond inExpr (bare n) n) b)

  abbrev visited : Bool → Mapping → Record → Mapping
  visited inExpr a p =
      whether {A = Selected} (cond (is 0x13 p) (some (record { base = field 0 p; name = text (field 1 p) })) none) a (λ s. chosen inExpr a s.base s.name)

-- a declaration's kind
is-decl : (k : ℕ) → visited_as k ≡ a_decl → stands (kinds 0x62 0x6A) k ≡ true
is-decl k = go (stands type k) (stands expr k) (stands (kinds 0x62 0x6A) k)
  where
    go : (x y z : Bool) → cond x a_type (cond y an_expr (cond z a_decl holds)) ≡ a_decl → z ≡ true
    go true y z e = cc
    go false true z e = cc
    go false false true e = refl
    go false false false e = cc

-- where a record ends, by the bytes that it is
span-there : {s : Bytes} {o : ℕ} {r : Record} → Starts s o r → between s o (o + length (encode r)) ≡ encode r
span-there {s} {o} {r} p = let e : o + length (encode r) - o ≡ length (encode r) = omega arith in rw e (starts-there p)

alone-kind : (r : Record) → Canonical r → kind_of (encode r) ≡ kind r
alone-kind r h = ap kind_of (sym (append-nil (encode r))) ∙ encode-kind r [] h

-- in a card that is short enough a name stands at the lower half of its place: only an empty one, a declaration's own, can stand past a half word
half_place : (card : Bytes) (at : ℕ) (n : Bytes) → length card ≤ 65536 → take (length n) (drop at card) ≡ n → take (length n) (drop (at % 65536) card) ≡ n
half_place card at [] l e = refl
half_place card at (x ∷ n) l e =
    let t = length-take (length (x ∷ n)) (drop at card) in
    let d = length-drop at card in
    let g = ap length e in
    let z : at % 65536 ≡ at = omega arith in
    rw z e

node-length : (k : ℕ) (c : Records) (from : ℕ) → from + length (encode (node k c)) ≡ from + 6 + length (encode_all c)
unfolding encode
node-length k c from = let l = record-length k (encode_all c) in omega arith

module _ (s : Scope) {T : Type 0} (add : T → (at len base : ℕ) → T) (R : T → Mapping → Type 0)
    (keeps : (t : T) (a : Mapping) (at len base : ℕ) (k : Name) (b : Path) → Canonical b → base < 65536
    → take len (drop (at % 65536) s.card) ≡ k
    → base_at s base ≡ encode b → R t a → R (add t at len base) (Add (operation_of s.op) a k b))
    (S : Path) (canonical-prefix : Canonical S) (prefix-is : prefix_in s ≡ encode S) (small : length s.card ≤ 65536) where
  abbrev Op : Operation
  Op = operation_of s.op

  abbrev card : Bytes
  card = s.card

  -- the path of a path type or a path expression: one that selects a name
  module _ (inExpr : Bool) (b : Path) (n : Name) (h : Canonical (MSel b n)) (from : ℕ) (p : AllStart card from (MSel b n ▸ nil)) (t : T) (a : Mapping) where
    abbrev To : ℕ
    To = from + length (encode_all (MSel b n ▸ nil))

    abbrev Held : Bytes
    Held = encode_all (b ▸ leaf 0x01 n ▸ nil)

    content-is : between card from To ≡ encode_all (MSel b n ▸ nil)
    content-is = all_there p

    held-is : content_of (encode_all (MSel b n ▸ nil)) ≡ Held
    unfolding encode_all
    held-is = encode-content (MSel b n) [] h

    first-is : first_record Held ≡ encode b
    unfolding encode_all Canonical
    first-is = encode-first b (encode_all (leaf 0x01 n ▸ nil)) h.3.0

    name-is : content_of (rest_of Held) ≡ n
    unfolding encode_all Canonical
    name-is = ap content_of (encode-rest b (encode_all (leaf 0x01 n ▸ nil)) h.3.0) ∙ encode-content (leaf 0x01 n) [] h.3.1.0

    not_short : short Held ≡ false
    unfolding encode_all Canonical
    not_short = encode-short b (encode_all (leaf 0x01 n ▸ nil)) h.3.0

    visit-is : visit_path add card inExpr t from To
        ≡ cond (equal Op b Self) t (add t (from + 6 + 10 + length_of Held) (length (cond inExpr (bare n) n)) (from + 6))
    unfolding visit_path encode_all Canonical
    visit-is =
        rw (fit card from To small (omega arith), content-is, encode-kind (MSel b n) [] h, held-is, not_short, first-is, name-is, self-same s.op b h.3.0)

    base-is : base_at s (from + 6) ≡ encode b
    unfolding base_at
    base-is =
        rw (ne_eqb (from + 6) 0 (λ z. omega arith))
        (record-within card (from + 6) Held (p-within card from To _ Held (sym content-is) (sym held-is)) not_short ∙ first-is)

    put_is : take (length (cond inExpr (bare n) n)) (drop ((from + 6 + 10 + length_of Held) % 65536) card) ≡ cond inExpr (bare n) n
    put_is =
        let w = as-within card from To _ Held (sym content-is) (sym held-is) inExpr in
        half_place card (from + 6 + 10 + length_of Held) (cond inExpr (bare n) n) small (rw name-is at (within-own card (from + 6 + 10 + length_of Held) _ w))

    selects : R t a → R (visit_path add card inExpr t from To) (chosen Op inExpr a b n)
    unfolding Canonical
    selects r =
        let f = (p-fits card from To _ Held (sym content-is) (sym held-is) not_short (omega arith)).0 in
        rw visit-is (either R (equal Op b Self) r (keeps t a _ _ (from + 6) (cond inExpr (bare n) n) b h.3.0 (omega arith) put_is base-is r))

  -- any one, and as its record holds it
  held-walks : (inExpr : Bool) (p : Record) → Canonical p → (is 0x13 p ≡ true → p ≡ MSel (field 0 p) (text (field 1 p))) → (from : ℕ)
      → AllStart card from (p ▸ nil)
      → (t : T) (a : Mapping) → R t a → R (visit_path add card inExpr t from (from + length (encode_all (p ▸ nil)))) (visited Op inExpr a p)
  unfolding visit_path encode_all
  held-walks inExpr p h spelled from q t a r =
      by-test (is 0x13 p)
      (λ e. rw e
      (subst (λ (x : Path). AllStart card from (x ▸ nil) → R (visit_path add card inExpr t from (from + length (encode_all (x ▸ nil))))
      (chosen Op inExpr a (field 0 p) (text (field 1 p))))
      (sym (spelled e)) (λ z. selects inExpr (field 0 p) (text (field 1 p)) (subst Canonical (spelled e) h) from z t a r) q))
      (λ e. rw (fit card from (from + length (encode_all (p ▸ nil))) small (omega arith), all_there q, encode-kind p [] h, e) r)

  path-walks : (inExpr : Bool) (c : Records) → PathIn c → CanonicalAll c → (from : ℕ) → AllStart card from c → (t : T) (a : Mapping) → R t a
      → R (visit_path add card inExpr t from (from + length (encode_all c))) (visited Op inExpr a (nth 0 c))
  unfolding CanonicalAll nth
  path-walks inExpr c p h from q t a r = rw p.only (held-walks inExpr p.held (rw p.only at h).0 p.spelled from (rw p.only at q) t a r)

  -- a declaration's name
  name-walks : (k : ℕ) (c : Records) (from : ℕ) → AllStart card from c → (t : T) (a m : Mapping) → Puts Op (encode_all c) (name_at k (encode_all c)) a S m → R t a
      → R (visit_name add card k t from (from + length (encode_all c))) m
  unfolding visit_name base_at
  name-walks k c from p t a m (nothing e) r = rw (fit card from (from + length (encode_all c)) small (omega arith), all_there p, e) r
  name-walks k c from p t a m (puts n h) r =
      let o = name_at k (encode_all c) in
      let w = own-within card from (from + length (encode_all c)) o (encode_all c) (sym (all_there p)) in
      let i : take (length n) (drop ((from + o + 6) % 65536) card) ≡ n =
      half_place card (from + o + 6) n small (rw h.content at (within-own card (from + o + 6) _ w)) in
      rw (fit card from (from + length (encode_all c)) small (omega arith), all_there p, h.there, h.within, h.content)
      (keeps t a (from + o + 6) (length n) 0 n S canonical-prefix (omega arith) i prefix-is r)

  -- the record itself
  module _ (k : ℕ) (c : Records) (p : Place) (f : Fits (node k c) p) (h : Canonical (node k c)) (from : ℕ) (q : AllStart card from c) (t : T) (a : Mapping)
      (r : R t a) where
    itself : (v : Visited) → visited_as k ≡ v
        → R (gather_as add card v k t from (from + length (encode_all c))) (single (PathsVisitor Op) S v a (node k c))
    unfolding Paths Canonical VisitTypeSingle VisitExprSingle
    itself a_type e = by-test (eqb k 0x2D) (λ g. rw g (path-walks false c ((fits-paths (node k c) p f).0 (rw g)) h.3 from q t a r)) (λ g. rw g r)
    itself an_expr e =
        by-test (eqb k 0x5C) (λ g. rw g (path-walks true c ((fits-paths (node k c) p f).0 (rw (eqb-true k 0x5C g))) h.3 from q t a r)) (λ g. rw g r)
    itself a_decl e =
        let d = is-decl k e in
        let low : 4 ≤ k = (let w = within 0x62 0x6A k d in omega arith) in
        name-walks k c from q t a _ (decl-puts Op a S (node k c) (fits-there k c p (kinds 0x62 0x6A) low f d) h) r
    itself holds e = r

  mutual
    unfolding gather gather_each gather_self collects spans_of Stands StandsAll Canonical deep

    -- a record that fits any place
    walks : (r : Record) (left : ℕ) (p : Place) → Fits r p → Canonical r → deep r ≤ left → (from : ℕ) → Starts card from r → (t : T) (a : Mapping) → R t a
        → R (gather add card left t (span from (from + length (encode r)))) (collects (PathsVisitor Op) S a r)
    walks (leaf k b) zero p f h l from q t a r = absurd (omega arith)
    walks (leaf k b) (suc left) p f h l from q t a r = rw (span-there q, alone-kind (leaf k b) h, h.0) r
    walks (node k c) zero p f h l from q t a r = absurd (omega arith)
    walks (node k c) (suc left) p f h l from q t a r =
        let z = content-start q in
        rw (span-there q, alone-kind (node k c) h, h.0, node-length k c from, spans-are card (from + 6) c h.3 z)
        (walks-all c left k 0 (content_at p k) f.1 h.3 (omega arith) (from + 6) z _ _ (itself k c p f h (from + 6) z t a r (visited_as k) refl))

    -- the fields of a record of kind k, from field i on
    walks-all : (c : Records) (left k i : ℕ) (x : Content) → FitsAll c x → CanonicalAll c → deep_all c ≤ left → (from : ℕ) → AllStart card from c
        → (t : T) (a : Mapping) → R t a
        → R (gather_each (gather add card left) k i t (spans_of from c)) (collects_all (PathsVisitor Op) S k i a c)
    walks-all nil left k i x f h l from z t a r = r
    walks-all (q ▸ c) left k i x f h l from z t a r =
        let n : Comes x (encode q) q c = fits_next x (encode q) q c (let b = encode-six q in omega arith) f in
        walks-all c left k (suc i) n.more n.others h.1 (omega arith) (from + length (encode q)) (rest-start z) _ _
        (either R (enters k i) (walks q left n.place n.fits h.0 (omega arith) from (first-starts z) t a r) r)

  -- THE LAW: what adding to an accumulator and adding to a mapping keep between the two, collecting over a module's bytes and the walk over its records keep
  pub gather-walks : (left : ℕ) (m : Record) → Fits m mod' → Canonical m → deep m ≤ left → (from : ℕ) → Starts card from m → (t : T) (a : Mapping) → R t a
      → R (gather add card left t (span from (from + length (encode m)))) (collects (PathsVisitor Op) S a m)
  gather-walks left m = walks m left mod'
