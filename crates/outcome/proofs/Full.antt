-- Answer 8 of every card: at its place stands the record of a module that collects too many pairs; where none is found, no module does. Assumes nothing.
use Rattle.std.specs.Prelude.{Ok, Err}
use mathlib.Core.Path.{◌≡◌, refl, ap, sym, subst, ◌∙◌}
use mathlib.Core.List.{List, [], ◌∷◌, append-nil}
use mathlib.Core.Bool.{true, false, false≢true}
use mathlib.Core.Option.{Option, none, some, some-injective, none-ne-some}
use Prim.Native.Nat.{ℕ, zero, suc, ◌+◌, ◌≤◌}
use native.Mathlib.Nat.{add-zero, le_refl}
use native.Mathlib.Omega.{arith}
use lib.ListN.{length, take, drop}
use lib.Dec.{ltb, lit≤}
use Rattle.answers.specs.Answers.{number, value}
use Rattle.answers.specs.declared.Refusal.{Refusal}
use Rattle.answers.specs.declared.Refusal.TheVariants.{ShortWork, LongCard, BadRoot, FullTable}
use Rattle.answers.specs.Answers.{Verdict}
use Rattle.wire.specs.Numbers.{Bytes, AreBytes}
use Rattle.records.specs.Record.{Record, Records, leaf, node, nil, ◌▸◌, deep, deep_all, encode, encode_all, kind, children, nth, field, first, skip, is, tree}
use Rattle.records.specs.Kinds.{kinds, one, mod', any, row_of, content_at}
use Rattle.records.specs.Reading.{reading}
use Rattle.records.proofs.Fits.{StandsAll, Fits, FitsAll}
use Rattle.records.proofs.Run.{◌⨾◌}
use Rattle.records.proofs.Leaves.{fits-stands, one-kind}
use Rattle.records.proofs.ByRow.{by-kinds, by_kind, by-is}
use Rattle.records.proofs.Sound.{ReadsAs, sound-reads}
use Rattle.records.proofs.Faults.{reading-fair}
use Rattle.records.proofs.Starts.{Starts, AllStart, starts-there, content-start, first-starts, rest-start, skip-start}
use Rattle.rast.specs.Path.{Path, MSel}
use Rattle.rast.specs.Operation.{Operation, nested}
use Rattle.rast.specs.Mod.{case, match, name_of}
use Rattle.rast.proofs.Tests.{by-test, by-option}
use Rattle.factor_paths.specs.Mapping.{pairs}
use Rattle.factor_paths.specs.Apply.{mappings}
use Rattle.factor_paths.proofs.Modules.{mod-fields}
use Rattle.outcome.specs.FullTable.{field_at, first_in, full_table}
use Rattle.outcome.specs.Outcome.{good_root, admitted, output, after_reading, shorten}
use Rattle.outcome.proofs.Accepted.{Accepted, accepted, admitted-sound}

-- a module and its prefix, in a module whose prefix is p: that module itself, or one in a module that declaration i of its body declares
pub data In (op : Operation) (found : Record) (prefix : Path) : Record → Path → Type 0 where
  itself : In op found prefix found prefix
  inside : {m : Record} {p : Path} (i : ℕ) → is 0x62 (nth i (children (field 3 m))) ≡ true
      → In op found prefix (field 0 (nth i (children (field 3 m)))) (nested op p (name_of (field 0 (nth i (children (field 3 m)))))) → In op found prefix m p

-- the module of a ModDecl stands where modules do, and is no deeper; so too of one in a body
decl-fits : (d : Record) → Fits d (kinds 0x62 0x6A) → is 0x62 d ≡ true → Fits (field 0 d) mod' × (deep (field 0 d) ≤ deep d)
unfolding row_of content_at nth deep
decl-fits = by-is (λ d. Fits (field 0 d) mod' × (deep (field 0 d) ≤ deep d)) (kinds 0x62 0x6A) 0x62 (mod' ∷ []) refl (λ m h. (h, omega arith))

inner-fits : (c : Records) (i : ℕ) → FitsAll c (any (kinds 0x62 0x6A)) → is 0x62 (nth i c) ≡ true
    → Fits (field 0 (nth i c)) mod' × (deep (field 0 (nth i c)) ≤ deep_all c)
unfolding StandsAll nth deep
inner-fits nil i f t = absurd (false≢true t)
inner-fits (d ▸ c) zero f t = let h = decl-fits d f.0 t in (h.0, (let l = h.1 in omega arith))
inner-fits (d ▸ c) (suc i) f t = let h = inner-fits c i f.1 t in (h.0, (let l = h.1 in omega arith))

-- the body of a Mod
abbrev BodyFits : Record → Type 0
BodyFits m = FitsAll (children (field 3 m)) (any (kinds 0x62 0x6A)) × (suc (deep_all (children (field 3 m))) ≤ deep m)

body-fits : (m : Record) → Fits m (one 0x60) → BodyFits m
unfolding nth deep
body-fits m g = let h = mod-fields m g in subst BodyFits (sym h.is-mod) (h.body-fits, omega arith)

extern-body : (i : ℕ) (m : Record) → Fits m (one 0x61) → is 0x62 (nth i (children (field 3 m))) ≡ true → ⊥
unfolding row_of nth
extern-body i = by-kinds (λ m. is 0x62 (nth i (children (field 3 m))) ≡ true → ⊥) 0x61 0 (lit≤ tt) (λ t h e. false≢true e)

module _ (op : Operation) (most : ℕ) where
  -- at a place of s: the bytes of a Mod of m's that collects too many pairs under its prefix
  pub record FullAt (s : Bytes) (m : Record) (p : Path) (place : ℕ) : Type 0 where
    pub found : Record
    pub prefix : Path
    pub lies : In op found prefix m p
    pub is-mod : kind found ≡ 0x60
    pub too_many : ltb most (pairs (mappings op found prefix).provenance) ≡ true
    pub stands : take (length (encode found)) (drop place s) ≡ encode found

  -- by the depth that is left, of a module that starts at any place of any bytes: where full_table finds a place, such a Mod is there
  abbrev Law : ℕ → Type 0
  Law n = (s : Bytes) (m : Record) (p : Path) (at place : ℕ) → Fits m mod' → Starts s at m → full_table op most n m p at ≡ some place → FullAt s m p place

  -- a declaration, as full_table searches it
  abbrev pub in_decl : ℕ → Path → Record → ℕ → Option ℕ
  in_decl n p d place = match d (case 0x62 (λ r. full_table op most n (field 0 r) (nested op p (name_of (field 0 r))) (field_at place 0 r)) ∷ []) (λ r. none)

  module _ (n : ℕ) (law : Law n) (s : Bytes) (p : Path) (place : ℕ) where
    abbrev Inner : Record → Type 0
    Inner d = FullAt s (field 0 d) (nested op p (name_of (field 0 d))) place

    decl-full : (d : Record) (o : ℕ) → Fits d (kinds 0x62 0x6A) → Starts s o d → in_decl n p d o ≡ some place → (is 0x62 d ≡ true) × Inner d
    unfolding row_of content_at first encode_all nth
    decl-full d o f st e =
        by-test (is 0x62 d)
        (λ t. (
          t,
          by-is (λ d. Starts s o d → in_decl n p d o ≡ some place → Inner d) (kinds 0x62 0x6A) 0x62 (mod' ∷ []) refl
              (λ m h st e. law s m (nested op p (name_of m)) (o + 6 + 0) place h (rw add-zero (first-starts (content-start st))) e) d f t st e,
        ))
        (λ t. absurd (none-ne-some place (rw t at e)))

    body-full : (c : Records) (o : ℕ) → FitsAll c (any (kinds 0x62 0x6A)) → AllStart s o c → first_in (in_decl n p) c o ≡ some place
        → (i : ℕ) × (is 0x62 (nth i c) ≡ true) × Inner (nth i c)
    unfolding first_in StandsAll nth
    body-full nil o f st e = absurd (none-ne-some place e)
    body-full (d ▸ c) o f st e =
        by-option (in_decl n p d o)
        (λ t. let i = body-full c (o + length (encode d)) f.1 (rest-start st) (rw t at e) in (suc i.0, i.1, i.2))
        (λ x t. let h : some x ≡ some place = rw t at e in let g = decl-full d o f.0 (first-starts st) (t ∙ h) in (0, g.0, g.1))

  -- an ExternMod is not full
  pub extern-none : (n : ℕ) (m : Record) (p : Path) (at : ℕ) → Fits m (one 0x61) → full_table op most n m p at ≡ none
  unfolding full_table
  extern-none zero m p at f = refl
  extern-none (suc n) m p at f = rw (one-kind 0x61 (kind m) (fits-stands m (one 0x61) f))

  -- a Mod, by its fields
  mod-full : (n : ℕ) → Law n → (d a t : Record) (c : Records) → FitsAll c (any (kinds 0x62 0x6A)) → (s : Bytes) (p : Path) (at place : ℕ) →
      let m : Record = node 0x60 (d ▸ a ▸ t ▸ node 0x02 c ▸ nil) in
      Starts s at m → full_table op most (suc n) m p at ≡ some place → FullAt s m p place
  unfolding full_table nth skip
  mod-full n law d a t c f s p at place st e =
      by-test (ltb most (pairs (mappings op m p).provenance))
      (λ b. let g : at ≡ place = some-injective _ _ (rw b at e) in
      record { found = m; prefix = p; lies = itself; is-mod = refl; too_many = b; stands = rw (← g) (starts-there st) })
      (λ b. let body : AllStart s (field_at at 3 m + 6) c = content-start (first-starts (skip-start 3 (children m) (content-start st))) in
      let h = body-full n law s p place c (field_at at 3 m + 6) f body (rw b at e) in
      let g = h.2 in
      record { found = g.found; prefix = g.prefix; lies = inside h.0 h.1 g.lies; is-mod = g.is-mod; too_many = g.too_many; stands = g.stands })
    where
      m : Record
      m = node 0x60 (d ▸ a ▸ t ▸ node 0x02 c ▸ nil)

  -- THE LAW
  pub full-stands : (n : ℕ) → Law n
  unfolding full_table
  full-stands zero s m p at place f st e = absurd (none-ne-some place e)
  full-stands (suc n) s m p at place f st e =
      by_kind 0x60 1 m (
      (λ g. let h = mod-fields m g in
      subst (λ (m : Record). Starts s at m → full_table op most (suc n) m p at ≡ some place → FullAt s m p place) (sym h.is-mod)
      (mod-full n (full-stands n) h.doc h.attributes h.named h.body h.body-fits s p at place) st e)
      ⨾ (λ g. absurd (none-ne-some place (sym (extern-none (suc n) m p at g) ∙ e)))) f

  -- where none is found in a body, none is in any of its declarations
  body-none : (n : ℕ) (p : Path) (c : Records) (o : ℕ) → first_in (in_decl n p) c o ≡ none → (i : ℕ) → (at : ℕ) × (in_decl n p (nth i c) at ≡ none)
  unfolding first_in nth
  body-none n p nil o e i = (o, refl)
  body-none n p (d ▸ c) o e zero = (o, by-option (in_decl n p d o) (λ t. t) (λ x t. absurd (none-ne-some x (sym (rw t at e)))))
  body-none n p (d ▸ c) o e (suc i) =
      by-option (in_decl n p d o) (λ t. body-none n p c (o + length (encode d)) (rw t at e) i) (λ x t. absurd (none-ne-some x (sym (rw t at e))))

  -- where none is found in a Mod, it has no more than there may be, and none is found in its body
  mod-none : (n : ℕ) (m : Record) (p : Path) (at : ℕ) → kind m ≡ 0x60 → full_table op most (suc n) m p at ≡ none
      → (ltb most (pairs (mappings op m p).provenance) ≡ false) × (first_in (in_decl n p) (children (field 3 m)) (field_at at 3 m + 6) ≡ none)
  unfolding full_table
  mod-none n m p at k e =
      by-test (ltb most (pairs (mappings op m p).provenance))
      (λ b. absurd (none-ne-some at (sym (rw (k, b) at e))))
      (λ b. (b, rw (k, b) at e))

  -- and where none is found at all, no module has too many pairs
  pub none-full : (n : ℕ) {m : Record} {p : Path} (at : ℕ) {found : Record} {prefix : Path} → Fits m mod' → deep m ≤ n → full_table op most n m p at ≡ none
      → kind found ≡ 0x60 → In op found prefix m p → ltb most (pairs (mappings op found prefix).provenance) ≡ false
  unfolding deep
  none-full zero {m} at f l e k h = absurd (never m l)
    where
      never : (m : Record) → deep m ≤ 0 → ⊥
      never (leaf k b) h = omega arith
      never (node k c) h = omega arith
  none-full (suc n) {m} {p} at f l e k itself = (mod-none n m p at k e).0
  none-full (suc n) {m} {p} at f l e k (inside i t r) =
      by_kind 0x60 1 m (
      (λ g. let b = body-fits m g in
      let s = (mod-none n m p at (one-kind 0x60 (kind m) (fits-stands m (one 0x60) g)) e).1 in
      let d = inner-fits (children (field 3 m)) i b.0 t in
      let j = body-none n p (children (field 3 m)) (field_at at 3 m + 6) s i in
      none-full n (field_at j.0 0 (nth i (children (field 3 m)))) d.0 (let x = b.1 in let y = d.1 in omega arith) (rw t at j.1) k r)
      ⨾ (λ g. absurd (extern-body i m g t))) f

-- 1 to 7 and 11 are not 8
admitted-not-full : (op : Operation) (card root : Bytes) (words place : ℕ) → admitted op card root words ≡ Err (FullTable place) → ⊥
unfolding admitted
admitted-not-full op card root words place h =
    by-test (ltb words op.fewest_words) (λ a. other ShortWork (λ z. omega arith) (rw a at h))
    (λ a. by-test (ltb op.most_card_bytes (length card)) (λ b. other LongCard (λ z. omega arith) (rw (a, b) at h))
    (λ b. by-test (good_root op root)
    (λ g. let e : reading op.card_depth op.outermost card ≡ Err (FullTable place) = rw (a, b, g) at h in
    false≢true (rw e at (reading-fair op.card_depth op.outermost card)))
    (λ g. other BadRoot (λ z. omega arith) (rw (a, b, g) at h))))
  where
    other : (a : Refusal) → (number (Err a) ≡ 8 → ⊥) → ◌≡◌ {A = Verdict} (Err a) (Err (FullTable place)) → ⊥
    other a n z = let e : a ≡ FullTable place = cc in n (ap (λ (x : Refusal). number (Err x)) e)

module _ (op : Operation) (there : op.outermost ≡ mod') (card root out : Bytes) (work : List ℕ) (bytes : AreBytes card) where
  -- the outermost module's
  abbrev prefix : Path
  prefix = MSel (tree root) (name_of (tree card))

  is-card : reading op.card_depth op.outermost card ≡ Ok tt → ReadsAs op.card_depth mod' card (tree card)
  is-card e = sound-reads op.card_depth mod' card bytes (rw there at e)

  -- where a call answers 8, the card's bytes at the place are those of a Mod of its tree that collects more pairs than there may be
  pub full-answer : (place : ℕ) → (shorten op card root out work).answer ≡ Err (FullTable place)
      → FullAt op (op.most_pairs (length work)) card (tree card) prefix place
  unfolding shorten
  full-answer place h = go (admitted op card root (length work)) refl h
    where
      go : (v : Verdict) → admitted op card root (length work) ≡ v → (after_reading op card root out work (op.most_pairs (length work)) v).answer
          ≡ Err (FullTable place)
          → FullAt op (op.most_pairs (length work)) card (tree card) prefix place
      go (Err a) e h = absurd (admitted-not-full op card root (length work) place (let f : a ≡ FullTable place = cc in e ∙ ap Err f))
      go (Ok _) e h =
          by-option (full_table op (op.most_pairs (length work)) (deep (tree card)) (tree card) prefix 0)
          (λ t. by-test (ltb (length out) (length (output op card root out work)))
          (λ r. let z : 9 ≡ 8 = ap number (rw (t, r) at h) in absurd (omega arith))
          (λ r. let z : 0 ≡ 8 = ap number (rw (t, r) at h) in absurd (omega arith)))
          (λ x t. let r = is-card (admitted-sound op card root (length work) e).card-sound in
          let z : x ≡ place = ap value (rw t at h) in
          full-stands op (op.most_pairs (length work)) (deep (tree card)) card (tree card) prefix 0 place r.fits
          (record { after = []; is = sym (append-nil (encode (tree card)) ∙ r.encoded) }) (t ∙ ap some z))

  -- and where it accepts, no Mod of the card's tree collects more
  pub accepted-none-full : (n : ℕ) → (shorten op card root out work).answer ≡ Ok n
      → {found : Record} {in-it : Path} → kind found ≡ 0x60 → In op found in-it (tree card) prefix
      → ltb (op.most_pairs (length work)) (pairs (mappings op found in-it).provenance) ≡ false
  accepted-none-full n h k i =
      let a : Accepted op card root out work n = accepted op card root out work n h in
      none-full op (op.most_pairs (length work)) (deep (tree card)) 0 (is-card a.card-sound).fits (le_refl (deep (tree card))) a.no-full-table k i
