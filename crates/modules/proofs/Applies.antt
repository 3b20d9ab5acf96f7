-- WHAT IS WRITTEN OF A MODULE over the bytes of a sound card: applyPrefix's module, or the place of the first table that is full. Assumes nothing.
use mathlib.Core.Path.{◌≡◌, refl, ap, ap₂, sym, subst, ◌∙◌}
use mathlib.Core.Bool.{true, false, ◌&&◌, and-eq-true_iff}
use mathlib.Core.List.{List, [], ◌∷◌, ◌++◌}
use mathlib.Core.Option.{none, none-ne-some}
use Prim.Native.Nat.{ℕ, zero, suc, ◌+◌, ◌-◌, ◌*◌, ◌/◌, ◌<◌, ◌≤◌, min}
use native.Mathlib.Nat.{add-zero, le_refl}
use native.Mathlib.Omega.{arith}
use lib.ListN.{length, take, length-append, length-drop}
use lib.Seq.{length-take-le, take-append_seam}
use lib.Dec.{eqb, ltb}
use borrow.Author.Tests.{eqb-true, leb-true, ltb-true, ltb-false, lt-ltb, le-ltb}
use Rattle.wire.specs.Numbers.{Bytes}
use Rattle.records.specs.Record.{Record, Records, leaf, node, nil, ◌▸◌, record_bytes, encode, encode_all, kind, nth, is, first}
use Rattle.records.specs.Record.{set_nth, map_all, deep, deep_all}
use Rattle.records.specs.Kinds.{kinds, one, mod', any, row_of, content_at}
use Rattle.records.specs.Canonical.{Canonical, CanonicalAll}
use Rattle.records.proofs.Tree.{encode-six}
use Rattle.records.proofs.Fits.{Fits, FitsAll}
use Rattle.records.proofs.Run.{◌⨾◌}
use Rattle.records.proofs.Leaves.{fits-stands, one-kind}
use Rattle.records.proofs.ByRow.{by_kind, by-is}
use Rattle.records.proofs.Starts.{Starts, content-start, first-starts}
use Rattle.rast.specs.Path.{Path}
use Rattle.rast.specs.Operation.{Operation, nested}
use Rattle.rast.specs.Mod.{name_of}
use Rattle.rast.proofs.Tests.{by-test}
use Rattle.factor_paths.specs.Mapping.{Mapping, pairs}
use Rattle.factor_paths.specs.Apply.{mappings, paths_to_remove, imports, apply_prefix}
use Rattle.factor_paths.specs.Walk.{walk, walk_decl}
use Rattle.factor_paths.proofs.Mappings.{Good}
use Rattle.factor_paths.proofs.Visits.{mappings-good}
use Rattle.factor_paths.proofs.Modules.{ModFields, mod-fields, module-walk, extern-walk}
use Rattle.outcome.specs.FullTable.{full_table}
use Rattle.outcome.proofs.Few.{few-none}
use Rattle.places.proofs.Weighed.{weighed, weighed_ahead, weighed-self, mapped-count}
use Rattle.operation.specs.declared.Shortening.{Shortening}
use Rattle.operation.specs.Operations.{operation_of, weight_bytes}
use Rattle.operation.proofs.Lawful.{names_of}
use Rattle.prefix.specs.Prefix.{Scope}
use Rattle.chains.specs.Chains.{room}
use Rattle.adding.specs.Adds.{Table, table}
use Rattle.adding.specs.Settles.{own_words, free_words}
use Rattle.fields.specs.Fields.{name_place}
use Rattle.choosing.specs.Picks.{uses_of}
use Rattle.gathering.specs.Gathers.{span, gathered}
use Rattle.gathering.specs.Tabled.{Tabled}
use Rattle.gathering.proofs.Parts.{spans_of, spans-are}
use Rattle.gathering.proofs.Mapped.{module-tabled}
use Rattle.gathering.proofs.Chosen.{uses-final}
use Rattle.tables.specs.Tables.{table_of, has_room, is_small, last_words}
use Rattle.tables.proofs.Owner.{owner-has}
use Rattle.rewriting.specs.Imports.{imports_bytes}
use Rattle.rewriting.specs.Rewrites.{declaration}
use Rattle.rewriting.proofs.Walks.{alone-kind, rewrite-walks}
use Rattle.rewriting.proofs.Uses.{declares-weighed}
use Rattle.modules.specs.Modules.{Made, made, nested_made, saved_made, beside_made, inner_made, each_made, mod_made, declaration_made, body_made, module_made}
use Rattle.modules.proofs.Keeps.{table-length, beside-length, held-length}
use Rattle.modules.proofs.Inner.{ends-within, inner-prefix, inner-canonical}
use Rattle.modules.proofs.Contents.{span-there, weighed-one, one-ends, Mod, Ahead, mod-content, ahead-is, body-ends, body-starts, mod-whole}
use Rattle.modules.proofs.States.{found, Ready, settled-ready, Holds, holds_on, After, same, other, scope_at, Stands, Applied, walked, Declared, Declares}
use Rattle.modules.proofs.Each.{all-declared}

-- a record is at least one deep
deep-some : (m : Record) → 1 ≤ deep m
unfolding deep
deep-some (leaf k b) = omega arith
deep-some (node k c) = omega arith

-- a ready table has more pairs than there is room for where the mapping has
more-pairs : (s : Scope) (t : Table) (a : Mapping) → Ready s t a → ltb (room t.words) t.count ≡ ltb (room t.words) (pairs a.provenance)
more-pairs s t a h =
    let r = room t.words in
    let n = pairs a.provenance in
    let c = h.count in
    by-test (ltb r n) (λ e. lt-ltb r t.count (let l = ltb-true r n e in omega arith) ∙ sym e)
    (λ e. le-ltb r t.count (let l = ltb-false r n e in omega arith) ∙ sym e)

-- the words of pairs that there is room for are full of them
own_room : (t : Table) → t.count ≤ room t.words → room (own_words t) ≡ t.count
own_room t r = let l = length-take-le (4 * t.count) t.words (omega arith) in omega arith

-- a table that is ready stays so with other words behind its pairs
ready-beside : (s : Scope) (t : Table) (a : Mapping) (words : List ℕ) → t.count ≤ room t.words → Ready s t a
    → length (own_words t ++ words) ≡ length t.words → Ready s (table t.count (own_words t ++ words)) a
ready-beside s t a words r h e =
    let l : length (own_words t) ≡ 4 * t.count = length-take-le (4 * t.count) t.words (omega arith) in
    let k : room (own_words t ++ words) ≡ room t.words = ap (λ (x : ℕ). min (x / 4) 65535) e in
    let c = h.count in
    let o : take (4 * t.count) (own_words t ++ words) ≡ own_words t =
    ap (λ (x : ℕ). take x (own_words t ++ words)) (sym l) ∙ take-append_seam (own_words t) words in
    record {
      count = omega arith;
      tabled = λ z. subst (λ (x : List ℕ). Tabled s (table t.count x) a) (sym o) (h.tabled r);
    }

-- room for what so many bytes collect is room for what fewer do
room-has : (held : Table) (n : ℕ) {k : ℕ} → has_room held n ≡ true → k ≤ n → k / 18 ≤ room (free_words held)
unfolding has_room
room-has held n e l = let g = leb-true (n / 18) (room (free_words held)) e in omega arith

-- the last words, for what is small
last_has : (held : Table) (n : ℕ) {k : ℕ} → is_small held n ≡ true → k ≤ n
    → (length (last_words held n) ≤ length held.words) × (k / 18 ≤ room (last_words held n))
unfolding is_small last_words
last_has held n e l =
    let g = (and-eq-true_iff _ _).0 e in
    let a = leb-true (n / 18) 64 g.0 in
    let b = leb-true (4 * (n / 18)) (length held.words) g.1 in
    let d = length-drop (length held.words - 4 * (n / 18)) held.words in
    (omega arith, omega arith)

-- what is made of a module that goes at most so deep, by so many words
abbrev Law : Shortening → (card root : Bytes) → (wide depth : ℕ) → Type 0
Law op card root wide depth =
    (n : ℕ) (chain : List ℕ) → length chain + depth ≤ 48 → (at : ℕ) (m : Record) (S : Path) → Stands op card root chain at m S → deep m ≤ depth → deep m ≤ n
    → (owner : ℕ) (held : Table) → length held.words ≡ wide
    → (owner ≡ at → Ready (scope_at op card root chain at) held (mappings (operation_of op) m S))
    → Applied op card root (min (wide / 4) 65535) n chain at m S owner held
    (module_made op card root depth chain (span at (at + length (encode m))) owner held)

module _ (op : Shortening) (card root : Bytes) (small : length card ≤ 65536) (rooted : length root ≤ 65536) (wide : ℕ) where
  abbrev Op : Operation
  Op = operation_of op

  abbrev Most : ℕ
  Most = min (wide / 4) 65535

  abbrev Z : Bytes
  Z = weight_bytes op

  room-is : (words : List ℕ) → length words ≡ wide → room words ≡ Most
  room-is words e = ap (λ (x : ℕ). min (x / 4) 65535) e

  -- one module, given the law of what goes less deep
  module _ (depth n : ℕ) (below : (w : ℕ) → Law op card root w depth) (chain : List ℕ) (fewer : length chain + suc depth ≤ 48) (at : ℕ) (m : Record) (S : Path)
      (here : Stands op card root chain at m S) (shallow : deep m ≤ suc depth) where
    abbrev Scoped : Scope
    Scoped = scope_at op card root chain at

    abbrev Chain : List ℕ
    Chain = chain ++ (name_place card at ∷ [])

    abbrev Mapped : Mapping
    Mapped = mappings Op m S

    abbrev Mine : ℕ → Table → Table
    Mine owner held = table_of Scoped (suc depth) at owner held

    good : Good Op Mapped
    good = mappings-good Op (names_of op) m S

    chain_length : length Chain ≡ length chain + 1
    chain_length = length-append chain (name_place card at ∷ [])

    mine-ready : (owner : ℕ) (held : Table) → (owner ≡ at → Ready Scoped held Mapped) → Ready Scoped (Mine owner held) Mapped
    mine-ready owner held t =
        owner-has Scoped (suc depth) at owner held (λ (u : Table). Ready Scoped u Mapped) t
        (settled-ready Scoped (gathered Scoped (suc depth) at held.words) Mapped
        (module-tabled Scoped at m here.starts here.fits here.canonical (suc depth) shallow small S here.prefixed here.prefix-is held.words))

    mine-long : (owner : ℕ) (held : Table) → length held.words ≡ wide → length (Mine owner held).words ≡ wide
    mine-long owner held w = table-length Scoped (suc depth) at owner held ∙ w

    count-says : (t : Table) → Ready Scoped t Mapped → length t.words ≡ wide
        → ltb (room t.words) t.count ≡ ltb Most (pairs Mapped.provenance)
    count-says t h w = more-pairs Scoped t Mapped h ∙ ap (λ (r : ℕ). ltb r (pairs Mapped.provenance)) (room-is t.words w)

    -- where there is room for its pairs
    module _ (few : ltb Most (pairs Mapped.provenance) ≡ false) where
      fits-room : (t : Table) → Ready Scoped t Mapped → length t.words ≡ wide → t.count ≤ room t.words
      fits-room t h w = ltb-false (room t.words) t.count (count-says t h w ∙ few)

      -- a declaration that holds no module
      plain-bytes : (d : Record) → Fits d (kinds 0x62 0x6A) → Canonical d → deep d ≤ suc depth → length (encode d) ≤ 65536 → (t : Table)
          → Ready Scoped t Mapped → length t.words ≡ wide
          → declaration Scoped (own_words t) (suc depth) (encode d) ≡ weighed Z d (walk Op (paths_to_remove Op m S) false 1 d)
      unfolding declaration paths_to_remove
      plain-bytes d f h l b t ready w =
          let r = fits-room t ready w in
          let o = own_room t r in
          rw (le-ltb 65536 (length (encode d)) b, le-ltb 48 (suc depth) (omega arith))
          (rewrite-walks Scoped (table t.count (own_words t)) Mapped (ready.tabled r) good (omega arith) S here.prefixed here.prefix-is
          (suc depth) false 0 d (kinds 0x62 0x6A) f h l)

      -- the uses
      uses-bytes : (t : Table) → Ready Scoped t Mapped → length t.words ≡ wide
          → imports_bytes Scoped (own_words t) t.count ≡ weighed_ahead Z (imports Op m S)
      unfolding imports_bytes imports paths_to_remove
      uses-bytes t ready w =
          let r = fits-room t ready w in
          let o = own_room t r in
          rw (le-ltb 65536 (length card) small, le-ltb (room (own_words t)) t.count (omega arith))
          (declares-weighed Z (uses_of Scoped (own_words t) 0 t.count) (imports Op m S)
          (uses-final Scoped (table t.count (own_words t)) Mapped (ready.tabled r) good (omega arith) S here.prefixed here.prefix-is))

      abbrev State : (to owner : ℕ) → Table → Type 0
      State to owner held = Holds Scoped at to Mapped owner held

      -- what is made of one declaration
      abbrev Made' : Record → ℕ → ℕ → Table → Made
      Made' d from owner held =
          declaration_made op card root (module_made op card root depth) (suc depth) Chain at (span from (from + length (encode d))) owner held

      plain-declared : (d : Record) (from : ℕ) → is 0x62 d ≡ false → Fits d (kinds 0x62 0x6A) → Canonical d → Starts card from d → deep d ≤ suc depth
          → at < from → (owner : ℕ) (held : Table) → length held.words ≡ wide → State from owner held
          → Declared op card root Most n chain at m S wide d from
          (made (declaration Scoped (own_words (Mine owner held)) (suc depth) (encode d)) 0 at (Mine owner held))
      unfolding walk_decl
      plain-declared d from j f h st l b owner held w s =
          let t = mine-ready owner held s.tabled in
          let e = ends-within card from d st in
          let x = mine-long owner held w in
          record {
            full = rw j;
            bytes = λ z. rw j (plain-bytes d f h l (omega arith) (Mine owner held) t x);
            words = x;
            holds = record { from = le_refl at; before = omega arith; tabled = λ z. t };
          }

      -- one that holds a module: the module by the law
      module _ (q : Record) (from : ℕ) (f : Fits q mod') (h : Canonical (node 0x62 (q ▸ nil))) (st : Starts card from (node 0x62 (q ▸ nil)))
          (b : at < from) where
        abbrev Prefix : Path
        Prefix = nested Op S (name_of q)

        stands : Stands op card root Chain (from + 6) q Prefix
        unfolding Canonical
        stands =
            let k = first-starts (content-start st) in
            let l = chain_length in
            record {
              starts = k;
              fits = f;
              canonical = h.3.0;
              prefixed = inner-canonical card (from + 6) q k f h.3.0 op root Chain S here.prefix-is small rooted (omega arith) here.prefixed;
              prefix-is = inner-prefix card (from + 6) q k f h.3.0 op root Chain S here.prefix-is (omega arith);
            }

        abbrev Nested : ℕ → Table → Made
        Nested owner held = module_made op card root depth Chain (span (from + 6) (from + 6 + length (encode q))) owner held

        nested-holds : (owner : ℕ) (held : Table) → State from owner held → (N : Made)
            → After (scope_at op card root Chain (from + 6)) (from + 6) (from + 6 + length (encode q)) (mappings Op q Prefix) owner held N
            → State (from + 6 + length (encode q)) N.owner N.held
        nested-holds owner held s N (same x y) = rw (x, y) (holds_on (from + 6 + length (encode q)) (omega arith) s)
        nested-holds owner held s N (other y) = record { from = omega arith; before = y.before; tabled = λ z. absurd (omega arith) }

        abbrev Nesting : Made → Type 0
        Nesting = Declared op card root Most n chain at m S wide (node 0x62 (q ▸ nil)) from

        -- with all words
        alone : deep q ≤ depth → deep q ≤ n → (owner : ℕ) (held : Table) → length held.words ≡ wide → State from owner held
            → Nesting (nested_made (Nested owner held))
        unfolding nested_made walk_decl set_nth first encode_all nth
        alone l k owner held w s =
            let c = chain_length in
            let e = one-ends 0x62 q from in
            let i = below wide n Chain (omega arith) (from + 6) q Prefix stands l k owner held w (λ z. absurd (omega arith)) in
            record {
              full = rw add-zero i.full;
              bytes = λ z. ap (record_bytes 0x62) (i.bytes (rw add-zero at z)) ∙ weighed-one Z 0x62 q (apply_prefix Op n q Prefix);
              words = i.words ∙ w;
              holds = rw e (nested-holds owner held s (Nested owner held) i.after);
            }

        -- with some of the words: no module in it has too many pairs for them, and the module's table is ready afterwards
        lent : deep q ≤ depth → deep q ≤ n → (words : List ℕ) → length words ≤ wide → length (encode q) / 18 ≤ room words → (after : Table)
            → length after.words ≡ wide → Ready Scoped after Mapped → Nesting (saved_made at after (Nested 65537 (table 0 words)))
        unfolding saved_made walk_decl set_nth first encode_all nth
        lent l k words few_words r after w t =
            let c = chain_length in
            let e = one-ends 0x62 q from in
            let inside = ends-within card from (node 0x62 (q ▸ nil)) st in
            let i = below (length words) n Chain (omega arith) (from + 6) q Prefix stands l k 65537 (table 0 words) refl (λ z. absurd (omega arith)) in
            let less = few-none Op (room words) n q Prefix (from + 6) f r in
            let none-full = few-none Op Most n q Prefix (from + 6) f (let z : length (encode q) / 18 ≤ Most = omega arith in z) in
            record {
              full = rw add-zero (i.full ∙ ap found less ∙ sym (ap found none-full));
              bytes = λ z. ap (record_bytes 0x62) (i.bytes less) ∙ weighed-one Z 0x62 q (apply_prefix Op n q Prefix);
              words = w;
              holds = rw e (record { from = le_refl at; before = omega arith; tabled = λ z. t });
            }

        -- with the last words, which are put back
        saved : deep q ≤ depth → deep q ≤ n → (held : Table) → length held.words ≡ wide → Ready Scoped held Mapped → (size : ℕ) → length (encode q) ≤ size
            → is_small held size ≡ true → Nesting (saved_made at held (Nested 65537 (table 0 (last_words held size))))
        saved l k held w t size e g =
            let h = last_has held size g e in
            lent l k (last_words held size) (omega (arith, h.0)) h.1 held w t

        -- beside the module's table
        abbrev Beside : Table → Made
        Beside held = Nested 65537 (table 0 (free_words held))

        beside : deep q ≤ depth → deep q ≤ n → (held : Table) → length held.words ≡ wide → Ready Scoped held Mapped
            → length (encode q) / 18 ≤ room (free_words held) → Nesting (beside_made at held (Beside held))
        unfolding beside_made
        beside l k held w t r =
            let u = length-drop (4 * held.count) held.words in
            let words = (Beside held).held.words in
            let long = beside-length held words
            (held-length op card root depth Chain (span (from + 6) (from + 6 + length (encode q))) 65537 (table 0 (free_words held))) in
            lent l k (free_words held) (omega arith) r (table held.count (own_words held ++ words)) (long ∙ w)
            (ready-beside Scoped held Mapped words (fits-room held t w) t long)

        nested-declared : deep q ≤ depth → deep q ≤ n → (owner : ℕ) (held : Table) → length held.words ≡ wide → State from owner held
            → Nesting (inner_made (module_made op card root depth Chain) at (span from (from + 6 + length (encode q))) owner held)
        unfolding inner_made
        nested-declared l k owner held w s =
            by-test (eqb owner at && is_small held size)
            (λ t. let g = (and-eq-true_iff _ _).0 t in
            rw t (saved l k held w (s.tabled (eqb-true owner at g.0)) size (omega arith) g.1))
            (λ t. rw t
            (by-test (eqb owner at && has_room held size)
            (λ t. let g = (and-eq-true_iff _ _).0 t in
            rw t (beside l k held w (s.tabled (eqb-true owner at g.0)) (room-has held size g.1 (omega arith))))
            (λ t. rw t (alone l k owner held w s))))
          where
            size : ℕ
            size = from + 6 + length (encode q) - from

      -- either, of declarations that go less deep than the module by two
      declared : (most-deep : ℕ) → most-deep + 2 ≤ suc depth → most-deep + 2 ≤ suc n → (d : Record) (from : ℕ) → Fits d (kinds 0x62 0x6A) → Canonical d
          → Starts card from d → deep d ≤ most-deep → at < from → (owner : ℕ) (held : Table) → length held.words ≡ wide → State from owner held
          → Declared op card root Most n chain at m S wide d from (Made' d from owner held)
      unfolding declaration_made row_of content_at deep
      declared y u v d from f h st l b owner held w s =
          by-test (is 0x62 d)
          (λ t. by-is (λ d. Canonical d → Starts card from d → deep d ≤ y → Declared op card root Most n chain at m S wide d from (Made' d from owner held))
          (kinds 0x62 0x6A) 0x62 (mod' ∷ []) refl
          (λ q g h st l. rw (span-there st, alone-kind (node 0x62 (q ▸ nil)) h, one-ends 0x62 q from)
          (nested-declared q from g h st b (omega arith) (omega arith) owner held w s)) d f t h st l)
          (λ t. rw (span-there st, alone-kind d h, t) (plain-declared d from t f h st (omega arith) b owner held w s))

  -- a Mod, by its fields
  module _ (depth n : ℕ) (below : (w : ℕ) → Law op card root w depth) (chain : List ℕ) (fewer : length chain + suc depth ≤ 48) (at : ℕ) (S : Path)
      (d a t : Record) (c : Records)
      (d-fits : Fits d (one 0x01)) (a-fits : Fits a (one 0x03)) (t-fits : Fits t (one 0x01)) (c-fits : FitsAll c (any (kinds 0x62 0x6A)))
      (here : Stands op card root chain at (Mod d a t c) S) (shallow : deep (Mod d a t c) ≤ suc depth) (falls : deep (Mod d a t c) ≤ suc n) where
    abbrev This : Record
    This = Mod d a t c

    abbrev Pairs : ℕ
    Pairs = pairs (mappings Op This S).provenance

    abbrev From : ℕ
    From = at + 6 + length (Ahead d a t c) + 6

    abbrev Within : List ℕ
    Within = chain ++ (name_place card at ∷ [])

    abbrev fields : ModFields This
    fields =
        record {
          doc = d;
          attributes = a;
          named = t;
          body = c;
          is-mod = refl;
          doc-fits = d-fits;
          attributes-fits = a-fits;
          named-fits = t-fits;
          body-fits = c-fits;
        }

    -- its declarations
    abbrev All : Table → Made
    All mine = each_made (declaration_made op card root (module_made op card root depth) (suc depth) Within at) (spans_of From c) (made [] 0 at mine)

    body-canonical : CanonicalAll c
    unfolding Canonical
    body-canonical = here.canonical.3.1.1.1.0.3

    body-shallow : deep_all c + 2 ≤ deep This
    unfolding deep
    body-shallow = omega arith

    body-declared : ltb Most Pairs ≡ false → (mine : Table) → Ready (scope_at op card root chain at) mine (mappings Op This S) → length mine.words ≡ wide
        → Declares op card root Most n chain at This S wide c From (made [] 0 at mine) (All mine)
    body-declared few mine tabled w =
        let l = body-shallow in
        all-declared op card root Most n chain at This S wide (deep_all c) (declaration_made op card root (module_made op card root depth) (suc depth) Within at)
        (declared depth n below chain fewer at This S here shallow few (deep_all c) (omega arith) (omega arith)) c From c-fits body-canonical
        (body-starts d a t c here.starts) (le_refl (deep_all c)) (omega arith) (made [] 0 at mine) w
        (record { from = le_refl at; before = omega arith; tabled = λ z. tabled })

    -- with its uses ahead of them, it is applyPrefix's
    whole : ltb Most Pairs ≡ false → (mine : Table) → Ready (scope_at op card root chain at) mine (mappings Op This S) → length mine.words ≡ wide
        → (owner : ℕ) (held : Table) → length held.words ≡ wide → (E : Made) → Declares op card root Most n chain at This S wide c From (made [] 0 at mine) E
        → Applied op card root Most (suc n) chain at This S owner held
        (made (record_bytes 0x60 (Ahead d a t c ++ record_bytes 0x02 (imports_bytes (scope_at op card root chain at) (own_words mine) mine.count ++ E.bytes)))
        E.full E.owner E.held)
    unfolding full_table nth first
    whole few mine tabled x owner held w E e =
        record {
          full = rw few e.full;
          bytes = λ z.
              ap₂ (λ (u v : Bytes). record_bytes 0x60 (Ahead d a t c ++ record_bytes 0x02 (u ++ v)))
              (uses-bytes depth n below chain fewer at This S here shallow few mine tabled x) (e.bytes (rw few at z))
              ∙ mod-whole Z d a t (imports Op This S) c (map_all (walked op card root Most n chain at This S) c)
              (mapped-count (walked op card root Most n chain at This S) c)
              ∙ ap (weighed Z This) (sym (module-walk Op n S This fields));
          words = e.words ∙ sym w;
          after = other (holds_on (at + length (encode This)) (let l = body-ends d a t c at in omega arith) e.holds);
        }

    -- and where its table is full, so it is in the text
    overfull : ltb Most Pairs ≡ true → (mine : Table) → Ready (scope_at op card root chain at) mine (mappings Op This S) → length mine.words ≡ wide
        → (owner : ℕ) (held : Table) → length held.words ≡ wide
        → Applied op card root Most (suc n) chain at This S owner held (made [] (at + 1) at mine)
    unfolding full_table
    overfull many mine tabled x owner held w =
        record {
          full = rw many (omega arith);
          bytes = λ z. absurd (none-ne-some at (sym (rw many at z)));
          words = x ∙ sym w;
          after = other (record { from = le_refl at; before = (let l = encode-six This in omega arith); tabled = λ z. tabled });
        }

    mod-applied : (owner : ℕ) (held : Table) → length held.words ≡ wide → (owner ≡ at → Ready (scope_at op card root chain at) held (mappings Op This S))
        → Applied op card root Most (suc n) chain at This S owner held
        (module_made op card root (suc depth) chain (span at (at + length (encode This))) owner held)
    unfolding module_made mod_made body_made
    mod-applied owner held w tabled =
        let mine = table_of (scope_at op card root chain at) (suc depth) at owner held in
        let m-tabled = mine-ready depth n below chain fewer at This S here shallow owner held tabled in
        let m-long = mine-long depth n below chain fewer at This S here shallow owner held w in
        let says = count-says depth n below chain fewer at This S here shallow mine m-tabled m-long in
        by-test (ltb Most Pairs)
        (λ e. rw (span-there here.starts, alone-kind This here.canonical, says ∙ e) (overfull e mine m-tabled m-long owner held w))
        (λ e. rw (
          span-there here.starts,
          alone-kind This here.canonical,
          says ∙ e,
          mod-content d a t c here.canonical,
          ahead-is d a t c here.canonical,
          body-ends d a t c at,
          spans-are card From c body-canonical (body-starts d a t c here.starts),
        )
        (whole e mine m-tabled m-long owner held w (All mine) (body-declared e mine m-tabled m-long)))

  -- an ExternMod is left
  extern-none : (n : ℕ) (m : Record) (S : Path) (at : ℕ) → kind m ≡ 0x61 → full_table Op Most n m S at ≡ none
  unfolding full_table
  extern-none zero m S at e = refl
  extern-none (suc n) m S at e = rw e

  left-applied : (n : ℕ) (chain : List ℕ) (at : ℕ) (m : Record) (S : Path) → Fits m (one 0x61) → kind m ≡ 0x61 → (owner : ℕ) (held : Table)
      → Applied op card root Most n chain at m S owner held (made (encode m) 0 owner held)
  left-applied n chain at m S f e owner held =
      record {
        full = rw (extern-none n m S at e);
        bytes = λ z. sym (weighed-self Z m) ∙ ap (weighed Z m) (sym (extern-walk Op n S m f));
        words = refl;
        after = same refl refl;
      }

  extern-applied : (depth n : ℕ) (chain : List ℕ) (at : ℕ) (m : Record) (S : Path) → Stands op card root chain at m S → Fits m (one 0x61)
      → (owner : ℕ) (held : Table)
      → Applied op card root Most n chain at m S owner held (module_made op card root (suc depth) chain (span at (at + length (encode m))) owner held)
  unfolding module_made
  extern-applied depth n chain at m S here f owner held =
      let e : kind m ≡ 0x61 = one-kind 0x61 (kind m) (fits-stands m (one 0x61) f) in
      rw (span-there here.starts, alone-kind m here.canonical, e) (left-applied n chain at m S f e owner held)

law : (op : Shortening) (card root : Bytes) → length card ≤ 65536 → length root ≤ 65536 → (depth wide : ℕ) → Law op card root wide depth
law op card root small rooted zero wide n chain fewer at m S here shallow falls owner held w tabled = absurd (let l = deep-some m in omega arith)
law op card root small rooted (suc depth) wide zero chain fewer at m S here shallow falls owner held w tabled = absurd (let l = deep-some m in omega arith)
law op card root small rooted (suc depth) wide (suc n) chain fewer at m S here shallow falls owner held w tabled =
    by_kind 0x60 1 m (
    (λ g. let h = mod-fields m g in
    subst (λ (q : Record). Stands op card root chain at q S → deep q ≤ suc depth → deep q ≤ suc n
    → (owner ≡ at → Ready (scope_at op card root chain at) held (mappings (operation_of op) q S))
    → Applied op card root (min (wide / 4) 65535) (suc n) chain at q S owner held
    (module_made op card root (suc depth) chain (span at (at + length (encode q))) owner held))
    (sym h.is-mod)
    (λ here shallow falls tabled. mod-applied op card root small rooted wide depth n (law op card root small rooted depth) chain fewer at S
    h.doc h.attributes h.named h.body
    h.doc-fits h.attributes-fits h.named-fits h.body-fits here shallow falls owner held w tabled)
    here shallow falls tabled)
    ⨾ (λ g. extern-applied op card root small rooted wide depth (suc n) chain at m S here g owner held)) here.fits

-- THE LAW
pub module-applies : (op : Shortening) (card root : Bytes) → length card ≤ 65536 → length root ≤ 65536
    → (depth n : ℕ) (chain : List ℕ) → length chain + depth ≤ 48
    → (at : ℕ) (m : Record) (S : Path) → Stands op card root chain at m S → deep m ≤ depth → deep m ≤ n
    → (owner : ℕ) (held : Table) → (owner ≡ at → Ready (scope_at op card root chain at) held (mappings (operation_of op) m S))
    → Applied op card root (room held.words) n chain at m S owner held
    (module_made op card root depth chain (span at (at + length (encode m))) owner held)
module-applies op card root small rooted depth n chain fewer at m S here shallow falls owner held ready =
    law op card root small rooted depth (length held.words) n chain fewer at m S here shallow falls owner held refl ready
