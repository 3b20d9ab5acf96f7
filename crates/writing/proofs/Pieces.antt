-- What the members of the ring write, from what those that they call do: parts of out that are lent and come back, and heads laid once what is behind them is.
-- Assumes nothing.
use mathlib.Core.Path.{◌≡◌, refl, sym, ap, ap₂, subst, ◌∙◌}
use mathlib.Core.Bool.{Bool, true, false, ◌&&◌, and-eq-true_iff}
use mathlib.Core.List.{List, [], ◌++◌, append-nil}
use Prim.Native.Nat.{ℕ, ◌+◌, ◌-◌, ◌*◌, ◌/◌, ◌≤◌, min}
use native.Mathlib.Nat.{zero-add}
use native.Mathlib.Omega.{arith}
use lib.ListN.{length, take, drop, length-append, length-take, length-drop, replicate, length-replicate, drop_of_length-le, take-append-drop}
use lib.Seq.{take_all, take_at, length-take-le}
use lib.Dec.{eqb, leb}
use borrow.Author.Tests.{eq-eqb, ne_eqb, leb-true, leb-false}
use Rattle.rast.proofs.Tests.{by-test}
use Rattle.wire.specs.Numbers.{Bytes, between}
use Rattle.records.specs.Record.{record_bytes, kind_of, content_of, rest_of}
use Rattle.records.proofs.Tree.{record-length}
use Rattle.operation.specs.declared.Shortening.{Shortening}
use Rattle.prefix.specs.Prefix.{scope}
use Rattle.adding.specs.Adds.{Table, table}
use Rattle.adding.specs.Settles.{own_words}
use Rattle.gathering.specs.Gathers.{Span, span, spans_in}
use Rattle.tables.specs.Tables.{table_of, has_room, is_small, last_words}
use Rattle.tables.proofs.Beside.{own-taken}
use Rattle.work.specs.Copies.{over}
use Rattle.work.proofs.Copied.{over-whole, over_first}
use Rattle.laying.specs.Lays.{lay, Laid}
use Rattle.laying.proofs.Laws.{lay-part, lay-behind}
use Rattle.heads.specs.Heads.{head_bytes}
use Rattle.heads.proofs.Laws.{laid-record}
use Rattle.rewriting.specs.Imports.{imports_bytes}
use Rattle.rewriting.specs.Rewrites.{declaration}
use Rattle.rewriting.proofs.Lengths.{rest-inside}
use Rattle.modules.specs.Modules.{Made, made, body_in, ahead_in, nested_made, saved_made, beside_made, inner_made, each_made, declaration_made, body_made, mod_made}
use Rattle.writing.specs.Wrote.{Wrote}

-- the part of out that is lent from a place on, and out when it is back
abbrev pub lent : Bytes → ℕ → Bytes
lent out q = take (length out - q) (drop q out)

abbrev pub back : Bytes → ℕ → Bytes → Bytes
back out q part = take q out ++ (part ++ drop (length out - q) (drop q out))

lent-whole : (out : Bytes) (q : ℕ) → lent out q ≡ drop q out
lent-whole out q = take_all (length out - q) (drop q out) (omega (arith, length-drop q out))

back_end : (out : Bytes) (q : ℕ) (part : Bytes) → back out q part ≡ take q out ++ part
back_end out q part =
    ap (λ (x : Bytes). take q out ++ (part ++ x)) (drop_of_length-le (drop q out) {i = length out - q} (let d = length-drop q out in omega arith))
    ∙ ap (λ (x : Bytes). take q out ++ x) (append-nil part)

pub lent_back : (out : Bytes) (at q : ℕ) (b part : Bytes) → q ≡ min at (length out) → part ≡ lay (lent out q) 0 b → back out q part ≡ lay out at b
lent_back out at q b part e f =
    rw (f ∙ ap (λ (x : Bytes). lay x 0 b) (lent-whole out q)) (lay-part out at q b e)

-- b laid over the part behind a head, then the head
pub headed : (out : Bytes) (q k n : ℕ) (b part after : Bytes) → q ≡ min 6 (length out) → part ≡ lay (lent out q) 0 b → n ≡ 2 + length b
    → after ≡ lay (back out q part) 0 (head_bytes n k) → after ≡ lay out 0 (record_bytes k b)
headed out q k n b part after e f l h =
    (laid-record out 0 k b (6 + length b) (back out q part) after (record { ends = refl; bytes = lent_back out 6 q b part e f })
    (rw (l ∙ long) at h)).bytes
  where
    long : 2 + length b ≡ 6 + length b - 0 - 4
    long = omega arith

-- two pieces behind a head: a in one way or another, then b over the part behind it, then the head
pub headed-two : (out o₁ : Bytes) (p k n : ℕ) (a b part after : Bytes) → o₁ ≡ lay out 6 a → p ≡ min (length a + 6) (length o₁) → part ≡ lay (lent o₁ p) 0 b
    → n ≡ 2 + (length a + length b) → after ≡ lay (back o₁ p part) 0 (head_bytes n k) → after ≡ lay out 0 (record_bytes k (a ++ b))
headed-two out o₁ p k n a b part after d e f l h =
    (laid-record out 0 k (a ++ b) (6 + length (a ++ b)) (back o₁ p part) after
    (record { ends = refl; bytes = lent_back o₁ (length a + 6) p b part e f ∙ rw (d, turned) (lay-behind out 6 a b) })
    (rw (l ∙ long) at h)).bytes
  where
    turned : length a + 6 ≡ 6 + length a
    turned = omega arith

    long : 2 + (length a + length b) ≡ 6 + length (a ++ b) - 0 - 4
    long = let c = length-append a b in omega arith

-- the words that pairs take, as the code lends them, and those behind them
module _ (words : List ℕ) (pairs k : ℕ) (e : k ≡ min (4 * pairs) (length words)) where
  free-lent : lent words k ≡ drop (4 * pairs) words
  free-lent =
      lent-whole words k
      ∙ by-test (leb (4 * pairs) (length words))
      (λ t. let l = leb-true (4 * pairs) (length words) t in let z : k ≡ 4 * pairs = omega arith in rw z)
      (λ t. let l = leb-false (4 * pairs) (length words) t in
      drop_of_length-le words {i = k} (omega arith) ∙ sym (drop_of_length-le words {i = 4 * pairs} (omega arith)))

  free_back : (part : List ℕ) → back words k part ≡ take (4 * pairs) words ++ part
  free_back part = back_end words k part ∙ ap (λ (x : List ℕ). x ++ part) (own-taken words pairs k e)

-- words that were lent, and as they were then put back
put_back : (words₀ words : List ℕ) (k : ℕ) → k ≤ length words₀ → back (back words₀ k words) k (lent words₀ k) ≡ words₀
put_back words₀ words k h =
    back_end (back words₀ k words) k (lent words₀ k)
    ∙ ap₂ (λ (x y : List ℕ). take k x ++ y) (back_end words₀ k words) (lent-whole words₀ k)
    ∙ ap (λ (x : List ℕ). x ++ drop k words₀) (take_at (take k words₀) words k (length-take-le k words₀ h)) ∙ take-append-drop k words₀

-- the last words, which are put aside
module _ (n pairs : ℕ) (words₀ : List ℕ) (small : is_small (table pairs words₀) n ≡ true) where
  -- what so many bytes collect takes at most 256 words, and there are as many
  pub small-fits : (n / 18 ≤ 64) × (4 * (n / 18) ≤ length words₀)
  unfolding is_small
  small-fits =
      let g = (and-eq-true_iff (leb (n / 18) 64) (leb (4 * (n / 18)) (length words₀))).0 small in
      (leb-true _ _ g.0, leb-true _ _ g.1)

  abbrev From : ℕ
  From = length words₀ - 4 * (n / 18)

  last-long : length (lent words₀ From) ≡ 4 * (n / 18)
  last-long = let i = small-fits.1 in simp (length-take, length-drop) (omega arith)

  module _ (aside : List ℕ) (s : aside ≡ over (lent words₀ From) (replicate 256 0)) where
    aside-is : take (4 * (n / 18)) aside ≡ lent words₀ From
    aside-is =
        let a = last-long in
        let i = small-fits.0 in
        let r = length-replicate {A = ℕ} 256 0 in
        ap₂ take (sym a) s ∙ over_first (lent words₀ From) (replicate 256 0) (omega arith)

    pub aside-long : 4 * (n / 18) ≡ length (take (4 * (n / 18)) aside)
    aside-long = sym (ap length aside-is ∙ last-long)

    -- there are as many again to put them back to
    last-again : (words : List ℕ) → length words ≡ length (lent words₀ From)
        → over (take (4 * (n / 18)) aside) (lent (back words₀ From words) From) ≡ lent words₀ From
    last-again words e =
        let i = small-fits.1 in
        let a = last-long in
        let b : length (back words₀ From words) ≡ length (take From words₀) + length words =
        ap length (back_end words₀ From words) ∙ length-append (take From words₀) words in
        let c = length-take-le From words₀ (omega arith) in
        let d = length-drop From (back words₀ From words) in
        let z : length (drop From (back words₀ From words)) ≡ 4 * (n / 18) = omega arith in
        over-whole (take (4 * (n / 18)) aside) (lent (back words₀ From words) From)
        (sym aside-long ∙ sym (ap length (lent-whole (back words₀ From words) From) ∙ z)) ∙ aside-is

-- a nested module: it is written over the part of out behind its declaration's head, then the head
module _ (f : Span → ℕ → Table → Made) (at from to owner₀ pairs₀ : ℕ) (words₀ : List ℕ) (out : Bytes) (q : ℕ) (e : q ≡ min 6 (length out)) (part : Bytes)
    (words : List ℕ) (len full owner pairs : ℕ) (after : Bytes) (h : after ≡ lay (back out q part) 0 (head_bytes (len + 2) 0x62)) where
  module-gives : (m : Made) → Wrote (lent out q) part words len full owner pairs m → (words' : List ℕ) (owner' pairs' o : ℕ) (held : Table) → owner' ≡ o
      → table pairs' words' ≡ held → Wrote out after words' (len + 6) full owner' pairs' (saved_made o held m)
  unfolding saved_made
  module-gives m w words' owner' pairs' o held x y =
      record {
        length-is = (let l = record-length 0x62 m.bytes in omega (arith, w.length-is, l));
        laid = headed out q 0x62 (len + 2) m.bytes part after e w.laid (omega (arith, w.length-is)) h;
        full_is = w.full_is;
        owner-is = x;
        held-is = y;
      }

  -- with other words than those by which it is said, which are the same
  lent_gives : (v v' : List ℕ) → v ≡ v' → Wrote (lent out q) part words len full owner pairs (f (span (from + 6) to) 65537 (table 0 v))
      → Wrote (lent out q) part words len full owner pairs (f (span (from + 6) to) 65537 (table 0 v'))
  lent_gives v v' x w = rw x at w

  -- with the last words, put aside and put back
  module _ (small : is_small (table pairs₀ words₀) (to - from) ≡ true) where
    abbrev Last : ℕ
    Last = From (to - from) pairs₀ words₀ small

    pub saved-gives : (aside : List ℕ) → aside ≡ over (lent words₀ Last) (replicate 256 0)
        → Wrote (lent out q) part words len full owner pairs (f (span (from + 6) to) 65537 (table 0 (lent words₀ Last)))
        → length words ≡ length (lent words₀ Last)
        → (again : List ℕ) → again ≡ over (take (4 * ((to - from) / 18)) aside) (lent (back words₀ Last words) Last)
        → Wrote out after (back (back words₀ Last words) Last again) (len + 6) full at pairs₀ (saved_made at (table pairs₀ words₀)
        (f (span (from + 6) to) 65537 (table 0 (last_words (table pairs₀ words₀) (to - from)))))
    unfolding last_words
    saved-gives aside s w k again g =
        let v = lent_gives (lent words₀ Last) (drop Last words₀) (lent-whole words₀ Last) w in
        module-gives _ v (back (back words₀ Last words) Last again) at pairs₀ at (table pairs₀ words₀) refl
        (ap (table pairs₀) (ap (back (back words₀ Last words) Last) (g ∙ last-again (to - from) pairs₀ words₀ small aside s words k)
        ∙ put_back words₀ words Last (omega arith)))

  module _ (small test : Bool) (x : small ≡ (eqb owner₀ at && is_small (table pairs₀ words₀) (to - from)))
      (y : test ≡ (eqb owner₀ at && has_room (table pairs₀ words₀) (to - from))) (no : small ≡ false) where
    -- beside the table that the words hold
    pub beside-gives : test ≡ true → (k : ℕ) → k ≡ min (4 * pairs₀) (length words₀)
        → Wrote (lent out q) part words len full owner pairs (f (span (from + 6) to) 65537 (table 0 (lent words₀ k)))
        → Wrote out after (back words₀ k words) (len + 6) full at pairs₀ (inner_made f at (span from to) owner₀ (table pairs₀ words₀))
    unfolding inner_made beside_made
    beside-gives t k z w =
        let v = lent_gives (lent words₀ k) (drop (4 * pairs₀) words₀) (free-lent words₀ pairs₀ k z) w in
        rw (sym x ∙ no, sym y ∙ t)
        (module-gives _ v (back words₀ k words) at pairs₀ at _ refl
        (ap (table pairs₀) (free_back words₀ pairs₀ k z words ∙ ap (λ (x : Table). take (4 * pairs₀) words₀ ++ x.words) v.held-is)))

    -- and with all words
    pub alone-gives : test ≡ false → Wrote (lent out q) part words len full owner pairs (f (span (from + 6) to) owner₀ (table pairs₀ words₀))
        → Wrote out after words (len + 6) full owner pairs (inner_made f at (span from to) owner₀ (table pairs₀ words₀))
    unfolding inner_made nested_made saved_made
    alone-gives t w = rw (sym x ∙ no, sym y ∙ t) (module-gives _ w words owner pairs _ _ w.owner-is w.held-is)

-- the words are as many as they were
pub saved-keeps : {out after : Bytes} {words : List ℕ} {len full owner pairs : ℕ} (at : ℕ) (held : Table) (m : Made)
    → Wrote out after words len full owner pairs (saved_made at held m) → length words ≡ length held.words
unfolding saved_made
saved-keeps at held m w = ap (λ (t : Table). length t.words) w.held-is

-- a small one
module _ (f : Span → ℕ → Table → Made) (at from to owner₀ pairs₀ : ℕ) (words₀ : List ℕ) (small : Bool)
    (x : small ≡ (eqb owner₀ at && is_small (table pairs₀ words₀) (to - from))) (t : small ≡ true) where
  pub small-known : is_small (table pairs₀ words₀) (to - from) ≡ true
  small-known = ((and-eq-true_iff (eqb owner₀ at) (is_small (table pairs₀ words₀) (to - from))).0 (sym x ∙ t)).1

  pub small-gives : (out after : Bytes) (words : List ℕ) (len full owner pairs : ℕ)
      → Wrote out after words len full owner pairs (saved_made at (table pairs₀ words₀)
      (f (span (from + 6) to) 65537 (table 0 (last_words (table pairs₀ words₀) (to - from)))))
      → Wrote out after words len full owner pairs (inner_made f at (span from to) owner₀ (table pairs₀ words₀))
  unfolding inner_made
  small-gives out after words len full owner pairs w = rw (sym x ∙ t) w

module _ (op : Shortening) (card root : Bytes) where
  -- a declaration that holds a module
  module _ (f : List ℕ → Span → ℕ → Table → Made) (depth : ℕ) (chain : List ℕ) (at from to owner₀ : ℕ) (held : Table) (d : Bytes)
      (y : d ≡ between card from to) (k : ℕ) (z : k ≡ kind_of d) where
    pub inner-gives : k ≡ 0x62 → (out after : Bytes) (words : List ℕ) (len full owner pairs : ℕ)
        → Wrote out after words len full owner pairs (inner_made (f chain) at (span from to) owner₀ held)
        → Wrote out after words len full owner pairs (declaration_made op card root f depth chain at (span from to) owner₀ held)
    unfolding declaration_made
    inner-gives n out after words len full owner pairs w = rw (eq-eqb (kind_of (between card from to)) 0x62 (sym (ap kind_of y) ∙ sym z ∙ n)) w

    -- and any other, by the module's table
    pub other-gives : (k ≡ 0x62 → ⊥) → (out : Bytes) (words : List ℕ) (pairs own n : ℕ) (after : Bytes)
        → table pairs words ≡ table_of (scope op card root chain) depth at owner₀ held → own ≡ min (4 * pairs) (length words)
        → Laid out 0 (declaration (scope op card root chain) (take own words) depth d) n after
        → Wrote out after words n 0 at pairs (declaration_made op card root f depth chain at (span from to) owner₀ held)
    unfolding declaration_made
    other-gives b out words pairs own n after e o x =
        let u : Laid out 0 (declaration (scope op card root chain) (take (4 * pairs) words) depth d) n after =
        subst (λ (v : List ℕ). Laid out 0 (declaration (scope op card root chain) v depth d) n after) (own-taken words pairs own o) x in
        rw (ne_eqb (kind_of (between card from to)) 0x62 (λ i. b (z ∙ ap kind_of y ∙ i)), ← e)
        (record {
          length-is = rw y at (u.ends ∙ zero-add (length (declaration (scope op card root chain) (take (4 * pairs) words) depth d)));
          laid = rw y at u.bytes;
          full_is = refl;
          owner-is = refl;
          held-is = refl;
        })

  -- a body: its uses, then its declarations
  module _ (f : List ℕ → Span → ℕ → Table → Made) (depth : ℕ) (chain : List ℕ) (at from to : ℕ) (mine : Table) where
    abbrev Uses : Bytes
    Uses = imports_bytes (scope op card root chain) (own_words mine) mine.count

    abbrev Each : Made
    Each = each_made (declaration_made op card root f depth chain at) (spans_in card (from + 6) to) (made [] 0 at mine)

    pub body-gives : (out : Bytes) (q k u p : ℕ) (part part' : Bytes) (words : List ℕ) (len full owner pairs : ℕ) (after : Bytes) → q ≡ min 6 (length out)
        → k ≡ min (4 * mine.count) (length mine.words)
        → Laid (lent out q) 0 (imports_bytes (scope op card root chain) (take k mine.words) mine.count) u part
        → p ≡ min (u + 6) (length (back out q part)) → Wrote (lent (back out q part) p) part' words len full owner pairs Each
        → after ≡ lay (back (back out q part) p part') 0 (head_bytes (u + len + 2) 2)
        → Wrote out after words (u + len + 6) full owner pairs (body_made op card root f depth chain at (span from to) mine)
    unfolding body_made
    body-gives out q k u p part part' words len full owner pairs after e o x' g w h =
        let x : Laid (lent out q) 0 Uses u part =
        subst (λ (v : List ℕ). Laid (lent out q) 0 (imports_bytes (scope op card root chain) v mine.count) u part) (own-taken mine.words mine.count k o) x'
        in
        record {
          length-is =
              (let l = record-length 0x02 (Uses ++ Each.bytes) in
              let n = length-append Uses Each.bytes in
              omega (arith, w.length-is, x.ends, l, n));
          laid =
              headed-two out (back out q part) p 0x02 (u + len + 2) Uses Each.bytes part' after (lent_back out 6 q Uses part e x.bytes)
              (g ∙ ap (λ (n : ℕ). min (n + 6) (length (back out q part))) (x.ends ∙ zero-add (length Uses))) w.laid (omega (arith, w.length-is, x.ends))
              h;
          full_is = w.full_is;
          owner-is = w.owner-is;
          held-is = w.held-is;
        }

  -- what stands ahead of a body, by the slices that the code has
  module _ (r c a b d ahead : Bytes) (y : c ≡ content_of r) (p₁ : a ≡ rest_of c) (p₂ : b ≡ rest_of a) (p₃ : d ≡ rest_of b) (n : ℕ) (p₄ : n ≡ length c - length d)
    where
      pub body-inside : length d ≤ length c
      body-inside =
          let i = rest-inside c in
          let j = rest-inside a in
          let k = rest-inside b in
          let s = ap length p₁ in
          let t = ap length p₂ in
          let u = ap length p₃ in
          omega arith

      is_body : d ≡ body_in (content_of r)
      is_body = p₃ ∙ ap rest_of (p₂ ∙ ap rest_of (p₁ ∙ ap rest_of y))

      pub ahead-is : ahead ≡ take n (drop 0 c) → ahead ≡ ahead_in (content_of r)
      ahead-is e = e ∙ rw (p₄, is_body, y)

      pub ahead-long : n ≡ length (ahead_in (content_of r))
      ahead-long =
          p₄ ∙ rw (is_body, y)
          (sym (length-take (length (content_of r) - length (body_in (content_of r))) (content_of r) ∙ least (length (content_of r)) (length (body_in (content_of r)))))
        where
          least : (m k : ℕ) → min (m - k) m ≡ m - k
          least m k = omega arith

  -- a Mod, of its content c and its body
  pub mod-gives : (c : Bytes) (m : Made) (ahead out o₁ : Bytes) (f q : ℕ) (part : Bytes) (words : List ℕ) (len full owner pairs : ℕ) (after : Bytes)
      → ahead ≡ ahead_in c → f ≡ length (ahead_in c) → o₁ ≡ lay out 6 ahead → q ≡ min (f + 6) (length o₁) → Wrote (lent o₁ q) part words len full owner pairs m
      → after ≡ lay (back o₁ q part) 0 (head_bytes (f + len + 2) 0x60) → Wrote out after words (f + len + 6) full owner pairs (mod_made c m)
  unfolding mod_made
  mod-gives c m ahead out o₁ f q part words len full owner pairs after a l d e w h =
      record {
        length-is =
            (let x = record-length 0x60 (ahead_in c ++ m.bytes) in
            let n = length-append (ahead_in c) m.bytes in
            omega (arith, w.length-is, l, x, n));
        laid =
            headed-two out o₁ q 0x60 (f + len + 2) (ahead_in c) m.bytes part after (d ∙ ap (lay out 6) a)
            (e ∙ ap (λ (n : ℕ). min (n + 6) (length o₁)) l) w.laid (omega (arith, w.length-is, l)) h;
        full_is = w.full_is;
        owner-is = w.owner-is;
        held-is = w.held-is;
      }

-- the same, by the slices that the code has
pub mod-all : (op : Shortening) (card root : Bytes) (f : List ℕ → Span → ℕ → Table → Made) (depth : ℕ) (chain : List ℕ) (at to : ℕ) (mine : Table)
    (out r : Bytes)
    → r ≡ between card at to → (c a b d : Bytes) → c ≡ content_of r → a ≡ rest_of c → b ≡ rest_of a → d ≡ rest_of b → (n : ℕ) → n ≡ length c - length d
    → (ahead o₁ : Bytes) (q : ℕ) (part : Bytes) (words : List ℕ) (len full owner pairs : ℕ) (after : Bytes) → ahead ≡ take n (drop 0 c) → o₁ ≡ lay out 6 ahead
    → q ≡ min (n + 6) (length o₁) → Wrote (lent o₁ q) part words len full owner pairs (body_made op card root f depth chain at (span (at + 6 + n) to) mine)
    → after ≡ lay (back o₁ q part) 0 (head_bytes (n + len + 2) 0x60)
    → Wrote out after words (n + len + 6) full owner pairs (mod_made (content_of (between card at to))
    (body_made op card root f depth chain at (span (at + 6 + length (ahead_in (content_of (between card at to)))) to) mine))
mod-all op card root f depth chain at to mine out r y c a b d e p₁ p₂ p₃ n p₄ ahead o₁ q part words len full owner pairs after g h i w j =
    let e' : c ≡ content_of (between card at to) = e ∙ ap content_of y in
    let l = ahead-long op card root (between card at to) c a b d ahead e' p₁ p₂ p₃ n p₄ in
    mod-gives op card root (content_of (between card at to)) _ ahead out o₁ n q part words len full owner pairs after
    (ahead-is op card root (between card at to) c a b d ahead e' p₁ p₂ p₃ n p₄ g) l h i
    (subst (λ (x : ℕ). Wrote (lent o₁ q) part words len full owner pairs (body_made op card root f depth chain at (span (at + 6 + x) to) mine)) l w) j
