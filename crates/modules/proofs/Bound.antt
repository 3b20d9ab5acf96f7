-- HOW LONG WHAT IS WRITTEN OF A MODULE CAN BE: of any bytes, by any words. Assumes nothing.
use mathlib.Core.Path.{◌≡◌}
use mathlib.Core.Bool.{Bool, true, false, ◌||◌, ◌&&◌, false≢true, true≢false}
use mathlib.Core.List.{List, [], ◌∷◌, ◌++◌}
use Prim.Native.Nat.{ℕ, zero, suc, ◌+◌, ◌*◌, ◌-◌, ◌%◌, ◌^◌, ◌≤◌}
use native.Mathlib.Nat.{mul-le-mul_left}
use native.Mathlib.Omega.{arith}
use lib.ListN.{length, take, drop, get_or, length-append, length-take, length-drop}
use lib.Dec.{eqb, ltb}
use borrow.Author.Tests.{ne_eqb, ltb-true, ltb-false}
use Rattle.wire.specs.Numbers.{Bytes, between}
use Rattle.wire.proofs.Numbers.{same_bytes-self, num-past}
use Rattle.records.specs.Record.{record_bytes, length_of, kind_of, content_of}
use Rattle.records.specs.Reading.{short}
use Rattle.records.proofs.Tree.{record-length}
use Rattle.rast.proofs.Tests.{by-test, one_of}
use Rattle.operation.specs.declared.Shortening.{Shortening}
use Rattle.operation.specs.Operations.{same_paths, weight_bytes}
use Rattle.operation.proofs.Weights.{weight-length, weight-small}
use Rattle.prefix.specs.Prefix.{Scope, scope, selection}
use Rattle.comparing.specs.Compares.{place_in, base_at, same_base}
use Rattle.chains.specs.declared.Want.TheVariants.{Named}
use Rattle.chains.specs.Chains.{room, name_at, number_at, word_at, next_of, is_wanted, seek}
use Rattle.pairs.specs.Stored.{Stored, stored}
use Rattle.pairs.specs.Choice.{use_bytes}
use Rattle.adding.specs.Adds.{Table, table}
use Rattle.adding.specs.Settles.{own_words, free_words}
use Rattle.choosing.specs.Chooses.{chosen_pair, use_pair}
use Rattle.choosing.specs.Picks.{uses_of}
use Rattle.fields.specs.Fields.{name_place}
use Rattle.gathering.specs.Gathers.{Span, span, spans_up_to, spans_in}
use Rattle.gathering.proofs.Spans.{between-length, span_fits}
use Rattle.tables.specs.Tables.{table_of, has_room, is_small, last_words}
use Rattle.rewriting.specs.Imports.{weighed_uses, imports_bytes}
use Rattle.rewriting.specs.Rewrites.{declaration}
use Rattle.rewriting.proofs.Lengths.{content-inside}
use Rattle.rewriting.proofs.Bound.{rewrite-bound}
use Rattle.modules.specs.Modules.{Made, made, body_in, ahead_in, behind, nested_made, saved_made, beside_made, inner_made, each_made, mod_made}
use Rattle.modules.specs.Modules.{declaration_made, body_made, module_made}

-- the uses: each has a name and a base that stand in the card
same_self : (op : Shortening) (x : Bytes) → same_paths op x x ≡ true
same_self op x = same_bytes-self x

part-fits : (n at : ℕ) (card : Bytes) → length (take n (drop at card)) ≤ length card
part-fits n at card =
    let a = length-take n (drop at card) in
    let b = length-drop at card in
    omega arith

-- a word that says another base than the prefix has a place in the card
other_place : (s : Scope) (v : ℕ) → same_base s v 0 ≡ false → place_in v ≡ 0 → ⊥
unfolding same_base
other_place s v h e = true≢false (rw (e, same_self s.op (base_at s 0)) at h)

base-fits : (s : Scope) (v : ℕ) → same_base s v 0 ≡ false → length (base_at s (place_in v)) ≤ length s.card
unfolding base_at
base-fits s v h = rw (ne_eqb (place_in v) 0 (other_place s v h)) (part-fits (4 + length_of (drop (place_in v) s.card)) (place_in v) s.card)

either-false : (a b : Bool) → (a || b) ≡ false → b ≡ false
either-false true b h = absurd (true≢false h)
either-false false b h = h

module _ (s : Scope) (words : List ℕ) where
  Brought : ℕ → Type 0
  Brought g = (eqb g 0 ≡ false) → length (base_at s (place_in (word_at words (g - 1)))) ≤ length s.card

  none-brought : Brought 0
  unfolding Brought
  none-brought h = absurd (true≢false h)

  use-fits : (g : ℕ) → Brought (use_pair s words g)
  unfolding use_pair Brought
  use-fits g =
      let name = name_at s.card words (g - 1) in
      let number = number_at words (g - 1) in
      let chosen = chosen_pair s words name number in
      one_of Brought (eqb g 0 || ltb (room words) g) none-brought
      (one_of Brought (eqb (place_in (word_at words (g - 1))) 0) none-brought
      (one_of Brought (ltb 0 (seek (is_wanted s words name number Named) words (next_of words g))) none-brought
      (by-test (eqb chosen 0 || same_base s (word_at words (chosen - 1)) 0)
      (λ t. rw t none-brought)
      (λ t. rw t (λ h. base-fits s (word_at words (chosen - 1)) (either-false (eqb chosen 0) (same_base s (word_at words (chosen - 1)) 0) t))))))

use-length : (u : Stored) → length (use_bytes u) ≡ 31 + length u.base + length u.name
use-length u =
    let name = record_bytes 0x01 u.name in
    let pub-kept = record_bytes 0x03 (1 ∷ []) in
    let path = selection u.base name in
    let a = record-length 0x01 u.name in
    let b = length-append u.base name in
    let c = record-length 0x13 (u.base ++ name) in
    let d = record-length 0x03 (1 ∷ []) in
    let e = length-append pub-kept path in
    let f = record-length 0x80 (pub-kept ++ path) in
    let g = record-length 0x6A (record_bytes 0x80 (pub-kept ++ path)) in
    omega arith

module _ (s : Scope) (words : List ℕ) (small : length s.card ≤ 65536) where
  abbrev Z : Bytes
  Z = weight_bytes s.op

  abbrev Use : ℕ → Stored
  Use i = stored (name_at s.card words i) (base_at s (place_in (word_at words (use_pair s words (suc i) - 1))))

  one_more : (i n : ℕ) (us : List Stored) → eqb (use_pair s words (suc i)) 0 ≡ false → length (weighed_uses Z us) ≤ n * (2 ^ 24 + 131103)
      → length (use_bytes (Use i) ++ (Z ++ weighed_uses Z us)) ≤ suc n * (2 ^ 24 + 131103)
  unfolding Brought
  one_more i n us t rest =
      let a = use-fits s words (suc i) t in
      let b = part-fits (get_or words (4 * i + 1) 0) (get_or words (4 * i) 0 % 65536) s.card in
      let c = use-length (Use i) in
      let d = length-append (use_bytes (Use i)) (Z ++ weighed_uses Z us) in
      let e = length-append Z (weighed_uses Z us) in
      let f = weight-length s.op in
      let g = weight-small s.op in
      omega arith

  uses-bound : (i n : ℕ) → length (weighed_uses Z (uses_of s words i n)) ≤ n * (2 ^ 24 + 131103)
  unfolding uses_of weighed_uses
  uses-bound i zero = omega arith
  uses-bound i (suc n) =
      let rest = uses-bound (suc i) n in
      by-test (eqb (use_pair s words (suc i)) 0) (λ t. rw t (omega arith)) (λ t. rw t (one_more i n (uses_of s words (suc i) n) t rest))

  -- those of as many pairs as there is room for
  pub imports-bound : (n : ℕ) → length (imports_bytes s words n) ≤ 2 ^ 42
  unfolding imports_bytes
  imports-bound n =
      by-test (ltb 65536 (length s.card) || ltb (room words) n)
      (λ t. rw t (omega arith))
      (λ t. rw t
      (let l = ltb-false (room words) n (either-false (ltb 65536 (length s.card)) (ltb (room words) n) t) in
      let b = uses-bound 0 n in
      omega arith))

-- what is made of the records from one place to another, if each is made at most so many times as long
module _ (card : Bytes) (f : Span → ℕ → Table → Made) (bound : (from to : ℕ) → from + 6 ≤ to → to ≤ length card → (owner : ℕ) (held : Table)
    → length (f (span from to) owner held).bytes ≤ (to - from) * 2 ^ 40) where
  up_to-bound : (n from to : ℕ) → to ≤ length card → (m : Made)
      → length (each_made f (spans_up_to card n from to) m).bytes ≤ length m.bytes + (to - from) * 2 ^ 40
  unfolding spans_up_to each_made behind
  up_to-bound zero from to h m = omega arith
  up_to-bound (suc n) from to h m =
      by-test (short (between card from to)) (λ t. rw t (omega arith))
      (λ t. rw t
      (let end = from + 4 + length_of (between card from to) in
      let e = span_fits card from to t in
      let x = e.0 in
      let y = e.1 in
      let d = f (span from end) m.owner m.held in
      let b = bound from end (omega arith) (omega arith) m.owner m.held in
      let a = length-append m.bytes d.bytes in
      let i = up_to-bound n end to h (behind m d) in
      omega arith))

  pub each-bound : (from to : ℕ) → to ≤ length card → (m : Made)
      → length (each_made f (spans_in card from to) m).bytes ≤ length m.bytes + (to - from) * 2 ^ 40
  unfolding spans_in
  each-bound from to h m = up_to-bound (to - from) from to h m

-- a kind that is not zero takes five bytes
kind-long : (r : Bytes) → eqb (kind_of r) 0x60 ≡ true → 5 ≤ length r
kind-long r h =
    by-test (ltb 4 (length r)) (λ t. omega (arith, ltb-true))
    (λ t. absurd (false≢true (rw (num-past r 4 2 (ltb-false 4 (length r) t)) at h)))

module _ (op : Shortening) (card root : Bytes) (small : length card ≤ 65536) where
  abbrev Bounded : (List ℕ → Span → ℕ → Table → Made) → Type 0
  Bounded f = (chain : List ℕ) (from to : ℕ) → from ≤ to → to ≤ length card → (owner : ℕ) (held : Table)
      → length (f chain (span from to) owner held).bytes ≤ (to - from) * 2 ^ 40

  abbrev Most : ℕ → Made → Type 0
  Most n m = length m.bytes ≤ n

  declaration-short : (s : Scope) (words : List ℕ) (depth : ℕ) → depth ≤ 48 → (from to : ℕ) → from + 6 ≤ to
      → length (declaration s words depth (between card from to)) ≤ (to - from) * 2 ^ 40
  unfolding declaration
  declaration-short s words depth d from to l =
      let r = between card from to in
      let i = rewrite-bound s words depth false 1 r (to - from) (omega arith) (between-length card from to) in
      let m : (to - from) * (2 ^ 24 + 1 + 3 * (1 + depth)) ≤ (to - from) * (2 ^ 24 + 148) = mul-le-mul_left (to - from) (omega arith) in
      one_of (λ (x : Bytes). length x ≤ (to - from) * 2 ^ 40) (ltb 65536 (length r) || ltb 48 depth) (omega arith) (omega arith)

  module _ (f : List ℕ → Span → ℕ → Table → Made) (bounded : Bounded f) (depth : ℕ) (deep : depth ≤ 48) (chain : List ℕ) (at : ℕ) where
    pub inner-most : (from to : ℕ) → from + 6 ≤ to → to ≤ length card → (owner : ℕ) (held : Table)
        → length (inner_made (f chain) at (span from to) owner held).bytes ≤ (to - from) * 2 ^ 40
    unfolding inner_made saved_made beside_made nested_made
    inner-most from to l h owner held =
        one_of (Most ((to - from) * 2 ^ 40)) (eqb owner at && is_small held (to - from)) (nested 65537 (table 0 (last_words held (to - from))))
        (one_of (Most ((to - from) * 2 ^ 40)) (eqb owner at && has_room held (to - from)) (nested 65537 (table 0 (free_words held))) (nested owner held))
      where
        nested : (o : ℕ) (t : Table) → length (record_bytes 0x62 (f chain (span (from + 6) to) o t).bytes) ≤ (to - from) * 2 ^ 40
        nested o t =
            let i = bounded chain (from + 6) to l h o t in
            let a = record-length 0x62 (f chain (span (from + 6) to) o t).bytes in
            omega arith

    pub declaration-most : (from to : ℕ) → from + 6 ≤ to → to ≤ length card → (owner : ℕ) (held : Table)
        → length (declaration_made op card root f depth chain at (span from to) owner held).bytes ≤ (to - from) * 2 ^ 40
    unfolding declaration_made
    declaration-most from to l h owner held =
        one_of (Most ((to - from) * 2 ^ 40)) (eqb (kind_of (between card from to)) 0x62)
        (inner-most from to l h owner held)
        (declaration-short (scope op card root chain) (own_words (table_of (scope op card root chain) depth at owner held)) depth deep from to l)

    pub body-most : (from to : ℕ) → to ≤ length card → (mine : Table)
        → length (body_made op card root f depth chain at (span from to) mine).bytes ≤ 6 + 2 ^ 42 + (to - (from + 6)) * 2 ^ 40
    unfolding body_made
    body-most from to h mine =
        let uses = imports_bytes (scope op card root chain) (own_words mine) mine.count in
        let m = each_made (declaration_made op card root f depth chain at) (spans_in card (from + 6) to) (made [] 0 at mine) in
        let a = imports-bound (scope op card root chain) (own_words mine) small mine.count in
        let b = each-bound card (declaration_made op card root f depth chain at) declaration-most (from + 6) to h (made [] 0 at mine) in
        let c = length-append uses m.bytes in
        let d = record-length 0x02 (uses ++ m.bytes) in
        omega arith

  body-here : (f : List ℕ → Span → ℕ → Table → Made) → Bounded f → (depth : ℕ) → depth ≤ 48 → (chain : List ℕ) (at to : ℕ) → at ≤ to → to ≤ length card
      → (mine : Table) → 5 ≤ length (between card at to)
      → length (mod_made (content_of (between card at to))
      (body_made op card root f depth chain at (span (at + 6 + length (ahead_in (content_of (between card at to)))) to) mine)).bytes ≤ (to - at) * 2 ^ 40
  unfolding mod_made
  body-here f bounded depth deep chain at to l h mine five =
      let r = between card at to in
      let c = content_of r in
      let ahead = ahead_in c in
      let b = body_made op card root f depth chain at (span (at + 6 + length ahead) to) mine in
      let i = between-length card at to in
      let j = content-inside r in
      let k = length-take (length c - length (body_in c)) c in
      let m = body-most f bounded depth deep chain at (at + 6 + length ahead) to h mine in
      let n = length-append ahead b.bytes in
      let o = record-length 0x60 (ahead ++ b.bytes) in
      omega arith

  -- THE LAW
  pub module-bound : (depth : ℕ) → depth ≤ 48 → (chain : List ℕ) (from to : ℕ) → from ≤ to → to ≤ length card → (owner : ℕ) (held : Table)
      → length (module_made op card root depth chain (span from to) owner held).bytes ≤ (to - from) * 2 ^ 40
  unfolding module_made
  module-bound zero d chain from to l h owner held = let a = between-length card from to in omega arith
  module-bound (suc depth) d chain from to l h owner held =
      let r = between card from to in
      let inner = chain ++ (name_place card from ∷ []) in
      let mine = table_of (scope op card root inner) (suc depth) from owner held in
      let a = between-length card from to in
      by-test (eqb (kind_of r) 0x60)
      (λ t. rw t
      (one_of (Most ((to - from) * 2 ^ 40)) (ltb (room mine.words) mine.count) (omega arith)
      (body-here (module_made op card root depth) (module-bound depth (omega arith)) (suc depth) d inner from to l h mine (kind-long r t))))
      (λ t. rw t (omega arith))

  module _ (below : ℕ) (b : below ≤ 48) (depth : ℕ) (d : depth ≤ 48) (chain : List ℕ) (at : ℕ) where
    -- a declaration, those from one place to another, and a body, of a module whose modules go at most so deep
    pub declaration-bound : (from to : ℕ) → from + 6 ≤ to → to ≤ length card → (owner : ℕ) (held : Table)
        → length (declaration_made op card root (module_made op card root below) depth chain at (span from to) owner held).bytes ≤ (to - from) * 2 ^ 40
    declaration-bound = declaration-most (module_made op card root below) (module-bound below b) depth d chain at

    pub declarations-bound : (from to : ℕ) → to ≤ length card → (m : Made)
        → length (each_made (declaration_made op card root (module_made op card root below) depth chain at) (spans_in card from to) m).bytes
        ≤ length m.bytes + (to - from) * 2 ^ 40
    declarations-bound = each-bound card (declaration_made op card root (module_made op card root below) depth chain at) declaration-bound

    pub body-bound : (from to : ℕ) → to ≤ length card → (mine : Table)
        → length (body_made op card root (module_made op card root below) depth chain at (span from to) mine).bytes
        ≤ 6 + 2 ^ 42 + (to - (from + 6)) * 2 ^ 40
    body-bound = body-most (module_made op card root below) (module-bound below b) depth d chain at

  -- of any part of the card
  pub module-small : (depth : ℕ) → depth ≤ 48 → (chain : List ℕ) (from to : ℕ) → from ≤ to → to ≤ length card → (owner : ℕ) (held : Table)
      → length (module_made op card root depth chain (span from to) owner held).bytes ≤ 2 ^ 60
  module-small depth d chain from to l h owner held = let b = module-bound depth d chain from to l h owner held in omega arith
