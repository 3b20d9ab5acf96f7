-- The path of a type or an expression, test by test, and where its parts stand in the card. Assumes nothing.
use mathlib.Core.Path.{◌≡◌, refl, ap, sym, ◌∙◌}
use mathlib.Core.Bool.{Bool, true, false, cond, or-true}
use Prim.Native.Nat.{ℕ, ◌+◌, ◌-◌, ◌^◌, ◌<◌, ◌≤◌}
use native.Mathlib.Omega.{arith}
use lib.ListN.{length, take, drop, length-take, length-drop}
use lib.Dec.{ltb}
use borrow.Author.Tests.{ne_eqb, lt-ltb, le-ltb}
use Rattle.wire.specs.Numbers.{Bytes, same_bytes, num, between}
use Rattle.wire.proofs.Within.{Within, within_all, within-take, within-drop, within-front, within-length}
use Rattle.records.specs.Record.{encode, length_of, kind_of, content_of, rest_of, first_record, record_at}
use Rattle.records.specs.Reading.{short}
use Rattle.records.proofs.Tree.{Enough, long-enough}
use Rattle.rast.specs.Path.{Self}
use Rattle.rast.proofs.Tests.{one_of}
use Rattle.factor_paths.specs.PathsVisitor.{marked}
use Rattle.factor_paths.specs.LookUp.{bare}
use Rattle.prefix.specs.Prefix.{Scope}
use Rattle.adding.specs.Adds.{Table, added}
use Rattle.visiting.specs.Visits.{unfit, visit_path}

-- a record that is within a part of the card is the one that stands there
pub record-within : (card : Bytes) (at : ℕ) (p : Bytes) → Within card at p → short p ≡ false → record_at card at ≡ first_record p
record-within card at p w h =
    let e : Enough p = long-enough p h in
    let six = e.six in
    let four : length_of p ≡ length_of (drop at card) = ap num (within-front card at p w 4 (omega arith)) in
    ap (λ (n : ℕ). take (4 + n) (drop at card)) (sym four) ∙ sym (within-front card at p w (4 + length_of p) e.inside)

module _ (card : Bytes) (from to : ℕ) where
  pub unfit-long : 65536 < length card → unfit card from to ≡ true
  unfit-long h = rw (lt-ltb 65536 (length card) h)

  pub unfit-back : to < from → unfit card from to ≡ true
  unfit-back h = rw (lt-ltb to from h) (or-true (ltb 65536 (length card)))

  pub fit : length card ≤ 65536 → from ≤ to → unfit card from to ≡ false
  fit h g = rw (le-ltb 65536 (length card) h, le-ltb to from g)

-- where the parts of a path stand: p is what it holds, and its name follows its base
module _ (card : Bytes) (from to : ℕ) (c p : Bytes) (e : c ≡ between card from to) (g : p ≡ content_of c) where
  pub p-within : Within card (from + 6) p
  p-within = rw g (within-take card (from + 6) (drop 6 c) (within-drop card from c (within_all card from (to - from) c e) 6) (length_of c - 2))

  pub name-within : Within card (from + 6 + 10 + length_of p) (content_of (rest_of p))
  name-within =
      let at : from + 6 + 10 + length_of p ≡ from + 6 + (4 + length_of p) + 6 = omega arith in
      rw at (within-take card _ (drop 6 (rest_of p)) (within-drop card _ (rest_of p) (within-drop card (from + 6) p p-within (4 + length_of p)) 6)
      (length_of (rest_of p) - 2))

  pub as-within : (inExpr : Bool) → Within card (from + 6 + 10 + length_of p) (cond inExpr (bare (content_of (rest_of p))) (content_of (rest_of p)))
  as-within inExpr =
      let n = content_of (rest_of p) in
      let w = name-within in
      one_of (Within card (from + 6 + 10 + length_of p)) inExpr
      (one_of (Within card (from + 6 + 10 + length_of p)) (marked n) (within-take card _ n w (length n - 1)) w) w

  -- they fit: the place of the base, that of the name, and its length
  pub p-fits : short p ≡ false → from ≤ to → (from + 12 ≤ length card) × (from + 6 + 10 + length_of p ≤ length card + 6)
  p-fits h l =
      let w = within-length card (from + 6) p p-within in
      let a = length-take (length_of c - 2) (drop 6 c) in
      let b = length-drop 6 c in
      let d : length p ≡ length (take (length_of c - 2) (drop 6 c)) = ap length g in
      let x : length c ≡ length (between card from to) = ap length e in
      let y = length-take (to - from) (drop from card) in
      let z = length-drop from card in
      let r = long-enough p h in
      let i = r.inside in
      let s = r.six in
      (omega arith, omega arith)

  pub len-fits : (inExpr : Bool) (len : ℕ) (rest name : Bytes) → rest ≡ rest_of p → name ≡ content_of rest → len ≡ length (cond inExpr (bare name) name)
      → len ≤ length card
  len-fits inExpr len rest name u w x =
      let z = within-length card (from + 6 + 10 + length_of p) _ (as-within inExpr) in
      let y : len ≡ length (cond inExpr (bare (content_of (rest_of p))) (content_of (rest_of p))) = x ∙ rw (w, u) in
      omega arith

-- what is added, test by test
module _ (s : Scope) (t : Table) (from to : ℕ) (inExpr : Bool) where
  abbrev After : Table
  After = visit_path (added s) s.card inExpr t from to

  pub path-unfit : unfit s.card from to ≡ true → t ≡ After
  unfolding visit_path
  path-unfit h = rw h

  module _ (h : unfit s.card from to ≡ false) (c : Bytes) (e : c ≡ between s.card from to) (k : ℕ) (f : k ≡ kind_of c) where
    is-kind : kind_of (between s.card from to) ≡ k
    is-kind = ap kind_of (sym e) ∙ sym f

    pub path-other : (k ≡ 0x13 → ⊥) → t ≡ After
    unfolding visit_path
    path-other n = rw (h, is-kind, ne_eqb k 0x13 n)

    module _ (n : k ≡ 0x13) (p : Bytes) (g : p ≡ content_of c) (b : Bool) (i : b ≡ short p) where
      is-part : content_of (between s.card from to) ≡ p
      is-part = ap content_of (sym e) ∙ sym g

      pub path-short : b ≡ true → t ≡ After
      unfolding visit_path
      path-short j = rw (h, is-kind, n, is-part, ← i, j)

      module _ (j : b ≡ false) (r : Bytes) (o : r ≡ first_record p) (d : Bool) (q : d ≡ same_bytes r (encode Self)) where
        is-self : same_bytes (first_record p) (encode Self) ≡ d
        is-self = ap (λ (x : Bytes). same_bytes x (encode Self)) (sym o) ∙ sym q

        pub path-self : d ≡ true → t ≡ After
        unfolding visit_path
        path-self m = rw (h, is-kind, n, is-part, ← i, j, is-self, m)

        module _ (m : d ≡ false) (l len : ℕ) (rest name : Bytes) (v : l ≡ length_of p) (u : rest ≡ rest_of p) (w : name ≡ content_of rest)
            (x : len ≡ length (cond inExpr (bare name) name)) where
          long : len ≡ length (cond inExpr (bare (content_of (rest_of p))) (content_of (rest_of p)))
          long = x ∙ rw (w, u)

          pub path-added : (a : Table) → a ≡ added s t (from + 6 + 10 + l) len (from + 6) → a ≡ After
          unfolding visit_path
          path-added a y = y ∙ rw (h, is-kind, n, is-part, ← i, j, is-self, m, v, long)
