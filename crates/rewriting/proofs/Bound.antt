-- HOW LONG WHAT IS WRITTEN CAN BE: of any bytes, so many times as long. Assumes nothing.
use mathlib.Core.Bool.{Bool, true, false, cond}
use mathlib.Core.List.{List, ◌++◌}
use Prim.Native.Nat.{ℕ, zero, suc, ◌+◌, ◌*◌, ◌-◌, ◌^◌, ◌≤◌}
use native.Mathlib.Nat.{mul-le-mul_left, mul-le-mul_right}
use native.Mathlib.Omega.{arith}
use lib.ListN.{length, length-append, length-take}
use lib.Dec.{eqb}
use Rattle.wire.specs.Numbers.{Bytes}
use Rattle.records.specs.Record.{record_bytes, length_of, kind_of, content_of, rest_of, first_record}
use Rattle.records.specs.Reading.{short}
use Rattle.records.proofs.Tree.{long-enough, record-length, content-length, rest-length}
use Rattle.rast.proofs.Tests.{by-test}
use Rattle.factor_paths.specs.Walk.{Step, a_type, an_expr, a_fn, left, holds, step_of, deeper}
use Rattle.operation.specs.Operations.{operation_of, weight_bytes}
use Rattle.operation.proofs.Weights.{weight-length, weight-small}
use Rattle.prefix.specs.Prefix.{Scope}
use Rattle.rewriting.specs.Replaces.{name_in, replaces_type, replaces_expr}
use Rattle.rewriting.specs.Shorts.{synonym_bytes, identifier_bytes, type_bytes, expr_bytes}
use Rattle.rewriting.specs.Rewrites.{parts_up_to, parts_of, each, counted, uncounted, stepped, rewrite, parts}
use Rattle.rewriting.proofs.Lengths.{synonyms-length, identifier-length, content-inside, rest-inside, name-within}

-- what is made of the parts of bytes, if each that is as long as a record gets at most f times as long
module _ (g : Bytes → Bytes) (f : ℕ) (bound : (r : Bytes) → 6 ≤ length r → length (g r) ≤ length r * f) where
  up_to-bound : (n : ℕ) (c : Bytes) → length (each g (parts_up_to n c)) ≤ length c * f
  unfolding parts_up_to each
  up_to-bound zero c = omega arith
  up_to-bound (suc n) c =
      by-test (short c) (λ t. rw t (omega arith))
      (λ t. rw t
      (let e = long-enough c t in
      let l = rest-length c t in
      let d = content-length c t in
      let a = length-take (4 + length_of c) c in
      let b = length-append (g (first_record c)) (each g (parts_up_to n (rest_of c))) in
      let i = up_to-bound n (rest_of c) in
      let h = bound (first_record c) (omega arith) in
      let m : (length (first_record c) + length (rest_of c)) * f ≤ length c * f = mul-le-mul_right f (omega arith) in
      omega arith))

  parts-bound : (c : Bytes) → length (each g (parts_of c)) ≤ length c * f
  unfolding parts_of
  parts-bound c = up_to-bound (length c) c

at_most : (m : ℕ) (b : Bool) (x y : Bytes) → length x ≤ m → length y ≤ m → length (cond b x y) ≤ m
at_most m true x y p q = p
at_most m false x y p q = q

-- a record of what is f times as long as a content, if it may be g times as long as the content and six more
held-bound : (k : ℕ) (c x : Bytes) (f g n : ℕ) → length c + 6 ≤ n → f ≤ g → 1 ≤ g → length x ≤ length c * f → length (record_bytes k x) ≤ n * g
held-bound k c x f g n h l p b =
    let a = record-length k x in
    let d : length c * f ≤ length c * g = mul-le-mul_left (length c) l in
    let e : (length c + 6) * g ≤ n * g = mul-le-mul_right g h in
    omega arith

module _ (s : Scope) (words : List ℕ) where
  weight-most : length (weight_bytes s.op) ≤ 2 ^ 24
  weight-most = let a = weight-length s.op in let b = weight-small s.op in omega arith

  type-bound : (w : ℕ) (r : Bytes) (n : ℕ) → 6 ≤ n → length r ≤ n → length (type_bytes s words w r) ≤ n * (2 ^ 24 + 1 + 3 * w)
  unfolding type_bytes
  type-bound w r n h l =
      let a = name-within r in
      let b = synonyms-length (name_in r) w r in
      let c : w * (18 + length (name_in r)) ≤ w * (3 * n) = mul-le-mul_left w (omega arith) in
      let d = length-append (synonym_bytes (name_in r) w r) (weight_bytes s.op) in
      let e = weight-most in
      at_most (n * (2 ^ 24 + 1 + 3 * w)) (replaces_type s words r) (synonym_bytes (name_in r) w r ++ weight_bytes s.op) r (omega arith) (omega arith)

  expr-bound : (r : Bytes) (n : ℕ) → 6 ≤ n → length r ≤ n → length (expr_bytes s words r) ≤ n * (2 ^ 24 + 1)
  unfolding expr_bytes
  expr-bound r n h l =
      let a = name-within r in
      let b = identifier-length (name_in r) in
      let d = length-append (identifier_bytes (name_in r)) (weight_bytes s.op) in
      let e = weight-most in
      at_most (n * (2 ^ 24 + 1)) (replaces_expr s words r) (identifier_bytes (name_in r) ++ weight_bytes s.op) r (omega arith) (omega arith)

  step-bound : (x : Step) (k w : ℕ) (this r q fn : Bytes) (m : ℕ) → length (type_bytes s words w this) ≤ m → length (expr_bytes s words this) ≤ m
      → length this ≤ m → length r ≤ m → length q ≤ m → length fn ≤ m → length (stepped s words x k w this r q fn) ≤ m
  step-bound a_type k w this r q fn m t e h i j l = at_most m (eqb k 0x2D) (type_bytes s words w this) r t i
  step-bound an_expr k w this r q fn m t e h i j l = at_most m (eqb k 0x5C) (expr_bytes s words this) r e i
  step-bound a_fn k w this r q fn m t e h i j l = l
  step-bound left k w this r q fn m t e h i j l = h
  step-bound holds k w this r q fn m t e h i j l = j

  deeper-most : (again : Bool) (w : ℕ) → deeper again w ≤ suc w
  deeper-most true w = omega arith
  deeper-most false w = omega arith

  abbrev Times : (depth w : ℕ) → ℕ
  Times depth w = 2 ^ 24 + 1 + 3 * (w + depth)

  abbrev Made : (depth : ℕ) → Bool → (w : ℕ) → Bytes → Bytes
  Made depth again w c = each (rewrite s words depth again w) (parts_of c)

  -- THE LAW: bytes that are at most n long, and n at least as long as a record, get at most so many times n long
  pub rewrite-bound : (depth : ℕ) (again : Bool) (w : ℕ) (r : Bytes) (n : ℕ) → 6 ≤ n → length r ≤ n
      → length (rewrite s words depth again w r) ≤ n * (2 ^ 24 + 1 + 3 * (w + depth))
  unfolding rewrite
  rewrite-bound zero again w r n h l = omega arith
  rewrite-bound (suc depth) again w r n h l =
      let c = content_of r in
      let k = kind_of r in
      let m = n * Times (suc depth) w in
      let i = content-inside r in
      let most : (a : Bool) (v : ℕ) (x : Bytes) → length (Made depth a v x) ≤ length x * Times depth v =
      λ a v. parts-bound (rewrite s words depth a v) (Times depth v) (λ y g. rewrite-bound depth a v y (length y) g (omega arith)) in
      let d = deeper-most again w in
      let t = type-bound w r n h l in
      let e = expr-bound r n h l in
      let x = Made depth false 1 (uncounted c) in
      let y = Made depth (operation_of s.op).walks_again 1 (counted c) in
      let u = most false 1 (uncounted c) in
      let v = most (operation_of s.op).walks_again 1 (counted c) in
      let a = length-take (length c - length (counted c)) c in
      let b = rest-inside c in
      let f = rest-inside (rest_of c) in
      let g = length-append x y in
      let z : (length (uncounted c) + length (counted c)) * Times depth 1 ≤ length c * Times depth 1 = mul-le-mul_right (Times depth 1) (omega arith) in
      step-bound (step_of k) k w r _ _ _ m (omega arith) (omega arith) (omega arith)
      (held-bound k c (Made depth again (deeper again w) c) (Times depth (deeper again w)) (Times (suc depth) w) n (omega arith) (omega arith) (omega arith)
      (most again (deeper again w) c))
      (held-bound k c (Made depth again w c) (Times depth w) (Times (suc depth) w) n (omega arith) (omega arith) (omega arith) (most again w c))
      (held-bound k c (x ++ y) (Times depth 1) (Times (suc depth) w) n (omega arith) (omega arith) (omega arith) (omega arith))

  -- what is written of a content's parts
  pub parts-most : (depth : ℕ) (again : Bool) (w : ℕ) (c : Bytes) → length (parts s words depth again w c) ≤ length c * (2 ^ 24 + 1 + 3 * (w + depth))
  unfolding parts
  parts-most depth again w c =
      parts-bound (rewrite s words depth again w) (Times depth w) (λ y g. rewrite-bound depth again w y (length y) g (omega arith)) c

  -- and of a declaration
  pub declaration-small : (depth : ℕ) (r : Bytes) → length r ≤ 65536 → depth ≤ 48 → length (rewrite s words depth false 1 r) ≤ 2 ^ 41
  declaration-small depth r h d = let b = rewrite-bound depth false 1 r 65536 (omega arith) h in omega arith
