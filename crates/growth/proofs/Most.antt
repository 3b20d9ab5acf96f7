-- HOW MUCH ANY BYTES CAN GROW BY: at most so many times their length, so that no sum of it is too large for a word. Assumes nothing.
use mathlib.Core.Path.{◌≡◌, ap}
use mathlib.Core.Bool.{Bool, true, false, ◌||◌, cond}
use Prim.Native.Nat.{ℕ, zero, suc, ◌+◌, ◌*◌, ◌-◌, ◌^◌, ◌≤◌}
use native.Mathlib.Nat.{mul-le-mul_left, mul-le-mul_right}
use native.Mathlib.Omega.{arith}
use lib.ListN.{length, length-take}
use lib.Dec.{eqb}
use Rattle.wire.specs.Numbers.{Bytes}
use Rattle.records.specs.Record.{length_of, kind_of, content_of, rest_of, first_record}
use Rattle.records.specs.Reading.{short}
use Rattle.records.specs.Kinds.{stands, type, expr}
use Rattle.records.proofs.Tree.{long-enough, content-length, rest-length}
use Rattle.rast.proofs.Tests.{by-test}
use Rattle.factor_paths.specs.Walk.{deeper}
use Rattle.operation.specs.declared.Shortening.{Shortening}
use Rattle.operation.specs.Operations.{operation_of}
use Rattle.rewriting.specs.Replaces.{name_in}
use Rattle.rewriting.specs.Rewrites.{parts_up_to, parts_of, counted, uncounted}
use Rattle.rewriting.proofs.Lengths.{content-inside, rest-inside, name-within}
use Rattle.growth.specs.Grows.{is_fixed, wraps_in, use_of, sum, growth, growth_all}

-- the sum over the parts of bytes, if each that is as long as a record grows by at most m times its length
module _ (f : Bytes → ℕ) (m : ℕ) (bound : (r : Bytes) → 6 ≤ length r → f r ≤ length r * m) where
  up_to-most : (n : ℕ) (c : Bytes) → sum f (parts_up_to n c) ≤ length c * m
  unfolding parts_up_to sum
  up_to-most zero c = omega arith
  up_to-most (suc n) c =
      by-test (short c) (λ t. rw t (omega arith))
      (λ t. rw t
      (let e = long-enough c t in
      let l = rest-length c t in
      let d = content-length c t in
      let a = length-take (4 + length_of c) c in
      let i = up_to-most n (rest_of c) in
      let h = bound (first_record c) (omega arith) in
      let k : (length (first_record c) + length (rest_of c)) * m ≤ length c * m = mul-le-mul_right m (omega arith) in
      omega arith))

  parts-most : (c : Bytes) → sum f (parts_of c) ≤ length c * m
  unfolding parts_of
  parts-most c = up_to-most (length c) c

at_most : (m : ℕ) (b : Bool) (x y : ℕ) → x ≤ m → y ≤ m → cond b x y ≤ m
at_most m true x y p q = p
at_most m false x y p q = q

deeper-most : (again : Bool) (w : ℕ) → deeper again w ≤ suc w
deeper-most true w = omega arith
deeper-most false w = omega arith

pub wraps-most : (again : Bool) (w k : ℕ) → wraps_in again w k ≤ suc w
wraps-most again w k = at_most (suc w) (stands type k || stands expr k) (deeper again w) w (deeper-most again w) (omega arith)

use-most : (charged : Bool) (n : ℕ) → 6 ≤ n → use_of charged n ≤ n * 4
use-most charged n h = at_most (n * 4) charged (13 + n) 0 (omega arith) (omega arith)

type-most : (charged : Bool) (w : ℕ) (r : Bytes) → 6 ≤ length r → w * (18 + length (name_in r)) + use_of charged (length r) ≤ length r * (4 + 3 * w)
type-most charged w r h =
    let a = name-within r in
    let u = use-most charged (length r) h in
    let c : w * (18 + length (name_in r)) ≤ w * (3 * length r) = mul-le-mul_left w (omega arith) in
    omega arith

-- a path type of a card
module _ (charged : Bool) (w : ℕ) (r name : Bytes) (h : w ≤ 65536) (l : length r ≤ 65536) (e : name ≡ name_in r) where
  pub type-fits : w * (18 + length name) ≤ 2 ^ 40
  type-fits =
      let a = name-within r in
      let b = ap length e in
      let c : w * (18 + length name) ≤ w * 65554 = mul-le-mul_left w (omega arith) in
      omega arith

  pub type-sum-fits : (u : ℕ) → u ≡ use_of charged (length r) → w * (18 + length name) + u ≤ 2 ^ 41
  type-sum-fits u f =
      let a = type-fits in
      let b : use_of charged (length r) ≤ 65549 = at_most 65549 charged (13 + length r) 0 (omega arith) (omega arith) in
      omega arith

  pub type-is : (u : ℕ) → u ≡ use_of charged (length r) → w * (18 + length name) + u ≡ w * (18 + length (name_in r)) + use_of charged (length r)
  type-is u f = rw (e, f)

-- what is f times as long as a content, where g times as long as its record will do
held-most : (c : Bytes) (x f g n : ℕ) → length c ≤ n → f ≤ g → x ≤ length c * f → x ≤ n * g
held-most c x f g n h l b =
    let d : length c * f ≤ length c * g = mul-le-mul_left (length c) l in
    let e : length c * g ≤ n * g = mul-le-mul_right g h in
    omega arith

module _ (op : Shortening) where
  abbrev Times : (depth w : ℕ) → ℕ
  Times depth w = 4 + 3 * (w + depth)

  growth-most : (depth : ℕ) (charged again : Bool) (w : ℕ) (r : Bytes) → 6 ≤ length r → growth op depth charged again w r ≤ length r * (4 + 3 * (w + depth))
  unfolding growth
  growth-most zero charged again w r h = omega arith
  growth-most (suc depth) charged again w r h =
      let c = content_of r in
      let k = kind_of r in
      let n = length r in
      let m = n * Times (suc depth) w in
      let i = content-inside r in
      let most : (u a : Bool) (v : ℕ) (x : Bytes) → sum (growth op depth u a v) (parts_of x) ≤ length x * Times depth v =
      λ u a v. parts-most (growth op depth u a v) (Times depth v) (λ y g. growth-most depth u a v y g) in
      let d = wraps-most again w k in
      let t = type-most charged w r h in
      let e = use-most charged n h in
      let u = most charged false 1 (uncounted c) in
      let v = most charged (operation_of op).walks_again 1 (counted c) in
      let a = length-take (length c - length (counted c)) c in
      let b = rest-inside c in
      let f = rest-inside (rest_of c) in
      let z : (length (uncounted c) + length (counted c)) * Times depth 1 ≤ length c * Times depth 1 = mul-le-mul_right (Times depth 1) (omega arith) in
      at_most m (is_fixed k) _ _ (omega arith)
      (at_most m (eqb k 0x2D) _ _ (omega arith)
      (at_most m (eqb k 0x5C) _ _ (omega arith)
      (at_most m (eqb k 0x7D) _ _
      (held-most c _ (Times depth 1) (Times (suc depth) w) n (omega arith) (omega arith) (omega arith))
      (held-most c _ (Times depth (wraps_in again w k)) (Times (suc depth) w) n (omega arith) (omega arith)
      (most (charged || eqb k 0x62) again (wraps_in again w k) c)))))

  -- THE LAW: what the records in some bytes grow by
  pub all_most : (depth : ℕ) (charged again : Bool) (w : ℕ) (c : Bytes) → growth_all op depth charged again w c ≤ length c * (4 + 3 * (w + depth))
  unfolding growth_all
  all_most depth charged again w c =
      parts-most (growth op depth charged again w) (Times depth w) (λ y g. growth-most depth charged again w y g) c

  pub all_small : (depth : ℕ) (charged again : Bool) (w : ℕ) (c : Bytes) → length c ≤ 65536 → w + depth ≤ 65536
      → growth_all op depth charged again w c ≤ 2 ^ 40
  all_small depth charged again w c h l =
      let a = all_most depth charged again w c in
      let b : length c * Times depth w ≤ 65536 * Times depth w = mul-le-mul_right (Times depth w) h in
      omega arith
