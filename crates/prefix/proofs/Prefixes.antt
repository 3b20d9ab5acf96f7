-- Peeling a path's names from the last to the first: what is left between two places is compared with what is left of the prefix. Assumes nothing.
use mathlib.Core.Path.{◌≡◌, refl, ap, sym, ◌∙◌}
use mathlib.Core.List.{List, [], ◌∷◌}
use mathlib.Core.Bool.{Bool, true, false, not, ◌&&◌, cond}
use Prim.Native.Nat.{ℕ, zero, suc, ◌+◌, ◌-◌, ◌<◌, ◌≤◌}
use native.Mathlib.Omega.{arith}
use lib.ListN.{length, take, drop, get_or, length-drop}
use lib.Seq.{take-take, take-nil, length-take-le, drop-drop}
use borrow.Author.Tests.{not-true, not-false}
use Rattle.wire.specs.Numbers.{Bytes, same_bytes}
use Rattle.rast.specs.Operation.{Operation}
use Rattle.wire.proofs.Slices.{tail-is}
use Rattle.records.specs.Record.{record_at}
use Rattle.prefix.specs.Prefix.{selection, base_of, is_selection, twice, prefix_up_to, prefix_of}
use Rattle.prefix.proofs.Selections.{select-base, select-room}

-- what is left of the path, between two places, is compared with what is left of the whole
pub record Peeled (path whole : Bytes) (from to : ℕ) (rest : Bytes) : Type 0 where
  pub ordered : from ≤ to
  pub inside : to ≤ length path
  pub same : same_bytes path whole ≡ same_bytes (take (to - from) (drop from path)) rest

peeled-none : (path whole : Bytes) → Peeled path whole 0 (length path) whole
peeled-none path whole = record { ordered = omega arith; inside = omega arith; same = ap (λ (s : Bytes). same_bytes s whole) (sym (tail-is path 0)) }

drop-take : (k n : ℕ) (s : Bytes) → drop k (take n s) ≡ take (n - k) (drop k s)
drop-take zero n s = let e : n - 0 ≡ n = omega arith in rw e
drop-take (suc k) zero s = let e : 0 - suc k ≡ 0 = omega arith in rw e
drop-take (suc k) (suc n) [] = sym (take-nil (suc n - suc k))
drop-take (suc k) (suc n) (b ∷ s) = let e : suc n - suc k ≡ n - k = omega arith in rw e (drop-take k n s)

-- the base of what is left stands between the two places that the name and its head leave
base-left : (path name : Bytes) (from to : ℕ) → to ≤ length path → from + 6 + length name ≤ to
    → base_of (take (to - from) (drop from path)) name ≡ take (to - length name - (from + 6)) (drop (from + 6) path)
base-left path name from to h k =
    let d = length-drop from path in
    let l : length (take (to - from) (drop from path)) ≡ to - from = length-take-le (to - from) (drop from path) (omega arith) in
    let e : to - from - 6 - length name ≡ to - length name - (from + 6) = omega arith in
    rw (
      l,
      drop-take 6 (to - from) (drop from path),
      take-take (to - from - 6 - length name) (to - from - 6) (drop 6 (drop from path)) (omega arith),
      drop-drop
          6 from path,
      e,
    )

-- the last name of what is left, by its test
module _ (path whole rest name : Bytes) (from to : ℕ) (p : Peeled path whole from to (selection rest name)) (b : Bool)
    (e : b ≡ is_selection (take (to - from) (drop from path)) name) where
  by_name : same_bytes path whole ≡ b && same_bytes (base_of (take (to - from) (drop from path)) name) rest
  by_name = rw e (p.same ∙ select-base (take (to - from) (drop from path)) rest name)

  peel-other : not b ≡ true → false ≡ same_bytes path whole
  peel-other n = sym (rw (not-true b n) at by_name)

  peel-room : not b ≡ false → from + 6 + length name ≤ to
  peel-room n =
      let d = length-drop from path in
      let i = p.inside in
      let l : length (take (to - from) (drop from path)) ≡ to - from = length-take-le (to - from) (drop from path) (omega arith) in
      let r = select-room (take (to - from) (drop from path)) name (sym e ∙ not-false b n) in
      omega arith

  peel-next : not b ≡ false → Peeled path whole (from + 6) (to - length name) rest
  peel-next n =
      let r = peel-room n in
      let i = p.inside in
      record {
        ordered = omega arith;
        inside = omega arith;
        same = (rw (not-false b n) at by_name) ∙ ap (λ (s : Bytes). same_bytes s rest) (base-left path name from to p.inside (peel-room n));
      }

-- what the name of the module after the first n of the chain is selected from
abbrev under : Operation → (card root : Bytes) → List ℕ → ℕ → Bytes → Bytes
under op card root chain n name = cond (twice op n) (selection (prefix_up_to op card root chain n) name) (prefix_up_to op card root chain n)

name-last : (op : Operation) (card root : Bytes) (chain : List ℕ) (n : ℕ) (name : Bytes) → name ≡ record_at card (get_or chain n 0)
    → prefix_up_to op card root chain (suc n) ≡ selection (under op card root chain n name) name
unfolding prefix_up_to
name-last op card root chain n name e = rw (← e) (go (twice op n) (prefix_up_to op card root chain n))
  where
    go : (t : Bool) (s : Bytes) → cond t (selection (selection s name) name) (selection s name) ≡ selection (cond t (selection s name) s) name
    go true s = refl
    go false s = refl

-- the names of the first i modules of the chain are left
pub record Left (op : Operation) (path card root : Bytes) (chain : List ℕ) (from to i : ℕ) : Type 0 where
  pub counted : i ≤ length chain
  pub peeled : Peeled path (prefix_of op card root chain) from to (prefix_up_to op card root chain i)

pub left-all : (op : Operation) (path card root : Bytes) (chain : List ℕ) → Left op path card root chain 0 (length path) (length chain)
unfolding prefix_of
left-all op path card root chain = record { counted = omega arith; peeled = peeled-none path (prefix_of op card root chain) }

pub left-none : (op : Operation) (path card root : Bytes) (chain : List ℕ) (from to i : ℕ) (r : Bool) → i ≤ 0 → Left op path card root chain from to i
    → r ≡ same_bytes (take (to - from) (drop from path)) root → r ≡ same_bytes path (prefix_of op card root chain)
unfolding prefix_up_to
left-none op path card root chain from to i r z l e = let n : i ≡ 0 = omega arith in e ∙ sym (rw n at l.peeled.same)

-- the last of the names that are left, as it was read
module _ (op : Operation) (path card root : Bytes) (chain : List ℕ) (from to i : ℕ) (some : 0 < i) (l : Left op path card root chain from to i) (name : Bytes)
    (is_name : name ≡ record_at card (get_or chain (i - 1) 0)) where
  last : Peeled path (prefix_of op card root chain) from to (selection (under op card root chain (i - 1) name) name)
  last = let n : suc (i - 1) ≡ i = omega arith in rw (← name-last op card root chain (i - 1) name is_name, n) l.peeled

  module _ (b : Bool) (e : b ≡ is_selection (take (to - from) (drop from path)) name) where
    pub name-other : not b ≡ true → false ≡ same_bytes path (prefix_of op card root chain)
    name-other = peel-other path (prefix_of op card root chain) (under op card root chain (i - 1) name) name from to last b e

    pub name-room : not b ≡ false → from + 6 + length name ≤ to
    name-room = peel-room path (prefix_of op card root chain) (under op card root chain (i - 1) name) name from to last b e

    once : not b ≡ false → Peeled path (prefix_of op card root chain) (from + 6) (to - length name) (under op card root chain (i - 1) name)
    once = peel-next path (prefix_of op card root chain) (under op card root chain (i - 1) name) name from to last b e

    module _ (t : Bool) (f : t ≡ twice op (i - 1)) where
      -- a name that stands once
      pub once-next : not b ≡ false → t ≡ false → Left op path card root chain (from + 6) (to - length name) (i - 1)
      once-next n z = let c = l.counted in record { counted = omega arith; peeled = rw (← f, z) at (once n) }

      -- and one that stands twice
      module _ (n : not b ≡ false) (y : t ≡ true) where
        again : Peeled path (prefix_of op card root chain) (from + 6) (to - length name) (selection (prefix_up_to op card root chain (i - 1)) name)
        again = rw (← f, y) at (once n)

        module _ (b2 : Bool) (e2 : b2 ≡ is_selection (take (to - length name - (from + 6)) (drop (from + 6) path)) name) where
          pub again-other : not b2 ≡ true → false ≡ same_bytes path (prefix_of op card root chain)
          again-other = peel-other path (prefix_of op card root chain) (prefix_up_to op card root chain (i - 1)) name (from + 6) (to - length name) again b2 e2

          pub again-room : not b2 ≡ false → from + 6 + 6 + length name ≤ to - length name
          again-room = peel-room path (prefix_of op card root chain) (prefix_up_to op card root chain (i - 1)) name (from + 6) (to - length name) again b2 e2

          pub twice-next : not b2 ≡ false → Left op path card root chain (from + 6 + 6) (to - length name - length name) (i - 1)
          twice-next k =
              let c = l.counted in
              record {
                counted = omega arith;
                peeled = peel-next path (prefix_of op card root chain) (prefix_up_to op card root chain (i - 1)) name (from + 6) (to - length name) again b2 e2 k;
              }
