-- Whether bytes are a selection of a name, test by test, and what a selection is compared by. Assumes nothing.
use mathlib.Core.Path.{◌≡◌, refl, ap, sym, ◌∙◌}
use mathlib.Core.List.{◌++◌, append_assoc}
use mathlib.Core.Bool.{Bool, true, false, not, ◌&&◌, and_comm}
use Prim.Native.Nat.{ℕ, ◌+◌, ◌-◌, ◌<◌, ◌≤◌}
use native.Mathlib.Omega.{arith}
use lib.ListN.{length, take, drop, length-append, length-drop}
use lib.Seq.{take-append_seam, length-take-le, drop-drop}
use borrow.Author.Tests.{not-true, not-false}
use Rattle.wire.specs.Numbers.{Bytes, le, same_bytes}
use Rattle.wire.proofs.Alike.{other_length, same-parts}
use Rattle.wire.proofs.Slices.{tail-is}
use Rattle.wire.proofs.Numbers.{same_bytes-self, same_bytes-true}
use Rattle.records.proofs.Tree.{record-length}
use Rattle.rast.proofs.Tests.{both_ways}
use Rattle.prefix.specs.Prefix.{selection, base_of, is_selection}

-- the first six bytes of a selection whose length says n
abbrev pub head : ℕ → Bytes
head n = le 4 n ++ le 2 0x13

pub selection-length : (base name : Bytes) → length (selection base name) ≡ 6 + (length base + length name)
selection-length base name = record-length 0x13 (base ++ name) ∙ ap (λ (n : ℕ). 6 + n) (length-append base name)

-- a path that is long enough, by its head, its base and its name
module _ (path name : Bytes) (room : 6 + length name ≤ length path) where
  base-length : length (base_of path name) ≡ length path - 6 - length name
  base-length = let d = length-drop 6 path in length-take-le (length path - 6 - length name) (drop 6 path) (omega arith)

  by-head : is_selection path name ≡ same_bytes path (head (length path - 4) ++ (base_of path name ++ name))
  by-head =
      let l = base-length in
      let a : length (base_of path name ++ name) ≡ length (base_of path name) + length name = length-append (base_of path name) name in
      let n : 2 + length (base_of path name ++ name) ≡ length path - 4 = omega arith in
      ap (λ (x : ℕ). same_bytes path (le 4 x ++ (le 2 0x13 ++ (base_of path name ++ name)))) n
      ∙ ap (same_bytes path) (sym (append_assoc (le 4 (length path - 4)) (le 2 0x13) (base_of path name ++ name)))

  after-head : same_bytes (drop 6 path) (base_of path name ++ name) ≡ same_bytes (drop (length path - length name) path) name
  after-head =
      let l = base-length in
      let d = length-drop 6 path in
      let e : 6 + (length path - 6 - length name) ≡ length path - length name = omega arith in
      sym (same-parts (drop 6 path) (base_of path name) name (omega arith))
      ∙ rw (l, same_bytes-self (base_of path name), drop-drop (length path - 6 - length name) 6 path, e)

  parts : same_bytes (drop (length path - length name) path) name && same_bytes (take 6 path) (head (length path - 4)) ≡ is_selection path name
  unfolding le
  parts =
      and_comm (same_bytes (drop (length path - length name) path) name) (same_bytes (take 6 path) (head (length path - 4)))
      ∙ ap (λ (b : Bool). same_bytes (take 6 path) (head (length path - 4)) && b) (sym after-head)
      ∙ same-parts path (head (length path - 4)) (base_of path name ++ name) (omega arith)
      ∙ sym by-head

  -- the name at the end, and then the head
  module _ (b : Bool) (e : b ≡ same_bytes (take (length path - (length path - length name)) (drop (length path - length name) path)) name) where
    by_name : b && same_bytes (take 6 path) (head (length path - 4)) ≡ is_selection path name
    by_name = rw (e, tail-is path (length path - length name)) parts

    pub select-other : not b ≡ true → false ≡ is_selection path name
    select-other n = rw (not-true b n) at by_name

    pub select-by-head : (r : Bool) → not b ≡ false → r ≡ same_bytes (take 6 path) (head (length path - 4)) → r ≡ is_selection path name
    select-by-head r n h = h ∙ (rw (not-false b n) at by_name)

pub select-few : (path name : Bytes) → length path < 6 + length name → false ≡ is_selection path name
select-few path name h = other_length path (selection (base_of path name) name) (λ e. let l = selection-length (base_of path name) name in omega arith)

-- a selection has room for a head and its name
pub select-room : (path name : Bytes) → is_selection path name ≡ true → 6 + length name ≤ length path
select-room path name h =
    let e : length path ≡ length (selection (base_of path name) name) = ap length (same_bytes-true path (selection (base_of path name) name) h) in
    let l = selection-length (base_of path name) name in
    omega arith

-- the base of a selection
base-is : (base name : Bytes) → base_of (selection base name) name ≡ base
unfolding le
base-is base name =
    let n : length (selection base name) - 6 - length name ≡ length base = (let l = selection-length base name in omega arith) in
    rw n (take-append_seam base name)

both_true : (a b : Bool) → (a && b) ≡ true → (a ≡ true) × (b ≡ true)
both_true true b h = (refl, h)
both_true false b h = (h, cc)

-- the selection of a base and a name is a selection of that name, and what it selects from is the base
pub select-base : (path base name : Bytes) → same_bytes path (selection base name) ≡ (is_selection path name && same_bytes (base_of path name) base)
select-base path base name =
    both_ways (same_bytes path (selection base name)) (is_selection path name && same_bytes (base_of path name) base) there back
  where
    there : same_bytes path (selection base name) ≡ true → (is_selection path name && same_bytes (base_of path name) base) ≡ true
    there h = rw (same_bytes-true path (selection base name) h, base-is base name, same_bytes-self (selection base name)) (same_bytes-self base)

    back : (is_selection path name && same_bytes (base_of path name) base) ≡ true → same_bytes path (selection base name) ≡ true
    back h =
        let t = both_true (is_selection path name) (same_bytes (base_of path name) base) h in
        rw (same_bytes-true (base_of path name) base t.1) at t.0
