-- A card's declarations have room: a Fn lies so deep in a card that its types, where they count, are wrapped at most 40 times. Assumes nothing.
use mathlib.Core.Path.{◌≡◌, refl, sym, subst, ◌∙◌}
use mathlib.Core.List.{[], ◌∷◌}
use mathlib.Core.Bool.{Bool, true, false, ◌||◌, cond, false≢true}
use Prim.Native.Nat.{ℕ, ◌+◌, ◌*◌, ◌≤◌}
use native.Mathlib.Omega.{arith}
use lib.Dec.{eqb}
use borrow.Author.Tests.{eqb-true, eq-eqb}
use Rattle.records.specs.Record.{Record, Records, leaf, node, nil, ◌▸◌, kind, is_leaf, deep, deep_all}
use Rattle.records.specs.Kinds.{Place, kinds, stands, path, type, expr, Content, bytes, these, any, at_most_one, row_of, content_at}
use Rattle.records.proofs.Fits.{Stands, StandsAll, Fits, FitsAll}
use Rattle.records.proofs.Run.{◌⨾◌}
use Rattle.records.proofs.ByRow.{by_row, by-kinds, row-content}
use Rattle.records.proofs.Leaves.{fits-stands, one-kind}
use Rattle.rast.specs.Operation.{Operation}
use Rattle.rast.proofs.Tests.{by-test}
use Rattle.factor_paths.specs.Mapping.{FinalReplacement}
use Rattle.factor_paths.specs.Walk.{a_type, an_expr, a_fn, left, holds, step_of, walk}
use Rattle.factor_paths.proofs.Tidy.{fits-paths}
use Rattle.size.specs.Bound.{times}
use Rattle.size.proofs.Sizes.{size}
use Rattle.size.proofs.Walked.{charge, counts, most-one, Space, Room, Starts, Fns, FnsAll, space-room, walk-size}

-- only a Fn is walked as one
fn-kind : (k : ℕ) → step_of k ≡ a_fn → k ≡ 0x7D
fn-kind k e =
    eqb-true k 0x7D (go (stands type k) (stands expr k) (eqb k 0x7D) (is_leaf k || stands path k || stands (kinds 0x60 0x62) k || eqb k 0x6A || eqb k 0x80) e)
  where
    go : (t u v l : Bool) → cond t a_type (cond u an_expr (cond v a_fn (cond l left holds))) ≡ a_fn → v ≡ true
    go true u v l e = cc
    go false true v l e = cc
    go false false true l e = refl
    go false false false true e = cc
    go false false false false e = cc

module _ (op : Operation) where
  -- there is space in a Fn's field, whether it counts or not
  from_one : (d : ℕ) → d ≤ 42 → Space op op.walks_again 1 d
  from_one d h = by-test op.walks_again (λ e. rw e (omega arith)) (λ e. rw e (omega arith))

  -- a record that counts for nothing itself, as a field of a Fn
  field_room : (r : Record) (k : ℕ) → counts (step_of k) ≡ false → eqb (kind r) k ≡ true → deep r ≤ 43 → Room op op.walks_again 1 r
  unfolding deep
  field_room (leaf j b) k f e h = tt
  field_room (node j c) k f e h = rw (eqb-true j k e, f) (from_one (deep_all c) (omega arith))

  -- the fields of a Fn: a Text, then Lists
  fn-starts : (c : Records) → FitsAll c (these (row_of 0x7D)) → deep_all c ≤ 43 → Starts op c
  unfolding row_of Starts deep
  fn-starts =
      by_row (row_of 0x7D) (λ c. deep_all c ≤ 43 → Starts op c)
      (λ a f b g c h d i e j l. field_room a 0x01 refl (eq-eqb (kind a) 0x01 (one-kind 0x01 (kind a) (fits-stands a _ f))) (omega arith)
      ⨾ field_room b 0x02 refl (fits-stands b _ g) (omega arith)
      ⨾ field_room c 0x02 refl (fits-stands c _ h) (omega arith)
      ⨾ field_room d 0x02 refl (fits-stands d _ i) (omega arith)
      ⨾ field_room e 0x02 refl (fits-stands e _ j) (omega arith)
      ⨾ tt)

  -- in a record that is at most 44 deep every Fn has room
  mutual
    unfolding Stands StandsAll Fns deep

    fits-fns : (r : Record) (p : Place) → Fits r p → deep r ≤ 44 → Fns op r
    fits-fns (leaf k b) p f h = tt
    fits-fns (node k c) p f h = (
      (λ e. let same = fn-kind k e in
          fn-starts c (subst (λ t. FitsAll c t) (row-content p 0x7D (omega arith) (rw same at f.0)) (rw same at f.1)) (omega arith)),
      fits-fns-all c (content_at p k) f.1 (omega arith),
    )

    fits-fns-all : (c : Records) (t : Content) → FitsAll c t → deep_all c ≤ 44 → FnsAll op c
    fits-fns-all nil t f h = tt
    fits-fns-all (r ▸ c) bytes f h = absurd f
    fits-fns-all (r ▸ c) (these []) f h = absurd f
    fits-fns-all (r ▸ c) (these (p ∷ ps)) f h = (fits-fns r p f.0 (omega arith), fits-fns-all c (these ps) f.1 (omega arith))
    fits-fns-all (r ▸ c) (any p) f h = (fits-fns r p f.0 (omega arith), fits-fns-all c (any p) f.1 (omega arith))
    fits-fns-all (r ▸ c) (at_most_one p) f h = (fits-fns r p f.0 (omega arith), fits-fns-all c (these []) f.1 (omega arith))

  -- a Fn lies two deeper than a declaration, or deeper
  declared-fns : (k : ℕ) (p : Place) → eqb k 0x7D ≡ false → stands p 0x7D ≡ false → (r : Record) → Fits r p → deep (node k (r ▸ nil)) ≤ 46
      → Fns op (node k (r ▸ nil))
  unfolding Stands Fns deep
  declared-fns k p n s r f h = ((λ e. absurd (false≢true (sym n ∙ eq-eqb k 0x7D (fn-kind k e)))), held r f (omega arith) ⨾ tt)
    where
      held : (r : Record) → Fits r p → deep r ≤ 45 → Fns op r
      held (leaf j b) f h = tt
      held (node j c) f h = ((λ e. absurd (false≢true (sym s ∙ (rw (fn-kind j e) at f.0)))), fits-fns-all c (content_at p j) f.1 (omega arith))

  -- what the walk makes of a declaration, with what its paths are charged, is at most so many times as large
  pub declared-size : (rep : FinalReplacement) (d : Record) → Fits d (kinds 0x62 0x6A) → deep d ≤ 46
      → size (walk op rep false 1 d) + charge d ≤ times op * size d
  unfolding row_of
  declared-size rep d f h =
      walk-size op rep d false 1 (fits-paths d (kinds 0x62 0x6A) f)
      (by-kinds (λ d. deep d ≤ 46 → Fns op d) 0x62 8 (omega arith)
      (declared-fns 0x62 _ refl refl ⨾ declared-fns 0x63 _ refl refl ⨾ declared-fns 0x64 _ refl refl ⨾ declared-fns 0x65 _ refl refl
      ⨾ declared-fns 0x66 _ refl refl ⨾ declared-fns 0x67 _ refl refl ⨾ declared-fns 0x68 _ refl refl ⨾ declared-fns 0x69 _ refl refl
      ⨾ declared-fns 0x6A _ refl refl) d f h)
      (space-room op false 1 d (most-one op))
