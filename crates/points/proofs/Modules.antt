-- The points of a module: the uses put ahead of its body, and its declarations beside those of the output. Assumes nothing.
use mathlib.Core.Path.{◌≡◌, refl, ap, ap₂, sym, subst, subst₂, ◌∙◌}
use mathlib.Core.Bool.{true, false, ◌&&◌}
use Prim.Native.Nat.{ℕ, zero, suc, ◌+◌, ◌-◌, ◌≤◌}
use native.Mathlib.Omega.{arith}
use lib.Dec.{lit≤}
use borrow.Author.Tests.{eqb-true, eqb-false, le-leb}
use Rattle.records.specs.Record.{Record, Records, leaf, node, nil, ◌▸◌, ◌▸▸◌, kind, nth, set_nth, is, count, first, skip, map_all, deep, deep_all}
use Rattle.records.specs.Kinds.{kinds, one, stands, mod', any, row_of, content_at}
use Rattle.records.proofs.Fits.{Stands, StandsAll, Fits, FitsAll}
use Rattle.records.proofs.Run.{within}
use Rattle.records.proofs.Leaves.{fits-stands}
use Rattle.records.proofs.ByRow.{by-kinds}
use Rattle.records.proofs.Closed.{holds_at, fits-of}
use Rattle.rast.specs.Path.{Path}
use Rattle.rast.specs.Operation.{Operation, nested}
use Rattle.rast.specs.Mod.{name_of}
use Rattle.rast.proofs.Tests.{by-test}
use Rattle.rast.proofs.Names.{Names}
use Rattle.rast.proofs.Chosen.{Chooses}
use Rattle.factor_paths.specs.Apply.{paths_to_remove, imports, apply_prefix}
use Rattle.factor_paths.specs.Walk.{walk_decl}
use Rattle.factor_paths.proofs.Tidy.{decl_kind, decls-closed, fits-paths}
use Rattle.factor_paths.proofs.Modules.{ModFields, mod-fields, module-walk, extern-walk}
use Rattle.factor_paths.specs.LookUp.{collected}
use Rattle.points.specs.Points.{Module, Ahead, Point, Points}
use Rattle.factor_paths.proofs.Named.{Marks, Sure, fits-sure}
use Rattle.factor_paths.proofs.Uses.{imports-are, imports-different}
use Rattle.points.proofs.Walked.{same-node, point-self, walk-point}

-- how many, and which, are put ahead
pub count-append : (c d : Records) → count (c ▸▸ d) ≡ count c + count d
unfolding count ◌▸▸◌
count-append nil d = omega arith
count-append (r ▸ c) d = ap suc (count-append c d) ∙ omega arith

pub count_map : (f : Record → Record) (c : Records) → count (map_all f c) ≡ count c
unfolding count map_all
count_map f nil = refl
count_map f (r ▸ c) = ap suc (count_map f c)

first-append : (c d : Records) → first (count c) (c ▸▸ d) ≡ c
unfolding count first ◌▸▸◌
first-append nil d = refl
first-append (r ▸ c) d = ap (λ e. r ▸ e) (first-append c d)

skip-append : (c d : Records) → skip (count c) (c ▸▸ d) ≡ d
unfolding count skip ◌▸▸◌
skip-append nil d = refl
skip-append (r ▸ c) d = skip-append c d

ahead-count : (f : Record → Record) (c d : Records) → count (c ▸▸ map_all f d) - count d ≡ count c
ahead-count f c d = rw (count-append c (map_all f d), count_map f d) (omega arith)

-- a record that stands at some kinds stands at others that hold its kind
pub narrow : (r : Record) (from to from' to' : ℕ) → Fits r (kinds from to) → stands (kinds from' to') (kind r) ≡ true → Fits r (kinds from' to')
unfolding Stands content_at
narrow (leaf k b) from to from' to' f e = (e, f.1, refl)
narrow (node k c) from to from' to' f e = (e, f.1)

-- a record of one kind among some, and one of the others
at_one : (r : Record) (k to : ℕ) → Fits r (kinds k to) → is k r ≡ true → Fits r (one k)
at_one r k to f e =
    let h : kind r ≡ k = eqb-true (kind r) k e in
    narrow r k to k k f (ap₂ ◌&&◌ (le-leb k (kind r) (omega arith)) (le-leb (kind r) k (omega arith)))

after_one : (r : Record) (k to : ℕ) → Fits r (kinds k to) → is k r ≡ false → Fits r (kinds (suc k) to)
after_one r k to f e =
    let h = within k to (kind r) (fits-stands r (kinds k to) f) in
    let n : kind r ≡ k → ⊥ = eqb-false (kind r) k e in
    narrow r k to (suc k) to f (ap₂ ◌&&◌ (le-leb (suc k) (kind r) (omega arith)) (le-leb (kind r) to h.1))

module _ (op : Operation) (N : Names op) (C : Chooses op) (alike : Marks op) where
  -- the points of a module under whatever is around it, at most n deep
  abbrev Holds : ℕ → Type 0
  Holds n = (around : Module) (m : Record) → Fits m mod' → deep m ≤ n → Point op around m (apply_prefix op n m (around.inner (name_of m)))

  module _ (n : ℕ) (inside : Holds n) (m : Record) (p : Path) where
    abbrev M : Module
    M = record { prefix = p; uses = imports op m p; names = collected op m p; inner = nested op p }

    abbrev declared : Record → Record
    declared = walk_decl op (paths_to_remove op m p) (apply_prefix op n) p

    -- a declaration beside what becomes of it
    nested-point : (d : Record) → Fits d (one 0x62) → deep d ≤ n → Point op M d (declared d)
    unfolding row_of walk_decl set_nth deep Points
    nested-point =
        by-kinds (λ d. deep d ≤ n → Point op M d (declared d)) 0x62 0 (lit≤ tt)
        (λ inner f le. same-node op M 0x62 (inner ▸ nil) (apply_prefix op n inner (nested op p (name_of inner)) ▸ nil) refl (inside M inner f (omega arith), tt))

    decl-point : (d : Record) → Fits d (kinds 0x62 0x6A) → deep d ≤ n → Point op M d (declared d)
    unfolding walk_decl
    decl-point d f le =
        by-test (is 0x62 d)
        (λ e. nested-point d (at_one d 0x62 0x6A f e) le)
        (λ e. rw e (walk-point op N alike m p (nested op p) d false 0 (λ z. (refl, refl))
        (fits-of decl_kind decls-closed d (kinds 0x63 0x6A) refl (after_one d 0x62 0x6A f e))
        (fits-paths d (kinds 0x62 0x6A) f)))

    decls-point : (c : Records) → FitsAll c (any (kinds 0x62 0x6A)) → deep_all c ≤ n → Points op M c (map_all declared c)
    unfolding StandsAll Points map_all deep
    decls-point nil f le = tt
    decls-point (r ▸ c) f le = (decl-point r f.0 (omega arith), decls-point c f.1 (omega arith))

  -- a Mod, by its fields
  fields-point : (n : ℕ) → Holds n → (around : Module) (d a t : Record) (c : Records) → Fits d (one 0x01) → Fits a (one 0x03) → Fits t (one 0x01)
      → FitsAll c (any (kinds 0x62 0x6A)) → deep_all c ≤ n → Sure (node 0x60 (d ▸ a ▸ t ▸ node 0x02 c ▸ nil)) →
      let m : Record = node 0x60 (d ▸ a ▸ t ▸ node 0x02 c ▸ nil) in
      let p : Path = around.inner (name_of m) in
      Point op around m (node 0x60 (d ▸ a ▸ t ▸ node 0x02 (imports op m p ▸▸ map_all (walk_decl op (paths_to_remove op m p) (apply_prefix op n) p) c) ▸ nil))
  unfolding Point nth set_nth
  fields-point n inside around d a t c hd ha ht hc le sure =
      subst₂ Q (sym (ap (λ k. first k (us ▸▸ map_all f c)) (ahead-count f us c) ∙ first-append us (map_all f c)))
      (sym (ap (λ k. skip k (us ▸▸ map_all f c)) (ahead-count f us c) ∙ skip-append us (map_all f c))) (
        refl,
        record { are_uses = imports-are op N alike C m p sure; are_different = imports-different op N C m p },
        (
          self d 0x01 refl hd,
          (
            self a 0x03 refl ha,
            (
              self t 0x01 refl ht,
              (same-node op (M n inside m p) 0x02 c (map_all f c) refl (decls-point n inside m p c hc le), tt),
            ),
          ),
        ),
      )
    where
      m : Record
      m = node 0x60 (d ▸ a ▸ t ▸ node 0x02 c ▸ nil)

      p : Path
      p = around.inner (name_of m)

      us : Records
      us = imports op m p

      f : Record → Record
      f = walk_decl op (paths_to_remove op m p) (apply_prefix op n) p

      Q : Records → Records → Type 0
      Q ahead others =
          (◌≡◌ {A = ℕ} 0x60 0x60)
          × Ahead op (record { prefix = p; uses = ahead; names = collected op m p; inner = nested op p }) m
          × Points op (record { prefix = p; uses = ahead; names = collected op m p; inner = nested op p }) (d ▸ a ▸ t ▸ node 0x02 c ▸ nil)
          (d ▸ a ▸ t ▸ node 0x02 others ▸ nil)

      self : (r : Record) (k : ℕ) → holds_at decl_kind (one k) ≡ true → Fits r (one k) → Point op (M n inside m p) r r
      self r k e h = point-self op (M n inside m p) r (fits-of decl_kind decls-closed r (one k) e h)

  -- an ExternMod holds what it held
  extern-point : (around : Module) (m : Record) → Fits m (one 0x61) → Point op around m m
  unfolding row_of Points
  extern-point around =
      by-kinds (λ m. Point op around m m) 0x61 0 (lit≤ tt) (λ t h. same-node op around 0x61 (t ▸ nil) (t ▸ nil) refl
      (point-self op around t (fits-of decl_kind decls-closed t (one 0x01) refl h), tt))

  mod-point : (n : ℕ) → Holds n → (around : Module) (m : Record) → ModFields m → Sure m → deep m ≤ suc n
      → Point op around m (apply_prefix op (suc n) m (around.inner (name_of m)))
  unfolding deep
  mod-point n inside around m h sure le =
      subst (λ (q : Record). Point op around m q) (sym (module-walk op n (around.inner (name_of m)) m h))
      (subst (λ (q : Record). Point op around q (node 0x60 (h.doc ▸ h.attributes ▸ h.named
      ▸ node 0x02 (imports op q (around.inner (name_of q)) ▸▸ map_all (walk_decl op (paths_to_remove op q (around.inner (name_of q))) (apply_prefix op n)
      (around.inner (name_of q))) h.body) ▸ nil))) (sym h.is-mod)
      (fields-point n inside around h.doc h.attributes h.named h.body h.doc-fits h.attributes-fits h.named-fits h.body-fits
      (let g : deep (node 0x60 (h.doc ▸ h.attributes ▸ h.named ▸ node 0x02 h.body ▸ nil)) ≤ suc n = subst (λ (q : Record). deep q ≤ suc n) h.is-mod
      le in omega arith) (subst Sure h.is-mod sure)))

  -- THE LAW: the points of every module that fits, with all that is in it
  pub module-point : (n : ℕ) → Holds n
  unfolding deep
  module-point zero around m f le = absurd (none m le)
    where
      none : (m : Record) → deep m ≤ 0 → ⊥
      none (leaf k b) h = omega arith
      none (node k c) h = omega arith
  module-point (suc n) around m f le =
      by-test (is 0x60 m)
      (λ e. mod-point n (module-point n) around m (mod-fields m (at_one m 0x60 0x61 f e)) (fits-sure m f) le)
      (λ e. let x : Fits m (one 0x61) = after_one m 0x60 0x61 f e in
      subst (λ (q : Record). Point op around m q) (sym (extern-walk op (suc n) (around.inner (name_of m)) m x)) (extern-point around m x))
