-- What Add does, and what it keeps. Assumes nothing.
use mathlib.Core.Path.{◌≡◌, refl, ◌∙◌}
use mathlib.Core.List.{List, [], ◌∷◌, ◌++◌}
use mathlib.Core.Bool.{Bool, true, false, cond, or-true}
use mathlib.Core.Option.{some}
use Rattle.rast.specs.Path.{Name, Path, whether}
use Rattle.rast.specs.Final.{is_among}
use Rattle.rast.specs.Operation.{Operation}
use Rattle.rast.proofs.Names.{Names, paths}
use Rattle.rast.proofs.Tests.{by-test, by-option, one_of, there-is}
use Rattle.factor_paths.specs.Mapping.{Mapping, no_mapping, get, set, ◌among◌, include, Add}
use Rattle.factor_paths.proofs.Maps.{names_of, Held, Apart, get-same, get_set, set-names, set_apart, set-held, get-held, among-include}

-- a set of paths is not empty
abbrev pub Filled : List Path → Type 0
Filled [] = ⊥
Filled (p ∷ ps) = Unit {0}

-- a mapping's keys are the names of its provenance in order, these are pairwise different, and each has a path
pub record Good (op : Operation) (m : Mapping) : Type 0 where
  pub named : names_of m.provenance ≡ m.keys
  pub apart : Apart op m.provenance
  pub filled : Held Filled m.provenance

-- the empty mapping is good
pub no_mapping-good : (op : Operation) → Good op no_mapping
unfolding Apart Held
no_mapping-good op = record { named = refl; apart = tt; filled = tt }

-- a path is among those of a name
abbrev pub holds : Operation → Path → Name → Mapping → Bool
holds op S k m = whether (get op k m.provenance) false (λ ps. ◌among◌ op S ps)

module _ (op : Operation) (N : Names op) where
  -- after adding a path to a name, that name has the path included, and any other the paths that it had
  pub add-get : (m : Mapping) (k : Name) (p : Path) (n : Name) → get op n (Add op m k p).provenance
      ≡ cond (op.same_name k n) (some (whether (get op k m.provenance) (p ∷ []) (λ ps. include op p ps))) (get op n m.provenance)
  unfolding Add
  add-get m k p n =
      by-option (get op k m.provenance)
      (λ g. rw g (get_set op N n k (p ∷ []) m.provenance))
      (λ ps g. rw g (get_set op N n k (include op p ps) m.provenance))

  -- a name that was not there is put last of the keys, and they stay as they are for any other
  pub add-keys : (m : Mapping) (k : Name) (p : Path) → (Add op m k p).keys ≡ whether (get op k m.provenance) (m.keys ++ (k ∷ [])) (λ ps. m.keys)
  unfolding Add
  add-keys m k p = by-option (get op k m.provenance) (λ g. rw g) (λ ps g. rw g)

  filled-last : (ps : List Path) (p : Path) → Filled (ps ++ (p ∷ []))
  filled-last [] p = tt
  filled-last (q ∷ ps) p = tt

  set-good : (m : Mapping) (k : Name) (ps : List Path) → Filled ps → Good op m
      → Good op (record { provenance = set op k ps m.provenance; keys = whether (get op k m.provenance) (m.keys ++ (k ∷ [])) (λ old. m.keys) })
  set-good m k ps f g = record {
    named = set-names op N k ps m.provenance ∙ rw g.named;
    apart = set_apart op N k ps m.provenance g.apart;
    filled = set-held op Filled k ps m.provenance f g.filled;
  }

  -- adding keeps a mapping good
  pub add-good : (m : Mapping) (k : Name) (p : Path) → Good op m → Good op (Add op m k p)
  unfolding Add
  add-good m k p g =
      by-option (get op k m.provenance)
      (λ h. rw h (rw h at (set-good m k (p ∷ []) tt g)))
      (λ ps h. let old : Filled ps = get-held op Filled k ps m.provenance g.filled h in
      rw h (rw h at (set-good m k (include op p ps) (one_of Filled (◌among◌ op p ps) old (filled-last ps p)) g)))

  module _ (S : Path) where
    -- a path that is among those of a name stays so, whatever is added
    pub add_holds : (m : Mapping) (j : Name) (p : Path) (k : Name) → holds op S k m ≡ true → holds op S k (Add op m j p) ≡ true
    add_holds m j p k h =
        rw (add-get m j p k)
        (by-test (op.same_name j k)
        (λ t. let i = there-is (get op k m.provenance) _ h in rw (t, get-same op N j k m.provenance t, i.1, among-include op N S p i.0, i.2))
        (λ t. rw t h))

    -- and is so once it is added to the name
    pub added-holds : (m : Mapping) (j : Name) (k : Name) → op.same_name j k ≡ true → holds op S k (Add op m j S) ≡ true
    unfolding is_among
    added-holds m j k t =
        rw (add-get m j S k, t)
        (by-option (get op j m.provenance) (λ o. rw (o, (paths N).reflexive S))
        (λ ps o. rw (o, among-include op N S S ps, (paths N).reflexive S) (or-true (◌among◌ op S ps))))
