-- ToFinalReplacement of FactorPathsOptimization, for one identifier's paths (runtime is dafny_runtime). An operation holds it, so it stands here; paths may be
-- trees or bytes, given when two are the same. Assumes nothing: these are definitions.
use Rattle.std.specs.Prelude.{List, [], ◌∷◌, Bool, false, ◌||◌, cond, length, eqb}
use Rattle.std.proofs.Math.Option.{Option, none, some}

-- of a set with one element; of none, any that is given
abbrev pub UniqueElementOf : {A : Type 0} → A → List A → A
UniqueElementOf any [] = any
UniqueElementOf any (p ∷ ps) = p

module _ {A : Type 0} (same : A → A → Bool) where
  -- set<Path> is a list without repetition
  unfoldable pub is_among : A → List A → Bool
  is_among p [] = false
  is_among p (q ∷ qs) = same p q || is_among p qs

  -- the path that an identifier has in the final replacement, if it has one
  unfoldable pub final_path : A → A → List A → Option A
  final_path runtime SelfPath paths =
      let one : Bool = eqb (length paths) 1 in
      cond (one || is_among SelfPath paths || is_among runtime paths)
      (some (cond one (UniqueElementOf runtime paths) (cond (is_among SelfPath paths) SelfPath runtime)))
      none
