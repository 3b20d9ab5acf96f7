-- 01, "The console's answers", 8: the first module, outer first, that collects too many pairs of name and base. Assumes nothing: these are definitions.
use Rattle.std.specs.Prelude.{[], ◌∷◌, cond, ℕ, zero, suc, ◌+◌, length, ltb}
use Rattle.std.proofs.Math.Option.{Option, none, some}
use Rattle.records.specs.Record.{Record, Records, nil, ◌▸◌, encode, encode_all, children, first, field}
use Rattle.rast.specs.Path.{Path, whether}
use Rattle.rast.specs.Operation.{Operation, nested}
use Rattle.rast.specs.Mod.{case, match, ExternMod?, name_of}
use Rattle.factor_paths.specs.Mapping.{pairs}
use Rattle.factor_paths.specs.Apply.{mappings}

-- the place of field i of a record at place at: a sound card is its tree's bytes, so that the lengths of those before it say where it stands
abbrev pub field_at : ℕ → ℕ → Record → ℕ
field_at at i r = at + 6 + length (encode_all (first i (children r)))

-- the first that a search finds in records that stand one after the other from place at on
unfoldable pub first_in : (Record → ℕ → Option ℕ) → Records → ℕ → Option ℕ
first_in f nil at = none
first_in f (r ▸ c) at = whether (f r at) (first_in f c (at + length (encode r))) some

module _ (op : Operation) (most : ℕ) where
  -- a module at place at, then those in its body, each ModDecl(mod); n is a depth that falls, as applyPrefix's
  unfoldable pub full_table : ℕ → Record → Path → ℕ → Option ℕ
  full_table zero m SelfPath at = none
  full_table (suc n) m SelfPath at =
      let in_mod : Record → ℕ → Option ℕ = λ inner place. full_table n inner (nested op SelfPath (name_of inner)) place in
      let in_decl : Record → ℕ → Option ℕ = λ d place. match d (case 0x62 (λ r. in_mod (field 0 r) (field_at place 0 r)) ∷ []) (λ r. none) in
      let in_body : Option ℕ = first_in in_decl (children (field 3 m)) (field_at at 3 m + 6) in
      let full : Option ℕ = cond (ltb most (pairs (mappings op m SelfPath).provenance)) (some at) in_body in
      cond (ExternMod? m) none full
