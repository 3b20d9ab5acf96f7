-- One walk over a module's declarations that does what the replacer does with PathSimplifier: proofs/Wraps, Walks and Modules show it. Assumes nothing: these
-- are definitions.
use Rattle.std.specs.Prelude.{Bool, true, false, ◌&&◌, ◌||◌, cond, ℕ, zero, suc, eqb, leb}
use Rattle.records.specs.Record.{Record, Records, leaf, node, nil, ◌▸◌, is_leaf, is, update}
use Rattle.records.specs.Kinds.{stands, path, type, expr, kinds}
use Rattle.rast.specs.Path.{Name, Path, selected, whether}
use Rattle.rast.specs.Operation.{Operation, nested}
use Rattle.rast.specs.Mod.{name_of}
use Rattle.factor_paths.specs.Mapping.{FinalReplacement}
use Rattle.factor_paths.specs.Apply.{TIdentifier, TSynonym, replaces, ReplaceExprSingle}

-- n synonyms, base in base, each displaying TIdentifier of the name, down to a record
unfoldable pub synonyms : Name → ℕ → Record → Record
synonyms name zero this = this
synonyms name (suc n) this = TSynonym (TIdentifier name) (synonyms name n this)

-- what the walk does at a record: texts, paths, uses and modules are left; a Fn's formals, result and body count what is around a type; what is none of these
-- holds others
pub data Step : Type 0 where
  a_type an_expr a_fn left holds : Step

abbrev pub step_of : ℕ → Step
step_of k =
    cond (stands type k) a_type
    (cond (stands expr k) an_expr
    (cond (eqb k 0x7D) a_fn
    (cond (is_leaf k || stands path k || stands (kinds 0x60 0x62) k || eqb k 0x6A || eqb k 0x80) left holds)))

-- one more around what a type or an expression holds, where they count
abbrev pub deeper : Bool → ℕ → ℕ
deeper true w = suc w
deeper false w = w

module _ (op : Operation) (replacement : FinalReplacement) where
  -- a path type whose base is chosen, wrapped w times
  unfoldable pub wrap : ℕ → Record → Record
  wrap w t =
      whether (selected 0x2D t) t
      (λ s. cond (replaces op replacement s.name s.base) (synonyms s.name w t) t)

  -- this, or r which is this with its parts walked, or fn which is this with a Fn's parts walked
  abbrev pub stepped : Step → ℕ → (this r q fn : Record) → Record
  stepped a_type w this r q fn = wrap w r
  stepped an_expr w this r q fn = ReplaceExprSingle op replacement r
  stepped a_fn w this r q fn = fn
  stepped left w this r q fn = this
  stepped holds w this r q fn = q

  unfoldable mutual
    pub walk : Bool → ℕ → Record → Record
    walk again w (leaf k b) = leaf k b
    walk again w (node k c) =
        stepped (step_of k) w (node k c) (node k (walk_all again (deeper again w) c)) (node k (walk_all again w c)) (node k (walk_fn 0 c))

    pub walk_all : Bool → ℕ → Records → Records
    walk_all again w nil = nil
    walk_all again w (r ▸ c) = walk again w r ▸ walk_all again w c

    -- Fn(name, typeParams, formals, returnType, body), from field i on: from field 2 on it counts
    pub walk_fn : ℕ → Records → Records
    walk_fn i nil = nil
    walk_fn i (r ▸ c) = walk (leb 2 i && op.walks_again) 1 r ▸ walk_fn (suc i) c

  -- a declaration: a module in it goes on by f, with its prefix; any other is walked
  unfoldable pub walk_decl : (Record → Path → Record) → Path → Record → Record
  walk_decl f SelfPath d = cond (is 0x62 d) (update 0 (λ m. f m (nested op SelfPath (name_of m))) d) (walk false 1 d)
