-- 01, "Points and looking up", its second paragraph: looking a name up, and what a module collects. Assumes nothing: these are definitions.
use Rattle.std.specs.Prelude.{◌≡◌, List, [], ◌∷◌, Bool, true, false, not, ◌&&◌, ◌||◌, cond, length, ltb}
use Rattle.records.specs.Record.{Record, Records, leaf, nil, ◌▸◌, kind, text, field, is, update}
use Rattle.rast.specs.Path.{Name, Path, MSel}
use Rattle.rast.specs.Operation.{Operation}
use Rattle.rast.specs.Mod.{Mod-as-Fold}
use Rattle.factor_paths.specs.Mapping.{no_mapping}
use Rattle.factor_paths.specs.PathsVisitor.{marked, unmarked, VisitModDeclSingle}
use Rattle.factor_paths.specs.Apply.{mappings}

-- the path of UseDecl(Use(visibility, path)), and the name that this path ends in
abbrev pub path_of : Record → Path
path_of d = field 1 (field 0 d)

abbrev pub borne : Record → Name
borne d = text (field 1 (path_of d))

-- less one final '!': a name, and the last name of a path
abbrev pub bare : Name → Name
bare n = cond (marked n) (unmarked n) n

abbrev pub bare_path : Path → Path
bare_path p = cond (is 0x13 p) (update 1 (λ n. leaf 0x01 (bare (text n))) p) p

-- each is a UseDecl, and its path ends in a name that is not empty (02, request 4)
unfoldable pub UseDecls : Records → Type 0
UseDecls nil = Unit {0}
UseDecls (d ▸ uses) = (kind d ≡ 0x6A) × (kind (path_of d) ≡ 0x13) × (ltb 0 (length (borne d)) ≡ true) × UseDecls uses

-- no name ends in '!'
unfoldable pub unmarked_all : List Name → Bool
unmarked_all [] = true
unmarked_all (n ∷ ns) = not (marked n) && unmarked_all ns

unfoldable pub names_borne : Records → List Name
names_borne nil = []
names_borne (d ▸ uses) = borne d ∷ names_borne uses

module _ (op : Operation) where
  unfoldable pub look_up : Records → Path → Name → Path
  look_up nil prefix name = MSel prefix name
  look_up (d ▸ uses) prefix name = cond (op.same_name (borne d) name) (path_of d) (look_up uses prefix name)

  -- the names that PathsVisitor adds for a module, and those among them that it adds for a declaration and not for a path in it
  abbrev pub collected : Record → Path → List Name
  collected m prefix = (mappings op m prefix).keys

  abbrev pub own : Record → Path → List Name
  own m prefix = (Mod-as-Fold m no_mapping (λ current modDecl. VisitModDeclSingle op current modDecl prefix)).keys

  unfoldable pub has : Name → List Name → Bool
  has n [] = false
  has n (m ∷ ms) = op.same_name n m || has n ms

  -- the names are pairwise different, and none is among the others
  unfoldable pub different : List Name → List Name → Bool
  different others [] = true
  different others (n ∷ ns) = not (has n others) && different (n ∷ others) ns
