-- Whether a path is replaced, by the table's words: ReplaceTypeSingle and ReplaceExprSingle over a record's bytes. Assumes nothing: these are definitions.
use Rattle.std.specs.Prelude.{List, Bool, false, ◌&&◌, ◌||◌, cond, ℕ, ◌-◌, eqb}
use Rattle.wire.specs.Numbers.{Bytes}
use Rattle.records.specs.Record.{kind_of, content_of, rest_of, first_record}
use Rattle.factor_paths.specs.PathsVisitor.{marked, unmarked}
use Rattle.operation.specs.Operations.{same_paths}
use Rattle.prefix.specs.Prefix.{Scope}
use Rattle.comparing.specs.Compares.{number_of, place_in, base_at}
use Rattle.chains.specs.Chains.{word_at}
use Rattle.choosing.specs.Chooses.{chosen_pair}

-- the name and the base of the path in the bytes of TypeFromPath(PMemberSelect(base, name)) and of ExprFromPath of one
abbrev pub name_in : Bytes → Bytes
name_in r = content_of (rest_of (content_of (content_of r)))

abbrev pub base_in : Bytes → Bytes
base_in r = first_record (content_of (content_of r))

module _ (s : Scope) (words : List ℕ) where
  -- id in replacement && replacement[id] == base
  unfoldable pub replaces : (name base : Bytes) → Bool
  replaces name base =
      let g : ℕ = chosen_pair s words name (number_of s.op name) in
      cond (eqb g 0) false (same_paths s.op (base_at s (place_in (word_at words (g - 1)))) base)

  unfoldable pub replaces_type : Bytes → Bool
  replaces_type r = eqb (kind_of (content_of r)) 0x13 && replaces (name_in r) (base_in r)

  -- the whole name, then the name without its mark
  unfoldable pub replaces_expr : Bytes → Bool
  replaces_expr r =
      eqb (kind_of (content_of r)) 0x13
      && (replaces (name_in r) (base_in r) || (marked (name_in r) && replaces (unmarked (name_in r)) (base_in r)))
