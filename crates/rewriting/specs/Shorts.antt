-- What stands where a path's type or expression stood: PathSimplifier's TSynonym(TIdentifier(name), type) and Identifier(name), as bytes. Assumes nothing:
-- these are definitions.
use Rattle.std.specs.Prelude.{List, [], ◌++◌, Bool, ◌||◌, cond, ℕ, zero, suc, ◌^◌, length, ltb}
use Rattle.wire.specs.Numbers.{Bytes}
use Rattle.records.specs.Record.{record_bytes}
use Rattle.operation.specs.Operations.{weight_bytes}
use Rattle.prefix.specs.Prefix.{Scope}
use Rattle.rewriting.specs.Replaces.{name_in, replaces_type, replaces_expr}

-- w synonyms, base in base, each displaying TIdentifier of the name, down to a record's bytes
unfoldable pub synonym_bytes : Bytes → ℕ → Bytes → Bytes
synonym_bytes name zero r = r
synonym_bytes name (suc w) r = record_bytes 0x37 (record_bytes 0x2C (record_bytes 0x01 name) ++ synonym_bytes name w r)

unfoldable pub identifier_bytes : Bytes → Bytes
identifier_bytes name = record_bytes 0x42 (record_bytes 0x01 name)

-- a place, a count or a record's length that no card brings about
abbrev pub unfit : (at w n : ℕ) → Bool
unfit at w n = ltb (2 ^ 61) at || (ltb 65536 w || ltb 65536 n)

module _ (s : Scope) (words : List ℕ) where
  -- a TypeFromPath that is wrapped w times, and an ExprFromPath; behind a short name its weight
  unfoldable pub type_bytes : ℕ → Bytes → Bytes
  type_bytes w r = cond (replaces_type s words r) (synonym_bytes (name_in r) w r ++ weight_bytes s.op) r

  unfoldable pub expr_bytes : Bytes → Bytes
  expr_bytes r = cond (replaces_expr s words r) (identifier_bytes (name_in r) ++ weight_bytes s.op) r

  -- as they are laid at a place: nothing where that is unfit
  unfoldable pub type_laid : (at w : ℕ) → Bytes → Bytes
  type_laid at w r = cond (unfit at w (length r)) [] (type_bytes w r)

  unfoldable pub expr_laid : (at : ℕ) → Bytes → Bytes
  expr_laid at r = cond (unfit at 0 (length r)) [] (expr_bytes r)
