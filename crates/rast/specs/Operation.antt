-- What may differ between one operation and another; the one that the Dafny text defines, and straight shortening. Assumes nothing: these are definitions.
use Rattle.std.specs.Prelude.{List, Bool, true, false, cond, ℕ, ◌/◌, min}
use Rattle.std.proofs.Math.Option.{Option}
use Rattle.wire.specs.Numbers.{same_bytes}
use Rattle.records.specs.Kinds.{Place, mod'}
use Rattle.rast.specs.Path.{Name, Path, MSel, dafny_runtime, same_path}
use Rattle.rast.specs.Final.{final_path}

pub record Operation : Type 0 where
  -- 01, "The console's answers": the limits of 1, 2, 3, 6 and 8 (most_pairs, for a number of lent words), and where the outermost record stands
  pub fewest_words : ℕ
  pub most_card_bytes : ℕ
  pub most_root_bytes : ℕ
  pub root_depth : ℕ
  pub card_depth : ℕ
  pub most_pairs : ℕ → ℕ
  pub outermost : Place
  -- when two names are the same
  pub same_name : Name → Name → Bool
  -- whether PathSimplifier's ReplaceModSingle adds the module's name to the path that it is handed
  pub names_again : Bool
  -- whether ReplaceFn hands ReplaceType and ReplaceExpr to Replace, which walk again, or ReplaceTypeSingle and ReplaceExprSingle
  pub walks_again : Bool
  -- the base chosen among those of a name, given SelfPath
  pub chosen_base : Path → List Path → Option Path

-- what PathSimplifier's ReplaceModSingle makes of the path that it is handed, and of the module's name
abbrev pub entering : Operation → Path → Name → Path
entering op SelfPath name = cond op.names_again (MSel SelfPath name) SelfPath

-- the prefix of a module of this name in one whose prefix is SelfPath: ReplaceModDecl adds the name, and then PathSimplifier enters it
abbrev pub nested : Operation → Path → Name → Path
nested op SelfPath name = entering op (MSel SelfPath name) name

-- the operations that there are, which differ in whether a nested module's name is added again and a Fn's types are walked again. 02, request 5: a table may
-- have a quarter as many pairs as there are words, rounded down, and at most 1,024
abbrev pub shortening : Bool → Operation
shortening again =
    record {
      fewest_words = 2048;
      most_card_bytes = 32768;
      most_root_bytes = 256;
      root_depth = 8;
      card_depth = 48;
      most_pairs = λ words. min (words / 4) 1024;
      outermost = mod';
      same_name = same_bytes;
      names_again = again;
      walks_again = again;
      chosen_base = final_path (same_path same_bytes) dafny_runtime;
    }

-- the one that the Dafny text defines
abbrev pub upstream : Operation
upstream = shortening true

-- 02, request 2, straight shortening: each name counts once in the prefix, and a path type is wrapped exactly once, also in a Fn
abbrev pub straight : Operation
straight = shortening false
