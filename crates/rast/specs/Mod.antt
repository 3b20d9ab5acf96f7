-- Datatype Mod of RAST, over records, and Dafny's match on a record's constructor. Assumes nothing: these are definitions.
use Rattle.std.specs.Prelude.{List, [], ◌∷◌, Bool, cond, ℕ, eqb}
use Rattle.records.specs.Record.{Record, text, kind, children, field, is, FoldLeft}
use Rattle.rast.specs.Path.{Name}

pub record Case (A : Type 0) : Type 0 where
  pub kind : ℕ
  pub result : Record → A

module _ {A : Type 0} where
  abbrev pub case : ℕ → (Record → A) → Case A
  case k f = record { kind = k; result = f }

  abbrev pub choose : ℕ → List (Case A) → (Record → A) → Record → A
  choose k [] otherwise = otherwise
  choose k (c ∷ cs) otherwise = cond (eqb k c.kind) c.result (choose k cs otherwise)

  abbrev pub match : Record → List (Case A) → (Record → A) → A
  match r cases otherwise = choose (kind r) cases otherwise r

-- Mod(docString, attributes, name, body), 60, or ExternMod(name), 61
abbrev pub ExternMod? : Record → Bool
ExternMod? m = is 0x61 m

abbrev pub name_of : Record → Name
name_of m = cond (ExternMod? m) (text (field 0 m)) (text (field 2 m))

unfoldable pub Mod-as-Fold : {T : Type 0} → Record → T → (T → Record → T) → T
Mod-as-Fold this acc accBuilder = cond (ExternMod? this) acc (FoldLeft accBuilder acc (children (field 3 this)))
