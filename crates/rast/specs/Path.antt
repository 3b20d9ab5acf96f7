-- 01, Leaf 2, and datatype Path of RAST, over records. Assumes nothing: these are definitions.
use Rattle.std.specs.Prelude.{[], ◌∷◌, Bool, true, false, ◌&&◌, cond, ℕ, eqb}
use Rattle.std.proofs.Math.Option.{Option, none, some}
use Rattle.wire.specs.Numbers.{Bytes}
use Rattle.records.specs.Record.{Record, Records, leaf, node, nil, ◌▸◌, text, field, is}

-- what a name and a path are here: a Text's bytes, and a record
abbrev pub Name : Type 0
Name = Bytes

abbrev pub Path : Type 0
Path = Record

abbrev pub Global : Path
Global = node 0x10 nil

abbrev pub Self : Path
Self = node 0x12 nil

abbrev pub PMemberSelect : Path → Name → Path
PMemberSelect base name = node 0x13 (base ▸ leaf 0x01 name ▸ nil)

abbrev pub MSel : Path → Name → Path
MSel this name = PMemberSelect this name

abbrev pub dafny_runtime : Path
dafny_runtime = MSel Global (100 ∷ 97 ∷ 102 ∷ 110 ∷ 121 ∷ 95 ∷ 114 ∷ 117 ∷ 110 ∷ 116 ∷ 105 ∷ 109 ∷ 101 ∷ [])

-- two paths are the same, given when two names are
unfoldable mutual
  pub same_path : (Name → Name → Bool) → Path → Path → Bool
  same_path same (leaf k b) (leaf j d) = eqb k j && same b d
  same_path same (leaf k b) (node j d) = false
  same_path same (node k c) (leaf j d) = false
  same_path same (node k c) (node j d) = eqb k j && same_parts same c d

  pub same_parts : (Name → Name → Bool) → Records → Records → Bool
  same_parts same nil nil = true
  same_parts same nil (s ▸ d) = false
  same_parts same (r ▸ c) nil = false
  same_parts same (r ▸ c) (s ▸ d) = same_path same r s && same_parts same c d

-- the patterns TypeFromPath(PMemberSelect(base, name)), at kind 2D, and ExprFromPath(PMemberSelect(base, name)), at 5C
pub record Selected : Type 0 where
  pub base : Path
  pub name : Name

abbrev pub selected : ℕ → Record → Option Selected
selected k r =
    let p : Record = field 0 r in
    cond (is k r && is 0x13 p) (some (record { base = field 0 p; name = text (field 1 p) })) none

abbrev pub whether : {A B : Type 0} → Option A → B → (A → B) → B
whether none b f = b
whether (some a) b f = f a
