-- What the work words hold while modules are written, and what is made of a module, of a declaration and of several, in the text's terms. Assumes nothing.
use mathlib.Core.Path.{◌≡◌, refl, sym, ap, ap₂, subst}
use mathlib.Core.List.{List, [], ◌∷◌, ◌++◌}
use mathlib.Core.Option.{Option, none, some}
use Prim.Native.Nat.{ℕ, suc, ◌+◌, ◌/◌, ◌<◌, ◌≤◌, min}
use native.Mathlib.Omega.{arith}
use lib.ListN.{length}
use lib.Dec.{eqb}
use borrow.Author.Tests.{ne_eqb, eqb-true}
use Rattle.wire.specs.Numbers.{Bytes}
use Rattle.records.specs.Record.{Record, Records, encode, encode_all, map_all, field}
use Rattle.records.specs.Kinds.{mod'}
use Rattle.records.specs.Canonical.{Canonical}
use Rattle.records.proofs.Fits.{Fits}
use Rattle.records.proofs.Starts.{Starts}
use Rattle.rast.specs.Path.{Path, whether}
use Rattle.rast.specs.Operation.{Operation, nested}
use Rattle.rast.specs.Mod.{case, match, name_of}
use Rattle.rast.proofs.Tests.{by-test}
use Rattle.factor_paths.specs.Mapping.{Mapping, pairs}
use Rattle.factor_paths.specs.Apply.{mappings, paths_to_remove, apply_prefix}
use Rattle.factor_paths.specs.Walk.{walk_decl}
use Rattle.outcome.specs.FullTable.{field_at, first_in, full_table}
use Rattle.places.proofs.Weighed.{weighed, weighed_all}
use Rattle.operation.specs.declared.Shortening.{Shortening}
use Rattle.operation.specs.Operations.{operation_of, weight_bytes}
use Rattle.prefix.specs.Prefix.{Scope, scope, prefix_in}
use Rattle.chains.specs.Chains.{room}
use Rattle.pairs.proofs.Means.{means-count}
use Rattle.adding.specs.Adds.{Table, table}
use Rattle.adding.specs.Settles.{own_words, settled_table}
use Rattle.adding.proofs.Settles.{settled-table-count, settled-table-length, settled-own, settled-has}
use Rattle.fields.specs.Fields.{name_place}
use Rattle.gathering.specs.Tabled.{Tabled}
use Rattle.modules.specs.Modules.{Made, first_full}

-- a full table's place and one more, and the first of two
abbrev pub found : Option ℕ → ℕ
found o = whether o 0 suc

pub first_found : (o p : Option ℕ) → first_full (found o) (found p) ≡ found (whether o p some)
first_found none p = refl
first_found (some a) p = rw (ne_eqb (suc a) 0 (λ z. omega arith))

pub first-none : (a : ℕ) → a ≡ first_full a 0
first-none a = by-test (eqb a 0) (λ t. rw t (eqb-true a 0 t)) (λ t. rw t)

pub first-first : (a b c : ℕ) → first_full (first_full a b) c ≡ first_full a (first_full b c)
first-first a b c = by-test (eqb a 0) (λ t. rw t) (λ t. rw t (rw t))

-- words that hold a module's table, settled: how many pairs it has, and where there is room for them, that the words of the pairs mean its mapping
pub record Ready (s : Scope) (t : Table) (a : Mapping) : Type 0 where
  pub count : t.count ≡ min (pairs a.provenance) (suc (room t.words))
  pub tabled : t.count ≤ room t.words → Tabled s (table t.count (own_words t)) a

-- THE LAW: a table that means a mapping is ready once it is settled
pub settled-ready : (s : Scope) (t : Table) (a : Mapping) → Tabled s t a → Ready s (settled_table t) a
settled-ready s t a h =
    let u = settled_table t in
    let c : u.count ≡ t.count = settled-table-count t in
    let l : room u.words ≡ room t.words = ap (λ (x : ℕ). min (x / 4) 65535) (settled-table-length t) in
    let d = means-count s.op h.pairs a h.means in
    let e = h.has.count in
    record {
      count = omega arith;
      tabled = λ r. let r' : t.count ≤ room t.words = omega arith in
          subst (λ (x : Table). Tabled s x a) (sym (ap₂ table c (settled-own t r')))
          (record { pairs = h.pairs; has = settled-has s t.words t.count r' h.pairs h.has; means = h.means });
    }

-- the words are those of the module at a place, or of one in it that starts before another place; the module's own are ready
pub record Holds (s : Scope) (at to : ℕ) (a : Mapping) (owner : ℕ) (held : Table) : Type 0 where
  pub from : at ≤ owner
  pub before : owner < to
  pub tabled : owner ≡ at → Ready s held a

pub holds_on : {s : Scope} {at to : ℕ} {a : Mapping} {owner : ℕ} {held : Table} (next : ℕ) → to ≤ next → Holds s at to a owner held
    → Holds s at next a owner held
holds_on next l h = record { from = h.from; before = omega arith; tabled = h.tabled }

-- the words are left, or are those of the module at a place, or of one in it
pub data After (s : Scope) (at to : ℕ) (a : Mapping) (owner : ℕ) (held : Table) (m : Made) : Type 0 where
  same : m.owner ≡ owner → m.held ≡ held → After s at to a owner held m
  other : Holds s at to a m.owner m.held → After s at to a owner held m

-- the scope of the module at a place, in modules that have this chain
abbrev pub scope_at : Shortening → (card root : Bytes) → List ℕ → ℕ → Scope
scope_at op card root chain at = scope op card root (chain ++ (name_place card at ∷ []))

-- a module stands at a place, in modules that have this chain, and has this prefix
pub record Stands (op : Shortening) (card root : Bytes) (chain : List ℕ) (at : ℕ) (m : Record) (S : Path) : Type 0 where
  pub starts : Starts card at m
  pub fits : Fits m mod'
  pub canonical : Canonical m
  pub prefixed : Canonical S
  pub prefix-is : prefix_in (scope_at op card root chain at) ≡ encode S

module _ (op : Shortening) (card root : Bytes) (most n : ℕ) (chain : List ℕ) (at : ℕ) (m : Record) (S : Path) where
  abbrev Op : Operation
  Op = operation_of op

  -- what is made of a module, from the words that a module at a place, or another, owns
  pub record Applied (owner : ℕ) (held : Table) (M : Made) : Type 0 where
    pub full : M.full ≡ found (full_table Op most n m S at)
    pub bytes : full_table Op most n m S at ≡ none → M.bytes ≡ weighed (weight_bytes op) m (apply_prefix Op n m S)
    pub words : length M.held.words ≡ length held.words
    pub after : After (scope_at op card root chain at) at (at + length (encode m)) (mappings Op m S) owner held M

  -- of one of its declarations
  abbrev pub in_decl : Record → ℕ → Option ℕ
  in_decl d place = match d (case 0x62 (λ r. full_table Op most n (field 0 r) (nested Op S (name_of (field 0 r))) (field_at place 0 r)) ∷ []) (λ r. none)

  abbrev pub walked : Record → Record
  walked = walk_decl Op (paths_to_remove Op m S) (apply_prefix Op n) S

  pub record Declared (wide : ℕ) (d : Record) (from : ℕ) (D : Made) : Type 0 where
    pub full : D.full ≡ found (in_decl d from)
    pub bytes : in_decl d from ≡ none → D.bytes ≡ weighed (weight_bytes op) d (walked d)
    pub words : length D.held.words ≡ wide
    pub holds : Holds (scope_at op card root chain at) at (from + length (encode d)) (mappings Op m S) D.owner D.held

  -- of several, behind what was made before
  pub record Declares (wide : ℕ) (c : Records) (from : ℕ) (before after : Made) : Type 0 where
    pub full : after.full ≡ first_full before.full (found (first_in in_decl c from))
    pub bytes : first_in in_decl c from ≡ none → after.bytes ≡ before.bytes ++ weighed_all (weight_bytes op) c (map_all walked c)
    pub words : length after.held.words ≡ wide
    pub holds : Holds (scope_at op card root chain at) at (from + length (encode_all c)) (mappings Op m S) after.owner after.held
