-- THE TABLE'S ANSWERS IN THE TEXT'S TERMS: of a table that means a module's mapping, the pair chosen for a name has the base of ToFinalReplacement, a name is
-- replaced where that base is its path's, and the uses are ToUseStatements, in order. Assumes nothing.
use mathlib.Core.Path.{◌≡◌, refl, sym, ap, ◌∙◌, subst}
use mathlib.Core.List.{List}
use mathlib.Core.Bool.{Bool, false}
use mathlib.Core.Option.{Option, none, some}
use Prim.Native.Nat.{ℕ, ◌≤◌}
use lib.ListN.{length}
use Rattle.wire.specs.Numbers.{Bytes}
use Rattle.records.specs.Record.{encode}
use Rattle.records.specs.Canonical.{Canonical}
use Rattle.rast.specs.Path.{Name, Path, whether}
use Rattle.rast.specs.Operation.{Operation}
use Rattle.rast.proofs.Tests.{by-option}
use Rattle.factor_paths.specs.Mapping.{Mapping, FinalReplacement, equal, get, ToFinalReplacement, ToUseStatements}
use Rattle.factor_paths.specs.Apply.{replaces}
use Rattle.factor_paths.proofs.Mappings.{Good}
use Rattle.operation.specs.Operations.{operation_of, same_paths}
use Rattle.prefix.specs.Prefix.{Scope, prefix_in}
use Rattle.chains.specs.Chains.{room}
use Rattle.pairs.specs.Stored.{Stored}
use Rattle.pairs.specs.Choice.{choice, bases_named, uses}
use Rattle.pairs.proofs.Bytes.{bytes_if, CanonicalIf, bases-same}
use Rattle.pairs.proofs.Says.{Declares, chosen-says, uses-says, final-canonical}
use Rattle.adding.specs.Adds.{Table}
use Rattle.adding.proofs.Stores.{has-fits}
use Rattle.comparing.specs.Compares.{number_of}
use Rattle.choosing.specs.Chooses.{chosen_pair}
use Rattle.choosing.specs.Picks.{numbered, uses_of}
use Rattle.choosing.proofs.Says.{chosen-has, uses-has}
use Rattle.gathering.specs.Tabled.{Tabled}

module _ (s : Scope) (t : Table) (m : Mapping) (tabled : Tabled s t m) (good : Good (operation_of s.op) m) (room_for : t.count ≤ room t.words)
    (S : Path) (canonical : Canonical S) (prefix-is : prefix_in s ≡ encode S) where
  abbrev Op : Operation
  Op = operation_of s.op

  abbrev Final : FinalReplacement
  Final = ToFinalReplacement Op m.provenance S

  fits : length tabled.pairs ≤ room t.words
  fits = has-fits tabled.has room_for

  pub chosen-final : (name : Name) → numbered tabled.pairs (chosen_pair s t.words name (number_of s.op name)) ≡ bytes_if (get Op name Final)
  chosen-final name =
      sym (chosen-has s t tabled.pairs tabled.has fits name).picked
      ∙ ap (λ (x : Bytes). choice s.op x (bases_named s.op tabled.pairs name)) prefix-is
      ∙ chosen-says s.op tabled.pairs m tabled.means good S canonical name

  -- whether a name is replaced where it is selected from a path
  pub replaces-chosen : (name : Name) (b : Path) → Canonical b
      → replaces Op Final name b ≡ whether (numbered tabled.pairs (chosen_pair s t.words name (number_of s.op name))) false (λ x. same_paths s.op x (encode b))
  unfolding replaces
  replaces-chosen name b c =
      rw (chosen-final name) (go (get Op name Final) (final-canonical s.op tabled.pairs m tabled.means good S canonical name))
    where
      go : (o : Option Path) → CanonicalIf o → whether o false (λ p. equal Op p b) ≡ whether (bytes_if o) false (λ x. same_paths s.op x (encode b))
      go none h = refl
      go (some p) h = sym (bases-same s.op p b h c)

  pub uses-final : Declares (uses_of s t.words 0 t.count) (ToUseStatements Op m.keys Final S)
  uses-final =
      subst (λ (us : List Stored). Declares us (ToUseStatements Op m.keys Final S))
      (sym (uses-has s t tabled.pairs tabled.has fits ∙ ap (λ (x : Bytes). uses s.op x tabled.pairs) prefix-is))
      (uses-says s.op tabled.pairs m tabled.means good S canonical)
