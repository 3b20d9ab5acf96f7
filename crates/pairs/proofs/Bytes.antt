-- Bases as bytes compare and are chosen as the paths that they are. Assumes nothing.
use mathlib.Core.Path.{◌≡◌, refl}
use mathlib.Core.List.{List, [], ◌∷◌, map}
use mathlib.Core.Option.{Option, none, some}
use lib.Dec.{lit<}
use Rattle.wire.specs.Numbers.{Bytes, le}
use Rattle.records.specs.Record.{encode}
use Rattle.records.specs.Canonical.{Canonical}
use Rattle.rast.specs.Path.{Path, dafny_runtime, whether}
use Rattle.rast.specs.Final.{is_among, final_path}
use Rattle.rast.proofs.Chosen.{Each, final-map}
use Rattle.rast.proofs.Tests.{by-option}
use Rattle.factor_paths.specs.Mapping.{equal}
use Rattle.operation.specs.declared.Shortening.{Shortening}
use Rattle.operation.specs.Passes.{repeats}
use Rattle.operation.specs.Operations.{pass_of, operation_of, same_paths}
use Rattle.operation.proofs.Lawful.{chooses-of}
use Rattle.paths.proofs.Bytes.{paths-same}
use Rattle.pairs.specs.Choice.{choice}

-- the bytes of a path that there may be
abbrev pub bytes_if : Option Path → Option Bytes
bytes_if o = whether o none (λ p. some (encode p))

-- a path that there may be is canonical
abbrev pub CanonicalIf : Option Path → Type 0
CanonicalIf none = Unit {0}
CanonicalIf (some p) = Canonical p

pub runtime-canonical : Canonical dafny_runtime
unfolding Canonical encode le
runtime-canonical = (refl, lit< tt, lit< tt, ((refl, lit< tt, lit< tt, tt), ((refl, lit< tt, lit< tt), tt)))

pub bases-same : (op : Shortening) (p q : Path) → Canonical p → Canonical q → same_paths op (encode p) (encode q) ≡ equal (operation_of op) p q
bases-same op p q c d = paths-same (repeats (pass_of op)) p q c d

pub choice-none : (op : Shortening) (prefix : Bytes) → choice op prefix [] ≡ none
unfolding choice final_path is_among
choice-none op prefix = refl

module _ (op : Shortening) (S : Path) (canonical : Canonical S) (bs : List Path) (each : Each Canonical bs) where
  -- the path chosen among a name's paths, as bytes
  pub choice-bytes : choice op (encode S) (map encode bs) ≡ bytes_if ((operation_of op).chosen_base S bs)
  unfolding choice
  choice-bytes =
      final-map (equal (operation_of op)) (same_paths op) encode Canonical
      (λ a b c d. bases-same op a b c d) dafny_runtime S bs runtime-canonical canonical each

  pub choice-canonical : CanonicalIf ((operation_of op).chosen_base S bs)
  choice-canonical =
      by-option ((operation_of op).chosen_base S bs) (λ e. rw e tt)
      (λ q e. rw e ((chooses-of op).kept Canonical S bs q canonical runtime-canonical each e))
