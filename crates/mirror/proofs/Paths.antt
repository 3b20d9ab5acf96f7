-- Path: its record trees are read back, and every record tree that stands at a path's place is one. Assumes nothing.
use mathlib.Core.Path.{◌≡◌, refl}
use mathlib.Core.List.{[], ◌∷◌}
use lib.Dec.{lit≤}
use Rattle.records.specs.Record.{Record, children}
use Rattle.records.specs.Kinds.{path, row_of}
use Rattle.records.proofs.Fits.{Fits}
use Rattle.mirror.specs.Rast.{Path, Global, Crate, Self, PMemberSelect}
use Rattle.mirror.specs.Tree.{Path_tree}
use Rattle.mirror.proofs.Decode.{fold, fold_all, Path_absent, Path_at, Path_of}
use Rattle.records.proofs.Run.{◌⨾◌}
use Rattle.mirror.proofs.Rows.{Layer, Law, Codec, GoodAll, refold, layer, row, all-good, sure, kinds-right, name_codec, distinct, reached}

pub Path_back : (p : Path) → Path_of (Path_tree p) ≡ p
unfolding fold fold_all Path_at Path_tree
Path_back Global = refl
Path_back Crate = refl
Path_back Self = refl
Path_back (PMemberSelect base name) = λ i. PMemberSelect (Path_back base i) name

abbrev pub P : Layer
P = layer Path_at Path_absent (λ r. Fits r path → Path_tree (Path_of r) ≡ r)

abbrev a_path : Law P
a_path = record { place = path; again = λ x. Path_tree x.as'; right = λ r g. g }

Path_step : (r : Record) → GoodAll P (children r) → Fits r path → Path_tree (Path_of r) ≡ r
unfolding fold fold_all Path_tree Path_at row_of
Path_step =
    kinds-right P Path_tree Path_at 0x10 3 (lit≤ tt) (row P [] ⨾ row P [] ⨾ row P [] ⨾ row P (a_path ∷ sure P name_codec ∷ [])) Path_of (refold Path_at Path_at)

pub Path_right : (r : Record) → Fits r path → Path_tree (Path_of r) ≡ r
Path_right = all-good P Path_step

abbrev pub Path_codec : Codec Path
Path_codec = record { place = path; tree = Path_tree; of = Path_of; back = Path_back; right = Path_right }

-- two paths of one tree are one path, and every tree that stands at a path's place is the tree of a path
pub Path_unique : (p q : Path) → Path_tree p ≡ Path_tree q → p ≡ q
Path_unique = distinct Path_codec

pub every-path : (r : Record) → Fits r path → (p : Path) × (Path_tree p ≡ r)
every-path = reached Path_codec
