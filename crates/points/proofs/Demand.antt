-- Demand 3, whole, of the definitions. Assumes nothing.
use Rattle.std.specs.Prelude.{Ok}
use mathlib.Core.Path.{◌≡◌, refl, ap, ap₂, sym, subst, ◌∙◌}
use mathlib.Core.Bool.{Bool}
use Prim.Native.Nat.{◌^◌, ◌<◌}
use native.Mathlib.Nat.{le_refl}
use lib.ListN.{length, take, drop}
use lib.Seq.{take-append_seam}
use Rattle.wire.specs.Numbers.{Bytes, AreBytes}
use Rattle.records.specs.Record.{Record, encode, tree, deep}
use Rattle.records.specs.Kinds.{path, mod'}
use Rattle.records.specs.Reading.{reading}
use Rattle.records.proofs.Fits.{Fits}
use Rattle.records.proofs.Sound.{ReadsAs, sound-reads}
use Rattle.records.proofs.Shape.{fits-shaped}
use Rattle.rast.specs.Path.{Path}
use Rattle.rast.specs.Operation.{Operation, shortening}
use Rattle.rast.proofs.Names.{Names, shortening-names}
use Rattle.rast.proofs.Chosen.{Chooses, shortening-chooses}
use Rattle.factor_paths.specs.Apply.{apply}
use Rattle.factor_paths.proofs.Named.{Marks, shortening-marks}
use Rattle.factor_paths.proofs.Shapes.{apply-read}
use Rattle.size.proofs.Bound.{output-small}
use Rattle.outcome.specs.Outcome.{shorten}
use Rattle.outcome.proofs.Accepted.{Accepted, accepted}
use Rattle.points.specs.Points.{Point, outside, NamesHold, Demand3}
use Rattle.points.proofs.Modules.{module-point}

-- of the tree of a module, under a root: every point of what apply makes of it
pub apply-point : (op : Operation) → Names op → Chooses op → Marks op → (root : Path) (m : Record) → Fits m mod'
    → Point op (outside op root) m (apply op root m)
unfolding apply
apply-point op N C alike root m f = module-point op N C alike (deep m) (outside op root) m f (le_refl (deep m))

-- of the bytes of a card and a root that are sound, if what is put out is not too long to be read back
pub names-hold : (again : Bool) (card root : Bytes) → AreBytes card → AreBytes root → reading 48 mod' card ≡ Ok tt → reading 8 path root ≡ Ok tt
    → length (encode (apply (shortening again) (tree root) (tree card))) < 2 ^ 32 →
    NamesHold (shortening again) card root (encode (apply (shortening again) (tree root) (tree card)))
names-hold again card root b c s r short =
    let h : ReadsAs 48 mod' card (tree card) = sound-reads 48 mod' card b s in
    let g : ReadsAs 8 path root (tree root) = sound-reads 8 path root c r in
    let e : tree (encode (apply (shortening again) (tree root) (tree card))) ≡ apply (shortening again) (tree root) (tree card) =
    apply-read (shortening again) (shortening-chooses again) (tree root) (tree card) h.fits (fits-shaped (tree root) path refl g.fits) short in
    record {
      card-tree = h.encoded;
      root-tree = g.encoded;
      output-tree = ap encode e;
      defined = refl;
      points = rw e (apply-point (shortening again) (shortening-names again) (shortening-chooses again) (shortening-marks again) (tree root) (tree card)
          h.fits);
    }

-- DEMAND 3, of whatever is lent
pub demand-3 : (again : Bool) → Demand3 (shortening again)
demand-3 again card root out work n b c h =
    let a : Accepted (shortening again) card root out work n = accepted (shortening again) card root out work n h in
    let o : Bytes = encode (apply (shortening again) (tree root) (tree card)) in
    let e : take n (shorten (shortening again) card root out work).out ≡ o = ap₂ take a.long a.out-is ∙ take-append_seam o (drop (length o) out) in
    subst (λ (x : Bytes). NamesHold (shortening again) card root x) (sym e)
    (names-hold again card root b c a.card-sound a.root-sound (output-small again (tree root) card b a.card-sound a.card-length))
