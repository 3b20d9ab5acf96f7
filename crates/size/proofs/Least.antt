-- 42 and 4 are the least numbers that will do: modules whose outputs are longer than 41 times and 3 times themselves, by computation. Assumes nothing.
use mathlib.Core.Path.{◌≡◌, refl}
use mathlib.Core.List.{[], ◌∷◌}
use mathlib.Core.Bool.{true, false}
use Prim.Native.Nat.{ℕ, zero, suc, ◌*◌, ◌≤◌}
use native.Mathlib.Omega.{arith}
use lib.ListN.{replicate}
use lib.Dec.{ltb, lit≤}
use borrow.Author.Tests.{ltb-true, ne_eqb}
use Rattle.wire.specs.Numbers.{same_bytes}
use Rattle.records.specs.Record.{Record, Records, leaf, node, nil, ◌▸◌, ◌▸▸◌, deep, nth, set_nth, FoldLeft, map_all}
use Rattle.records.specs.Kinds.{type, expr, mod', any, row_of, content_at}
use Rattle.records.specs.Reading.{is_no_name}
use Rattle.records.proofs.Fits.{Stands, Fits, FitsAll}
use Rattle.rast.specs.Path.{Name, Path, Global, MSel, same_path}
use Rattle.rast.specs.Operation.{Operation, upstream, straight}
use Rattle.rast.specs.Mod.{Mod-as-Fold}
use Rattle.rast.specs.Fold.{Fold}
use Rattle.rast.specs.Replace.{Replace}
use Rattle.rast.specs.Visitor.{VisitTypeParams, VisitFn, VisitTopFn, VisitModMapping, VisitMod}
use Rattle.rast.specs.Replacer.{ReplaceType, ReplaceExpr, ReplaceTypeParams, ReplaceFn, ReplaceTopFn, ReplaceModDecl, ReplaceMod}
use Rattle.rast.specs.Final.{is_among, final_path}
use Rattle.factor_paths.specs.Mapping.{get, set, Add, ToFinalReplacement, ToUseStatements}
use Rattle.factor_paths.specs.PathsVisitor.{VisitTypeSingle, VisitExprSingle, VisitModDeclSingle}
use Rattle.factor_paths.specs.Apply.{replaces, ReplaceTypeSingle, ReplaceExprSingle, PathSimplifier, mappings, paths_to_remove, imports, apply_prefix, apply}
use Rattle.size.proofs.Sizes.{size}

abbrev Text : Record
Text = leaf 0x01 []

abbrev Kept : Record
Kept = leaf 0x03 []

-- TypeFromPath(::name)
abbrev named : Name → Record
named n = node 0x2D (MSel Global n ▸ nil)

-- so many of them, each with a name of its own; the 34th would be called "!"
abbrev several : ℕ → Records
several zero = nil
several (suc n) = named (n ∷ []) ▸ several n

-- ExprFromType(tpe), in so many blocks
abbrev typed : Record → Record
typed t = node 0x41 (t ▸ nil)

abbrev blocks : ℕ → Record → Record
blocks zero e = e
blocks (suc n) e = node 0x45 (blocks n e ▸ nil)

-- a module with a function of this body
abbrev around : Record → Record
around e =
    node 0x60 (Text ▸ Kept ▸ Text ▸ node 0x02 (node 0x69 (node 0x7C (Text ▸ Kept ▸ Kept
    ▸ node 0x7D (Text ▸ node 0x02 nil ▸ node 0x02 nil ▸ node 0x02 nil ▸ node 0x02 (e ▸ nil) ▸ nil) ▸ nil) ▸ nil) ▸ nil) ▸ nil)

-- as deep as may be: the type is under 39 expressions, so it is wrapped 40 times, and its name stands once more in the use
abbrev deepest : Record
deepest = blocks 38 (typed (named (replicate 13404 97)))

-- a TupleType: each type of 25 bytes, wrapped once and with its use, takes 82, which is 7 more than 3 times 25; the rest is 114 bytes
abbrev widest : Record
widest = typed (node 0x33 (node 0x02 (several 33) ▸ nil))

named-fits : (n : Name) → is_no_name n ≡ false → Fits (named n) type
unfolding Stands row_of content_at
named-fits n h = (refl, ((refl, ((refl, tt), ((refl, refl, h), tt))), tt))

several-fit : (n : ℕ) → n ≤ 33 → FitsAll (several n) (any type)
unfolding Stands
several-fit zero l = tt
several-fit (suc n) l = (named-fits (n ∷ []) (ne_eqb n 33 (λ e. omega arith)), several-fit n (omega arith))

typed-fits : (t : Record) → Fits t type → Fits (typed t) expr
unfolding Stands row_of content_at
typed-fits t f = (refl, (f, tt))

widest_fits : Fits widest expr
unfolding Stands row_of content_at
widest_fits = typed-fits (node 0x33 (node 0x02 (several 33) ▸ nil)) (refl, ((refl, several-fit 33 (lit≤ tt)), tt))

blocks-fit : (n : ℕ) (e : Record) → Fits e expr → Fits (blocks n e) expr
unfolding Stands row_of content_at
blocks-fit zero e f = f
blocks-fit (suc n) e f = (refl, (blocks-fit n e f, tt))

around-fits : (e : Record) → Fits e expr → Fits (around e) mod'
unfolding Stands row_of content_at
around-fits e f = (
  refl,
  (
    (refl, refl, refl),
    (
      (refl, refl, refl),
      (
        (refl, refl, refl),
        (
          (
            refl,
            (
              (
                refl,
                (
                  (
                    refl,
                    (
                      (refl, refl, refl),
                      (
                        (refl, refl, refl),
                        (
                          (refl, refl, refl),
                          ((refl, ((refl, refl, refl), ((refl, tt), ((refl, tt), ((refl, tt), ((refl, (f, tt)), tt)))))), tt),
                        ),
                      ),
                    ),
                  ),
                  tt,
                ),
              ),
              tt,
            ),
          ),
          tt,
        ),
      ),
    ),
  ),
)

-- that an output is at most k times as large
abbrev pub Within : Operation → ℕ → Type 0
Within op k = (root : Path) (m : Record) → Fits m mod' → deep m ≤ 48 → size (apply op root m) ≤ k * size m

-- is not so if the output of one module is larger
larger : (op : Operation) (k : ℕ) (e : Record) → Fits e expr → deep (around e) ≤ 48 → ltb (k * size (around e)) (size (apply op Global (around e))) ≡ true
    → Within op k → ⊥
larger op k e f d l h =
    let b = h Global (around e) (around-fits e f) d in
    let w = ltb-true (k * size (around e)) (size (apply op Global (around e))) l in
    omega arith

sizes : (ltb (41 * size (around deepest)) (size (apply upstream Global (around deepest))) ≡ true)
    × (ltb (3 * size (around widest)) (size (apply straight Global (around widest))) ≡ true)
unfolding same_bytes ◌▸▸◌ deep nth set_nth FoldLeft map_all same_path Mod-as-Fold Fold Replace VisitTypeParams VisitFn VisitTopFn VisitModMapping VisitMod
    ReplaceType ReplaceExpr ReplaceTypeParams ReplaceFn ReplaceTopFn ReplaceModDecl ReplaceMod get set is_among final_path Add ToFinalReplacement ToUseStatements
    VisitTypeSingle VisitExprSingle VisitModDeclSingle replaces ReplaceTypeSingle ReplaceExprSingle PathSimplifier mappings paths_to_remove imports
    apply_prefix apply size
sizes = (refl, refl)

-- so 41 is not a bound where a Fn's types are walked again
pub not-41 : Within upstream 41 → ⊥
unfolding deep
not-41 = larger upstream 41 deepest (blocks-fit 38 _ (typed-fits _ (named-fits (replicate 13404 97) refl))) (lit≤ tt) sizes.0

-- nor 3 where they are not
pub not-3 : Within straight 3 → ⊥
unfolding deep
not-3 = larger straight 3 widest widest_fits (lit≤ tt) sizes.1
