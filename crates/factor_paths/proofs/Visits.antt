-- What Add keeps, PathsVisitor keeps. Assumes nothing.
use mathlib.Core.Bool.{◌&&◌, cond}
use Prim.Native.Nat.{ℕ}
use Rattle.records.specs.Record.{Record, Records, field, is}
use Rattle.records.proofs.Hereditary.{Hereditary, always, field_in}
use Rattle.rast.specs.Path.{Name, Path, Self, Selected, selected, whether}
use Rattle.rast.specs.Operation.{Operation}
use Rattle.rast.proofs.Names.{Names}
use Rattle.rast.proofs.Tests.{either, one_of}
use Rattle.rast.proofs.Keeps.{VisitMod-keeps-in}
use Rattle.factor_paths.specs.Mapping.{Mapping, no_mapping, Add, equal}
use Rattle.factor_paths.specs.PathsVisitor.{marked, unmarked, VisitTypeSingle, VisitExprSingle, VisitTraitName, VisitModDeclSingle, PathsVisitor}
use Rattle.factor_paths.specs.Apply.{mappings}
use Rattle.factor_paths.proofs.Mappings.{Good, no_mapping-good, add-good}

module _ (op : Operation) where
  module _ (R : Mapping → Mapping → Type 0) (S : Path) (o a : Mapping) (r : R o a) (h : (k : Name) → R (Add op o k S) (Add op a k S)) where
    trait-adds : (t : Record) → R (VisitTraitName op o t S) (VisitTraitName op a t S)
    unfolding VisitTraitName
    trait-adds t =
        let at : (Record → Mapping) → (Record → Mapping) → Type 0 = λ f g. R (f t) (g t) in
        either at (is 0x2E t) (either R (is 0x2C (field 0 t)) (h _) r) (either at (is 0x2C t) (h _) r)

    -- what holds between two mappings, and once one name's path is added in the one and in the other, holds after the visit of a declaration itself
    pub declaration-adds : (d : Record) → R (VisitModDeclSingle op o d S) (VisitModDeclSingle op a d S)
    unfolding VisitModDeclSingle
    declaration-adds d =
        let at : (Record → Mapping) → (Record → Mapping) → Type 0 = λ f g. R (f d) (g d) in
        either at (is 0x62 d) (h _)
        (either at (is 0x63 d) (h _)
        (either at (is 0x64 d) (h _)
        (either at (is 0x65 d) (h _)
        (either at (is 0x66 d) (h _)
        (either at (is 0x67 d) r
        (either at (is 0x68 d) (trait-adds (field 3 (field 0 d)))
        (either at (is 0x69 d) (h _)
        (either at (is 0x6A d) r
        r))))))))

  -- what adding one name's path in the one and in the other keeps between two mappings, the visit of a declaration itself keeps
  pub declaration-keeps : (R : Mapping → Mapping → Type 0) (S : Path) → ((o a : Mapping) (k : Name) → R o a → R (Add op o k S) (Add op a k S))
      → (o a : Mapping) (d : Record) → R o a → R (VisitModDeclSingle op o d S) (VisitModDeclSingle op a d S)
  declaration-keeps R S h o a d r = declaration-adds R S o a r (λ k. h o a k r) d

  -- where something hereditary holds of what is visited, adding need keep P only for paths of which it holds
  module _ {S : Record → Type 0} {SA : Records → Type 0} (H : Hereditary S SA) (P : Mapping → Type 0)
      (h : (m : Mapping) (k : Name) (p : Path) → S p → P m → P (Add op m k p)) where
    selected_keeps : (k : ℕ) (r : Record) (name : Selected → Name) (m : Mapping) → S r → P m
        → P (whether (selected k r) m (λ s. cond (equal op s.base Self) m (Add op m (name s) s.base)))
    selected_keeps k r name m a p =
        one_of (λ o. P (whether o m (λ s. cond (equal op s.base Self) m (Add op m (name s) s.base)))) (is k r && is 0x13 (field 0 r))
        (one_of P (equal op (field 0 (field 0 r)) Self) p (h m _ (field 0 (field 0 r)) (field_in H 0 (field_in H 0 a)) p)) p

    -- what adding keeps, the visit of a type itself keeps
    pub type-keeps-in : (m : Mapping) (t : Record) → S t → P m → P (VisitTypeSingle op m t)
    unfolding VisitTypeSingle
    type-keeps-in m t = selected_keeps 0x2D t (λ s. s.name) m

    -- and of an expression itself
    pub expr-keeps-in : (m : Mapping) (e : Record) → S e → P m → P (VisitExprSingle op m e)
    unfolding VisitExprSingle
    expr-keeps-in m e = selected_keeps 0x5C e (λ s. cond (marked s.name) (unmarked s.name) s.name) m

    -- what the empty mapping has and adding keeps, a module's mapping has
    pub mappings-keep-in : (m : Record) (SelfPath : Path) → S m → S SelfPath → P no_mapping → P (mappings op m SelfPath)
    unfolding mappings
    mappings-keep-in m SelfPath a b =
        VisitMod-keeps-in H P (PathsVisitor op) type-keeps-in expr-keeps-in SelfPath
        (λ m d c. declaration-keeps (λ o a. P a) SelfPath (λ o a k. h a k SelfPath b) m m d) no_mapping m a

  -- the same, for what adding keeps for every path
  module _ (P : Mapping → Type 0) (h : (m : Mapping) (k : Name) (p : Path) → P m → P (Add op m k p)) where
    -- what adding keeps, the visit of a type itself keeps
    pub type-keeps : (m : Mapping) (t : Record) → P m → P (VisitTypeSingle op m t)
    type-keeps m t = type-keeps-in always P (λ m k p a. h m k p) m t tt

    -- and of an expression itself
    pub expr-keeps : (m : Mapping) (e : Record) → P m → P (VisitExprSingle op m e)
    expr-keeps m e = expr-keeps-in always P (λ m k p a. h m k p) m e tt

    -- what the empty mapping has and adding keeps, a module's mapping has
    pub mappings-keep : (m : Record) (SelfPath : Path) → P no_mapping → P (mappings op m SelfPath)
    mappings-keep m SelfPath = mappings-keep-in always P (λ m k p a. h m k p) m SelfPath tt tt

  -- a module's mapping is good
  pub mappings-good : Names op → (m : Record) (SelfPath : Path) → Good op (mappings op m SelfPath)
  mappings-good N m SelfPath = mappings-keep (Good op) (add-good op N) m SelfPath (no_mapping-good op)
