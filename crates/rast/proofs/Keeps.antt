-- What a visitor's single functions keep, the visitor keeps. Assumes nothing.
use mathlib.Core.Bool.{Bool, true, false}
use lib.Dec.{eqb}
use Rattle.records.specs.Record.{Record, Records, leaf, node, nil, ◌▸◌, children, field, is, FoldLeft}
use Rattle.records.proofs.Hereditary.{Hereditary, always, children-in, field_in}
use Rattle.rast.specs.Path.{Path}
use Rattle.rast.specs.Mod.{ExternMod?, Mod-as-Fold}
use Rattle.rast.specs.Fold.{Role, a_type, an_expr, holds, other, role, visit, unless, Fold, FoldParts, Type_Fold, Expr_Fold}
use Rattle.rast.specs.Visitor.{RASTTopDownVisitor, VisitType, VisitTypeParams, VisitFields, VisitFn, VisitMember, VisitBody, VisitImplMapping, VisitUse}
use Rattle.rast.specs.Visitor.{VisitTopFn, VisitTraitDecl, VisitStructMapping, VisitModMapping, VisitMod}
use Rattle.rast.proofs.Tests.{either, one_of}

-- where something hereditary holds of what is visited, the single functions need keep P only at records of which it holds
module _ {S : Record → Type 0} {SA : Records → Type 0} (H : Hereditary S SA) where
  -- what each step keeps between two accumulators, two folds over the same records keep
  pub folds-keep-in : {A T : Type 0} (R : A → T → Type 0) (f : A → Record → A) (g : T → Record → T)
      → ((s : A) (t : T) (r : Record) → S r → R s t → R (f s r) (g t r))
      → (s : A) (t : T) (c : Records) → SA c → R s t → R (FoldLeft f s c) (FoldLeft g t c)
  unfolding FoldLeft
  folds-keep-in R f g h s t nil a p = p
  folds-keep-in R f g h s t (r ▸ c) a p = folds-keep-in R f g h (f s r) (g t r) c (H.rest a) (h s t r (H.first a) p)

  -- and so two folds over the declarations of a module
  pub modules-keep-in : {A T : Type 0} (R : A → T → Type 0) (f : A → Record → A) (g : T → Record → T)
      → ((s : A) (t : T) (r : Record) → S r → R s t → R (f s r) (g t r))
      → (s : A) (t : T) (m : Record) → S m → R s t → R (Mod-as-Fold m s f) (Mod-as-Fold m t g)
  unfolding Mod-as-Fold
  modules-keep-in R f g h s t m a p = either R (ExternMod? m) p (folds-keep-in R f g h s t (children (field 3 m)) (children-in H (field_in H 3 a)) p)

  module _ {T : Type 0} (P : T → Type 0) where
    -- what each step keeps, a fold over a record's records keeps
    fold-keeps : (f : T → Record → T) → ((acc : T) (r : Record) → S r → P acc → P (f acc r)) → (acc : T) (r : Record) → S r → P acc
        → P (FoldLeft f acc (children r))
    fold-keeps f h acc r a = folds-keep-in (λ (s t : T). P t) f f (λ s t. h t) acc acc (children r) (children-in H a)

    module _ (f ft : T → Record → T) (hf : (acc : T) (e : Record) → S e → P acc → P (f acc e)) (ht : (acc : T) (t : Record) → S t → P acc → P (ft acc t)) where
      visit-keeps : (k : Role) (this : Record) (parts : T → T) → S this → ((acc : T) → P acc → P (parts acc)) → (acc : T) → P acc
          → P (visit f ft k acc this parts)
      visit-keeps a_type this parts a h acc p = h _ (ht acc this a p)
      visit-keeps an_expr this parts a h acc p = h _ (hf acc this a p)
      visit-keeps holds this parts a h acc p = h acc p
      visit-keeps other this parts a h acc p = p

      unless-keeps : (b : Bool) (others : T → T) → ((acc : T) → P acc → P (others acc)) → (acc : T) → P acc → P (unless b acc others)
      unless-keeps true others h acc p = p
      unless-keeps false others h acc p = h acc p

      -- what the functions for a type and for an expression keep, Fold keeps
      mutual
        unfolding Fold

        pub Fold-keeps-in : (r : Record) → S r → (acc : T) → P acc → P (Fold f ft acc r)
        Fold-keeps-in (leaf k b) a acc p = p
        Fold-keeps-in (node k c) a acc p = visit-keeps (role k) (node k c) _ a (λ acc p. parts-keep c (eqb k 0x37) (H.below a) acc p) acc p

        parts-keep : (c : Records) (b : Bool) → SA c → (acc : T) → P acc → P (FoldParts f ft b acc c)
        parts-keep nil b a acc p = p
        parts-keep (r ▸ c) b a acc p = unless-keeps b _ (λ acc p. parts-keep c false (H.rest a) acc p) _ (Fold-keeps-in r (H.first a) acc p)

    module _ (this : RASTTopDownVisitor T)
        (ht : (acc : T) (t : Record) → S t → P acc → P (this.VisitTypeSingle acc t))
        (he : (acc : T) (e : Record) → S e → P acc → P (this.VisitExprSingle acc e)) where
      -- what a match on a record gives
      abbrev at : Record → (Record → T) → Type 0
      at r f = P (f r)

      type-fold-keeps : (acc : T) (t : Record) → S t → P acc → P (Type_Fold t acc this.VisitTypeSingle)
      type-fold-keeps acc t a = Fold-keeps-in (λ acc e. acc) this.VisitTypeSingle (λ acc e a p. p) ht t a acc

      expr-fold-keeps : (acc : T) (e : Record) → S e → P acc → P (Expr_Fold e acc this.VisitExprSingle this.VisitTypeSingle)
      expr-fold-keeps acc e a = Fold-keeps-in this.VisitExprSingle this.VisitTypeSingle he ht e a acc

      -- what the single functions for a type and for an expression keep, the visit of a type keeps
      pub VisitType-keeps-in : (acc : T) (t : Record) → S t → P acc → P (VisitType this acc t)
      unfolding VisitType
      VisitType-keeps-in = type-fold-keeps

      -- and of type parameters
      pub VisitTypeParams-keeps-in : (acc : T) (ps : Record) → S ps → P acc → P (VisitTypeParams this acc ps)
      unfolding VisitTypeParams
      VisitTypeParams-keeps-in = fold-keeps _ (λ acc t a. fold-keeps _ VisitType-keeps-in acc (field 1 t) (field_in H 1 a))

      -- of fields
      pub VisitFields-keeps-in : (acc : T) (fields : Record) → S fields → P acc → P (VisitFields this acc fields)
      unfolding VisitFields
      VisitFields-keeps-in acc fields a p =
          one_of (at fields) (is 0x75 fields)
          (fold-keeps _ (λ acc f a. VisitType-keeps-in acc (field 1 (field 1 f)) (field_in H 1 (field_in H 1 a))) acc (field 0 fields) (field_in H 0 a) p)
          (one_of (at fields) (is 0x76 fields) (fold-keeps _ (λ acc f a. VisitType-keeps-in acc (field 1 f) (field_in H 1 a)) acc (field 0 fields)
          (field_in H 0 a) p)
          p)

      -- of a function
      pub VisitFn-keeps-in : (acc : T) (fn : Record) → S fn → P acc → P (VisitFn this acc fn)
      unfolding VisitFn
      VisitFn-keeps-in acc fn a p =
          fold-keeps _ expr-fold-keeps _ (field 4 fn) (field_in H 4 a)
          (fold-keeps _ type-fold-keeps _ (field 3 fn) (field_in H 3 a)
          (fold-keeps _ (λ acc f a. type-fold-keeps acc (field 1 f) (field_in H 1 a)) _ (field 2 fn) (field_in H 2 a)
          (VisitTypeParams-keeps-in acc (field 1 fn) (field_in H 1 a) p)))

      -- of an impl's member
      pub VisitMember-keeps-in : (acc : T) (member : Record) → S member → P acc → P (VisitMember this acc member)
      unfolding VisitMember
      VisitMember-keeps-in acc member a p =
          one_of (at member) (is 0x83 member) p
          (one_of (at member) (is 0x84 member) (VisitFn-keeps-in acc (field 3 member) (field_in H 3 a) p)
          (one_of (at member) (is 0x85 member) (VisitType-keeps-in acc (field 1 member) (field_in H 1 a) p)
          (one_of (at member) (is 0x86 member) (expr-fold-keeps acc (field 0 member) (field_in H 0 a) p)
          p)))

      -- of an impl's body
      pub VisitBody-keeps-in : (acc : T) (members : Record) → S members → P acc → P (VisitBody this acc members)
      unfolding VisitBody
      VisitBody-keeps-in = fold-keeps _ VisitMember-keeps-in

      -- of an impl
      pub VisitImplMapping-keeps-in : (acc : T) (impl : Record) → S impl → P acc → P (VisitImplMapping this acc impl)
      unfolding VisitImplMapping
      VisitImplMapping-keeps-in acc impl a p =
          one_of (at impl) (is 0x79 impl)
          (VisitBody-keeps-in _ (field 3 impl) (field_in H 3 a)
          (VisitType-keeps-in _ (field 2 impl) (field_in H 2 a)
          (VisitType-keeps-in _ (field 1 impl) (field_in H 1 a) (VisitTypeParams-keeps-in acc (field 0 impl) (field_in H 0 a) p))))
          (one_of (at impl) (is 0x7A impl) (VisitBody-keeps-in _ (field 2 impl) (field_in H 2 a) (VisitType-keeps-in acc (field 1 impl) (field_in H 1 a) p))
          p)

      -- of a use
      pub VisitUse-keeps-in : (acc : T) (u : Record) → S u → P acc → P (VisitUse this acc u)
      unfolding VisitUse
      VisitUse-keeps-in acc u a p = p

      -- of a function at the top
      pub VisitTopFn-keeps-in : (acc : T) (t : Record) → S t → P acc → P (VisitTopFn this acc t)
      unfolding VisitTopFn
      VisitTopFn-keeps-in acc t a = VisitFn-keeps-in acc (field 3 t) (field_in H 3 a)

      -- of a trait
      pub VisitTraitDecl-keeps-in : (acc : T) (tr : Record) → S tr → P acc → P (VisitTraitDecl this acc tr)
      unfolding VisitTraitDecl
      VisitTraitDecl-keeps-in acc tr a p =
          VisitBody-keeps-in _ (field 5 tr) (field_in H 5 a)
          (fold-keeps _ type-fold-keeps _ (field 4 tr) (field_in H 4 a)
          (type-fold-keeps _ (field 3 tr) (field_in H 3 a) (VisitTypeParams-keeps-in acc (field 2 tr) (field_in H 2 a) p)))

      -- of a struct
      pub VisitStructMapping-keeps-in : (acc : T) (struct : Record) → S struct → P acc → P (VisitStructMapping this acc struct)
      unfolding VisitStructMapping
      VisitStructMapping-keeps-in acc struct a = VisitTypeParams-keeps-in acc (field 3 struct) (field_in H 3 a)

      -- what holds once the declaration itself is visited, holds once its parts are
      pub VisitModMapping-keeps-in : (acc : T) (d : Record) (SelfPath : Path) → S d → P (this.VisitModDeclSingle acc d SelfPath)
          → P (VisitModMapping this acc d SelfPath)
      unfolding VisitModMapping
      VisitModMapping-keeps-in acc d SelfPath a p =
          let it = field 0 d in
          let b : S it = field_in H 0 a in
          one_of (at d) (is 0x62 d) p
          (one_of (at d) (is 0x63 d) (VisitStructMapping-keeps-in _ it b p)
          (one_of (at d) (is 0x64 d) (VisitType-keeps-in _ (field 4 it) (field_in H 4 b) (VisitTypeParams-keeps-in _ (field 3 it) (field_in H 3 b) p))
          (one_of (at d) (is 0x65 d) (expr-fold-keeps _ (field 4 it) (field_in H 4 b) (VisitType-keeps-in _ (field 3 it) (field_in H 3 b) p))
          (one_of (at d) (is 0x66 d)
          (fold-keeps _ (λ acc c a. VisitFields-keeps-in acc (field 2 c) (field_in H 2 a)) _ (field 4 it) (field_in H 4 b)
          (VisitTypeParams-keeps-in _ (field 3 it) (field_in H 3 b) p))
          (one_of (at d) (is 0x67 d) (VisitImplMapping-keeps-in _ it b p)
          (one_of (at d) (is 0x68 d) (VisitTraitDecl-keeps-in _ it b p)
          (one_of (at d) (is 0x69 d) (VisitTopFn-keeps-in _ it b p)
          (one_of (at d) (is 0x6A d) (VisitUse-keeps-in _ it b p)
          p))))))))

      -- what all three single functions keep, the visit of a module keeps
      pub VisitMod-keeps-in : (SelfPath : Path) → ((acc : T) (d : Record) → S d → P acc → P (this.VisitModDeclSingle acc d SelfPath))
          → (acc : T) (m : Record) → S m → P acc → P (VisitMod this acc m SelfPath)
      unfolding VisitMod
      VisitMod-keeps-in SelfPath hd acc m =
          let step : T → Record → T = λ acc d. VisitModMapping this acc d SelfPath in
          modules-keep-in (λ (s t : T). P t) step step (λ s t d a p. VisitModMapping-keeps-in t d SelfPath a (hd t d a p)) acc acc m

-- THE LAWS of what is kept at every record: the same, where nothing need hold of what is visited
-- what each step keeps between two accumulators, two folds over the declarations of a module keep
pub modules-keep : {S T : Type 0} (R : S → T → Type 0) (f : S → Record → S) (g : T → Record → T) → ((s : S) (t : T) (r : Record) → R s t → R (f s r) (g t r))
    → (s : S) (t : T) (m : Record) → R s t → R (Mod-as-Fold m s f) (Mod-as-Fold m t g)
modules-keep R f g h s t m = modules-keep-in always R f g (λ s t r a. h s t r) s t m tt

module _ {T : Type 0} (P : T → Type 0) (this : RASTTopDownVisitor T)
    (ht : (acc : T) (t : Record) → P acc → P (this.VisitTypeSingle acc t))
    (he : (acc : T) (e : Record) → P acc → P (this.VisitExprSingle acc e)) where
  -- what holds once the declaration itself is visited, holds once its parts are
  pub VisitModMapping-keeps : (acc : T) (d : Record) (SelfPath : Path) → P (this.VisitModDeclSingle acc d SelfPath) → P (VisitModMapping this acc d SelfPath)
  VisitModMapping-keeps acc d SelfPath = VisitModMapping-keeps-in always P this (λ acc t a. ht acc t) (λ acc e a. he acc e) acc d SelfPath tt

  -- what all three single functions keep, the visit of a module keeps
  pub VisitMod-keeps : (SelfPath : Path) → ((acc : T) (d : Record) → P acc → P (this.VisitModDeclSingle acc d SelfPath))
      → (acc : T) (m : Record) → P acc → P (VisitMod this acc m SelfPath)
  VisitMod-keeps SelfPath hd acc m = VisitMod-keeps-in always P this (λ acc t a. ht acc t) (λ acc e a. he acc e) SelfPath (λ acc d a. hd acc d) acc m tt
