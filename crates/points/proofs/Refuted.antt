-- Wrong outputs of one card, and the point of each that does not hold, by computation: the statement is not too weak. Assumes nothing.
use mathlib.Core.Path.{◌≡◌, refl, ap}
use mathlib.Core.List.{[], ◌∷◌}
use mathlib.Core.Bool.{false≢true}
use Prim.Native.Nat.{ℕ, zero, suc}
use native.Mathlib.Omega.{arith}
use lib.ListN.{get_or}
use Rattle.wire.specs.Numbers.{same_bytes}
use Rattle.records.specs.Record.{Record, Records, leaf, node, nil, ◌▸◌, ◌▸▸◌, kind, text, nth, field, set_nth, count, skip, first, FoldLeft}
use Rattle.rast.specs.Path.{Name, Path, Global, MSel, same_path}
use Rattle.rast.specs.Operation.{Operation, upstream, straight}
use Rattle.rast.specs.Mod.{Mod-as-Fold}
use Rattle.rast.specs.Fold.{Fold}
use Rattle.rast.specs.Visitor.{VisitType, VisitTypeParams, VisitBody, VisitImplMapping, VisitStructMapping, VisitModMapping, VisitMod}
use Rattle.factor_paths.specs.Mapping.{use_decl, get, set, Add}
use Rattle.factor_paths.specs.PathsVisitor.{VisitTypeSingle, VisitModDeclSingle}
use Rattle.factor_paths.specs.Apply.{TIdentifier, TSynonym, mappings}
use Rattle.factor_paths.specs.Walk.{synonyms}
use Rattle.factor_paths.specs.LookUp.{UseDecls, unmarked_all, names_borne, look_up, has, different}
use Rattle.points.specs.Points.{Point, outside}

-- names
abbrev B : Name
B = 66 ∷ []

abbrev X : Name
X = 88 ∷ []

abbrev Y : Name
Y = 89 ∷ []

abbrev TypeFromPath : Path → Record
TypeFromPath p = node 0x2D (p ▸ nil)

-- a type that displays B
abbrev short : Path → Record
short p = TSynonym (TIdentifier B) (TypeFromPath p)

-- StructDecl(Struct(.., name, [], NamedFields([]))), or a declaration of another kind k
abbrev decl : ℕ → Name → Record
decl k name = node k (node 0x70 (leaf 0x01 [] ▸ leaf 0x03 [] ▸ leaf 0x01 name ▸ node 0x02 nil ▸ node 0x75 (node 0x02 nil ▸ nil) ▸ nil) ▸ nil)

-- Mod(.., X, ahead, a declaration and then ImplDecl(Impl([], t, [])))
abbrev made : Records → Record → Record → Record
made ahead d t =
    node 0x60 (leaf 0x01 [] ▸ leaf 0x03 [] ▸ leaf 0x01 X
    ▸ node 0x02 (ahead ▸▸ (d ▸ node 0x67 (node 0x7A (node 0x02 nil ▸ t ▸ node 0x02 nil ▸ nil) ▸ nil) ▸ nil)) ▸ nil)

-- the card: struct X, and ::B
abbrev card : Record
card = made nil (decl 0x63 X) (TypeFromPath (MSel Global B))

abbrev uses : Records
uses = use_decl (MSel Global B) ▸ nil

-- every point of an output of the card, whose root is crate
unfoldable Holds : Operation → Record → Type 0
unfolding Point UseDecls synonyms unmarked_all names_borne look_up has different same_bytes nth set_nth ◌▸▸◌ count skip first FoldLeft same_path Mod-as-Fold Fold
    VisitType VisitTypeParams VisitBody VisitImplMapping VisitStructMapping VisitModMapping VisitMod get set Add VisitTypeSingle VisitModDeclSingle mappings
Holds op that = Point op (outside op (node 0x11 nil)) card that

abbrev Refuted : Record → Type 0
Refuted that = Holds upstream that → ⊥

-- ::B is short, and no use bears its name, or one of another path does; s is the point of the impl's type
no-use : Refuted (made nil (decl 0x63 X) (short (MSel Global B)))
unfolding Holds
no-use h =
    let s = h.2.1.1.1.0.1.1.0.1.0.1.1.0 in
    false≢true (s.finds refl)

other_path : Refuted (made (use_decl (MSel (MSel Global X) B) ▸ nil) (decl 0x63 X) (short (MSel Global B)))
unfolding Holds
other_path h =
    let s = h.2.1.1.1.0.1.1.0.1.0.1.1.0 in
    let e : B ≡ s.name = ap (λ r. text (field 0 (field 0 r))) s.wrapped in
    false≢true (rw (← e) at (s.finds refl))

-- the synonym's base is not the card's type
no-base : (name : Name) (n : ℕ) → TypeFromPath (MSel Global Y) ≡ synonyms name n (TypeFromPath (MSel Global B)) → ⊥
unfolding synonyms nth
no-base name zero e = let f = ap (λ r. get_or (text (field 1 (field 0 r))) 0 0) e in omega arith
no-base name (suc n) e = let f = ap kind e in omega arith

other-base : Refuted (made uses (decl 0x63 X) (short (MSel Global Y)))
unfolding Holds
other-base h =
    let s = h.2.1.1.1.0.1.1.0.1.0.1.1.0 in
    no-base s.name s.more (ap (field 1) s.wrapped)

-- straight, it is wrapped twice
wrapped-twice : Holds straight (made uses (decl 0x63 X) (TSynonym (TIdentifier B) (short (MSel Global B)))) → ⊥
unfolding Holds
wrapped-twice h =
    let s = h.2.1.1.1.0.1.1.0.1.0.1.1.0 in
    let e = ap (λ r. kind (field 1 r)) (rw (s.once refl) at s.wrapped) in
    omega arith

-- two uses bear one name, or one bears a declaration's
name-twice : Refuted (made (uses ▸▸ (use_decl (MSel (MSel Global X) B) ▸ nil)) (decl 0x63 X) (short (MSel Global B)))
unfolding Holds
name-twice h = false≢true h.1.are_different

own_name : Refuted (made (uses ▸▸ (use_decl (MSel Global X) ▸ nil)) (decl 0x63 X) (short (MSel Global B)))
unfolding Holds
own_name h = false≢true h.1.are_different

-- what is put ahead is no use
no-decl : Refuted (made (decl 0x63 Y ▸ nil) (decl 0x63 X) (TypeFromPath (MSel Global B)))
unfolding Holds
no-decl h = let e = h.1.are_uses.0 in omega arith

-- or bears no name
no-name : Refuted (made (uses ▸▸ (use_decl (MSel Global []) ▸ nil)) (decl 0x63 X) (short (MSel Global B)))
unfolding Holds
no-name h = false≢true h.1.are_uses.3.2

-- or has for its path a record of another kind, which holds a name
no-select : Refuted (made (uses ▸▸ (use_decl (node 0x5D (Global ▸ leaf 0x01 Y ▸ nil)) ▸ nil)) (decl 0x63 X) (short (MSel Global B)))
unfolding Holds
no-select h = let e = h.1.are_uses.3.1 in omega arith

-- another declaration's name, and another kind of declaration
other_text : Refuted (made uses (decl 0x63 Y) (short (MSel Global B)))
unfolding Holds
other_text h = let e = ap (λ b. get_or b 0 0) h.2.1.1.1.0.1.0.1.0.1.1.1.0.1 in omega arith

other-kind : Refuted (made uses (decl 0x64 X) (short (MSel Global B)))
unfolding Holds
other-kind h = let e = h.2.1.1.1.0.1.0.0 in omega arith
