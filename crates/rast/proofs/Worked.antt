-- A worked module, by computation: the order in which a visitor meets its types and expressions, and how often a replacer replaces each. And the values that
-- operations have: the prefix of a nested module, a table's limit. Assumes nothing.
use mathlib.Core.Path.{◌≡◌, refl}
use mathlib.Core.List.{List, [], ◌∷◌, ◌++◌, map}
use mathlib.Core.Bool.{Bool}
use mathlib.Core.Option.{some}
use Prim.Native.Nat.{ℕ, suc, ◌+◌, ◌*◌, ◌≤◌, ◌<◌}
use native.Mathlib.Omega.{arith}
use Rattle.wire.specs.Numbers.{Bytes}
use Rattle.records.specs.Record.{Record, Records, leaf, node, nil, ◌▸◌, ◌▸▸◌, kind, text, nth, field, update, set_nth, FoldLeft, map_all, Map}
use Rattle.rast.specs.Path.{Name, Path, Global, MSel, selected}
use Rattle.rast.specs.Operation.{nested, shortening, upstream, straight}
use Rattle.rast.specs.Mod.{Mod-as-Fold}
use Rattle.rast.specs.Fold.{Fold, Type_Fold, Expr_Fold}
use Rattle.rast.specs.Replace.{Replace, Type_Replace, Formal_Replace}
use Rattle.rast.specs.Visitor.{RASTTopDownVisitor, VisitType, VisitTypeParams, VisitFields, VisitFn, VisitMember, VisitBody, VisitImplMapping}
use Rattle.rast.specs.Visitor.{VisitUse, VisitTopFn, VisitTraitDecl, VisitStructMapping, VisitModMapping, VisitMod}
use Rattle.rast.specs.Replacer.{RASTBottomUpReplacer, ReplaceType, ReplaceExpr, ReplaceFields, ReplaceTypeParams, ReplaceFn, ReplaceImplMember}
use Rattle.rast.specs.Replacer.{ReplaceBody, ReplaceUse, ReplaceTopFn, ReplaceTrait, ReplaceImplDecl, ReplaceEnumCase, ReplaceEnum, ReplaceConst}
use Rattle.rast.specs.Replacer.{ReplaceTypeDecl, ReplaceStruct, ReplaceModDecl, ReplaceMod}

-- TIdentifier and Identifier, each with a number for its name
abbrev t : ℕ → Record
t n = node 0x2C (leaf 0x01 (n ∷ []) ▸ nil)

abbrev x : ℕ → Record
x n = node 0x42 (leaf 0x01 (n ∷ []) ▸ nil)

abbrev Text : Record
Text = leaf 0x01 []

abbrev Kept : Record
Kept = leaf 0x03 []

abbrev one : Record → Record
one r = node 0x02 (r ▸ nil)

-- what a visitor meets: of a record its kind, then its name if it has one
abbrev met : Bytes → Record → Bytes
met acc r = acc ++ (kind r ∷ text (field 0 r))

-- FnType([Borrowed(1), 2], TSynonym(3, 4)): the node, then its parts; of a synonym the display alone
pub type-folded : Type_Fold (node 0x34 (node 0x02 (node 0x2F (t 1 ▸ nil) ▸ t 2 ▸ nil) ▸ node 0x37 (t 3 ▸ t 4 ▸ nil) ▸ nil)) [] met
    ≡ 0x34 ∷ 0x2F ∷ 0x2C ∷ 1 ∷ 0x2C ∷ 2 ∷ 0x37 ∷ 0x2C ∷ 3 ∷ []
unfolding Fold nth
type-folded = refl

-- Lambda([x: 1], [2], Match(3, [.. => ExprFromType(4)])): expressions and the types in them
pub expr-folded : Expr_Fold (node 0x5E (one (node 0x7E (Text ▸ t 1 ▸ nil)) ▸ one (t 2)
    ▸ node 0x43 (x 3 ▸ one (node 0x81 (Kept ▸ node 0x41 (t 4 ▸ nil) ▸ nil)) ▸ nil) ▸ nil)) [] met met
    ≡ 0x5E ∷ 0x2C ∷ 1 ∷ 0x2C ∷ 2 ∷ 0x43 ∷ 0x42 ∷ 3 ∷ 0x41 ∷ 0x2C ∷ 4 ∷ []
unfolding Fold nth
expr-folded = refl

-- TSynonym(1, 2), each type borrowed: children first, the base too
pub type-replaced : Type_Replace (node 0x37 (t 1 ▸ t 2 ▸ nil)) (λ r. node 0x2F (r ▸ nil))
    ≡ node 0x2F (node 0x37 (node 0x2F (t 1 ▸ nil) ▸ node 0x2F (t 2 ▸ nil) ▸ nil) ▸ nil)
unfolding Replace
type-replaced = refl

abbrev Mod : Name → Records → Record
Mod name body = node 0x60 (Text ▸ Kept ▸ leaf 0x01 name ▸ node 0x02 body ▸ nil)

-- [T: r]
abbrev params : Record → Record
params r = one (node 0x7F (Text ▸ one r ▸ nil))

-- Fn("", [T: ?], [x: Borrowed(?)], [Borrowed(?)], [ExprFromType(?)]), of four numbers from n on: f of the first, g of the others
abbrev fn : (ℕ → ℕ) → (ℕ → ℕ) → ℕ → Record
fn f g n =
    node 0x7D (Text ▸ params (t (f n)) ▸ one (node 0x7E (Text ▸ node 0x2F (t (g (n + 1)) ▸ nil) ▸ nil)) ▸ one (node 0x2F (t (g (n + 2)) ▸ nil))
    ▸ one (node 0x41 (t (g (n + 3)) ▸ nil)) ▸ nil)

-- NamedFields([Field(PUB, Formal(x, ?))]), NamelessFields([NamelessField(PUB, ?)])
abbrev named : Record → Record
named r = node 0x75 (one (node 0x77 (Kept ▸ node 0x7E (Text ▸ r ▸ nil) ▸ nil)) ▸ nil)

abbrev nameless : Record → Record
nameless r = node 0x76 (one (node 0x78 (Kept ▸ r ▸ nil)) ▸ nil)

-- a declaration of each kind, with f of the numbers 1 to 28, and g of those under a type or an expression in a Fn
abbrev declared : (ℕ → ℕ) → (ℕ → ℕ) → Record → Records
declared f g inner =
    node 0x62 (inner ▸ nil)
    ▸ node 0x63 (node 0x70 (Text ▸ Kept ▸ Text ▸ params (t (f 1)) ▸ named (t (f 2)) ▸ nil) ▸ nil)
    ▸ node 0x64 (node 0x71 (Text ▸ Kept ▸ Text ▸ params (t (f 3)) ▸ t (f 4) ▸ nil) ▸ nil)
    ▸ node 0x65 (node 0x72 (Text ▸ Kept ▸ Text ▸ t (f 5) ▸ x (f 6) ▸ nil) ▸ nil)
    ▸ node 0x66 (node 0x73 (Text ▸ Kept ▸ Text ▸ params (t (f 7))
    ▸ node 0x02 (node 0x74 (Text ▸ Text ▸ named (t (f 8)) ▸ nil) ▸ node 0x74 (Text ▸ Text ▸ nameless (t (f 9)) ▸ nil) ▸ nil) ▸ nil) ▸ nil)
    ▸ node 0x67 (node 0x79 (params (t (f 10)) ▸ t (f 11) ▸ t (f 12)
    ▸ node 0x02 (node 0x83 (Text ▸ nil) ▸ node 0x84 (Text ▸ Kept ▸ Kept ▸ fn f g 13 ▸ nil)
    ▸ node 0x85 (Text ▸ t (f 17) ▸ nil) ▸ node 0x86 (x (f 18) ▸ nil) ▸ nil) ▸ nil) ▸ nil)
    ▸ node 0x67 (node 0x7A (params (t (f 19)) ▸ t (f 20) ▸ node 0x02 nil ▸ nil) ▸ nil)
    ▸ node 0x68 (node 0x7B (Text ▸ Kept ▸ params (t (f 21)) ▸ t (f 22) ▸ one (t (f 23)) ▸ one (node 0x86 (x (f 24) ▸ nil)) ▸ nil) ▸ nil)
    ▸ node 0x69 (node 0x7C (Text ▸ Kept ▸ Kept ▸ fn f g 25 ▸ nil) ▸ nil)
    ▸ node 0x6A (node 0x80 (Kept ▸ Global ▸ nil) ▸ nil)
    ▸ nil

-- the module's path, and a module in it
abbrev path : Path
path = MSel Global (200 ∷ [])

abbrev inner : Record
inner = Mod (201 ∷ []) (node 0x65 (node 0x72 (Text ▸ Kept ▸ Text ▸ t 99 ▸ x 99 ▸ nil) ▸ nil) ▸ nil)

abbrev worked : Record
worked = Mod (200 ∷ []) (declared (λ n. n) (λ n. n) inner)

-- a visitor that keeps the names it meets, and of a declaration its kind and the path's name
abbrev keeping : RASTTopDownVisitor Bytes
keeping =
    record {
      VisitTypeSingle = λ acc r. acc ++ text (field 0 r);
      VisitExprSingle = λ acc r. acc ++ text (field 0 r);
      VisitModDeclSingle = λ acc d p. acc ++ (kind d ∷ text (field 1 p));
    }

-- a struct's fields, 2, and an Impl's type parameters, 19, are not visited, and a nested module is not entered
pub module-visited : VisitMod keeping [] worked path
    ≡ 0x62 ∷ 200 ∷ 0x63 ∷ 200 ∷ 1 ∷ 0x64 ∷ 200 ∷ 3 ∷ 4 ∷ 0x65 ∷ 200 ∷ 5 ∷ 6 ∷ 0x66 ∷ 200 ∷ 7 ∷ 8 ∷ 9
    ∷ 0x67 ∷ 200 ∷ 10 ∷ 11 ∷ 12 ∷ 13 ∷ 14 ∷ 15 ∷ 16 ∷ 17 ∷ 18 ∷ 0x67 ∷ 200 ∷ 20
    ∷ 0x68 ∷ 200 ∷ 21 ∷ 22 ∷ 23 ∷ 24 ∷ 0x69 ∷ 200 ∷ 25 ∷ 26 ∷ 27 ∷ 28 ∷ 0x6A ∷ 200 ∷ []
unfolding nth FoldLeft Mod-as-Fold Fold VisitType VisitTypeParams VisitFields VisitFn VisitMember VisitBody VisitImplMapping VisitUse VisitTopFn VisitTraitDecl
    VisitStructMapping VisitModMapping VisitMod
module-visited = refl

-- a replacer that makes a name one more, and puts the path that it is handed in a nested module's place
abbrev more : Record → Record
more (leaf k b) = leaf k (map suc b)
more (node k c) = node k c

abbrev counting : RASTBottomUpReplacer
counting = record { ReplaceModSingle = λ m p. p; ReplaceTypeSingle = update 0 more; ReplaceExprSingle = update 0 more }

-- each is replaced once, and twice where a Fn's types and expressions hold it; straight, once there too
pub module-replaced : (ReplaceMod upstream counting worked path ≡ Mod (200 ∷ []) (declared suc (λ n. suc (suc n)) (MSel path (201 ∷ []))))
    × (ReplaceMod straight counting worked path ≡ Mod (200 ∷ []) (declared suc suc (MSel path (201 ∷ []))))
unfolding nth set_nth ◌▸▸◌ FoldLeft map_all Mod-as-Fold Replace ReplaceType ReplaceExpr ReplaceFields ReplaceTypeParams ReplaceFn ReplaceImplMember
    ReplaceBody ReplaceUse ReplaceTopFn ReplaceTrait ReplaceImplDecl ReplaceEnumCase ReplaceEnum ReplaceConst ReplaceTypeDecl
    ReplaceStruct ReplaceModDecl ReplaceMod
module-replaced = (refl, refl)

-- TypeFromPath(PMemberSelect(Global, "A")): its base and its name
pub path-selected : selected 0x2D (node 0x2D (node 0x13 (Global ▸ leaf 0x01 (65 ∷ []) ▸ nil) ▸ nil)) ≡ some (record { base = Global; name = 65 ∷ [] })
unfolding nth
path-selected = refl

-- 01, applyPrefix: a nested module's name stands twice in its prefix
pub nested-twice : (S : Path) (name : Name) → nested upstream S name ≡ MSel (MSel S name) name
nested-twice S name = refl

-- 02, request 2: straight, once, which is its true path
pub nested-once : (S : Path) (name : Name) → nested straight S name ≡ MSel S name
nested-once S name = refl

-- and a Fn's types and body are replaced as those of any other declaration are
pub fn-straight : (this : RASTBottomUpReplacer) (t : Record) → ReplaceFn straight this t
    ≡ update 1 (ReplaceTypeParams straight this)
    (update 2 (Map (λ formal. Formal_Replace formal this.ReplaceTypeSingle))
    (update 3 (Map (ReplaceType straight this)) (update 4 (Map (ReplaceExpr straight this)) t)))
unfolding ReplaceFn ReplaceType ReplaceExpr
fn-straight this t = refl

-- 02, request 5: a table's limit for so many words, by either operation: 513 pairs want 2,052 words, 1,024 pairs 4,096, and more words bring no more
pub limits : let words : List ℕ = 2048 ∷ 2051 ∷ 2052 ∷ 2800 ∷ 4095 ∷ 4096 ∷ 4100 ∷ 8192 ∷ [] in
    (map upstream.most_pairs words ≡ 512 ∷ 512 ∷ 513 ∷ 700 ∷ 1023 ∷ 1024 ∷ 1024 ∷ 1024 ∷ []) × (map straight.most_pairs words ≡ map upstream.most_pairs words)
limits = (refl, refl)

-- of any words: four of them for each pair, no more than 1,024 pairs, and below that too few words left for one more
pub limit_is : (again : Bool) (words : ℕ) → let most : ℕ = (shortening again).most_pairs words in
    (4 * most ≤ words) × (most ≤ 1024) × (most < 1024 → words < 4 * (most + 1))
limit_is again words = (omega arith, omega arith, λ l. omega (arith, l))
