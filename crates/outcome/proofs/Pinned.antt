-- Answer 8 in nested modules, on one card, by computation: which module is full by how many pairs there may be, and what is lent after it. Assumes nothing.
use Rattle.std.specs.Prelude.{Err}
use mathlib.Core.Path.{◌≡◌, refl}
use mathlib.Core.List.{[], ◌∷◌, map}
use mathlib.Core.Option.{none, some}
use Prim.Native.Nat.{ℕ}
use lib.ListN.{length, take, drop, replicate}
use Rattle.answers.specs.Answers.{Answer}
use Rattle.answers.specs.declared.Refusal.TheVariants.{ShortWork, LongCard, BadRoot, ShortRecord, FullTable, NoSpace}
use Rattle.wire.specs.Numbers.{Bytes, le, num, same_bytes}
use Rattle.records.specs.Record.{Record, Records, leaf, node, nil, ◌▸◌, deep, encode, parse, nth, tree, set_nth, ◌▸▸◌, first, FoldLeft, map_all}
use Rattle.records.specs.Kinds.{row_of, content_at}
use Rattle.records.specs.Reading.{read, reading}
use Rattle.rast.specs.Path.{Name, Path, Global, MSel, same_path}
use Rattle.rast.specs.Operation.{Operation, upstream}
use Rattle.rast.specs.Mod.{Mod-as-Fold}
use Rattle.rast.specs.Fold.{Fold}
use Rattle.rast.specs.Replace.{Replace}
use Rattle.rast.specs.Visitor.{VisitType, VisitTypeParams, VisitBody, VisitImplMapping, VisitStructMapping, VisitModMapping, VisitMod}
use Rattle.rast.specs.Replacer.{ReplaceType, ReplaceFields, ReplaceTypeParams, ReplaceBody, ReplaceImplDecl, ReplaceStruct, ReplaceModDecl, ReplaceMod}
use Rattle.rast.specs.Final.{is_among, final_path}
use Rattle.factor_paths.specs.Mapping.{get, set, Add, ToFinalReplacement, ToUseStatements, pairs}
use Rattle.factor_paths.specs.PathsVisitor.{VisitTypeSingle, VisitModDeclSingle}
use Rattle.factor_paths.specs.Apply.{replaces, ReplaceTypeSingle, PathSimplifier, mappings, paths_to_remove, imports, apply_prefix, apply}
use Rattle.outcome.specs.FullTable.{first_in, full_table}
use Rattle.outcome.specs.Outcome.{Outcome, admitted, shorten}

abbrev Crate : Path
Crate = node 0x11 nil

abbrev Mod : Name → Records → Record
Mod name body = node 0x60 (leaf 0x01 [] ▸ leaf 0x03 [] ▸ leaf 0x01 name ▸ node 0x02 body ▸ nil)

abbrev ModDecl : Record → Record
ModDecl m = node 0x62 (m ▸ nil)

-- StructDecl(Struct(.., name, [], NamedFields([]))): the pair of the name and the prefix
abbrev struct : Name → Record
struct name = node 0x63 (node 0x70 (leaf 0x01 [] ▸ leaf 0x03 [] ▸ leaf 0x01 name ▸ node 0x02 nil ▸ node 0x75 (node 0x02 nil ▸ nil) ▸ nil) ▸ nil)

-- ImplDecl(Impl([], TypeFromPath(PMemberSelect(base, name)), [])): the pair of the name and the base
abbrev named : Path → Name → Record
named base name = node 0x67 (node 0x7A (node 0x02 nil ▸ node 0x2D (MSel base name ▸ nil) ▸ node 0x02 nil ▸ nil) ▸ nil)

-- names
abbrev b : Name
b = 98 ∷ []

abbrev c : Name
c = 99 ∷ []

abbrev d : Name
d = 100 ∷ []

abbrev m : Name
m = 109 ∷ []

abbrev W : Name
W = 87 ∷ []

abbrev X : Name
X = 88 ∷ []

abbrev Y : Name
Y = 89 ∷ []

abbrev Z : Name
Z = 90 ∷ []

-- prefixes: each nested module's name stands twice
abbrev in_b : Path
in_b = MSel (MSel (MSel Crate m) b) b

abbrev in_c : Path
in_c = MSel (MSel in_b c) c

-- ::X, ::Y, ::Z
abbrev three : Records
three = named Global X ▸ named Global Y ▸ named Global Z ▸ nil

-- m has the pairs of b and d, 2. b has those of X, Y and c, 3: crate::m::b::b::X is its own X, so long as b stands twice in its prefix.
-- c, which is in b, has those of W and the three, 4: crate::m::b::b::c::c::W is its own W. d, which comes after b, has 4 too
abbrev C : Record
C = Mod c (struct W ▸ named in_c W ▸ three)

abbrev B : Record
B = Mod b (struct X ▸ named in_b X ▸ named Global Y ▸ ModDecl C ▸ nil)

abbrev card : Record
card = Mod m (ModDecl B ▸ ModDecl (Mod d (struct W ▸ three)) ▸ nil)

-- B's bytes are at 37, and C's at 260
pub stand-there : (take (length (encode B)) (drop 37 (encode card)) ≡ encode B) × (take (length (encode C)) (drop 260 (encode card)) ≡ encode C)
unfolding le encode
stand-there = (refl, refl)

-- which is full, where there may be no more than 0 to 4 pairs: the outer before the inner, and what is in the first before the next; and with 4 none
pub full_at : map (λ most. full_table upstream most (deep card) card (MSel Crate m) 0) (0 ∷ 1 ∷ 2 ∷ 3 ∷ 4 ∷ [])
    ≡ some 0 ∷ some 0 ∷ some 37 ∷ some 260 ∷ none ∷ []
unfolding le same_bytes deep encode nth first FoldLeft same_path Mod-as-Fold Fold VisitType VisitTypeParams VisitBody VisitImplMapping VisitStructMapping
    VisitModMapping VisitMod get set is_among final_path Add pairs VisitTypeSingle VisitModDeclSingle mappings first_in full_table
full_at = refl

-- upstream, but for the limits of 1, 2, 3 and 8: as many pairs as words
abbrev limited : Operation
limited =
    record {
      fewest_words = 1;
      most_card_bytes = 834;
      most_root_bytes = 6;
      root_depth = upstream.root_depth;
      card_depth = upstream.card_depth;
      most_pairs = λ words. words;
      outermost = upstream.outermost;
      same_name = upstream.same_name;
      names_again = upstream.names_again;
      walks_again = upstream.walks_again;
      chosen_base = upstream.chosen_base;
    }

-- lent: so many words of 5, an out buffer of two bytes, and then a card and a root
abbrev lent : ℕ → Bytes → Bytes → Outcome
lent words card root = shorten limited card root (7 ∷ 8 ∷ []) (replicate words 5)

-- the out buffer is left, and the words are zero
abbrev late : Answer → ℕ → Outcome
late a words = record { answer = a; out = 7 ∷ 8 ∷ []; work = replicate words 0 }

-- 8 at the module that is full, though the out buffer is too short; with room for every pair, 9. The card and the root are as long as they may be
pub full-first : map (λ words. lent words (encode card) (encode Crate)) (1 ∷ 2 ∷ 3 ∷ 4 ∷ [])
    ≡ late (Err (FullTable 0)) 1 ∷ late (Err (FullTable 37)) 2 ∷ late (Err (FullTable 260)) 3 ∷ late (Err NoSpace) 4 ∷ []
unfolding le num same_bytes deep encode parse nth tree set_nth ◌▸▸◌ first FoldLeft map_all row_of content_at read reading same_path Mod-as-Fold Fold Replace
    VisitType VisitTypeParams VisitBody VisitImplMapping VisitStructMapping VisitModMapping VisitMod ReplaceType ReplaceFields ReplaceTypeParams
    ReplaceBody ReplaceImplDecl ReplaceStruct ReplaceModDecl ReplaceMod get set is_among final_path Add ToFinalReplacement ToUseStatements pairs VisitTypeSingle
    VisitModDeclSingle replaces ReplaceTypeSingle PathSimplifier mappings paths_to_remove imports apply_prefix apply first_in full_table admitted shorten
full-first = refl

-- the words are left too
abbrev early : Answer → ℕ → Outcome
early a words = record { answer = a; out = 7 ∷ 8 ∷ []; work = replicate words 5 }

-- 1 before 2, 2 before 3, 3 before reading; and a root that is too long, though it is sound
pub in_order :
    lent 0 (replicate 835 0) [] ∷ lent 1 (replicate 835 0) [] ∷ lent 1 [] [] ∷ lent 1 [] (encode (MSel Global X)) ∷ lent 1 [] (encode Crate) ∷ []
    ≡ early (Err ShortWork) 0 ∷ early (Err LongCard) 1 ∷ early (Err BadRoot) 1 ∷ early (Err BadRoot) 1 ∷ early (Err (ShortRecord 0)) 1 ∷ []
unfolding le num encode row_of content_at read reading admitted shorten
in_order = refl
