-- 01, "Proved cards": P1 to P15 as a table, and what straight shortening (02, request 2) makes of them, with one card more of that request and four of
-- request 4. The root is crate, and a constant
-- that has no value named has RawExpr("").
use Rattle.std.specs.Prelude.{List, [], ◌∷◌, ◌++◌, ◌&&◌, ◌||◌, cond, ℕ, ◌+◌, ◌-◌, max, length, replicate, eqb, leb}
use Rattle.answers.specs.Answers.{number, value}
use Rattle.wire.specs.Numbers.{Bytes}
use Rattle.records.specs.Record.{Record, Records, nil, ◌▸◌, encode}
use Rattle.rast.specs.Path.{Name, Path, Global, Self, MSel, dafny_runtime}
use Rattle.rast.specs.Operation.{Operation}
use Rattle.factor_paths.specs.Mapping.{use_decl}
use Rattle.factor_paths.specs.Apply.{TIdentifier, TSynonym, Identifier}
use Rattle.outcome.specs.Outcome.{Outcome, shorten}
use Rattle.proved_cards.specs.Builders.{Crate, Bool', TypeFromPath, Borrowed, RawExpr, ExprFromType, ExprFromPath, Mod, ExternMod, ModDecl, ImplDecl}
use Rattle.proved_cards.specs.Builders.{Impl, constant, struct, Field, function}

-- an answer's number and its length or place, and the output (of a refusal: none)
pub record Answered : Type 0 where
  pub answers : ℕ
  pub with : ℕ
  pub output : Bytes

-- a card, its length, the length of the out buffer that is lent with it, and what each operation answers
pub record ProvedCard : Type 0 where
  pub card : Bytes
  pub long : ℕ
  pub room : ℕ
  pub upstream : Answered
  pub straight : Answered

-- names
abbrev a : Name
a = 97 ∷ []

abbrev b : Name
b = 98 ∷ []

abbrev c : Name
c = 99 ∷ []

abbrev f : Name
f = 102 ∷ []

abbrev m : Name
m = 109 ∷ []

abbrev B : Name
B = 66 ∷ []

abbrev S : Name
S = 83 ∷ []

abbrev X : Name
X = 88 ∷ []

abbrev Y : Name
Y = 89 ∷ []

abbrev mark : Name
mark = 33 ∷ []

abbrev k1 : Name
k1 = 107 ∷ 49 ∷ []

abbrev k2 : Name
k2 = 107 ∷ 50 ∷ []

abbrev rd : Name
rd = 114 ∷ 100 ∷ []

abbrev rd! : Name
rd! = 114 ∷ 100 ∷ 33 ∷ []

-- ::x::n, a type that is a path, and that type shortened
abbrev from : Name → Name → Path
from x n = MSel (MSel Global x) n

abbrev short : Name → Path → Record
short n p = TSynonym (TIdentifier n) (TypeFromPath p)

-- constants k1 and k2 of these types
abbrev constants : Record → Record → Records
constants t u = constant k1 t (RawExpr []) ▸ constant k2 u (RawExpr []) ▸ nil

-- so many bytes put out; a refusal with its place
abbrev puts : ℕ → Record → Answered
puts n s = record { answers = 0; with = n; output = encode s }

abbrev refuses : (answers place : ℕ) → Answered
refuses answers place = record { answers = answers; with = place; output = [] }

-- a card that both operations answer alike, with so many bytes lent
abbrev alike : Bytes → (long room : ℕ) → Answered → ProvedCard
alike card long room both = record { card = card; long = long; room = room; upstream = both; straight = both }

-- a card of so many bytes that is accepted, with so many bytes put out; one byte more is lent
abbrev accepted : (long n : ℕ) → Record → Record → ProvedCard
accepted long n r s = alike (encode r) long (n + 1) (puts n s)

-- and one that straight shortening makes another output of
abbrev apart : ℕ → Record → ℕ → Record → ℕ → Record → ProvedCard
apart long r n s n' s' = record { card = encode r; long = long; room = max n n' + 1; upstream = puts n s; straight = puts n' s' }

abbrev unchanged : ℕ → Record → ProvedCard
unchanged n r = accepted n n r r

abbrev impl_of : Name → Record
impl_of n = Mod m (ImplDecl (Impl (TypeFromPath (MSel Global n))) ▸ nil)

abbrev pub P3-card : Record
P3-card = impl_of B

abbrev pub P3-made : Record
P3-made = Mod m (use_decl (MSel Global B) ▸ ImplDecl (Impl (short B (MSel Global B))) ▸ nil)

abbrev pub P8-card : Record
P8-card = Mod m (constant k1 Bool' (ExprFromPath (from a rd!)) ▸ nil)

abbrev pub P8-made : Record
P8-made = Mod m (use_decl (from a rd) ▸ constant k1 Bool' (Identifier rd!) ▸ nil)

-- crate::m::b, the true path of module b in m
abbrev true-b : Path
true-b = MSel (MSel Crate m) b

-- module b in m, with X of a base and ::c::Y; X short with no use of its own; and with one
abbrev nested_in : Path → Record
nested_in base = Mod m (ModDecl (Mod b (constants (TypeFromPath (MSel base X)) (TypeFromPath (from c Y)))) ▸ nil)

abbrev nested_short : Path → Record
nested_short base = Mod m (ModDecl (Mod b (use_decl (from c Y) ▸ constants (short X (MSel base X)) (short Y (from c Y)))) ▸ nil)

abbrev nested_both : Path → Record
nested_both base =
    Mod m (ModDecl (Mod b (use_decl (MSel base X) ▸ use_decl (from c Y) ▸ constants (short X (MSel base X)) (short Y (from c Y)))) ▸ nil)

abbrev pub P13-card : Record
P13-card = nested_in (MSel true-b b)

abbrev pub P13-made : Record
P13-made = nested_short (MSel true-b b)

abbrev P1-bytes : Bytes
P1-bytes = 9 ∷ 0 ∷ 0 ∷ 0 ∷ 0x61 ∷ 0 ∷ 3 ∷ 0 ∷ 0 ∷ 0 ∷ 1 ∷ 0 ∷ 0x61 ∷ []

unfoldable pub proved_cards : List ProvedCard
proved_cards =
    -- P1, its bytes as 01 spells them; P2
    alike P1-bytes 13 40 (puts 13 (ExternMod a))
    ∷ unchanged 31 (Mod m nil)
    -- P3: one use ::B, and a buffer that just holds it; P4: one byte short
    ∷ alike (encode P3-card) 80 137 (puts 137 P3-made)
    ∷ alike (encode P3-card) 80 136 (refuses 9 0)
    -- P5: ::a::X and ::b::X
    ∷ unchanged 195 (Mod m (constants (TypeFromPath (from a X)) (TypeFromPath (from b X))))
    -- P6: dafny_runtime::X and ::a::X; one use, ::a::X stays long
    ∷ accepted 207 289
    (Mod m (constants (TypeFromPath (MSel dafny_runtime X)) (TypeFromPath (from a X))))
    (Mod m (use_decl (MSel dafny_runtime X) ▸ constants (short X (MSel dafny_runtime X)) (TypeFromPath (from a X))))
    -- P7: struct X, crate::m::X and ::a::X; no use, the former short
    ∷ accepted 244 263
    (Mod m (struct X nil ▸ constants (TypeFromPath (MSel (MSel Crate m) X)) (TypeFromPath (from a X))))
    (Mod m (struct X nil ▸ constants (short X (MSel (MSel Crate m) X)) (TypeFromPath (from a X))))
    -- P8: ::a::rd! as the value of a Bool constant; use ::a::rd, Identifier "rd!"
    ∷ accepted 109 136 P8-card P8-made
    -- P9: Self::X
    ∷ unchanged 100 (Mod m (constant k1 (TypeFromPath (MSel Self X)) (RawExpr []) ▸ nil))
    -- P10: ::a::X in a field of struct S only
    ∷ unchanged 144 (Mod m (struct S (Field f (TypeFromPath (from a X)) ▸ nil) ▸ nil))
    -- P11: result type Borrowed(::B), wrapped twice; straight, once
    ∷ apart 130 (Mod m (function f (Borrowed (TypeFromPath (MSel Global B)) ▸ nil) nil ▸ nil))
    206 (Mod m (use_decl (MSel Global B) ▸ function f (Borrowed (TSynonym (TIdentifier B) (short B (MSel Global B))) ▸ nil) nil ▸ nil))
    187 (Mod m (use_decl (MSel Global B) ▸ function f (Borrowed (short B (MSel Global B)) ▸ nil) nil ▸ nil))
    -- P12: body ExprFromType(::B), wrapped twice; straight, once
    ∷ apart 130 (Mod m (function f nil (ExprFromType (TypeFromPath (MSel Global B)) ▸ nil) ▸ nil))
    206 (Mod m (use_decl (MSel Global B) ▸ function f nil (ExprFromType (TSynonym (TIdentifier B) (short B (MSel Global B))) ▸ nil) ▸ nil))
    187 (Mod m (use_decl (MSel Global B) ▸ function f nil (ExprFromType (short B (MSel Global B)) ▸ nil) ▸ nil))
    -- P13: module b in m, with crate::m::b::b::X and ::c::Y; X short with no use, use ::c::Y in b; straight, use crate::m::b::b::X beside it
    ∷ apart 258 P13-card 347 P13-made 424 (nested_both (MSel true-b b))
    -- P13 with crate::m::b::X: use crate::m::b::X beside use ::c::Y; straight, X short with no use in b
    ∷ apart 245 (nested_in true-b) 398 (nested_both true-b) 334 (nested_short true-b)
    -- P14: a Mod with no content; P15: P1's card and one byte more
    ∷ alike (2 ∷ 0 ∷ 0 ∷ 0 ∷ 0x60 ∷ 0 ∷ []) 6 40 (refuses 4 6)
    ∷ alike (P1-bytes ++ (0 ∷ [])) 14 40 (refuses 7 13)
    -- 02, request 4: P3 with :: and with ::! for ::B; P8 with ::a::!! for ::a::rd!; a module and a struct without names
    ∷ alike (encode (impl_of [])) 79 137 (refuses 11 67)
    ∷ alike (encode (impl_of mark)) 80 137 (refuses 11 67)
    ∷ accepted 108 134 (Mod m (constant k1 Bool' (ExprFromPath (from a (mark ++ mark))) ▸ nil))
    (Mod m (use_decl (from a mark) ▸ constant k1 Bool' (Identifier (mark ++ mark)) ▸ nil))
    ∷ unchanged 78 (Mod [] (struct [] nil ▸ nil))
    ∷ []

-- the number, the length or place, and what the out buffer and the work words hold
pub record Seen : Type 0 where
  pub answers : ℕ
  pub with : ℕ
  pub out : Bytes
  pub work : List ℕ

-- lent with the card: an out buffer of bytes 0xAA, 2,048 work words of 5
abbrev pub seen : Operation → ProvedCard → Seen
seen op p =
    let o : Outcome = shorten op p.card (encode Crate) (replicate p.room 0xAA) (replicate 2048 5) in
    record { answers = number o.answer; with = value o.answer; out = o.out; work = o.work }

-- what is stated of a card with so many bytes lent: the output, and then what the out buffer held; the work words left after 1 to 7 and 11, and else zero
abbrev pub stated : ℕ → Answered → Seen
stated room by =
    record {
      answers = by.answers;
      with = by.with;
      out = by.output ++ replicate (room - length by.output) 0xAA;
      work = replicate 2048 (cond (leb 1 by.answers && leb by.answers 7 || eqb by.answers 11) 5 0);
    }
