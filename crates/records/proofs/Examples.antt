-- Worked records, by computation: one card's bytes, its faults in the papers' order, how many fields each kind has, and where a name is due. Assumes nothing.
use Rattle.std.specs.Prelude.{Ok, Err}
use mathlib.Core.Path.{◌≡◌, refl}
use mathlib.Core.Bool.{Bool, true, false, cond}
use mathlib.Core.List.{List, [], ◌∷◌, ◌++◌, map}
use Prim.Native.Nat.{ℕ, zero, suc}
use lib.ListN.{length, replicate}
use Rattle.answers.specs.declared.Refusal.TheVariants.{ShortRecord, WrongKind, TooDeep, LeftOver, NoName}
use Rattle.wire.specs.Numbers.{Bytes, le, num}
use Rattle.records.specs.Record.{Record, Records, leaf, node, nil, ◌▸◌, encode, parse, nth, tree}
use Rattle.records.specs.Kinds.{Place, kinds, name, seq, option, mod', path, Row, rows, row_of, content_at}
use Rattle.records.specs.Reading.{is_no_name, read, reading}
use Rattle.records.specs.Named.{named}

-- 01, Leaf 1: a row for each kind, in order: Path, Type, Expr, Mod and ModDecl, and what these hold
abbrev run : ℕ → ℕ → List ℕ
run from zero = []
run from (suc n) = from ∷ run (suc from) n

pub kinds-are : map (λ r. r.kind) rows ≡ run 0x10 4 ++ run 0x20 25 ++ run 0x40 31 ++ run 0x60 11 ++ run 0x70 23
kinds-are = refl

-- the fields of each constructor
pub fields-are : map (λ r. length r.places) rows
    ≡ 0 ∷ 0 ∷ 0 ∷ 2 ∷ []
    ++ replicate 12 0 ++ 1 ∷ 1 ∷ 2 ∷ 1 ∷ 1 ∷ 1 ∷ 1 ∷ 1 ∷ 2 ∷ 2 ∷ 2 ∷ 2 ∷ 3 ∷ []
    ++ 1 ∷ 1 ∷ 1 ∷ 2 ∷ 2 ∷ 1 ∷ 2 ∷ 1 ∷ 3 ∷ 4 ∷ 2 ∷ 2 ∷ 1 ∷ 1 ∷ 3 ∷ 4 ∷ 2 ∷ 3 ∷ 2 ∷ 3 ∷ 2 ∷ 1 ∷ 1 ∷ 1 ∷ 2 ∷ 2 ∷ 2 ∷ 2 ∷ 1 ∷ 2 ∷ 3 ∷ []
    ++ 4 ∷ 1 ∷ 1 ∷ 1 ∷ 1 ∷ 1 ∷ 1 ∷ 1 ∷ 1 ∷ 1 ∷ 1 ∷ []
    ++ 5 ∷ 5 ∷ 5 ∷ 5 ∷ 3 ∷ 1 ∷ 1 ∷ 2 ∷ 2 ∷ 4 ∷ 3 ∷ 6 ∷ 4 ∷ 5 ∷ 2 ∷ 2 ∷ 2 ∷ 2 ∷ 2 ∷ 1 ∷ 4 ∷ 2 ∷ 1 ∷ []
fields-are = refl

-- 01's ExternMod("a")
abbrev extern : Bytes
extern = 0x09 ∷ 0 ∷ 0 ∷ 0 ∷ 0x61 ∷ 0 ∷ 0x03 ∷ 0 ∷ 0 ∷ 0 ∷ 0x01 ∷ 0 ∷ 0x61 ∷ []

pub extern-is : (encode (node 0x61 (leaf 0x01 (0x61 ∷ []) ▸ nil)) ≡ extern) × (tree extern ≡ node 0x61 (leaf 0x01 (0x61 ∷ []) ▸ nil))
unfolding le num encode parse nth tree
extern-is = (refl, refl)

abbrev T : Record
T = node 0x2C (leaf 0x01 (84 ∷ []) ▸ nil)

abbrev Text : Record
Text = leaf 0x01 []

abbrev Kept : Record
Kept = leaf 0x03 []

-- a module with a use and a function, which returns what is in the Option at 164
abbrev worked : Records → Record
worked result =
    node 0x60 (Text ▸ Kept ▸ Text ▸ node 0x02 (
    node 0x6A (node 0x80 (Kept ▸ node 0x11 nil ▸ nil) ▸ nil)
    ▸ node 0x69 (node 0x7C (Text ▸ Kept ▸ Kept ▸ node 0x7D (
    Text ▸ node 0x02 (node 0x7F (Text ▸ node 0x02 (T ▸ nil) ▸ nil) ▸ nil) ▸ node 0x02 (node 0x7E (Text ▸ T ▸ nil) ▸ nil)
    ▸ node 0x02 result ▸ node 0x02 (node 0x41 (T ▸ nil) ▸ nil) ▸ nil) ▸ nil) ▸ nil)
    ▸ nil) ▸ nil)

-- the result: none, a synonym, a record of another kind, two records; and in a synonym, one type too many
pub result-read : map (λ result. reading 48 mod' (encode (worked result)))
    (nil ∷ (node 0x37 (T ▸ T ▸ nil) ▸ nil) ∷ (Text ▸ nil) ∷ (T ▸ T ▸ nil) ∷ (node 0x37 (T ▸ T ▸ T ▸ nil) ▸ nil) ∷ [])
    ≡ Ok tt ∷ (Ok tt) ∷ Err (WrongKind 170) ∷ Err (LeftOver 183) ∷ Err (LeftOver 202) ∷ []
unfolding le num encode row_of content_at read reading
result-read = refl

-- 4: no bytes, a length of 1, one past the end, one past the parent's end, no first field (01, P14)
pub short-read : map (reading 48 mod') (
    []
    ∷ (1 ∷ 0 ∷ 0 ∷ 0 ∷ 0x61 ∷ 0 ∷ [])
    ∷ (3 ∷ 0 ∷ 0 ∷ 0 ∷ 0x61 ∷ 0 ∷ [])
    ∷ (8 ∷ 0 ∷ 0 ∷ 0 ∷ 0x61 ∷ 0 ∷ 3 ∷ 0 ∷ 0 ∷ 0 ∷ 1 ∷ 0 ∷ [])
    ∷ (2 ∷ 0 ∷ 0 ∷ 0 ∷ 0x60 ∷ 0 ∷ [])
    ∷ [])
    ≡ map (λ at. Err (ShortRecord at)) (0 ∷ 0 ∷ 0 ∷ 6 ∷ 6 ∷ [])
unfolding le num encode row_of content_at read reading
short-read = refl

-- 4 before 5 and 6, 5 before 6, where no record may be so deep; and 6 at the first that is too deep
pub in_order :
    reading 0 mod' [] ∷ reading 0 mod' (1 ∷ 0 ∷ 0 ∷ 0 ∷ 1 ∷ 0 ∷ []) ∷ reading 0 mod' (encode Text)
    ∷ reading 0 mod' extern ∷ reading 1 mod' extern ∷ reading 2 mod' extern ∷ []
    ≡ Err (ShortRecord 0) ∷ Err (ShortRecord 0) ∷ Err (WrongKind 0) ∷ Err (TooDeep 0) ∷ Err (TooDeep 6) ∷ (Ok tt) ∷ []
unfolding le num encode row_of content_at read reading
in_order = refl

-- the children before 7, and 7 after the card's record (01, P15)
pub left-over : map (reading 48 mod') (encode (node 0x61 (Kept ▸ Text ▸ nil)) ∷ encode (node 0x61 (Text ▸ Text ▸ nil)) ∷ (extern ++ (0 ∷ [])) ∷ [])
    ≡ Err (WrongKind 6) ∷ Err (LeftOver 12) ∷ Err (LeftOver 13) ∷ []
unfolding le num encode row_of content_at read reading
left-over = refl

-- 11: a module without a name, with a use of what is held by the PMemberSelect at 48, whose Text stands at 60
abbrev uses : Records → Record
uses held = node 0x60 (Text ▸ Kept ▸ Text ▸ node 0x02 (node 0x6A (node 0x80 (Kept ▸ node 0x13 held ▸ nil) ▸ nil) ▸ nil) ▸ nil)

abbrev Crate : Record
Crate = node 0x11 nil

abbrev called : Bytes → Record
called b = leaf 0x01 b

-- the names "", "!", "!!", "a" and "a!"
pub name-read : map (λ b. reading 48 mod' (encode (uses (Crate ▸ called b ▸ nil)))) ([] ∷ (33 ∷ []) ∷ (33 ∷ 33 ∷ []) ∷ (97 ∷ []) ∷ (97 ∷ 33 ∷ []) ∷ [])
    ≡ Err (NoName 60) ∷ Err (NoName 60) ∷ (Ok tt) ∷ (Ok tt) ∷ (Ok tt) ∷ []
unfolding le num encode row_of content_at read reading
name-read = refl

-- before 7 of the PMemberSelect, after 5 of the Text; the one in the base first; in a root
pub no-name-first :
    reading 48 mod' (encode (uses (Crate ▸ Text ▸ Text ▸ nil))) ∷ reading 48 mod' (encode (uses (Crate ▸ called (97 ∷ []) ▸ Text ▸ nil)))
    ∷ reading 48 mod' (encode (uses (Crate ▸ Kept ▸ nil))) ∷ reading 48 mod' (encode (uses (node 0x13 (Crate ▸ Text ▸ nil) ▸ Text ▸ nil)))
    ∷ reading 8 path (encode (node 0x13 (Crate ▸ Text ▸ nil))) ∷ []
    ≡ Err (NoName 60) ∷ Err (LeftOver 67) ∷ Err (WrongKind 60) ∷ Err (NoName 66) ∷ Err (NoName 12) ∷ []
unfolding le num encode row_of content_at read reading
no-name-first = refl

-- after 4, 5 and 6 of the Text itself
pub no-name-last : reading 1 name [] ∷ reading 1 name (encode Kept) ∷ reading 0 name (encode Text) ∷ reading 1 name (encode Text) ∷ []
    ≡ Err (ShortRecord 0) ∷ Err (WrongKind 0) ∷ Err (TooDeep 0) ∷ Err (NoName 0) ∷ []
unfolding le num encode row_of content_at read reading
no-name-last = refl

-- 02, request 4: a name is due at field 1 of PMemberSelect, and at no other field
abbrev pub due : Place → Bool
due (kinds from to) = false
due name = true
due (seq p) = due p
due (option p) = due p

abbrev due_from : ℕ → ℕ → List Place → List ℕ
due_from k i [] = []
due_from k i (p ∷ ps) = cond (due p) (k ∷ i ∷ []) [] ++ due_from k (suc i) ps

abbrev due_in : List Row → List ℕ
due_in [] = []
due_in (r ∷ rs) = due_from r.kind 0 r.places ++ due_in rs

pub names-due : due_in rows ≡ 0x13 ∷ 1 ∷ []
names-due = refl

-- of the names of one byte '!' alone is none; longer ones are names
pub one_byte : map (λ b. is_no_name (b ∷ [])) (run 0 256) ≡ replicate 33 false ++ true ∷ replicate 222 false
one_byte = refl

pub longer : (b c : ℕ) (s : Bytes) → is_no_name (b ∷ c ∷ s) ≡ false
longer b c s = refl

-- the trees without nameless paths: a module's name may be empty, a path's may not, nor may that of a path's base
pub named-are : map (λ held. named (uses held))
    ((Crate ▸ Text ▸ nil) ∷ (Crate ▸ called (33 ∷ []) ▸ nil) ∷ (Crate ▸ called (97 ∷ []) ▸ nil)
    ∷ (node 0x13 (Crate ▸ Text ▸ nil) ▸ called (97 ∷ []) ▸ nil) ∷ (node 0x13 (Crate ▸ called (97 ∷ []) ▸ nil) ▸ called (97 ∷ []) ▸ nil) ∷ [])
    ≡ false ∷ false ∷ true ∷ false ∷ true ∷ []
unfolding nth named
named-are = refl

-- the base's faults before the name's
pub base-first : reading 48 mod' (encode (uses (Kept ▸ Text ▸ nil))) ∷ reading 48 mod' (encode (uses (node 0x11 (Text ▸ nil) ▸ Text ▸ nil))) ∷ []
    ≡ Err (WrongKind 54) ∷ Err (LeftOver 60) ∷ []
unfolding le num encode row_of content_at read reading
base-first = refl
