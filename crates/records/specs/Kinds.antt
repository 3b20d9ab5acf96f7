-- 01, Leaf 1, and the datatypes of Dafny-compiler-rust-rast.dfy: one row of child places for each kind. Assumes nothing: these are definitions.
use Rattle.std.specs.Prelude.{List, [], ◌∷◌, Bool, true, false, ◌&&◌, cond, ℕ, eqb, leb}
use Rattle.records.specs.Record.{is_leaf}

-- what stands at a place: one record of a kind from the first to the last; the Text that a PMemberSelect holds, which is to be a name;
-- a seq; an Option
pub data Place : Type 0 where
  kinds : ℕ → ℕ → Place
  name : Place
  seq option : Place → Place

abbrev pub stands : Place → ℕ → Bool
stands (kinds from to) k = leb from k && leb k to
stands name k = eqb k 0x01
stands (seq p) k = eqb k 0x02
stands (option p) k = eqb k 0x02

abbrev pub one : ℕ → Place
one k = kinds k k

-- the datatypes
abbrev pub path : Place
path = kinds 0x10 0x13

abbrev pub type : Place
type = kinds 0x20 0x38

abbrev pub expr : Place
expr = kinds 0x40 0x5E

abbrev pub mod' : Place
mod' = kinds 0x60 0x61

abbrev a_text : Place
a_text = one 0x01

abbrev a_kept : Place
a_kept = one 0x03

abbrev type_params : Place
type_params = seq (one 0x7F)

abbrev fields : Place
fields = kinds 0x75 0x76

abbrev members : Place
members = seq (kinds 0x83 0x86)

pub record Row : Type 0 where
  pub kind : ℕ
  pub places : List Place

abbrev row : ℕ → List Place → Row
row k ps = record { kind = k; places = ps }

abbrev pub rows : List Row
rows =
    row 0x10 []  -- Global
    ∷ row 0x11 []  -- Crate
    ∷ row 0x12 []  -- Self
    ∷ row 0x13 (path ∷ name ∷ [])  -- PMemberSelect(base, name)
    ∷ row 0x20 []  -- U8
    ∷ row 0x21 []  -- U16
    ∷ row 0x22 []  -- U32
    ∷ row 0x23 []  -- U64
    ∷ row 0x24 []  -- U128
    ∷ row 0x25 []  -- I8
    ∷ row 0x26 []  -- I16
    ∷ row 0x27 []  -- I32
    ∷ row 0x28 []  -- I64
    ∷ row 0x29 []  -- I128
    ∷ row 0x2A []  -- USIZE
    ∷ row 0x2B []  -- Bool
    ∷ row 0x2C (a_text ∷ [])  -- TIdentifier(name)
    ∷ row 0x2D (path ∷ [])  -- TypeFromPath(path)
    ∷ row 0x2E (type ∷ seq type ∷ [])  -- TypeApp(baseName, arguments)
    ∷ row 0x2F (type ∷ [])  -- Borrowed(underlying)
    ∷ row 0x30 (type ∷ [])  -- BorrowedMut(underlying)
    ∷ row 0x31 (type ∷ [])  -- ImplType(underlying)
    ∷ row 0x32 (type ∷ [])  -- DynType(underlying)
    ∷ row 0x33 (seq type ∷ [])  -- TupleType(arguments)
    ∷ row 0x34 (seq type ∷ type ∷ [])  -- FnType(arguments, returnType)
    ∷ row 0x35 (type ∷ type ∷ [])  -- IntersectionType(left, right)
    ∷ row 0x36 (type ∷ option a_text ∷ [])  -- Array(underlying, size)
    ∷ row 0x37 (type ∷ type ∷ [])  -- TSynonym(display, base)
    ∷ row 0x38 (type ∷ a_kept ∷ a_kept ∷ [])  -- TMetaData(display, copySemantics, overflow)
    ∷ row 0x40 (a_text ∷ [])  -- RawExpr(content)
    ∷ row 0x41 (type ∷ [])  -- ExprFromType(tpe)
    ∷ row 0x42 (a_text ∷ [])  -- Identifier(name)
    ∷ row 0x43 (expr ∷ seq (one 0x81) ∷ [])  -- Match(matchee, cases)
    ∷ row 0x44 (expr ∷ expr ∷ [])  -- StmtExpr(stmt, rhs)
    ∷ row 0x45 (expr ∷ [])  -- Block(underlying)
    ∷ row 0x46 (expr ∷ seq (one 0x82) ∷ [])  -- StructBuild(underlying, assignments)
    ∷ row 0x47 (seq expr ∷ [])  -- Tuple(arguments)
    ∷ row 0x48 (a_text ∷ expr ∷ a_kept ∷ [])  -- UnaryOp(op1, underlying, format)
    ∷ row 0x49 (a_text ∷ expr ∷ expr ∷ a_kept ∷ [])  -- BinaryOp(op2, left, right, format2)
    ∷ row 0x4A (expr ∷ type ∷ [])  -- TypeAscription(left, tpe)
    ∷ row 0x4B (type ∷ type ∷ [])  -- TraitCast(leftTpe, tpe)
    ∷ row 0x4C (a_text ∷ [])  -- LiteralInt(value)
    ∷ row 0x4D (a_kept ∷ [])  -- LiteralBool(bvalue)
    ∷ row 0x4E (a_text ∷ a_kept ∷ a_kept ∷ [])  -- LiteralString(value, binary, verbatim)
    ∷ row 0x4F (a_kept ∷ a_text ∷ option type ∷ option expr ∷ [])  -- DeclareVar(declareType, name, optType, optRhs)
    ∷ row 0x50 (a_kept ∷ expr ∷ [])  -- Assign(names, rhs)
    ∷ row 0x51 (expr ∷ expr ∷ expr ∷ [])  -- IfExpr(cond, thn, els)
    ∷ row 0x52 (option expr ∷ expr ∷ [])  -- Loop(optCond, underlying)
    ∷ row 0x53 (a_text ∷ expr ∷ expr ∷ [])  -- For(name, range, body)
    ∷ row 0x54 (a_text ∷ expr ∷ [])  -- Labelled(lbl, underlying)
    ∷ row 0x55 (option a_text ∷ [])  -- Break(optLbl)
    ∷ row 0x56 (option a_text ∷ [])  -- Continue(optLbl)
    ∷ row 0x57 (option expr ∷ [])  -- Return(optExpr)
    ∷ row 0x58 (expr ∷ seq type ∷ [])  -- CallType(obj, typeArguments)
    ∷ row 0x59 (expr ∷ seq expr ∷ [])  -- Call(obj, arguments)
    ∷ row 0x5A (expr ∷ a_text ∷ [])  -- Select(obj, name)
    ∷ row 0x5B (expr ∷ expr ∷ [])  -- SelectIndex(obj, range)
    ∷ row 0x5C (path ∷ [])  -- ExprFromPath(path)
    ∷ row 0x5D (expr ∷ a_text ∷ [])  -- FunctionSelect(obj, name)
    ∷ row 0x5E (seq (one 0x7E) ∷ option type ∷ expr ∷ [])  -- Lambda(params, retType, body)
    ∷ row 0x60 (a_text ∷ a_kept ∷ a_text ∷ seq (kinds 0x62 0x6A) ∷ [])  -- Mod(docString, attributes, name, body)
    ∷ row 0x61 (a_text ∷ [])  -- ExternMod(name)
    ∷ row 0x62 (mod' ∷ [])  -- ModDecl(mod)
    ∷ row 0x63 (one 0x70 ∷ [])  -- StructDecl(struct)
    ∷ row 0x64 (one 0x71 ∷ [])  -- TypeDecl(tpe)
    ∷ row 0x65 (one 0x72 ∷ [])  -- ConstDecl(c)
    ∷ row 0x66 (one 0x73 ∷ [])  -- EnumDecl(enum)
    ∷ row 0x67 (kinds 0x79 0x7A ∷ [])  -- ImplDecl(impl)
    ∷ row 0x68 (one 0x7B ∷ [])  -- TraitDecl(tr)
    ∷ row 0x69 (one 0x7C ∷ [])  -- TopFnDecl(fn)
    ∷ row 0x6A (one 0x80 ∷ [])  -- UseDecl(use)
    ∷ row 0x70 (a_text ∷ a_kept ∷ a_text ∷ type_params ∷ fields ∷ [])  -- Struct(docString, attributes, name, typeParams, fields)
    ∷ row 0x71 (a_text ∷ a_kept ∷ a_text ∷ type_params ∷ type ∷ [])  -- TypeSynonym(docString, attributes, name, typeParams, tpe)
    ∷ row 0x72 (a_text ∷ a_kept ∷ a_text ∷ type ∷ expr ∷ [])  -- Constant(docString, attributes, name, tpe, value)
    ∷ row 0x73 (a_text ∷ a_kept ∷ a_text ∷ type_params ∷ seq (one 0x74) ∷ [])  -- Enum(docString, attributes, name, typeParams, variants)
    ∷ row 0x74 (a_text ∷ a_text ∷ fields ∷ [])  -- EnumCase(docString, name, fields)
    ∷ row 0x75 (seq (one 0x77) ∷ [])  -- NamedFields(fields)
    ∷ row 0x76 (seq (one 0x78) ∷ [])  -- NamelessFields(types)
    ∷ row 0x77 (a_kept ∷ one 0x7E ∷ [])  -- Field(visibility, formal)
    ∷ row 0x78 (a_kept ∷ type ∷ [])  -- NamelessField(visibility, tpe)
    ∷ row 0x79 (type_params ∷ type ∷ type ∷ members ∷ [])  -- ImplFor(typeParams, tpe, forType, body)
    ∷ row 0x7A (type_params ∷ type ∷ members ∷ [])  -- Impl(typeParams, tpe, body)
    ∷ row 0x7B (a_text ∷ a_kept ∷ type_params ∷ type ∷ seq type ∷ members ∷ [])  -- Trait(docString, attributes, typeParams, tpe, parents, body)
    ∷ row 0x7C (a_text ∷ a_kept ∷ a_kept ∷ one 0x7D ∷ [])  -- TopFn(docString, attributes, visibility, fn)
    ∷ row 0x7D (a_text ∷ type_params ∷ seq (one 0x7E) ∷ option type ∷ option expr ∷ [])  -- Fn(name, typeParams, formals, returnType, body)
    ∷ row 0x7E (a_text ∷ type ∷ [])  -- Formal(name, tpe)
    ∷ row 0x7F (a_text ∷ seq type ∷ [])  -- TypeParamDecl(name, constraints)
    ∷ row 0x80 (a_kept ∷ path ∷ [])  -- Use(visibility, path)
    ∷ row 0x81 (a_kept ∷ expr ∷ [])  -- MatchCase(pattern, rhs)
    ∷ row 0x82 (a_text ∷ expr ∷ [])  -- AssignIdentifier(identifier, rhs)
    ∷ row 0x83 (a_text ∷ [])  -- RawImplMember(content)
    ∷ row 0x84 (a_text ∷ a_kept ∷ a_kept ∷ one 0x7D ∷ [])  -- FnDecl(docString, attributes, pub, fun)
    ∷ row 0x85 (a_text ∷ type ∷ [])  -- TypeDeclMember(name, rhs)
    ∷ row 0x86 (expr ∷ [])  -- ImplMemberMacro(expr)
    ∷ []

abbrev pub row_in : List Row → ℕ → List Place
row_in [] k = []
row_in (r ∷ rs) k = cond (eqb k r.kind) r.places (row_in rs k)

unfoldable pub row_of : ℕ → List Place
row_of k = row_in rows k

-- what a record holds: bytes; records at these places; any number of records at a place; at most one
pub data Content : Type 0 where
  bytes : Content
  these : List Place → Content
  any at_most_one : Place → Content

-- a content is bytes, and no records
abbrev pub of_bytes : Content → Bool
of_bytes bytes = true
of_bytes (these ps) = false
of_bytes (any p) = false
of_bytes (at_most_one p) = false

-- the content of a record of kind k that stands at a place
unfoldable pub content_at : Place → ℕ → Content
content_at (kinds from to) k = cond (is_leaf k) bytes (these (row_of k))
content_at name k = bytes
content_at (seq p) k = any p
content_at (option p) k = at_most_one p
