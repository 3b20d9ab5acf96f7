-- The constructors of RAST that the proved cards are built of, over records.
use Rattle.std.specs.Prelude.{[], ◌∷◌}
use Rattle.wire.specs.Numbers.{Bytes}
use Rattle.records.specs.Record.{Record, Records, leaf, node, nil, ◌▸◌}
use Rattle.rast.specs.Path.{Name, Path}

abbrev pub Text : Bytes → Record
Text b = leaf 0x01 b

abbrev pub List' : Records → Record
List' c = node 0x02 c

abbrev pub Kept : Bytes → Record
Kept b = leaf 0x03 b

abbrev pub Crate : Path
Crate = node 0x11 nil

abbrev pub Bool' : Record
Bool' = node 0x2B nil

abbrev pub TypeFromPath : Path → Record
TypeFromPath p = node 0x2D (p ▸ nil)

abbrev pub Borrowed : Record → Record
Borrowed t = node 0x2F (t ▸ nil)

abbrev pub RawExpr : Bytes → Record
RawExpr b = node 0x40 (Text b ▸ nil)

abbrev pub ExprFromType : Record → Record
ExprFromType t = node 0x41 (t ▸ nil)

abbrev pub ExprFromPath : Path → Record
ExprFromPath p = node 0x5C (p ▸ nil)

abbrev pub Mod : Name → Records → Record
Mod name body = node 0x60 (Text [] ▸ Kept [] ▸ Text name ▸ List' body ▸ nil)

abbrev pub ExternMod : Name → Record
ExternMod name = node 0x61 (Text name ▸ nil)

abbrev pub ModDecl : Record → Record
ModDecl m = node 0x62 (m ▸ nil)

abbrev pub ImplDecl : Record → Record
ImplDecl impl = node 0x67 (impl ▸ nil)

abbrev pub Impl : Record → Record
Impl t = node 0x7A (List' nil ▸ t ▸ List' nil ▸ nil)

-- ConstDecl(Constant(.., name, tpe, value))
abbrev pub constant : Name → Record → Record → Record
constant name tpe value = node 0x65 (node 0x72 (Text [] ▸ Kept [] ▸ Text name ▸ tpe ▸ value ▸ nil) ▸ nil)

-- StructDecl(Struct(.., name, [], NamedFields(fields)))
abbrev pub struct : Name → Records → Record
struct name fields = node 0x63 (node 0x70 (Text [] ▸ Kept [] ▸ Text name ▸ List' nil ▸ node 0x75 (List' fields ▸ nil) ▸ nil) ▸ nil)

-- Field(PUB, Formal(name, tpe))
abbrev pub Field : Name → Record → Record
Field name tpe = node 0x77 (Kept (1 ∷ []) ▸ node 0x7E (Text name ▸ tpe ▸ nil) ▸ nil)

-- TopFnDecl(TopFn(.., PUB, Fn(name, [], [], returnType, body)))
abbrev pub function : Name → Records → Records → Record
function name returnType body =
    node 0x69 (node 0x7C (Text [] ▸ Kept [] ▸ Kept (1 ∷ []) ▸ node 0x7D (Text name ▸ List' nil ▸ List' nil ▸ List' returnType ▸ List' body ▸ nil) ▸ nil) ▸ nil)
