-- 01, "Points and looking up", its first paragraph, and demand 3. Assumes nothing: these are definitions.
use Rattle.std.specs.Prelude.{◌≡◌, List, [], true, false, ◌&&◌, cond, ℕ, suc, ◌-◌, take, eqb, Ok}
use Rattle.wire.specs.Numbers.{Bytes, AreBytes}
use Rattle.records.specs.Record.{Record, Records, leaf, node, nil, ◌▸◌, kind, children, field, update, put, count, first, skip, encode, tree}
use Rattle.rast.specs.Path.{Name, Path, MSel}
use Rattle.rast.specs.Operation.{Operation, nested}
use Rattle.rast.specs.Mod.{name_of}
use Rattle.factor_paths.specs.Mapping.{equal}
use Rattle.factor_paths.specs.Apply.{Identifier, apply}
use Rattle.factor_paths.specs.Walk.{synonyms}
use Rattle.outcome.specs.Outcome.{shorten}
use Rattle.factor_paths.specs.LookUp.{bare, bare_path, unmarked_all, names_borne, UseDecls, look_up, collected, own, different}

-- the innermost Mod around a point: its prefix, the uses put ahead of its body, the names that it collects; and the prefix that a Mod in it has
pub record Module : Type 0 where
  pub prefix : Path
  pub uses : Records
  pub names : List Name
  pub inner : Name → Path

-- how many uses are put ahead of a Mod's body in the output: by so many it is longer than the card's; and the Mod with them put aside
abbrev pub put_ahead : Record → Record → ℕ
put_ahead this that = count (children (field 3 that)) - count (children (field 3 this))

abbrev pub put_aside : Record → Record → Record
put_aside this that = update 3 (λ body. put (skip (put_ahead this that) (children body)) body) that

-- where TypeFromPath became TSynonym or ExprFromPath became Identifier, at a Mod, and elsewhere
pub data Meeting : Type 0 where
  short_type short_expr module' elsewhere : Meeting

abbrev pub meeting : ℕ → ℕ → Meeting
meeting k j =
    cond (eqb k 0x2D && eqb j 0x37) short_type
    (cond (eqb k 0x5C && eqb j 0x42) short_expr
    (cond (eqb k 0x60) module' elsewhere))

module _ (op : Operation) where
  -- looking the name up in module m gives the path, if no name that m collects ends in '!'
  abbrev pub Finds : Module → Name → Path → Type 0
  Finds m name p = unmarked_all m.names ≡ true → equal op (look_up op m.uses m.prefix name) p ≡ true

  pub record ShortType (m : Module) (this that : Record) : Type 0 where
    pub name : Name
    pub more : ℕ
    pub wrapped : that ≡ synonyms name (suc more) this
    -- 02, request 2: exactly once where a Fn's types are not walked again
    pub once : op.walks_again ≡ false → more ≡ 0
    pub finds : Finds m name (field 0 this)

  pub record ShortExpr (m : Module) (this that : Record) : Type 0 where
    pub name : Name
    pub named : that ≡ Identifier name
    pub finds : Finds m (bare name) (bare_path (field 0 this))

  -- the names that the uses bear are pairwise different, and none is collected as the name of one of the module's own declarations
  pub record Ahead (m : Module) (this : Record) : Type 0 where
    pub are_uses : UseDecls m.uses
    pub are_different : different op (own op this m.prefix) (names_borne m.uses) ≡ true

  abbrev pub module_of : Module → Record → Record → Module
  module_of around this that =
      let prefix : Path = around.inner (name_of this) in
      record {
        prefix = prefix;
        uses = first (put_ahead this that) (children (field 3 that));
        names = collected op this prefix;
        inner = nested op prefix;
      }

  -- this of the card beside that of the output, neither a Text nor a Kept; parts says it of their children
  abbrev pub Met : Meeting → Module → (this that : Record) → (Module → Records → Type 0) → Type 0
  Met short_type m this that parts = ShortType m this that
  Met short_expr m this that parts = ShortExpr m this that
  Met module' m this that parts =
      let m' : Module = module_of m this that in
      (kind that ≡ kind this) × Ahead m' this × parts m' (children (put_aside this that))
  Met elsewhere m this that parts = (kind that ≡ kind this) × parts m (children that)

  unfoldable mutual
    pub Point : Module → (this that : Record) → Type 0
    Point m (leaf k b) (leaf j d) = (j ≡ k) × (d ≡ b)
    Point m (leaf k b) (node j d) = ⊥
    Point m (node k c) (leaf j d) = ⊥
    Point m (node k c) (node j d) = Met (meeting k j) m (node k c) (node j d) (λ m d. Points m c d)

    pub Points : Module → (these those : Records) → Type 0
    Points m nil nil = Unit {0}
    Points m nil (s ▸ d) = ⊥
    Points m (r ▸ c) nil = ⊥
    Points m (r ▸ c) (s ▸ d) = Point m r s × Points m c d

  -- outside the outermost record, whose prefix is root.MSel(name)
  abbrev pub outside : Path → Module
  outside root = record { prefix = root; uses = nil; names = []; inner = MSel root }

  -- the three are the bytes of their trees, the output is the tree that the operation defines, and each point of it holds
  pub record NamesHold (card root output : Bytes) : Type 0 where
    pub card-tree : encode (tree card) ≡ card
    pub root-tree : encode (tree root) ≡ root
    pub output-tree : encode (tree output) ≡ output
    pub defined : output ≡ encode (apply op (tree root) (tree card))
    pub points : Point (outside (tree root)) (tree card) (tree output)

  -- demand 3, of whatever is lent
  abbrev pub Demand3 : Type 0
  Demand3 =
      (card root out : Bytes) (work : List ℕ) (n : ℕ) → AreBytes card → AreBytes root →
      (shorten op card root out work).answer ≡ Ok n → NamesHold card root (take n (shorten op card root out work).out)
