-- 01, Leaf 1: records, their tree and their bytes. Assumes nothing: these are definitions.
use Rattle.std.specs.Prelude.{[], ◌∷◌, ◌++◌, Bool, ◌||◌, cond, ℕ, zero, suc, ◌+◌, ◌-◌, max, length, take, drop, eqb}
use Rattle.wire.specs.Numbers.{Bytes, le, num}

-- a leaf is a Text or a Kept: a kind and bytes; a node is any other: a kind and the records that it holds
mutual
  pub data Record : Type 0 where
    leaf : ℕ → Bytes → Record
    node : ℕ → Records → Record

  pub data Records : Type 0 where
    nil : Records
    ◌▸◌ : Record → Records → Records

infixr 50 ◌▸◌
abbrev pub is_leaf : ℕ → Bool
is_leaf k = eqb k 0x01 || eqb k 0x03

-- how deep records lie: the outermost is 1 deep
unfoldable mutual
  pub deep : Record → ℕ
  deep (leaf k b) = 1
  deep (node k c) = suc (deep_all c)

  pub deep_all : Records → ℕ
  deep_all nil = 0
  deep_all (r ▸ c) = max (deep r) (deep_all c)

-- a length that counts the bytes after itself, a kind, and content
abbrev pub record_bytes : ℕ → Bytes → Bytes
record_bytes k content = le 4 (2 + length content) ++ (le 2 k ++ content)

unfoldable mutual
  pub encode : Record → Bytes
  encode (leaf k b) = record_bytes k b
  encode (node k c) = record_bytes k (encode_all c)

  pub encode_all : Records → Bytes
  encode_all nil = []
  encode_all (r ▸ c) = encode r ++ encode_all c

-- the length, the kind and the content of the record at the front of s, and what follows it
abbrev pub length_of : Bytes → ℕ
length_of s = num (take 4 s)

abbrev pub kind_of : Bytes → ℕ
kind_of s = num (take 2 (drop 4 s))

abbrev pub content_of : Bytes → Bytes
content_of s = take (length_of s - 2) (drop 6 s)

abbrev pub rest_of : Bytes → Bytes
rest_of s = drop (4 + length_of s) s

-- the bytes of the record at the front of s, and of the one at a place of the card
abbrev pub first_record : Bytes → Bytes
first_record s = take (4 + length_of s) s

abbrev pub record_at : Bytes → ℕ → Bytes
record_at card at = first_record (drop at card)

-- bytes read as records; n bounds how many follow or hold one another, and as many as there are bytes suffice
unfoldable pub parse : ℕ → Bytes → Records
parse zero s = nil
parse (suc n) [] = nil
parse (suc n) (b ∷ t) =
    let s : Bytes = b ∷ t in
    let inner : Record = node (kind_of s) (parse n (content_of s)) in
    cond (is_leaf (kind_of s)) (leaf (kind_of s) (content_of s)) inner ▸ parse n (rest_of s)

abbrev pub kind : Record → ℕ
kind (leaf k b) = k
kind (node k c) = k

abbrev pub text : Record → Bytes
text (leaf k b) = b
text (node k c) = []

abbrev pub children : Record → Records
children (leaf k b) = nil
children (node k c) = c

-- the fields of a record are in the order of its constructor's, from 0; one that is not there is an empty Text
unfoldable pub nth : ℕ → Records → Record
nth i nil = leaf 0x01 []
nth zero (r ▸ c) = r
nth (suc i) (r ▸ c) = nth i c

abbrev pub field : ℕ → Record → Record
field i r = nth i (children r)

abbrev pub is : ℕ → Record → Bool
is k r = eqb (kind r) k

-- the tree of a card's or a root's bytes: their first record
unfoldable pub tree : Bytes → Record
tree s = nth 0 (parse (length s) s)

-- a record with f of its field i in that field's place: Dafny's r.(field := ..)
unfoldable pub set_nth : ℕ → (Record → Record) → Records → Records
set_nth i f nil = nil
set_nth zero f (r ▸ c) = f r ▸ c
set_nth (suc i) f (r ▸ c) = r ▸ set_nth i f c

abbrev pub update : ℕ → (Record → Record) → Record → Record
update i f (leaf k b) = leaf k b
update i f (node k c) = node k (set_nth i f c)

-- a List with other records in it
abbrev pub put : Records → Record → Record
put d (leaf k b) = leaf k b
put d (node k c) = node k d

-- Dafny's sequences: one after another, their length, what follows and what are the first n, FoldLeft and Seq.Map
infixr 45 ◌▸▸◌
unfoldable pub ◌▸▸◌ : Records → Records → Records
◌▸▸◌ nil d = d
◌▸▸◌ (r ▸ c) d = r ▸ (c ▸▸ d)

unfoldable pub count : Records → ℕ
count nil = 0
count (r ▸ c) = suc (count c)

unfoldable pub skip : ℕ → Records → Records
skip zero c = c
skip (suc n) nil = nil
skip (suc n) (r ▸ c) = skip n c

unfoldable pub first : ℕ → Records → Records
first zero c = nil
first (suc n) nil = nil
first (suc n) (r ▸ c) = r ▸ first n c

unfoldable pub FoldLeft : {T : Type 0} → (T → Record → T) → T → Records → T
FoldLeft f acc nil = acc
FoldLeft f acc (r ▸ c) = FoldLeft f (f acc r) c

unfoldable pub map_all : (Record → Record) → Records → Records
map_all f nil = nil
map_all f (r ▸ c) = f r ▸ map_all f c

abbrev pub Map : (Record → Record) → Record → Record
Map f (leaf k b) = leaf k b
Map f (node k c) = node k (map_all f c)
