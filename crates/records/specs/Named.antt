-- 02, request 4: the trees without nameless paths, of which demand 2 speaks. Assumes nothing: these are definitions.
use Rattle.std.specs.Prelude.{Bool, true, not, ◌&&◌, eqb}
use Rattle.records.specs.Record.{Record, Records, leaf, node, nil, ◌▸◌, text, nth}
use Rattle.records.specs.Reading.{is_no_name}

-- no PMemberSelect(base, name) in a tree has for its name the empty string or "!"
unfoldable mutual
  pub named : Record → Bool
  named (leaf k b) = true
  named (node k c) = not (eqb k 0x13 && is_no_name (text (nth 1 c))) && named_all c

  pub named_all : Records → Bool
  named_all nil = true
  named_all (r ▸ c) = named r && named_all c
