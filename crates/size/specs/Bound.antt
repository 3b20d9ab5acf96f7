-- 01, applyPrefix, and 02, request 2: how long an output can be. Assumes nothing: these are definitions.
use Rattle.std.specs.Prelude.{◌≡◌, cond, ℕ, ◌*◌, ◌≤◌, length, Ok}
use Rattle.wire.specs.Numbers.{Bytes, AreBytes}
use Rattle.records.specs.Record.{encode, tree}
use Rattle.records.specs.Reading.{reading}
use Rattle.rast.specs.Path.{Path}
use Rattle.rast.specs.Operation.{Operation}
use Rattle.factor_paths.specs.Apply.{apply}

-- at most 42 times as long as the card where a Fn's types are walked again, else 4 times
abbrev pub times : Operation → ℕ
times op = cond op.walks_again 42 4

-- of a card's bytes that read sound, whatever the root
abbrev pub Bounded : Operation → Type 0
Bounded op =
    (root : Path) (card : Bytes) → AreBytes card → reading op.card_depth op.outermost card ≡ Ok tt →
    length (encode (apply op root (tree card))) ≤ times op * length card
