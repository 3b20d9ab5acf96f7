-- What a walk that collects and adds up asks of a Fn. Assumes nothing: these are definitions.
use Rattle.std.specs.Prelude.{Bool, not, ◌&&◌}
use Rattle.wire.specs.Numbers.{Bytes}
use Rattle.records.specs.Record.{rest_of}
use Rattle.records.specs.Reading.{short}

-- whether a content starts with two records
unfoldable pub is_parted : Bytes → Bool
is_parted c = not (short c) && not (short (rest_of c))
