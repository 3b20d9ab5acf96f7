-- What the ring may be asked: whatever a card brings about fits. Assumes nothing: these are definitions.
use Rattle.std.specs.Prelude.{ℕ, ◌+◌, ◌^◌, ◌<◌, ◌≤◌, length}
use Rattle.wire.specs.Numbers.{Bytes}

-- b, which is made of r, ends at a place that a number holds; so many around a type, so deep, and r no longer than a card
pub record Room (at : ℕ) (b : Bytes) (w depth : ℕ) (r : Bytes) : Type 0 where
  pub space : at + length b < 2 ^ 61
  pub counts : w + depth ≤ 65536
  pub small : length r ≤ 65536
