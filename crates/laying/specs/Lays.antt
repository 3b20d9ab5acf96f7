-- Bytes laid over a buffer. Assumes nothing: these are definitions.
use Rattle.std.specs.Prelude.{◌≡◌, [], ◌∷◌, ℕ, zero, suc, ◌+◌, length}
use Rattle.wire.specs.Numbers.{Bytes}

-- b over out from a place on, as far as out reaches
unfoldable pub lay : Bytes → ℕ → Bytes → Bytes
lay [] at b = []
lay (x ∷ out) zero [] = x ∷ out
lay (x ∷ out) zero (y ∷ b) = y ∷ lay out zero b
lay (x ∷ out) (suc at) b = x ∷ lay out at b

-- after is out with b laid over it from a place on, and end is the place where b ends
pub record Laid (out : Bytes) (at : ℕ) (b : Bytes) (end : ℕ) (after : Bytes) : Type 0 where
  pub ends : end ≡ at + length b
  pub bytes : after ≡ lay out at b
