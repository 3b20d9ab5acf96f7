-- What the text of a case says: where a field ends, the bytes of hexadecimal digits, the number of decimal ones; and which lines are cases.
-- Assumes nothing: these are definitions.
use Rattle.std.specs.Prelude.{◌≡◌, [], ◌∷◌, ◌++◌, Bool, true, false, ◌&&◌, ◌||◌, cond, ℕ, ◌+◌, ◌-◌, ◌*◌, ◌%◌, ◌≤◌, ◌<◌, min, length, take, drop, get_or, ltb, leb, eqb, Option, None, Some, unwrap_or}
use Rattle.std.specs.List.{list_all}
use Rattle.wire.specs.Numbers.{Bytes, same_bytes}
use Rattle.test_text.specs.declared.Case.{Case}

-- i is the place of the first byte b of s
pub record First (s : Bytes) (b i : ℕ) : Type 0 where
  pub within : i < length s
  pub before : (k : ℕ) → k < i → get_or s k 0 ≡ b → ⊥
  pub found : get_or s i 0 ≡ b

-- the place of the first byte b of s; none where s has none
abbrev pub FirstAt : (s : Bytes) (b : ℕ) → Option ℕ → Type 0
FirstAt s b (Some i) = First s b i
FirstAt s b None = (k : ℕ) → k < length s → get_or s k 0 ≡ b → ⊥

-- what stands ahead of the first byte b, all where there is none, and what follows it
unfoldable pub until : ℕ → Bytes → Bytes
until b [] = []
until b (x ∷ s) = cond (eqb x b) [] (x ∷ until b s)

unfoldable pub beyond : ℕ → Bytes → Bytes
beyond b [] = []
beyond b (x ∷ s) = cond (eqb x b) s (beyond b s)

-- the value of a hexadecimal digit, 0 to 9 and a to f
unfoldable pub hex_value : ℕ → Option ℕ
hex_value b =
    cond (ltb b 48) None (cond (leb b 57) (Some (b - 48)) (cond (ltb b 97) None (cond (leb b 102) (Some (b - 87)) None)))

-- the byte that two values of digits make, where there are two
unfoldable pub hex_joined : Option ℕ → Option ℕ → Option ℕ
hex_joined (Some a) (Some b) = Some (a * 16 + b)
hex_joined (Some a) None = None
hex_joined None b = None

-- the byte that two digits say
unfoldable pub hex_pair : ℕ → ℕ → Option ℕ
hex_pair a b = hex_joined (hex_value a) (hex_value b)

-- that of the first two
unfoldable pub hex_first : Bytes → Option ℕ
hex_first [] = None
hex_first (a ∷ []) = None
hex_first (a ∷ b ∷ s) = hex_pair a b

-- a byte ahead of others; where it is none, nothing is there
unfoldable pub hex_onto : Option ℕ → Bytes → Bytes
hex_onto None l = []
hex_onto (Some v) l = v ∷ l

-- the bytes that digits say, two to a byte, as far as they go
unfoldable pub hex_bytes : Bytes → Bytes
hex_bytes [] = []
hex_bytes (a ∷ []) = []
hex_bytes (a ∷ b ∷ s) = hex_onto (hex_pair a b) (hex_bytes s)

-- r bytes of what s says are put at the front of a buffer, as many as there are and fit; the rest of it is as it was
pub record Decoded (s before : Bytes) (r : ℕ) (after : Bytes) : Type 0 where
  pub count : r ≡ min (length (hex_bytes s)) (length before)
  pub holds : after ≡ take r (hex_bytes s) ++ drop r before
  pub fits : r ≤ length after
  pub front : r ≡ length (take r after)

-- whether a byte is a digit under base
unfoldable pub is_value : ℕ → Option ℕ → Bool
is_value base None = false
is_value base (Some v) = ltb v base

unfoldable pub is_digit : (base b : ℕ) → Bool
is_digit base b = is_value base (hex_value b)

-- the number that decimal digits say after those that say n, as far as they go, up to the digit that takes it to 2 ^ 32 or past it
unfoldable pub decimal_of : ℕ → Bytes → ℕ
decimal_of n [] = n
decimal_of n (b ∷ s) =
    cond (is_digit 10 b) (cond (leb 4294967296 n) n (decimal_of (n * 10 + unwrap_or (hex_value b) 0) s)) n

-- whether every byte is a digit under base
abbrev pub are_digits : ℕ → Bytes → Bool
are_digits base s = list_all (is_digit base) s

-- a field of bytes: - for none, or hexadecimal digits, two to a byte
unfoldable pub is_hex : Bytes → Bool
is_hex s = same_bytes s (45 ∷ []) || (ltb 0 (length s) && (eqb (length s % 2) 0 && are_digits 16 s))

-- a number: decimal digits
unfoldable pub is_number : Bytes → Bool
is_number s = ltb 0 (length s) && are_digits 10 s

-- the fields of a line, ROOT CARD WORDS: what follows the second space is the third
abbrev pub root_field : Bytes → Bytes
root_field line = until 32 line

abbrev pub card_field : Bytes → Bytes
card_field line = until 32 (beyond 32 line)

abbrev pub words_field : Bytes → Bytes
words_field line = beyond 32 (beyond 32 line)

abbrev pub is_case : Bytes → Bool
is_case line = is_hex (root_field line) && (is_hex (card_field line) && is_number (words_field line))

-- what is taken from a line: the bytes of root and card stand at the front of two buffers, as many as fit; a line that is no case leaves them
abbrev pub Apart : (line root card : Bytes) → Option Case → (root' card' : Bytes) → Type 0
Apart line root card (Some c) root' card' =
    (is_case line ≡ true)
    × (Decoded (root_field line) root c.root root'
    × (Decoded (card_field line) card c.card card' × (c.words ≡ decimal_of 0 (words_field line))))
Apart line root card None root' card' = (is_case line ≡ false) × ((root' ≡ root) × (card' ≡ card))
