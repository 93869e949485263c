-- Kinds of bytes.
use Rattle.std.specs.Prelude.{ℕ, ◌-◌, ◌<◌, ◌≤◌, Bool, ◌==◌, ◌&&◌, ◌||◌, nat_le, List, length, slice_index}
use Rattle.std.specs.List.{prefix_len}

-- a space, a TAB or an LF
abbrev pub is_space : ℕ → Bool
is_space b = b == 32 || b == 9 || b == 10

-- a decimal digit
abbrev pub is_digit : ℕ → Bool
is_digit b = nat_le 48 b && nat_le b 57

-- an ASCII letter or `_`
abbrev pub is_letter : ℕ → Bool
is_letter b = (nat_le 65 b && nat_le b 90) || (nat_le 97 b && nat_le b 122) || (b == 95)

-- a byte of a word behind its first
abbrev pub is_word_byte : ℕ → Bool
is_word_byte b = is_letter b || is_digit b

-- a word: a letter, and bytes of a word behind it
abbrev pub is_word : List ℕ → Bool
is_word bytes = is_letter (slice_index bytes 0) && prefix_len is_word_byte bytes == length bytes

-- the last of so many bytes at the front is an ASCII character
abbrev pub EndsInAscii : List ℕ → ℕ → Type 0
EndsInAscii bytes size = (1 ≤ size) × (0 < slice_index bytes (size - 1)) × (slice_index bytes (size - 1) < 128)
