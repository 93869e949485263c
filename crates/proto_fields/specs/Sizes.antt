-- How many bytes fields take, as a number of 64 bits.
use Rattle.std.specs.Prelude.{ℕ, ◌-◌, ◌^◌, List, length, min}
use Rattle.proto_fields.specs.Fields.{Field}
use Rattle.proto_fields.specs.Spelling.{spell}

-- the last number of 64 bits
abbrev pub most : ℕ
most = 2 ^ 64 - 1

-- how many bytes the spelling takes, the last number where it is above that
unfoldable pub size_of : List Field → ℕ
size_of fields = min (length (spell fields)) most
