-- A payload before other fields: what is written of them, and how long it is.
use Rattle.std.proofs.Common.{◌≡◌, ℕ, ◌+◌, List, ◌++◌}
use Rattle.std.specs.Prelude.{min}
use Rattle.proto_fields.specs.Fields.{Field}
use Rattle.proto_fields.specs.Spelling.{spell, payload_fields}
use Rattle.proto_fields.specs.Sizes.{most, size_of}
use Rattle.expression_messages.proofs.Written.{stand_two}
use Rattle.expression_messages.proofs.Measured.{sized_two}

-- written last
pub payload_stands : (number : ℕ) (payload : List ℕ) (rest : List Field) (out one two : List ℕ) → one ≡ spell rest ++ out → two ≡ spell (payload_fields number payload) ++ one →
    two ≡ spell (payload_fields number payload ++ rest) ++ out
payload_stands number payload rest = stand_two (payload_fields number payload) rest

-- added first
pub payload_sized : (number : ℕ) (payload : List ℕ) (rest : List Field) (first second both : ℕ) → first ≡ size_of (payload_fields number payload) → second ≡ size_of rest →
    both ≡ min (first + second) most → both ≡ size_of (payload_fields number payload ++ rest)
payload_sized number payload rest = sized_two (payload_fields number payload) rest
