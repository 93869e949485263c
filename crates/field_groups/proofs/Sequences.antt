-- Four and six groups of fields, one after another: what is written of them, and how long it is.
use Rattle.std.proofs.Common.{◌≡◌, ℕ, ◌+◌, List, ◌++◌}
use Rattle.std.specs.Prelude.{min}
use Rattle.proto_fields.specs.Fields.{Field}
use Rattle.proto_fields.specs.Spelling.{spell}
use Rattle.proto_fields.specs.Sizes.{most, size_of}
use Rattle.expression_messages.proofs.Written.{stand_two, stand_three}
use Rattle.expression_messages.proofs.Measured.{sized_two, sized_three}

-- written piece by piece, the last piece first
pub stand_four : (a b c d : List Field) (out one two three four : List ℕ) → one ≡ spell d ++ out → two ≡ spell c ++ one → three ≡ spell b ++ two → four ≡ spell a ++ three →
    four ≡ spell (a ++ b ++ c ++ d) ++ out
stand_four a b c d out one two three four one_is two_is three_is four_is =
    stand_two (a ++ b ++ c) d out one four one_is (stand_three a b c one two three four two_is three_is four_is)

pub stand_six : (a b c d e f : List Field) (out one two three four five six : List ℕ) → one ≡ spell f ++ out → two ≡ spell e ++ one → three ≡ spell d ++ two →
    four ≡ spell c ++ three → five ≡ spell b ++ four → six ≡ spell a ++ five → six ≡ spell (a ++ b ++ c ++ d ++ e ++ f) ++ out
stand_six a b c d e f out one two three four five six one_is two_is three_is four_is five_is six_is =
    stand_two (a ++ b ++ c ++ d ++ e) f out one six one_is
    (stand_two (a ++ b ++ c ++ d) e one two six two_is (stand_four a b c d two three four five six three_is four_is five_is six_is))

-- added up from the first piece on
pub sized_four : (a b c d : List Field) (first second third fourth two three four : ℕ) → first ≡ size_of a → second ≡ size_of b → third ≡ size_of c → fourth ≡ size_of d →
    two ≡ min (first + second) most → three ≡ min (two + third) most → four ≡ min (three + fourth) most → four ≡ size_of (a ++ b ++ c ++ d)
sized_four a b c d first second third fourth two three four first_is second_is third_is fourth_is two_is three_is four_is =
    sized_two (a ++ b ++ c) d three fourth four (sized_three a b c first second third two three first_is second_is third_is two_is three_is) fourth_is four_is
