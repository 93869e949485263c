-- What a token has to be.
use Rattle.std.specs.Prelude.{ℕ, Bool, true, false, not, ◌&&◌, ◌||◌, ◌==◌, nat_le, [], ◌∷◌, Option, Some, None, is_some, bytes_eq}
use Rattle.plan_tokens.specs.declared.keyword.Keyword.{Keyword}
use Rattle.plan_tokens.specs.declared.keyword.Keyword.TheVariants as word
use Rattle.plan_tokens.specs.declared.token.Sign.{Sign}
use Rattle.plan_tokens.specs.declared.token.Sign.TheVariants as sign
use Rattle.plan_tokens.specs.declared.token.Number.{Number}
use Rattle.plan_tokens.specs.declared.token.Token.{Token}
use Rattle.plan_tokens.specs.declared.token.Token.TheVariants as token
use Rattle.plan_tokens.specs.Words.{spelled_word}
use Rattle.plan_grammar.specs.declared.symbol.Test.{Test}
use Rattle.plan_grammar.specs.declared.symbol.Test.TheVariants as test

-- two words of the grammar are one where they are spelled alike
unfoldable pub is_same_word : Keyword → Keyword → Bool
is_same_word one other = bytes_eq (spelled_word one) (spelled_word other)

abbrev pub sign_number : Sign → ℕ
sign_number sign.Bar = 0
sign_number sign.Comma = 1
sign_number sign.Dot = 2
sign_number sign.At = 3
sign_number sign.Open = 4
sign_number sign.Close = 5
sign_number sign.Plus = 6
sign_number sign.Star = 7
sign_number sign.Percent = 8
sign_number sign.Equal = 9
sign_number sign.NotEqual = 10
sign_number sign.Less = 11
sign_number sign.LessEqual = 12
sign_number sign.SameOrNull = 13
sign_number sign.Greater = 14
sign_number sign.GreaterEqual = 15

abbrev pub is_same_sign : Sign → Sign → Bool
is_same_sign one other = sign_number one == sign_number other

abbrev pub is_word : Keyword → Token → Bool
is_word word (token.Word found) = is_same_word found word
is_word word other = false

abbrev pub is_sign : Sign → Token → Bool
is_sign sign (token.Sign found) = is_same_sign found sign
is_sign sign other = false

-- `id` isn't reserved
abbrev pub is_name : Token → Bool
is_name (token.Name name) = true
is_name (token.Word found) = is_same_word found word.Id
is_name other = false

abbrev pub is_mark : Token → Bool
is_mark (token.Name name) = bytes_eq name (76 ∷ [])
is_mark other = false

abbrev pub is_number_up_to : ℕ → Token → Bool
is_number_up_to most (token.Number number) = nat_le number.value most
is_number_up_to most other = false

-- a number with the mark of a long, or without it
abbrev pub is_literal : Number → Bool → ℕ → Bool
is_literal number true most = number.long && nat_le number.value most
is_literal number false most = not number.long && nat_le number.value most

abbrev pub is_number_literal : Bool → ℕ → Token → Bool
is_number_literal long most (token.Number number) = is_literal number long most
is_number_literal long most other = false

abbrev pub is_minus : Token → Bool
is_minus (token.Minus number) = true
is_minus other = false

abbrev pub is_minus_before_digits : Token → Bool
is_minus_before_digits (token.Minus number) = is_some number
is_minus_before_digits other = false

-- an integer literal with its `-` is at least -2^31, a long one at least -2^63
abbrev pub fits_behind_minus : Option Number → Bool
fits_behind_minus None = false
fits_behind_minus (Some number) = is_literal number false 2147483648 || is_literal number true 9223372036854775808

abbrev pub is_minus_before_literal : Token → Bool
is_minus_before_literal (token.Minus number) = fits_behind_minus number
is_minus_before_literal other = false

abbrev pub is_quotation : Token → Bool
is_quotation (token.Quotation quotation) = true
is_quotation other = false

abbrev pub is_date : Token → Bool
is_date (token.Quotation quotation) = is_some quotation.day
is_date other = false

-- whether a token passes a test
unfoldable pub passes : Test → Token → Bool
passes (test.Word word) token = is_word word token
passes (test.Sign sign) token = is_sign sign token
passes test.Name token = is_name token
passes test.Integer token = is_number_up_to 2147483647 token
passes test.MinusBeforeDigits token = is_minus_before_digits token
passes test.NegativeInteger token = is_number_up_to 2147483648 token
passes test.Long token = is_number_up_to 9223372036854775807 token
passes test.NegativeLong token = is_number_up_to 9223372036854775808 token
passes test.Minus token = is_minus token
passes test.MinusBeforeLiteral token = is_minus_before_literal token
passes test.MinusApart token = is_minus token && not (is_minus_before_digits token)
passes test.IntegerLiteral token = is_number_literal false 2147483647 token
passes test.LongLiteral token = is_number_literal true 9223372036854775807 token
passes test.Mark token = is_mark token
passes test.Quotation token = is_quotation token
passes test.NegativeIntegerLiteral token = is_number_literal false 2147483648 token
passes test.NegativeLongLiteral token = is_number_literal true 9223372036854775808 token
passes test.DateText token = is_date token
