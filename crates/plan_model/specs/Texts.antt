-- Text functions, after Spark SQL's, on texts in UTF-8.
use Rattle.std.specs.Prelude.{ℕ, pos, Bool, ◌||◌, List, [], ◌∷◌, ◌++◌, length, nat_eq}
use Rattle.std.specs.List.{starts_with, ends_with}
use Rattle.std.specs.Str.{chars}
use Rattle.cn_types.specs.declared.value.Value.{Value}
use Rattle.cn_types.specs.declared.value.Value.TheVariants.{Null, Boolean, Text}
use Rattle.plan_model.specs.Arithmetic.{wrapped_integer}

-- two texts one after the other
abbrev pub joined : Value → Value → Value
joined (Text a) (Text b) = Text (a ++ b)
joined a b = Null

-- `concat`: null where one is null
abbrev pub concat : List Value → Value
concat [] = Text []
concat (value ∷ values) = joined value (concat values)

-- `length`: the number of characters, modulo 2^32 in two's complement
abbrev pub text_length : Value → Value
text_length (Text text) = wrapped_integer (pos (length (chars text)))
text_length other = Null

-- the first text begins with, or ends with, the second
abbrev pub has_start : List ℕ → List ℕ → Bool
has_start text part = starts_with nat_eq text part

abbrev pub has_end : List ℕ → List ℕ → Bool
has_end text part = ends_with nat_eq text part

-- the second text stands somewhere in the first
abbrev pub has_part : List ℕ → List ℕ → Bool
has_part [] part = has_start [] part
has_part (b ∷ rest) part = has_start (b ∷ rest) part || has_part rest part

-- a test of two texts: `startswith`, `endswith` or `contains`
abbrev pub text_test : (List ℕ → List ℕ → Bool) → Value → Value → Value
text_test test (Text text) (Text part) = Boolean (test text part)
text_test test a b = Null
