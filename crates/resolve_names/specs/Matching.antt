-- When two names match: exactly, or where they are the same in ASCII lower case. Which setting says so.
use Rattle.std.specs.Prelude.{ℕ, Bool, true, false, List, Option, None, Some, bytes_eq, codes, find, option_and_then}
use Rattle.std.specs.Str.{str_eq_ignore_ascii_case}
use Rattle.cn_types.specs.declared.settings.Pair.{Pair}
use Rattle.cn_types.specs.declared.settings.Settings.{Settings}

-- whether two names match, exactly or in either case
abbrev pub name_matches : Bool → List ℕ → List ℕ → Bool
name_matches true a b = bytes_eq a b
name_matches false a b = str_eq_ignore_ascii_case a b

-- the value of a setting: that of the first pair with the key
abbrev pub value_of : List ℕ → List Pair → Option (List ℕ)
value_of key pairs = option_and_then (λ pair. pair.value) (find (λ pair. bytes_eq pair.key key) pairs)

-- a value is true where it spells `true` in either case; a setting without a value is false
abbrev pub is_true : Option (List ℕ) → Bool
is_true (Some value) = str_eq_ignore_ascii_case value (codes "true")
is_true None = false

-- whether names of columns match exactly
abbrev pub case_sensitive : Settings → Bool
case_sensitive settings = is_true (value_of (codes "spark.sql.caseSensitive") settings.0)
