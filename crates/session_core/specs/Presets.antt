-- The settings that every session has from its beginning, and which values they may take.
use Rattle.std.specs.Prelude.{◌≡◌, ℕ, ℤ, negsuc, pos, Bool, true, ◌||◌, ◌&&◌, if◌then◌else◌, List, [], ◌∷◌, codes, bytes_eq, Some, ◌↔◌, IsTrue}
use Rattle.std.specs.Fmt.{signed_decimal}
use Rattle.std.specs.Int.Signed.{le_z}
use Rattle.std.specs.Str.{str_eq_ignore_ascii_case}
use Rattle.std.specs.Str.Parse.{signed_digits_value}
use Rattle.cn_types.specs.Fit.{IsInteger}
use Rattle.cn_types.specs.declared.settings.Pair.{Pair}

abbrev pub pair : List ℕ → List ℕ → Pair
pair key value = record { key = key; value = Some value }

abbrev pub case_sensitive_key : List ℕ
case_sensitive_key = codes "spark.sql.caseSensitive"

abbrev pub batch_rows_key : List ℕ
batch_rows_key = codes "spark.sql.execution.arrow.maxRecordsPerBatch"

abbrev pub ansi_key : List ℕ
ansi_key = codes "spark.sql.ansi.enabled"

abbrev pub time_zone_key : List ℕ
time_zone_key = codes "spark.sql.session.timeZone"

abbrev pub cache_key : List ℕ
cache_key = codes "spark.sql.session.localRelationCacheThreshold"

-- the presets in their order
abbrev pub presets : List Pair
presets =
    pair case_sensitive_key (codes "false") ∷
    pair batch_rows_key (codes "10000") ∷
    pair ansi_key (codes "false") ∷
    pair time_zone_key (codes "UTC") ∷
    pair cache_key (codes "67108864") ∷
    []

-- a number of 32 bits in two's complement
abbrev pub is_integer : ℤ → Bool
is_integer n = le_z (negsuc 2147483647) n && le_z n (pos 2147483647)

-- a text is what is written for the number of 32 bits that it reads as: decimal digits without leading zeros, with `-` only directly before
-- a number other than 0
abbrev pub is_integer_text : List ℕ → Bool
is_integer_text text = let n = signed_digits_value 10 text in is_integer n && bytes_eq (signed_decimal n) text

-- a text spells `true` or `false`, in either case
abbrev pub is_boolean_text : List ℕ → Bool
is_boolean_text text = str_eq_ignore_ascii_case text (codes "true") || str_eq_ignore_ascii_case text (codes "false")

-- whether a key may take a value; one that is no preset may take any
abbrev pub is_allowed : List ℕ → List ℕ → Bool
is_allowed key value =
    if bytes_eq key case_sensitive_key then is_boolean_text value
    else if bytes_eq key batch_rows_key then is_integer_text value
    else if bytes_eq key ansi_key then str_eq_ignore_ascii_case value (codes "false")
    else true

-- the texts of numbers of 32 bits are exactly those that are written for such a number
abbrev pub IntegerTextsAreWritten : Type 0
IntegerTextsAreWritten = (text : List ℕ) → IsTrue (is_integer_text text) ↔ ((n : ℤ) × IsInteger n × (signed_decimal n ≡ text))
