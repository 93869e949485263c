-- The buffers of a column as they are written (Arrow Columnar Format, "Physical Memory Layout"). Numbers have their least byte first.
use Rattle.std.specs.Prelude.{ℕ, ◌+◌, ◌*◌, ◌/◌, ◌%◌, ◌≡◌, ◌==◌, pos, Bool, true, false, not, if◌then◌else◌, List, [], ◌∷◌, ◌++◌, length, take, drop, map, count_by}
use Rattle.std.specs.List.{flat_map, range_with_len}
use Rattle.std.specs.Int.{w32, w64, to_le_bytes, cast_unsigned}
use Rattle.cn_types.specs.Fit.{value_at}
use Rattle.cn_types.specs.declared.value.Value.{Value}
use Rattle.cn_types.specs.declared.value.Value.TheVariants as V
use Rattle.cn_types.specs.declared.value.DataType.{DataType}
use Rattle.cn_types.specs.declared.value.DataType.TheVariants as K
use Rattle.cn_types.specs.declared.row.Row.{Row}
use Rattle.cn_types.specs.declared.schema.Field.{Field}
use Rattle.flat_tables.specs.declared.object.FlatPair.{FlatPair}
use Rattle.flat_tables.specs.Layout.{zeros, padded}

-- ---- cells

-- a column's values, from the first row on
abbrev pub cells : ℕ → List Row → List Value
cells column rows = map (value_at column) rows

-- whether there is a value
abbrev pub has_value : Value → Bool
has_value V.Null = false
has_value (V.Boolean b) = true
has_value (V.Integer z) = true
has_value (V.Long z) = true
has_value (V.Text t) = true
has_value (V.Date z) = true

-- how many cells have none
abbrev pub null_count : List Value → ℕ
null_count values = count_by (λ v. not (has_value v)) values

-- the truth of a boolean; nulls are zeros
abbrev pub truth : Value → Bool
truth V.Null = false
truth (V.Boolean b) = b
truth (V.Integer z) = false
truth (V.Long z) = false
truth (V.Text t) = false
truth (V.Date z) = false

-- the 4 bytes of an integer or a date; nulls are zeros
abbrev pub bytes_of_4 : Value → List ℕ
bytes_of_4 V.Null = zeros 4
bytes_of_4 (V.Boolean b) = zeros 4
bytes_of_4 (V.Integer z) = to_le_bytes w32 (cast_unsigned w32 z)
bytes_of_4 (V.Long z) = zeros 4
bytes_of_4 (V.Text t) = zeros 4
bytes_of_4 (V.Date z) = to_le_bytes w32 (cast_unsigned w32 z)

-- the 8 bytes of a long; nulls are zeros
abbrev pub bytes_of_8 : Value → List ℕ
bytes_of_8 V.Null = zeros 8
bytes_of_8 (V.Boolean b) = zeros 8
bytes_of_8 (V.Integer z) = zeros 8
bytes_of_8 (V.Long z) = to_le_bytes w64 (cast_unsigned w64 z)
bytes_of_8 (V.Text t) = zeros 8
bytes_of_8 (V.Date z) = zeros 8

-- a text's bytes; a null has none
abbrev pub text_of : Value → List ℕ
text_of V.Null = []
text_of (V.Boolean b) = []
text_of (V.Integer z) = []
text_of (V.Long z) = []
text_of (V.Text t) = t
text_of (V.Date z) = []

abbrev pub text_size : Value → ℕ
text_size v = length (text_of v)

-- ---- buffers

-- the number whose bits these are, the least first
abbrev pub number_of : List Bool → ℕ
number_of [] = 0
number_of (bit ∷ bits) = (if bit then 1 else 0) + 2 * number_of bits

-- "Validity bitmaps": eight bits a byte, the least first; what is left of the last byte is zeros
unfoldable pub bitmap : List Bool → List ℕ
bitmap bits = map (λ k. number_of (take 8 (drop (8 * k) bits))) (range_with_len 0 ((length bits + 7) / 8))

-- a set bit for each cell that has a value; no byte where all have
unfoldable pub validity : List Value → List ℕ
validity values = if null_count values == 0 then [] else bitmap (map has_value values)

-- "Variable-size binary layout": where each text begins, and where the last one ends
abbrev pub offsets : ℕ → List Value → List ℕ
offsets at [] = to_le_bytes w32 at
offsets at (v ∷ vs) = to_le_bytes w32 at ++ offsets (at + text_size v) vs

-- the buffers of a column behind its validity
abbrev pub value_buffers : DataType → List Value → List (List ℕ)
value_buffers K.Boolean values = bitmap (map truth values) ∷ []
value_buffers K.Integer values = flat_map bytes_of_4 values ∷ []
value_buffers K.Long values = flat_map bytes_of_8 values ∷ []
value_buffers K.Text values = offsets 0 values ∷ flat_map text_of values ∷ []
value_buffers K.Date values = flat_map bytes_of_4 values ∷ []

unfoldable pub column_buffers : DataType → List Value → List (List ℕ)
column_buffers kind values = validity values ∷ value_buffers kind values

-- those of the columns from a place on, whose fields these are
abbrev pub buffers_from : ℕ → List Field → List Row → List (List ℕ)
buffers_from column [] rows = []
buffers_from column (field ∷ fields) rows = column_buffers field.kind (cells column rows) ++ buffers_from (column + 1) fields rows

-- ---- the body and what the batch says of it ("Encapsulated message format": each buffer is filled up to a multiple of 8)

abbrev pub body_of : List (List ℕ) → List ℕ
body_of buffers = flat_map padded buffers

-- where each buffer stands in the body and how many bytes it has, from a place on
abbrev pub spans_from : ℕ → List (List ℕ) → List FlatPair
spans_from at [] = []
spans_from at (buffer ∷ buffers) = record { first = pos at; second = pos (length buffer) } ∷ spans_from (at + length (padded buffer)) buffers

-- a column's node: how many cells it has, and how many nulls
abbrev pub node_of : List Value → FlatPair
node_of values = record { first = pos (length values); second = pos (null_count values) }

abbrev pub nodes_from : ℕ → List Field → List Row → List FlatPair
nodes_from column [] rows = []
nodes_from column (field ∷ fields) rows = node_of (cells column rows) ∷ nodes_from (column + 1) fields rows

-- buffers came after those in a body and after its spans, and the body is still a multiple of 8
pub record Gains (old_body new_body : List ℕ) (old_spans new_spans : List FlatPair) (buffers : List (List ℕ)) : Type 0 where
  pub body : new_body ≡ old_body ++ body_of buffers
  pub spans : new_spans ≡ old_spans ++ spans_from (length old_body) buffers
  pub aligned : length new_body % 8 ≡ 0
