-- How what is written is aligned (Arrow Columnar Format, "Encapsulated message format"): messages, metadata, the body and its buffers stand
-- at multiples of 8, and are filled up to one.
use Rattle.std.specs.Prelude.{◌≡◌, ℕ, ◌+◌, pos, List, length, slice_get, Some}
use Rattle.cn_types.specs.declared.row.Row.{Row}
use Rattle.cn_types.specs.declared.schema.Schema.{Schema}
use Rattle.flat_tables.specs.declared.object.FlatPair.{FlatPair}
use Rattle.flat_tables.specs.Layout.{layout}
use Rattle.flat_tables.specs.Alignment.{Is8}
use Rattle.arrow_ipc.specs.Columns.{spans_from, body_of, buffers_from}
use Rattle.arrow_ipc.specs.Messages.{schema_message, batch_message}
use Rattle.arrow_ipc.specs.Stream.{message_bytes}

-- where the batch's message stands in the stream, behind the schema's, and where its body does. Metadata begin 8 bytes after their message
abbrev pub batch_place : Schema → ℕ
batch_place schema = length (message_bytes (schema_message schema))

abbrev pub body_place : Schema → List Row → ℕ
body_place schema rows = batch_place schema + length (message_bytes (batch_message schema rows))

-- a written stream; each buffer's place counts from the body's beginning
pub record IsAligned (schema : Schema) (rows : List Row) : Type 0 where
  pub schema_size : Is8 (length (layout (schema_message schema)))
  pub batch : Is8 (batch_place schema)
  pub batch_size : Is8 (length (layout (batch_message schema rows)))
  pub body : Is8 (body_place schema rows)
  pub body_size : Is8 (length (body_of (buffers_from 0 schema.0 rows)))
  pub buffers : (number : ℕ) (span : FlatPair) → slice_get (spans_from 0 (buffers_from 0 schema.0 rows)) number ≡ Some span → (place : ℕ) × (span.first ≡ pos place) × Is8 place

abbrev pub WrittenStreamsAreAligned : Type 0
WrittenStreamsAreAligned = (schema : Schema) (rows : List Row) → IsAligned schema rows
