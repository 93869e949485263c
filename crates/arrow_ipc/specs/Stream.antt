-- A stream as it is written (Arrow Columnar Format, "IPC Streaming Format"): the schema, one batch, the end mark.
use Rattle.std.specs.Prelude.{ℕ, ◌+◌, ◌^◌, ◌≤◌, List, [], ◌∷◌, ◌++◌, length, sum_by, All}
use Rattle.std.specs.Int.{w32, to_le_bytes}
use Rattle.cn_types.specs.Fit.{Fits}
use Rattle.cn_types.specs.declared.row.Row.{Row}
use Rattle.cn_types.specs.declared.schema.Schema.{Schema}
use Rattle.flat_tables.specs.declared.object.FlatObject.{FlatObject}
use Rattle.flat_tables.specs.Layout.{zeros, layout}
use Rattle.arrow_ipc.specs.Columns.{text_size, body_of, buffers_from}
use Rattle.arrow_ipc.specs.Messages.{schema_message, batch_message}

-- "Encapsulated message format": the continuation mark, the size of the metadata, the metadata, the body
abbrev pub mark : List ℕ
mark = 255 ∷ 255 ∷ 255 ∷ 255 ∷ []

unfoldable pub message_bytes : FlatObject → List ℕ
message_bytes message = mark ++ to_le_bytes w32 (length (layout message)) ++ layout message

-- a mark and a size of 0
abbrev pub end_mark : List ℕ
end_mark = mark ++ zeros 4

unfoldable pub stream_of : Schema → List Row → List ℕ
stream_of schema rows =
    message_bytes (schema_message schema)
    ++ (message_bytes (batch_message schema rows) ++ (body_of (buffers_from 0 schema.0 rows) ++ end_mark))

-- the bytes of all names and texts
abbrev pub names_and_texts : Schema → List Row → ℕ
names_and_texts schema rows = sum_by (λ field. length field.name) schema.0 + sum_by (λ row. sum_by text_size row.0) rows

-- what can be written
pub record CanBeWritten (schema : Schema) (rows : List Row) : Type 0 where
  pub fits : All (Fits schema) rows
  pub columns : length schema.0 ≤ 1048576
  pub texts : names_and_texts schema rows ≤ 2 ^ 30
