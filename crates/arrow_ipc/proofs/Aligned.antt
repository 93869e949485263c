-- What is written is aligned.
use Rattle.std.proofs.Common.{◌≡◌, ℕ, zero, suc, ◌+◌, List, [], ◌∷◌, ◌++◌, length, Some, arith, refl, ap, sym, length-append}
use Rattle.std.specs.Prelude.{pos, slice_get}
use Rattle.std.specs.List.{flat_map}
use Rattle.std.specs.Int.{w32, to_le_bytes}
use Rattle.std.proofs.lemmas.Option.{same_Some}
use Rattle.flat_tables.specs.declared.object.FlatObject.{FlatObject}
use Rattle.flat_tables.specs.declared.object.FlatPair.{FlatPair}
use Rattle.flat_tables.specs.Layout.{padded, layout}
use Rattle.flat_tables.specs.Alignment.{Is8, LayoutsAreAligned}
use Rattle.flat_tables.proofs.Sizes.{padded_aligned}
use Rattle.arrow_ipc.specs.Columns.{spans_from, body_of, buffers_from}
use Rattle.arrow_ipc.specs.Messages.{schema_message, batch_message}
use Rattle.arrow_ipc.specs.Stream.{mark, message_bytes}
use Rattle.arrow_ipc.specs.Alignment.{WrittenStreamsAreAligned}

message_aligned : LayoutsAreAligned → (message : FlatObject) → Is8 (length (message_bytes message))
unfolding message_bytes
message_aligned layouts message =
    let size : length (mark ++ to_le_bytes w32 (length (layout message)) ++ layout message) ≡ 8 + length (layout message) = omega arith in
    omega (arith, size, layouts.buffers message)

body_aligned : (buffers : List (List ℕ)) → Is8 (length (body_of buffers))
body_aligned [] = refl
body_aligned (buffer ∷ buffers) = omega (arith, length-append (padded buffer) (flat_map padded buffers), padded_aligned buffer, body_aligned buffers)

span_aligned : (at : ℕ) (buffers : List (List ℕ)) (number : ℕ) (span : FlatPair) → Is8 at → slice_get (spans_from at buffers) number ≡ Some span → (place : ℕ) × (span.first ≡ pos place) × Is8 place
span_aligned at [] number span h e = absurd (cc)
span_aligned at (buffer ∷ buffers) zero span h e = (at, sym (ap (λ (s : FlatPair). s.first) (same_Some _ span e)), h)
span_aligned at (buffer ∷ buffers) (suc number) span h e = span_aligned (at + length (padded buffer)) buffers number span (omega (arith, h, padded_aligned buffer)) e

pub written_streams_are_aligned : LayoutsAreAligned → WrittenStreamsAreAligned
written_streams_are_aligned layouts schema rows =
    let first : Is8 (length (message_bytes (schema_message schema))) = message_aligned layouts (schema_message schema) in
    let second : Is8 (length (message_bytes (batch_message schema rows))) = message_aligned layouts (batch_message schema rows) in
    record {
      schema_size = layouts.buffers (schema_message schema);
      batch = first;
      batch_size = layouts.buffers (batch_message schema rows);
      body = omega (arith, first, second);
      body_size = body_aligned (buffers_from 0 schema.0 rows);
      buffers = λ number span e. span_aligned 0 (buffers_from 0 schema.0 rows) number span refl e;
    }
