-- A stream that is written piece after piece.
use Rattle.std.proofs.Common.{◌≡◌, ℕ, Some, List, [], ◌++◌, length, ap, ◌∙◌}
use Rattle.std.specs.Int.{w32, to_le_bytes}
use Rattle.std.proofs.lemmas.List.{append_assoc}
use Rattle.cn_types.specs.declared.row.Row.{Row}
use Rattle.cn_types.specs.declared.schema.Schema.{Schema}
use Rattle.flat_tables.specs.declared.object.FlatObject.{FlatObject}
use Rattle.flat_tables.specs.declared.object.FlatPair.{FlatPair}
use Rattle.flat_tables.specs.Layout.{layout}
use Rattle.arrow_ipc.specs.Columns.{body_of, buffers_from, spans_from, nodes_from}
use Rattle.arrow_ipc.specs.Messages.{schema_message, batch_message, message_table, batch_table}
use Rattle.arrow_ipc.specs.Stream.{mark, end_mark, message_bytes, stream_of}

-- what is in two options that are equal
pub inside_Some : (x y : List ℕ) → Some x ≡ Some y → x ≡ y
inside_Some x y e = cc

pub message_written : (out mid new metadata size : List ℕ) (message : FlatObject) → new ≡ mid ++ metadata → mid ≡ out ++ (mark ++ size) → metadata ≡ layout message → size ≡ to_le_bytes w32 (length metadata)
    → new ≡ out ++ message_bytes message
unfolding message_bytes
message_written out mid new metadata size message n m l s =
    n ∙ ap (λ (xs : List ℕ). xs ++ metadata) m ∙ append_assoc out (mark ++ size) metadata
    ∙ ap (λ (xs : List ℕ). out ++ ((mark ++ xs) ++ metadata)) s ∙ ap (λ (xs : List ℕ). out ++ ((mark ++ to_le_bytes w32 (length xs)) ++ xs)) l

pub batch_message_is : (schema : Schema) (rows : List Row) (nodes spans : List FlatPair) (body : List ℕ) → nodes ≡ nodes_from 0 schema.0 rows → spans ≡ spans_from 0 (buffers_from 0 schema.0 rows)
    → body ≡ body_of (buffers_from 0 schema.0 rows) → message_table 3 (batch_table (length rows) nodes spans) (length body) ≡ batch_message schema rows
unfolding batch_message
batch_message_is schema rows nodes spans body n s b =
    ap (λ (ns : List FlatPair). message_table 3 (batch_table (length rows) ns spans) (length body)) n
    ∙ ap (λ (ss : List FlatPair). message_table 3 (batch_table (length rows) (nodes_from 0 schema.0 rows) ss) (length body)) s
    ∙ ap (λ (bs : List ℕ). message_table 3 (batch_table (length rows) (nodes_from 0 schema.0 rows) (spans_from 0 (buffers_from 0 schema.0 rows))) (length bs)) b

pub stream_written : (schema : Schema) (rows : List Row) (first second third whole body : List ℕ) (one two : FlatObject) → first ≡ [] → second ≡ first ++ message_bytes one → third ≡ second ++ message_bytes two → whole ≡ third ++ (body ++ end_mark)
    → one ≡ schema_message schema → two ≡ batch_message schema rows → body ≡ body_of (buffers_from 0 schema.0 rows) → whole ≡ stream_of schema rows
unfolding stream_of
stream_written schema rows first second third whole body one two f s t w o p b =
    let joined : second ≡ message_bytes (schema_message schema) = s ∙ ap (λ (xs : List ℕ). xs ++ message_bytes one) f ∙ ap message_bytes o in
    w ∙ ap (λ (xs : List ℕ). xs ++ (body ++ end_mark)) (t ∙ ap (λ (xs : List ℕ). xs ++ message_bytes two) joined)
    ∙ append_assoc (message_bytes (schema_message schema)) (message_bytes two) (body ++ end_mark)
    ∙ ap (λ (x : FlatObject). message_bytes (schema_message schema) ++ (message_bytes x ++ (body ++ end_mark))) p
    ∙ ap (λ (xs : List ℕ). message_bytes (schema_message schema) ++ (message_bytes (batch_message schema rows) ++ (xs ++ end_mark))) b
