-- What the first fault of a stream is: that of the first message that isn't read, or the number of batches of a whole stream.
use Rattle.std.specs.Prelude.{◌≡◌, ◌≢◌, ◌↔◌, ℕ, List, length, Err}
use Rattle.cn_types.specs.declared.row.Row.{Row}
use Rattle.cn_types.specs.declared.schema.Schema.{Schema}
use Rattle.flat_tables.specs.Views.{TableView}
use Rattle.arrow_ipc.specs.Holds.{MessageAt, BatchHolds, BeginsWithSchema, Holds}
use Rattle.arrow_read.specs.declared.fault.ArrowFault.{ArrowFault}
use Rattle.arrow_read.specs.declared.fault.ArrowFault.TheVariants.{BatchCount}
use Rattle.arrow_read.specs.declared.want.Batches.{Batches}
use Rattle.arrow_read.specs.declared.want.Batches.TheVariants.{ExactlyOne}
use Rattle.arrow_read.specs.Reading.{first_message, next_batch, stream_in}

-- The messages before a place are as they have to be: the schema, and batches.
pub data Reaches (bytes : List ℕ) (schema : Schema) : ℕ → Type 0 where
  past_schema : (next : ℕ) → BeginsWithSchema bytes schema next → Reaches bytes schema next
  past_batch : (at next : ℕ) (header : TableView) (body : List ℕ) (rows : List Row) → Reaches bytes schema at → MessageAt bytes at 3 header body next → BatchHolds header body schema rows → Reaches bytes schema next

-- The stream's first fault: that of the first message, that of the first later one that isn't as it has to be, or that of a whole stream
-- with another number of batches than one, where one is wanted.
pub data StreamFaulty (bytes : List ℕ) : Batches → ArrowFault → Type 0 where
  of_first : (want : Batches) (fault : ArrowFault) → first_message bytes ≡ Err fault → StreamFaulty bytes want fault
  of_later : (want : Batches) (fault : ArrowFault) (schema : Schema) (at : ℕ) → Reaches bytes schema at → next_batch bytes schema at ≡ Err fault → StreamFaulty bytes want fault
  of_count : (schema : Schema) (batches : List (List Row)) → Holds bytes schema batches → length batches ≢ 1 → StreamFaulty bytes ExactlyOne (BatchCount (length batches))

-- each fault is the first one
abbrev pub FaultsAreFirst : Type 0
FaultsAreFirst = (bytes : List ℕ) (want : Batches) (fault : ArrowFault) → (stream_in bytes want ≡ Err fault) ↔ StreamFaulty bytes want fault
