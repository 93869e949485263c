-- What is read of a stream, in the words of the format.
use Rattle.std.specs.Prelude.{◌≡◌, ◌↔◌, ℕ, List, [], length, Ok, All}
use Rattle.std.specs.List.{flat_map}
use Rattle.cn_types.specs.declared.row.Row.{Row}
use Rattle.cn_types.specs.declared.schema.Schema.{Schema}
use Rattle.cn_types.specs.Fit.{Fits}
use Rattle.arrow_ipc.specs.Stream.{stream_of, CanBeWritten}
use Rattle.arrow_ipc.specs.Holds.{Holds, AreInMemory}
use Rattle.arrow_read.specs.declared.want.Batches.{Batches}
use Rattle.arrow_read.specs.declared.want.Batches.TheVariants.{ExactlyOne, Any}
use Rattle.arrow_read.specs.Reading.{stream_in}

-- whether so many batches are wanted
abbrev pub IsWanted : Batches → ℕ → Type 0
IsWanted ExactlyOne found = found ≡ 1
IsWanted Any found = Unit {0}

-- the bytes are a stream of this schema and of these rows, in as many batches as are wanted
abbrev pub HoldsWanted : List ℕ → Batches → Schema → List Row → Type 0
HoldsWanted bytes want schema rows =
    (batches : List (List Row)) × Holds bytes schema batches × IsWanted want (length batches) × (rows ≡ flat_map (λ batch. batch) batches)

-- what a stream holds is read, and what is read it holds
abbrev pub StreamsAreRead : Type 0
StreamsAreRead = (bytes : List ℕ) (want : Batches) (schema : Schema) (rows : List Row) → (stream_in bytes want ≡ Ok (schema, rows)) ↔ HoldsWanted bytes want schema rows

-- a stream holds one schema and one list of batches
abbrev pub StreamsHoldOne : Type 0
StreamsHoldOne = (bytes : List ℕ) (schema other : Schema) (batches others : List (List Row)) → Holds bytes schema batches → Holds bytes other others → (schema ≡ other) × (batches ≡ others)

-- what is written is read back
abbrev pub WrittenStreamsAreRead : Type 0
WrittenStreamsAreRead =
    (schema : Schema) (rows : List Row) (want : Batches) → CanBeWritten schema rows → AreInMemory schema rows → stream_in (stream_of schema rows) want ≡ Ok (schema, rows)

-- rows that are read fit the schema that is read
abbrev pub ReadRowsFit : Type 0
ReadRowsFit =
    (bytes : List ℕ) (want : Batches) (schema : Schema) (rows : List Row)
    → stream_in bytes want ≡ Ok (schema, rows) → All (Fits schema) rows
