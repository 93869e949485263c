-- the fields so far
use Rattle.std.proofs.Common.{◌≡◌, map, take}
use Rattle.arrow_read.specs.Reading.{field_of}
use Rattle.arrow_read.proofs.schema.columns_of.Given as goal

abbrev pub invariant-loop-field : goal.invariant-loop-field
invariant-loop-field l = l.columns ≡ map field_of (take l.field-index l.fields)
