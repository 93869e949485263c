-- the fields so far, and then the others
use Rattle.std.proofs.Common.{◌≡◌, ◌+◌, ◌-◌, length}
use Rattle.std.specs.Prelude.{sum_by}
use Rattle.arrow_read.specs.Tables.{fields_from}
use Rattle.arrow_read.proofs.FieldLoop.{behind}
use Rattle.arrow_read.proofs.schema.fields_in.Given as goal

abbrev pub invariant-loop-place : goal.invariant-loop-place
invariant-loop-place l = record {
  fields : behind l.found (fields_from l.fields l.place (l.fields.count - l.place)) ≡ fields_from l.fields 0 l.fields.count;
  names : l.names + sum_by (λ field. length field.name) l.found ≡ l.room;
}
