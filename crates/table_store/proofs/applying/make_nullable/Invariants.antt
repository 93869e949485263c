-- The fields made are the fields so far, nullable.
use Rattle.std.proofs.Common.{◌≡◌, take, map}
use Rattle.table_store.specs.Applied.{nullable_field}
use Rattle.table_store.proofs.applying.make_nullable.Given as goal

abbrev pub invariant-loop-field : goal.invariant-loop-field
invariant-loop-field l = l.fields ≡ map nullable_field (take l.field-index l.field-items)
