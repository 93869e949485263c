-- The copies are the items so far.
use Rattle.std.proofs.Common.{◌≡◌, take}
use Rattle.flat_tables.proofs.copies.+copies.Given as goal

abbrev pub invariant-copy_slots-loop-slot : goal.invariant-copy_slots-loop-slot
invariant-copy_slots-loop-slot l = l.copies ≡ take l.slot-index l.slots

abbrev pub invariant-copy_tables-loop-table : goal.invariant-copy_tables-loop-table
invariant-copy_tables-loop-table l = l.copies ≡ take l.table-index l.tables
