-- The total so far and what is left to count are all, up to the limit.
use Rattle.std.proofs.Common.{◌≡◌, ◌+◌, ◌*◌, ◌^◌, ◌≤◌, min, length}
use Rattle.std.specs.Int.{next_multiple_of}
use Rattle.flat_tables.specs.Layout.{used, table_size}
use Rattle.flat_tables.proofs.Bounds.{slots_left, tables_left}
use Rattle.flat_tables.proofs.checks.+sizes.Given as goal

abbrev pub invariant-size_of_table-loop-slot : goal.invariant-size_of_table-loop-slot
invariant-size_of_table-loop-slot l = record {
  counted : min (l.total + slots_left l.slots l.slot-index) (2 ^ 31) ≡ min (next_multiple_of (4 + 2 * used l.slots) 8 + next_multiple_of (table_size 4 l.slots) 8 + slots_left l.slots 0) (2 ^ 31);
  limited : l.total ≤ 2 ^ 31;
}

abbrev pub invariant-size_of_tables-loop-table : goal.invariant-size_of_tables-loop-table
invariant-size_of_tables-loop-table l = record {
  counted : min (l.total + tables_left l.tables l.table-index) (2 ^ 31) ≡ min (next_multiple_of (8 + 4 * length l.tables) 8 + tables_left l.tables 0) (2 ^ 31);
  limited : l.total ≤ 2 ^ 31;
}
