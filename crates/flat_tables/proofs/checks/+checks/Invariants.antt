-- The slots, and the tables, so far can be built.
use Rattle.std.proofs.Common.{take}
use Rattle.std.specs.List.{All}
use Rattle.flat_tables.specs.Layout.{IsTable, IsBuildable, OnNamed}
use Rattle.flat_tables.proofs.checks.+checks.Given as goal

abbrev pub invariant-slots_are_buildable-loop-slot : goal.invariant-slots_are_buildable-loop-slot
invariant-slots_are_buildable-loop-slot l = All (OnNamed IsBuildable) (take l.slot-index l.slots)

abbrev pub invariant-tables_are_buildable-loop-table : goal.invariant-tables_are_buildable-loop-table
invariant-tables_are_buildable-loop-table l = All IsTable (take l.table-index l.tables) × All IsBuildable (take l.table-index l.tables)
