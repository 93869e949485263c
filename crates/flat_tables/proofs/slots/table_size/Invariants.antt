use Rattle.std.proofs.Common.{◌≡◌, ◌+◌, ◌*◌, ◌≤◌, drop}
use Rattle.flat_tables.specs.Layout.{table_size}
use Rattle.flat_tables.proofs.slots.table_size.Given as goal

-- the slots that are left lead to the same end, and each slot so far took less than 16 bytes
abbrev pub invariant-loop-slot : goal.invariant-loop-slot
invariant-loop-slot l = (table_size l.end (drop l.slot-index l.slots) ≡ table_size 4 l.slots) × (l.end ≤ 4 + 15 * l.slot-index)
