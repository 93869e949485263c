use Rattle.std.proofs.Common.{◌≡◌, ◌+◌, ◌*◌, ◌≤◌, ◌++◌, drop}
use Rattle.std.specs.List.{flat_map}
use Rattle.std.specs.Int.{w16, to_le_bytes}
use Rattle.flat_tables.specs.Layout.{entries}
use Rattle.flat_tables.proofs.slots.write_entries.Given as goal

-- the entries so far and those of the slots that are left are all entries
abbrev pub invariant-loop-slot : goal.invariant-loop-slot
invariant-loop-slot l = (l.out.items ++ flat_map (to_le_bytes w16) (entries l.end (drop l.slot-index l.slots)) ≡ l.initial.out.items ++ flat_map (to_le_bytes w16) (entries 4 l.slots)) × (l.end ≤ 4 + 15 * l.slot-index)
