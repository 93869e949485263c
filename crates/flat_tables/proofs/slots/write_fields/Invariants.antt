use Rattle.std.proofs.Common.{◌≡◌, ◌+◌, ◌*◌, ◌≤◌, ◌++◌, drop, map}
use Rattle.flat_tables.specs.Layout.{fields}
use Rattle.flat_tables.specs.Building.{blank}
use Rattle.flat_tables.proofs.slots.write_fields.Given as goal

-- the fields so far and those of the slots that are left are all fields
abbrev pub invariant-loop-slot : goal.invariant-loop-slot
invariant-loop-slot l = (l.out.items ++ fields l.end 0 (map blank (drop l.slot-index l.slots)) ≡ l.initial.out.items ++ fields 4 0 (map blank l.slots)) × (l.end ≤ 4 + 15 * l.slot-index)
