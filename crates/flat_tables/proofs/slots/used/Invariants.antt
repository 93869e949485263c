use Rattle.std.proofs.Common.{◌≡◌, ◌+◌, ◌≤◌, drop, cond, eqb}
use Rattle.flat_tables.specs.Layout.{used}
use Rattle.flat_tables.proofs.slots.used.Given as goal

-- the count is that of the slots so far, unless one that is left is written
abbrev pub invariant-loop-place : goal.invariant-loop-place
invariant-loop-place l = (cond (eqb (used (drop l.place l.slots)) 0) l.count (l.place + used (drop l.place l.slots)) ≡ used l.slots) × (l.count ≤ l.place)
