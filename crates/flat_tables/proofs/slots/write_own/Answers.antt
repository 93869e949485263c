use Rattle.std.proofs.Common.{ℕ, ◌-◌, ◌≤◌, ◌<◌, ◌^◌, ◌≡◌, List, ◌++◌, length, length-append, arith, ap}
use Rattle.flat_tables.specs.declared.object.FlatSlot.{FlatSlot}
use Rattle.flat_tables.specs.Layout.{vtable_bytes}
use Rattle.flat_tables.proofs.Sizes.{length-vtable, used_within}
use Rattle.flat_tables.proofs.slots.write_own.Goals as goal

near : {O : Type 0} (old new : List ℕ) (slots : List (FlatSlot O)) → length slots ≤ 4096 → new ≡ old ++ vtable_bytes slots → length new - length old < 2 ^ 32
near old new slots few is = omega (arith, ap length is, length-append old (vtable_bytes slots), length-vtable slots, used_within slots)

pub overflow_cast-distance : goal.overflow_cast-distance
overflow_cast-distance c = omega (arith, near c.args.out.now.items c.write_vtable.new.out.items c.args.slots.now c.requires.few c.in_ok-write_vtable.ensures)
