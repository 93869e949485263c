use Rattle.std.proofs.Common.{refl, sym, subst}
use Rattle.flat_tables.specs.Layout.{IsTable, IsBuildable, OnNamed}
use Rattle.flat_tables.proofs.Checking.{checked_Table, too_many, checked_Tables, checked_Pairs, checked_Text, more, all_of, plain_slot}
use Rattle.flat_tables.proofs.checks.+checks.Goals as goal
use Rattle.flat_tables.proofs.checks.+checks.Goals.{slots_are_buildable-in-Object+else-not-is_buildable, slots_are_buildable-in_default}

pub is_buildable-returns-else-len-le4096 : goal.is_buildable-returns-else-len-le4096
is_buildable-returns-else-len-le4096 t c = too_many _ c.in-Table.slots _ c.in-Table.is c.len.ensures c.if-len-le4096.false

pub is_buildable-returns-then-len-le4096 : goal.is_buildable-returns-then-len-le4096
is_buildable-returns-then-len-le4096 t c = checked_Table _ c.in-Table.slots c.as_slice.result.now _ _ c.in-Table.is c.as_slice.ensures c.len.ensures c.if-len-le4096.true c.slots_are_buildable.ensures

pub is_buildable-returns-in-Tables : goal.is_buildable-returns-in-Tables
is_buildable-returns-in-Tables t c = checked_Tables _ c.in-Tables.tables _ _ c.in-Tables.is c.as_slice-in-Tables.ensures c.tables_are_buildable.ensures

pub is_buildable-returns-in-Pairs : goal.is_buildable-returns-in-Pairs
is_buildable-returns-in-Pairs t c = checked_Pairs _ _ c.in-Pairs.is

pub is_buildable-returns-in-Text : goal.is_buildable-returns-in-Text
is_buildable-returns-in-Text t c = checked_Text _ _ c.in-Text.is

pub slots_are_buildable-loop-slot-preserved : goal.slots_are_buildable-loop-slot-preserved
slots_are_buildable-loop-slot-preserved t c = more (OnNamed IsBuildable) c.args.slots.now c.loop-slot.slot-index c.slot-item.result c.loop-slot-test.true c.slot-item.is
    (elim c.match-slot.branch [
      | slots_are_buildable-in-Object+else-not-is_buildable w ↦ subst (OnNamed IsBuildable) (sym w.in-Object.is) (w.is_buildable.ensures.0 w.if-not-is_buildable.false)
      | slots_are_buildable-in_default w ↦ plain_slot c.slot-item.result w.in_default.not-Object
    ])
    c.loop-slot.invariant

pub slots_are_buildable-returns : goal.slots_are_buildable-returns
slots_are_buildable-returns t c = ((λ _. all_of (OnNamed IsBuildable) c.args.slots.now c.loop-slot.slot-index c.loop-slot-test.false c.loop-slot.invariant), λ _. refl)

pub tables_are_buildable-loop-table-preserved : goal.tables_are_buildable-loop-table-preserved
tables_are_buildable-loop-table-preserved t c = (
  more IsTable c.args.tables.now c.loop-table.table-index c.table-item.result c.loop-table-test.true c.table-item.is (c.is_table.ensures.0 c.if-not-is_table.false) c.loop-table.invariant.0,
  more IsBuildable c.args.tables.now c.loop-table.table-index c.table-item.result c.loop-table-test.true c.table-item.is (c.is_buildable.ensures.0 c.if-not-is_buildable.false) c.loop-table.invariant.1,
)

pub tables_are_buildable-returns : goal.tables_are_buildable-returns
tables_are_buildable-returns t c = (
  (λ _. (
    all_of IsTable c.args.tables.now c.loop-table.table-index c.loop-table-test.false c.loop-table.invariant.0,
    all_of IsBuildable c.args.tables.now c.loop-table.table-index c.loop-table-test.false c.loop-table.invariant.1,
  )),
  λ _. refl,
)
