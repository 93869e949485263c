use Rattle.std.proofs.Common.{◌≡◌, ℕ, ◌+◌, ◌^◌, ◌≤◌, min, List, length, rules, arith, sym, ap, ◌∙◌, subst}
use Rattle.std.specs.List.{All}
use Rattle.flat_tables.specs.declared.object.FlatObject.TheViews.{the_lemmas}
use Rattle.flat_tables.specs.declared.object.FlatObject.{FlatObject}
use Rattle.flat_tables.specs.declared.object.FlatSlot.{FlatSlot}
use Rattle.flat_tables.specs.Layout.{Block, block, slot_map, named, IsBuildable, OnNamed}
use Rattle.flat_tables.specs.ObjectLaws.{slots_are_few, slots_are_buildable, tables_are_buildable}
use Rattle.flat_tables.proofs.Bounds.{slots_left, slot_counted, table_counted, slots_counted, tables_counted, nothing_named, length-table, length-tables}
use Rattle.flat_tables.proofs.Steps.{is_Table, is_Tables, is_Pairs, is_Text}
use Rattle.flat_tables.proofs.checks.+sizes.Goals as goal
use Rattle.flat_tables.proofs.checks.+sizes.Goals.{size_of_table-in-Object, size_of_table-in_default}

limited : Block → ℕ
limited b = min (length b.bytes) (2 ^ 31)

pub size-size_of_table-requires : goal.size-size_of_table-requires
size-size_of_table-requires t c =
    let whole : IsBuildable _ = subst IsBuildable c.in-Table.is c.requires in (
      search (rules, the_lemmas),
      (
        subst (λ (ss : List (FlatSlot FlatObject)). length ss ≤ 4096) (sym c.as_slice.ensures) (slots_are_few c.in-Table.slots whole),
        subst (All (OnNamed IsBuildable)) (sym c.as_slice.ensures) (slots_are_buildable c.in-Table.slots whole),
      ),
    )

pub size-size_of_tables-requires : goal.size-size_of_tables-requires
size-size_of_tables-requires t c =
    let whole : IsBuildable _ = subst IsBuildable c.in-Tables.is c.requires in
    (search (rules, the_lemmas), subst (All IsBuildable) (sym c.as_slice-in-Tables.ensures) (tables_are_buildable c.in-Tables.tables whole))

pub size-returns-in-Table : goal.size-returns-in-Table
unfolding limited
size-returns-in-Table t c = c.size_of_table.ensures ∙ ap limited (sym (is_Table _ _ c.as_slice.result.now c.in-Table.is c.as_slice.ensures))

pub size-returns-in-Tables : goal.size-returns-in-Tables
unfolding limited
size-returns-in-Tables t c = c.size_of_tables.ensures ∙ ap limited (sym (is_Tables _ _ c.as_slice-in-Tables.result.now c.in-Tables.is c.as_slice-in-Tables.ensures))

pub size-returns-in-Pairs : goal.size-returns-in-Pairs
unfolding limited
size-returns-in-Pairs t c = c.size_of_pairs.ensures ∙ ap limited (sym (is_Pairs _ _ c.as_slice-in-Pairs.result.now c.in-Pairs.is c.as_slice-in-Pairs.ensures))

pub size-returns-in-Text : goal.size-returns-in-Text
unfolding limited
size-returns-in-Text t c = c.size_of_text.ensures ∙ ap limited (sym (is_Text _ _ c.as_str.result.now c.in-Text.is c.as_str.ensures))

pub size_of_table-loop-slot-init : goal.size_of_table-loop-slot-init
size_of_table-loop-slot-init t c = record {
  counted = ap (λ (n : ℕ). min (n + slots_left c.args.slots.now 0) (2 ^ 31)) c.size_of_own-total.ensures.size;
  limited = omega (arith, c.size_of_own-total.ensures.short);
}

-- one object more
step : (total bytes size new rest left whole : ℕ) → left ≡ bytes + rest → size ≡ min bytes (2 ^ 31) → new ≡ min (2 ^ 31) (total + size) → min (total + left) (2 ^ 31) ≡ whole → min (new + rest) (2 ^ 31) ≡ whole
step total bytes size new rest left whole more is capped counted = omega arith

-- a slot more that names nothing
kept : (total bytes new rest left whole : ℕ) → left ≡ bytes + rest → bytes ≡ 0 → new ≡ total → min (total + left) (2 ^ 31) ≡ whole → min (new + rest) (2 ^ 31) ≡ whole
kept total bytes new rest left whole more none same counted = omega arith

pub size_of_table-loop-slot-preserved : goal.size_of_table-loop-slot-preserved
size_of_table-loop-slot-preserved t c = record {
  counted = elim c.match-slot.branch [
    | size_of_table-in-Object w ↦ step _ _ _ _ _ _ _ (slot_counted c.args.slots.now c.loop-slot.slot-index c.slot-item.result c.loop-slot-test.true c.slot-item.is ∙ ap (λ s. length (named (slot_map block s)) + slots_left c.args.slots.now (c.loop-slot.slot-index + 1)) w.in-Object.is)
        w.size.ensures (w.total-is ∙ w.min-total.ensures) c.loop-slot.invariant.counted
    | size_of_table-in_default w ↦ kept _ _ _ _ _ _ (slot_counted c.args.slots.now c.loop-slot.slot-index c.slot-item.result c.loop-slot-test.true c.slot-item.is)
        (nothing_named c.slot-item.result w.in_default.not-Object) w.total-is c.loop-slot.invariant.counted
  ];
  limited = elim c.match-slot.branch [
    | size_of_table-in-Object w ↦ omega (arith, w.total-is, w.min-total.ensures)
    | size_of_table-in_default w ↦ omega (arith, w.total-is, c.loop-slot.invariant.limited)
  ];
}

pub size_of_table-returns : goal.size_of_table-returns
size_of_table-returns t c = omega (arith, c.loop-slot.invariant.counted, c.loop-slot.invariant.limited, slots_counted c.args.slots.now c.loop-slot.slot-index c.loop-slot-test.false, length-table c.args.slots.now)

pub size_of_tables-loop-table-preserved : goal.size_of_tables-loop-table-preserved
size_of_tables-loop-table-preserved t c = record {
  counted = step _ _ _ _ _ _ _ (table_counted c.args.tables.now c.loop-table.table-index c.table-item.result c.loop-table-test.true c.table-item.is) c.size.ensures c.min-total.ensures c.loop-table.invariant.counted;
  limited = omega (arith, c.min-total.ensures);
}

pub size_of_tables-returns : goal.size_of_tables-returns
size_of_tables-returns t c = omega (arith, c.loop-table.invariant.counted, c.loop-table.invariant.limited, tables_counted c.args.tables.now c.loop-table.table-index c.loop-table-test.false, length-tables c.args.tables.now)
