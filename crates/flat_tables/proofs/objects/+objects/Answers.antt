use Rattle.std.proofs.Common.{Vec, Global, ◌≡◌, ℕ, ◌+◌, ◌*◌, ◌%◌, ◌≤◌, List, length, map, rules, arith, refl, sym, ap, ◌∙◌, subst}
use Rattle.std.specs.List.{All}
use Rattle.flat_tables.specs.declared.object.FlatObject.{FlatObject}
use Rattle.flat_tables.specs.declared.object.FlatObject.TheViews.{the_lemmas}
use Rattle.flat_tables.specs.declared.object.FlatSlot.{FlatSlot}
use Rattle.flat_tables.specs.Layout.{Block, block, slot_map, OnNamed, IsBuildable, place_of, zeros}
use Rattle.flat_tables.specs.ObjectLaws.{slots_are_few, slots_are_buildable, tables_are_buildable}
use Rattle.flat_tables.proofs.Filling.{Filling, offset_inside}
use Rattle.flat_tables.proofs.Steps.{room_at, adds_at, is_Table, is_Tables, is_Pairs, is_Text, named_slot, slot_done, slot_kept, slots_over, named_table, table_done, tables_over, offset_of_table, entry_of_tables, room_next, all_filled, table_begun, blank_aligned, entry_of_table, tables_begun, tables_aligned, tables_few}
use Rattle.flat_tables.proofs.Sizes.{table_inside, tables_inside}
use Rattle.flat_tables.proofs.objects.+objects.Goals as goal
use Rattle.flat_tables.proofs.objects.+objects.Goals.{write_table-in-Object+in_ok-write_named, write_table-in_default}

pub write_object-write_table-requires : goal.write_object-write_table-requires
write_object-write_table-requires t c =
    let whole : IsBuildable _ = subst IsBuildable c.in-Table.is c.requires.buildable in (
      search (rules, the_lemmas),
      (
        room_at _ _ _ (is_Table _ _ c.as_slice.result.now c.in-Table.is c.as_slice.ensures) c.requires.room,
        (
          subst (λ (ss : List (FlatSlot FlatObject)). length ss ≤ 4096) (sym c.as_slice.ensures) (slots_are_few c.in-Table.slots whole),
          subst (All (OnNamed IsBuildable)) (sym c.as_slice.ensures) (slots_are_buildable c.in-Table.slots whole),
        ),
      ),
    )

pub write_object-write_tables-requires : goal.write_object-write_tables-requires
write_object-write_tables-requires t c =
    let whole : IsBuildable _ = subst IsBuildable c.in-Tables.is c.requires.buildable in (
      search (rules, the_lemmas),
      (
        room_at _ _ _ (is_Tables _ _ c.as_slice-in-Tables.result.now c.in-Tables.is c.as_slice-in-Tables.ensures) c.requires.room,
        subst (All IsBuildable) (sym c.as_slice-in-Tables.ensures) (tables_are_buildable c.in-Tables.tables whole),
      ),
    )

pub write_object-write_pairs-requires : goal.write_object-write_pairs-requires
write_object-write_pairs-requires t c = room_at _ _ _ (is_Pairs _ _ c.as_slice-in-Pairs.result.now c.in-Pairs.is c.as_slice-in-Pairs.ensures) c.requires.room

pub write_object-write_text-requires : goal.write_object-write_text-requires
write_object-write_text-requires t c = room_at _ _ _ (is_Text _ _ c.as_str.result.now c.in-Text.is c.as_str.ensures) c.requires.room

pub write_object-returns-in-Table : goal.write_object-returns-in-Table
write_object-returns-in-Table t c = adds_at _ _ _ _ _ (is_Table _ _ c.as_slice.result.now c.in-Table.is c.as_slice.ensures) c.write_table.ensures

pub write_object-returns-in-Tables : goal.write_object-returns-in-Tables
write_object-returns-in-Tables t c = adds_at _ _ _ _ _ (is_Tables _ _ c.as_slice-in-Tables.result.now c.in-Tables.is c.as_slice-in-Tables.ensures) c.write_tables.ensures

pub write_object-returns-in-Pairs : goal.write_object-returns-in-Pairs
write_object-returns-in-Pairs t c = adds_at _ _ _ _ _ (is_Pairs _ _ c.as_slice-in-Pairs.result.now c.in-Pairs.is c.as_slice-in-Pairs.ensures) c.write_pairs.ensures

pub write_object-returns-in-Text : goal.write_object-returns-in-Text
write_object-returns-in-Text t c = adds_at _ _ _ _ _ (is_Text _ _ c.as_str.result.now c.in-Text.is c.as_str.ensures) c.write_text.ensures

pub write_table-loop-slot-init : goal.write_table-loop-slot-init
write_table-loop-slot-init t c = record {
  filling = table_begun _ _ c.args.slots.now _ c.in_ok-table.ensures.bytes c.in_ok-table.ensures.place;
  aligned = subst (λ (xs : List ℕ). length xs % 8 ≡ 0) (sym c.in_ok-table.ensures.bytes) (blank_aligned c.args.out.now.items c.args.slots.now c.requires.room.aligned);
  near = omega arith;
  entry = c.in_ok-table.ensures.place ∙ ap (λ (n : ℕ). length c.args.out.now.items + n) (sym (entry_of_table c.args.slots.now));
}

pub write_table-write_named-requires : goal.write_table-write_named-requires
write_table-write_named-requires t c =
    let f : Filling _ _ _ _ _ = named_slot c.args.slots.now c.loop-slot.slot-index c.slot-item.result c.in-Object.object _ _ _ _ c.loop-slot-test.true c.slot-item.is c.in-Object.is c.loop-slot.invariant.filling in (
      search (rules, the_lemmas),
      (
        room_next _ _ _ _ _ _ _ c.requires.room c.loop-slot.invariant.aligned f,
        (
          subst (OnNamed IsBuildable) (sym c.slot-item.is ∙ c.in-Object.is) (c.requires.buildable c.loop-slot.slot-index c.slot-item.result c.loop-slot-test.true),
          offset_inside _ _ _ _ _ _ _ (ap (λ (n : ℕ). c.in_ok-table.table + n) (c.place_of.ensures.place ∙ ap (place_of c.loop-slot.end) c.in-Object.is)) refl f,
        ),
      ),
    )

moved : (rest : List (FlatSlot Block)) (final : List ℕ) (table end : ℕ) (v w : Vec ℕ Global) → w ≡ v → Filling rest final table end v.items → Filling rest final table end w.items
moved rest final table end v w e f = subst (λ (x : Vec ℕ Global). Filling rest final table end x.items) (sym e) f

pub write_table-loop-slot-preserved : goal.write_table-loop-slot-preserved
write_table-loop-slot-preserved t c = record {
  filling = elim c.match-slot.branch [
    | write_table-in-Object+in_ok-write_named w ↦ moved _ _ _ _ _ _ w.out-is
        (slot_done c.args.slots.now c.loop-slot.slot-index c.slot-item.result w.in-Object.object _ _ _ _ _ _ _ c.loop-slot-test.true c.slot-item.is w.in-Object.is
        w.place_of.ensures.place c.end_of-end.ensures.end w.in_ok-write_named.ensures c.loop-slot.invariant.filling)
    | write_table-in_default w ↦ moved _ _ _ _ _ _ w.out-is
        (slot_kept c.args.slots.now c.loop-slot.slot-index c.slot-item.result _ _ _ _ _ c.loop-slot-test.true c.slot-item.is
        w.in_default.not-Object c.end_of-end.ensures.end c.loop-slot.invariant.filling)
  ];
  aligned = elim c.match-slot.branch [
    | write_table-in-Object+in_ok-write_named w ↦ subst (λ (v : Vec ℕ Global). length v.items % 8 ≡ 0) (sym w.out-is) w.in_ok-write_named.ensures.aligned
    | write_table-in_default w ↦ subst (λ (v : Vec ℕ Global). length v.items % 8 ≡ 0) (sym w.out-is) c.loop-slot.invariant.aligned
  ];
  near = omega arith;
  entry = c.loop-slot.invariant.entry;
}

pub write_tables-write_blank-requires-clause-few : goal.write_tables-write_blank-requires-clause-few
write_tables-write_blank-requires-clause-few t c = tables_few _ c.args.tables.now c.requires.room

pub write_tables-loop-table-init : goal.write_tables-loop-table-init
write_tables-loop-table-init t c =
    let at : c.len-vector.result ≡ length c.args.out.now.items = omega arith in
    record {
      filling = tables_begun _ _ c.args.tables.now _ c.in_ok-write_blank.ensures at;
      aligned = subst (λ (xs : List ℕ). length xs % 8 ≡ 0) (sym c.in_ok-write_blank.ensures) (tables_aligned c.args.out.now.items (length c.args.tables.now) (zeros (4 * length c.args.tables.now)) c.requires.room.aligned);
      place = refl;
      start = at;
    }

pub write_tables-write_named-requires : goal.write_tables-write_named-requires
write_tables-write_named-requires t c = (
  search (rules, the_lemmas),
  (
    room_next _ _ _ _ _ _ _ c.requires.room c.loop-table.invariant.aligned
        (named_table c.args.tables.now c.loop-table.table-index c.table-item.result _ _ _ _ c.loop-table-test.true c.table-item.is c.loop-table.invariant.filling),
    (
      subst IsBuildable (sym c.table-item.is) (c.requires.buildable c.loop-table.table-index c.table-item.result c.loop-table-test.true),
      offset_of_table c.args.tables.now c.loop-table.table-index c.table-item.result _ _ _ _ c.loop-table-test.true c.table-item.is c.loop-table.invariant.place c.loop-table.invariant.filling,
    ),
  ),
)

pub write_tables-loop-table-preserved : goal.write_tables-loop-table-preserved
write_tables-loop-table-preserved t c = record {
  filling = table_done c.args.tables.now c.loop-table.table-index c.table-item.result _ _ _ _ _ c.loop-table-test.true c.table-item.is c.loop-table.invariant.place c.in_ok-write_named.ensures c.loop-table.invariant.filling;
  aligned = c.in_ok-write_named.ensures.aligned;
  place = omega arith;
  start = c.loop-table.invariant.start;
}

pub write_tables-returns : goal.write_tables-returns
write_tables-returns t c = all_filled _ _ _ _ _ _ c.loop-table.invariant.aligned (ap (λ (n : ℕ). n + 4) c.loop-table.invariant.start ∙ ap (λ (n : ℕ). length c.args.out.now.items + n) (sym (entry_of_tables (map block c.args.tables.now))))
    (tables_inside (map block c.args.tables.now)) (tables_over c.args.tables.now _ _ _ _ _ c.loop-table-test.false c.loop-table.invariant.filling)

pub write_table-returns : goal.write_table-returns
write_table-returns t c = all_filled _ _ _ _ _ _ c.loop-slot.invariant.aligned c.loop-slot.invariant.entry
    (table_inside (map (slot_map block) c.args.slots.now)) (slots_over c.args.slots.now _ _ _ _ _ c.loop-slot-test.false c.loop-slot.invariant.filling)
