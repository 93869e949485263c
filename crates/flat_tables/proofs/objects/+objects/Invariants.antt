use Rattle.std.proofs.Common.{◌≡◌, ◌+◌, ◌*◌, ◌%◌, ◌≤◌, ◌++◌, length, map, drop}
use Rattle.flat_tables.specs.declared.object.FlatSlot.TheVariants.{Object}
use Rattle.flat_tables.specs.Layout.{block, slot_map, table_block, tables_block}
use Rattle.flat_tables.proofs.Filling.{Filling}
use Rattle.flat_tables.proofs.objects.+objects.Given as goal

abbrev pub invariant-write_table-loop-slot : goal.invariant-write_table-loop-slot
invariant-write_table-loop-slot l = record {
  filling : Filling (map (slot_map block) (drop l.slot-index l.slots)) (l.fn.out.items ++ (table_block (map (slot_map block) l.slots)).bytes) l.table l.end l.out.items;
  aligned : length l.out.items % 8 ≡ 0;
  near : l.end ≤ 4 + 15 * l.slot-index;
  entry : l.table ≡ length l.fn.out.items + (table_block (map (slot_map block) l.slots)).entry;
}

abbrev pub invariant-write_tables-loop-table : goal.invariant-write_tables-loop-table
invariant-write_tables-loop-table l = record {
  filling : Filling (map Object (map block (drop l.table-index l.tables))) (l.fn.out.items ++ (tables_block (map block l.tables)).bytes) l.vector (8 + 4 * l.table-index) l.out.items;
  aligned : length l.out.items % 8 ≡ 0;
  place : l.place ≡ l.vector + (8 + 4 * l.table-index);
  start : l.vector ≡ length l.fn.out.items;
}
