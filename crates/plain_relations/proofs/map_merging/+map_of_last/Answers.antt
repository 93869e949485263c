-- The map of either half, merged, is the map of all.
use Rattle.std.proofs.Common.{◌≡◌, ◌-◌, ◌/◌, List, length, drop, subst, arith}
use Rattle.std.specs.Prelude.{IfOk}
use Rattle.plain_relations.specs.declared.rename_entry.RenameEntry.{RenameEntry}
use Rattle.plain_relations.proofs.Merging.{rising_is, parts_of}
use Rattle.plain_relations.proofs.map_merging.+map_of_last.Goals as goal

pub merged_maps-requires-clause-early : goal.merged_maps-requires-clause-early
merged_maps-requires-clause-early t c = rising_is c.in_ok-early.early.items _ c.in_ok-early.ensures.map

pub merged_maps-requires-clause-late : goal.merged_maps-requires-clause-late
merged_maps-requires-clause-late t c = rising_is c.in_ok-late.late.items _ c.in_ok-late.ensures.map

pub returns-clause-map : goal.returns-clause-map
returns-clause-map t c =
    subst (λ (es : List RenameEntry). IfOk c.merged_maps.result (λ found. found.items ≡ es))
    (parts_of c.args.entries.now c.map_of_last.new.entries c.in_ok-early.early.items c.in_ok-late.late.items c.args.count (c.args.count / 2)
    (omega arith) c.requires c.in_ok-late.ensures.left c.in_ok-late.ensures.map c.in_ok-early.ensures.map)
    c.merged_maps.ensures
