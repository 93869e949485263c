-- Four groups of fields, the first one first.
use Rattle.std.proofs.Common.{SFits, w64, rules}
use Rattle.std.proofs.lemmas.Int.{to_z-of_z}
use Rattle.proto_fields.specs.Spelling.{int_fields, optional_int_fields}
use Rattle.field_groups.proofs.Sequences.{sized_four}
use Rattle.relation_parts.proofs.range.range_size.Goals as goal

pub returns : goal.returns
returns c =
    let range = c.args.range.now in
    let fits-end : SFits w64 range.end = search rules in
    let fits-step : SFits w64 range.step = search rules in
    let end = simp to_z-of_z at c.int_size-end.ensures.size in
    let step = simp to_z-of_z at c.int_size-step.ensures.size in
    sized_four (optional_int_fields 1 range.start) (int_fields 2 range.end) (int_fields 3 range.step) (optional_int_fields 4 range.num_partitions)
    c.optional_int64_size-start.result c.int_size-end.result c.int_size-step.result c.optional_int32_size-partitions.result
    c.saturating_add.result c.saturating_add-2.result c.saturating_add-3.result
    c.optional_int64_size-start.ensures.size end step c.optional_int32_size-partitions.ensures.size
    c.saturating_add.ensures c.saturating_add-2.ensures c.saturating_add-3.ensures
