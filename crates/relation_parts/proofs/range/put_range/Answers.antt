-- Four groups of fields, the last one first.
use Rattle.std.proofs.Common.{SFits, w64, rules}
use Rattle.std.proofs.lemmas.Int.{to_z-of_z}
use Rattle.std.proofs.lemmas.Result.{on_ok_weaker}
use Rattle.proto_fields.specs.Spelling.{int_fields, optional_int_fields}
use Rattle.field_groups.proofs.Sequences.{stand_four}
use Rattle.relation_parts.proofs.range.put_range.Goals as goal

pub returns : goal.returns
returns c =
    let range = c.args.range.now in
    let fits-end : SFits w64 range.end = search rules in
    let fits-step : SFits w64 range.step = search rules in
    let step = simp to_z-of_z at c.in_ok-put_int64.ensures.ok in
    let end = simp to_z-of_z at c.in_ok-put_int64-2.ensures.ok in
    on_ok_weaker c.put_optional_int64.result
    (stand_four (optional_int_fields 1 range.start) (int_fields 2 range.end) (int_fields 3 range.step) (optional_int_fields 4 range.num_partitions)
    c.args.out.now c.put_optional_int32.new.self c.put_int64.new.self c.put_int64-2.new.self c.put_optional_int64.new.self
    c.in_ok-put_optional_int32.ensures.ok step end)
    c.put_optional_int64.ensures.ok
