-- The columns of the fields so far.
use Rattle.std.proofs.Common.{◌≡◌, map, take}
use Rattle.serde_json.specs.View.{view}
use Rattle.cn_types.specs.Json.{column_of}
use Rattle.cn_types.proofs.json.columns_of.Given as goal

abbrev pub invariant-loop-field : goal.invariant-loop-field
invariant-loop-field l = l.columns ≡ map (λ field. column_of (view field)) (take l.field-index l.fields)
