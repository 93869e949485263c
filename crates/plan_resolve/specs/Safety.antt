-- What the schema of a resolved plan says of its rows.
use Rattle.std.specs.Prelude.{All, Ok, List}
use Rattle.cn_types.specs.declared.row.Row.{Row}
use Rattle.plan_model.specs.declared.plan.Resolved.{Resolved}
use Rattle.plan_model.specs.Allows.{Allows}
use Rattle.resolve_sound.specs.Sound.{FitsNulls, schema_flags}

-- whatever list of rows the plan allows, none has a null in a column of the schema that is never null
abbrev pub IsSafePlan : Resolved → Type 0
IsSafePlan plan = (rows : List Row) → Allows plan.node (Ok rows) → All (FitsNulls (schema_flags plan.schema)) rows
