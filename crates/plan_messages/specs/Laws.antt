-- Laws over the definitions, for all plans.
use Rattle.std.specs.Prelude.{◌≡◌, ℕ, ◌≤◌, List}
use Rattle.proto_fields.specs.declared.kind.MessageKind.TheVariants as kinds
use Rattle.proto_fields.specs.Fields.{Field, fields_of}
use Rattle.proto_fields.specs.Texts.{KeepsText, KeepsOptionalText}
use Rattle.command_messages.specs.Commands.{save_table_of, write_operation_of}
use Rattle.relation_messages.specs.declared.relation.Relation.{Relation}
use Rattle.proto_fields.specs.Faults.{IsSound}
use Rattle.expression_messages.specs.Laws.{IsShort, IsReadBack}
use Rattle.plan_messages.specs.declared.plan.Plan.{Plan}
use Rattle.plan_messages.specs.Plans.{plan_at}
use Rattle.plan_messages.specs.Spelled.{plan_fields}
use Rattle.plan_messages.specs.Depths.{plan_depth}
use Rattle.plan_messages.specs.Known.{IsKnownPlan, HasPlanBits}

-- what a plan is spelled as is sound and read back wherever its depth is allowed
abbrev pub PlansAreReadBack : Type 0
PlansAreReadBack = (level : ℕ) (plan : Plan) → IsKnownPlan plan → HasPlanBits plan → IsShort (plan_fields plan) → plan_depth plan ≤ level →
    IsReadBack level kinds.Plan (plan_fields plan) (plan_at level) plan

-- what is read of a sound message is the same at every level that suffices
abbrev pub PlanLevelsAgree : Type 0
PlanLevelsAgree = (level more : ℕ) (bytes : List ℕ) → level ≤ more → IsSound level kinds.Plan bytes → plan_at more (fields_of bytes) ≡ plan_at level (fields_of bytes)

-- whatever fields are read, the numbers have the bits of their types and the texts are UTF-8, so that what was read can be written again
abbrev pub PlansAreValid : Type 0
PlansAreValid = (level : ℕ) (fields : List Field) → HasPlanBits (plan_at level fields)

-- every text of a sound command is read as it stands
pub record CommandTextsAreKept : Type 0 where
  pub source : (input : Relation) → KeepsOptionalText kinds.WriteOperation 2 (λ fields. (write_operation_of input fields).source)
  pub table_name : KeepsText kinds.SaveTable 1 (λ fields. (save_table_of fields).table_name)
