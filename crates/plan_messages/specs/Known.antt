-- Which plans have a spelling, and that the numbers and texts in them are values of their types.
use Rattle.std.specs.Prelude.{Bool, IsTrue}
use Rattle.command_messages.specs.declared.command.Command.{Command}
use Rattle.command_messages.specs.declared.command.Command.TheVariants as command
use Rattle.command_messages.specs.Known.{is_known_command, HasWriteOperationBits}
use Rattle.relation_messages.specs.declared.relation.Relation.{Relation}
use Rattle.relation_messages.specs.Known.{is_known_relation, HasRelationBits}
use Rattle.plan_messages.specs.declared.plan.Plan.{Plan}
use Rattle.plan_messages.specs.declared.plan.Plan.TheVariants.{Root, Command as IsCommand}

-- no part of the plan is outside the profile
abbrev pub is_known_plan : Plan → Bool
is_known_plan (Root root) = is_known_relation root
is_known_plan (IsCommand it) = is_known_command is_known_relation it

abbrev pub IsKnownPlan : Plan → Type 0
IsKnownPlan plan = IsTrue (is_known_plan plan)

abbrev pub HasCommandBits : Command Relation → Type 0
HasCommandBits (command.WriteOperation it) = HasWriteOperationBits it × HasRelationBits it.input
HasCommandBits (command.Other number) = Unit {0}

abbrev pub HasPlanBits : Plan → Type 0
HasPlanBits (Root root) = HasRelationBits root
HasPlanBits (IsCommand it) = HasCommandBits it
