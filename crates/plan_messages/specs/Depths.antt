-- How many messages are nested in the spelling of a plan, its own message among them.
use Rattle.std.specs.Prelude.{ℕ, ◌+◌}
use Rattle.command_messages.specs.Depths.{command_depth}
use Rattle.relation_messages.specs.Depths.{relation_depth}
use Rattle.plan_messages.specs.declared.plan.Plan.{Plan}
use Rattle.plan_messages.specs.declared.plan.Plan.TheVariants.{Root, Command as IsCommand}

abbrev pub plan_depth : Plan → ℕ
plan_depth (Root root) = 1 + relation_depth root
plan_depth (IsCommand command) = 1 + command_depth relation_depth command
