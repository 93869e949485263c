-- Plans as fields, in one spelling.
use Rattle.std.specs.Prelude.{List}
use Rattle.proto_fields.specs.Fields.{Field}
use Rattle.proto_fields.specs.Spelling.{spell, payload_fields}
use Rattle.command_messages.specs.Spelled.{command_fields}
use Rattle.relation_messages.specs.Spelled.{relation_fields}
use Rattle.plan_messages.specs.declared.plan.Plan.{Plan}
use Rattle.plan_messages.specs.declared.plan.Plan.TheVariants.{Root, Command as IsCommand}

-- root 1, command 2
abbrev pub plan_fields : Plan → List Field
plan_fields (Root root) = payload_fields 1 (spell (relation_fields root))
plan_fields (IsCommand command) = payload_fields 2 (spell (command_fields relation_fields command))
