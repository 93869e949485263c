-- What is read of any fields is valid, and the texts of commands are those of the fault table.
use Rattle.std.proofs.Common.{◌≡◌, ℕ, ◌-◌, ◌==◌, List, refl, sym, subst}
use Rattle.proto_fields.specs.declared.kind.MessageKind.TheVariants as kinds
use Rattle.proto_fields.specs.Fields.{Field}
use Rattle.proto_fields.specs.Kinds.{payload_of}
use Rattle.proto_fields.specs.Readings.{Member, latest}
use Rattle.proto_fields.proofs.TextReadings.{keeps_text, keeps_optional_text}
use Rattle.expression_messages.specs.Messages.{message_at}
use Rattle.expression_messages.proofs.Valid.{either, one_of}
use Rattle.command_messages.specs.declared.command.Command.{Command}
use Rattle.command_messages.specs.declared.command.Command.TheVariants as command
use Rattle.command_messages.specs.Commands.{write_operation_of, command_member, command_of}
use Rattle.command_messages.proofs.CommandValid.{write_operation_valid}
use Rattle.relation_messages.specs.Relations.{absent, relation_at}
use Rattle.relation_messages.proofs.RelationValid.{relation_valid, absent_valid}
use Rattle.plan_messages.specs.declared.plan.Plan.{Plan}
use Rattle.plan_messages.specs.declared.plan.Plan.TheVariants.{Root, Command as IsCommand}
use Rattle.plan_messages.specs.Plans.{plan_member, plan_at}
use Rattle.plan_messages.specs.Known.{HasCommandBits, HasPlanBits}
use Rattle.plan_messages.specs.Laws.{CommandTextsAreKept}

command_valid : (level : ℕ) (fields : List Field) → HasCommandBits (command_of (relation_at level) fields)
command_valid level fields = one_of HasCommandBits (command_member (relation_at level)) (command.Other 0) each tt (latest kinds.Command fields)
  where
    each : (member : Member) → HasCommandBits (command_member (relation_at level) member)
    each member =
        let inner = message_at 2 member.since in
        either HasCommandBits (member.number == 2) (command.WriteOperation (write_operation_of (relation_at level (message_at 1 inner)) inner)) (command.Other member.number)
        (write_operation_valid (relation_at level (message_at 1 inner)) inner, relation_valid level (message_at 1 inner)) tt

pub plan_valid : (level : ℕ) (fields : List Field) → HasPlanBits (plan_at level fields)
plan_valid level fields = one_of HasPlanBits (plan_member level) (Root absent) each absent_valid (latest kinds.Plan fields)
  where
    each : (member : Member) → HasPlanBits (plan_member level member)
    each member =
        either HasPlanBits (member.number == 1) (Root (relation_at (level - 1) (message_at 1 member.since)))
        (IsCommand (command_of (relation_at (level - 3)) (message_at 2 member.since)))
        (relation_valid (level - 1) (message_at 1 member.since)) (command_valid (level - 3) (message_at 2 member.since))

pub command_texts : CommandTextsAreKept
unfolding payload_of
command_texts = record { source = λ input. keeps_optional_text kinds.WriteOperation 2 refl; table_name = keeps_text kinds.SaveTable 1 refl }

-- the plan that a call read of any fields
pub plan_is_valid : (fields : List Field) (plan : Plan) → plan ≡ plan_at 200 fields → HasPlanBits plan
plan_is_valid fields plan is = subst HasPlanBits (sym is) (plan_valid 200 fields)
