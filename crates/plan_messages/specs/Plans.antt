-- Plans, read of the fields of their messages (`base.proto`, Plan). A level is how many messages may be nested, the message itself among them.
use Rattle.std.specs.Prelude.{ℕ, ◌-◌, ◌==◌, if◌then◌else◌, List, option_map, unwrap_or}
use Rattle.proto_fields.specs.declared.kind.MessageKind.TheVariants as kinds
use Rattle.proto_fields.specs.Fields.{Field}
use Rattle.proto_fields.specs.Readings.{Member, latest}
use Rattle.expression_messages.specs.Messages.{message_at}
use Rattle.command_messages.specs.Commands.{command_of}
use Rattle.relation_messages.specs.Relations.{absent, relation_at}
use Rattle.plan_messages.specs.declared.plan.Plan.{Plan}
use Rattle.plan_messages.specs.declared.plan.Plan.TheVariants.{Root, Command as IsCommand}

-- root 1, command 2. A root is one level further in; a relation in a command three: the command's and the operation's message stand between
abbrev pub plan_member : ℕ → Member → Plan
plan_member level member =
    if member.number == 1 then Root (relation_at (level - 1) (message_at 1 member.since))
    else IsCommand (command_of (relation_at (level - 3)) (message_at 2 member.since))

-- a plan without a member has an absent relation as its root
abbrev pub plan_at : ℕ → List Field → Plan
plan_at level fields = unwrap_or (option_map (plan_member level) (latest kinds.Plan fields)) (Root absent)
