-- What plans are spelled as is read as the plans.
use Rattle.std.proofs.Common.{◌≡◌, ℕ, ◌+◌, ◌-◌, ◌≤◌, List, [], ◌++◌, Option, refl, ap, ◌∙◌, subst, arith}
use Rattle.std.specs.Prelude.{option_map, unwrap_or}
use Rattle.std.proofs.lemmas.Bool.{false≢true}
use Rattle.proto_fields.specs.declared.kind.MessageKind.TheVariants as kinds
use Rattle.proto_fields.specs.declared.kind.PayloadKind.TheVariants.{Message}
use Rattle.proto_fields.specs.Fields.{Field, fields_of}
use Rattle.proto_fields.specs.Kinds.{payload_of}
use Rattle.proto_fields.specs.Faults.{IsSound}
use Rattle.proto_fields.specs.Readings.{Member}
use Rattle.proto_fields.specs.Spelling.{spell, payload_fields}
use Rattle.expression_messages.specs.Messages.{message_at}
use Rattle.expression_messages.specs.Laws.{IsShort, IsReadBack}
use Rattle.expression_messages.proofs.Pieces.{Stands, two_stand, read_back, short_two, short_payload, Piece, payload_piece, payloads_one, message_at-one}
use Rattle.field_groups.proofs.Among.{alone, before_others}
use Rattle.field_groups.proofs.Members.{latest_behind}
use Rattle.field_groups.proofs.Rests.{RestBack, others_above}
use Rattle.command_messages.specs.declared.write_operation.WriteOperation.{WriteOperation}
use Rattle.command_messages.specs.declared.command.Command.{Command}
use Rattle.command_messages.specs.declared.command.Command.TheVariants as command
use Rattle.command_messages.specs.Commands.{write_operation_of, command_member, command_of}
use Rattle.command_messages.specs.Spelled.{write_operation_rest, write_operation_fields, command_fields}
use Rattle.command_messages.specs.Depths.{write_operation_depth}
use Rattle.command_messages.specs.Known.{HasWriteOperationBits}
use Rattle.command_messages.proofs.CommandBack.{write_operation_back}
use Rattle.relation_messages.specs.declared.relation.Relation.{Relation}
use Rattle.relation_messages.specs.Relations.{absent, relation_at}
use Rattle.relation_messages.specs.Spelled.{relation_fields}
use Rattle.relation_messages.specs.Depths.{relation_depth}
use Rattle.relation_messages.specs.Known.{IsKnownRelation, HasRelationBits}
use Rattle.relation_messages.proofs.RelationBack.{relation_read_back}
use Rattle.plan_messages.specs.declared.plan.Plan.{Plan}
use Rattle.plan_messages.specs.declared.plan.Plan.TheVariants.{Root, Command as IsCommand}
use Rattle.plan_messages.specs.Plans.{plan_member, plan_at}
use Rattle.plan_messages.specs.Spelled.{plan_fields}
use Rattle.plan_messages.specs.Depths.{plan_depth}
use Rattle.plan_messages.specs.Known.{IsKnownPlan, HasPlanBits}
use Rattle.field_groups.proofs.Scalars.{is_1, is_2}

-- ---- a command

-- the operation that a write operation's fields are, its relation read at this level
operation_by : ℕ → List Field → WriteOperation Relation
operation_by inner fields = write_operation_of (relation_at inner (message_at 1 fields)) fields

operation_back : (level inner : ℕ) (it : WriteOperation Relation) → inner ≡ level - 1 → IsKnownRelation it.input → HasWriteOperationBits it → HasRelationBits it.input →
    IsShort (write_operation_fields relation_fields it) → write_operation_depth relation_depth it ≤ level →
    IsReadBack level kinds.WriteOperation (write_operation_fields relation_fields it) (operation_by inner) it
unfolding payload_of operation_by
operation_back level inner it left known bits input_bits short deep = read_back level kinds.WriteOperation (input ++ rest) (operation_by inner) it (omega arith) stands same
  where
    payload : List ℕ
    payload = spell (relation_fields it.input)

    input : List Field
    input = payload_fields 1 payload

    rest : List Field
    rest = write_operation_rest it

    shorts : IsShort input × IsShort rest
    shorts = short_two input rest short

    relation_back : IsReadBack inner kinds.Relation (relation_fields it.input) (relation_at inner) it.input
    relation_back = relation_read_back inner it.input known input_bits (short_payload 1 payload shorts.0) (omega (arith, left, deep))

    input_piece : Piece (level - 1) kinds.WriteOperation 1 input
    input_piece = payload_piece (level - 1) kinds.WriteOperation 1 (Message kinds.Relation) payload is_1 refl (subst (λ (n : ℕ). IsSound n kinds.Relation payload) left relation_back.sound) (short_payload 1 payload shorts.0)

    rest_back : RestBack (level - 1) 1 kinds.WriteOperation rest (write_operation_of it.input) it
    rest_back = write_operation_back (level - 1) it bits shorts.1 (omega (arith, deep))

    stands : Stands (level - 1) kinds.WriteOperation (input ++ rest)
    stands = two_stand (level - 1) kinds.WriteOperation input rest input_piece.stands rest_back.stands

    input_found : message_at 1 (input ++ rest) ≡ fields_of payload
    input_found = message_at-one 1 (input ++ rest) payload ((before_others 1 input input rest (alone 1 input) (others_above 1 1 rest rest_back.above (omega arith))).payloads_are ∙ payloads_one 1 payload)

    same : operation_by inner (input ++ rest) ≡ it
    same =
        ap (λ (fields : List Field). write_operation_of (relation_at inner fields) (input ++ rest)) input_found
        ∙ ap (λ (relation : Relation). write_operation_of relation (input ++ rest)) relation_back.same
        ∙ rest_back.same input (omega arith, tt)

command_by : ℕ → Option Member → Command Relation
command_by inner member = unwrap_or (option_map (command_member (relation_at inner)) member) (command.Other 0)

command_back : (level inner : ℕ) (it : WriteOperation Relation) → inner ≡ level - 2 → IsKnownRelation it.input → HasWriteOperationBits it → HasRelationBits it.input →
    IsShort (command_fields relation_fields (command.WriteOperation it)) → 1 + write_operation_depth relation_depth it ≤ level →
    IsReadBack level kinds.Command (command_fields relation_fields (command.WriteOperation it)) (command_of (relation_at inner)) (command.WriteOperation it)
unfolding payload_of command_by operation_by
command_back level inner it left known bits input_bits short deep =
    let payload = spell (write_operation_fields relation_fields it) in
    let few = short_payload 2 payload short in
    let back = operation_back (level - 1) inner it (omega (arith, left)) known bits input_bits few (omega (arith, deep)) in
    read_back level kinds.Command (payload_fields 2 payload) (command_of (relation_at inner)) (command.WriteOperation it) (omega (arith, deep))
    (payload_piece (level - 1) kinds.Command 2 (Message kinds.WriteOperation) payload is_2 refl back.sound few).stands
    (ap (command_by inner) (latest_behind kinds.Command 2 [] payload tt refl)
    ∙ ap (λ (fields : List Field). command.WriteOperation (operation_by inner fields)) (message_at-one 2 (payload_fields 2 payload) payload (payloads_one 2 payload))
    ∙ ap (λ (operation : WriteOperation Relation). command.WriteOperation operation) back.same)

-- ---- a plan

plan_by : ℕ → Option Member → Plan
plan_by level member = unwrap_or (option_map (plan_member level) member) (Root absent)

pub plan_read_back : (level : ℕ) (plan : Plan) → IsKnownPlan plan → HasPlanBits plan → IsShort (plan_fields plan) → plan_depth plan ≤ level →
    IsReadBack level kinds.Plan (plan_fields plan) (plan_at level) plan
unfolding payload_of plan_by
plan_read_back level (Root root) known bits short deep =
    let payload = spell (relation_fields root) in
    let few = short_payload 1 payload short in
    let back = relation_read_back (level - 1) root known bits few (omega (arith, deep)) in
    read_back level kinds.Plan (payload_fields 1 payload) (plan_at level) (Root root) (omega (arith, deep))
    (payload_piece (level - 1) kinds.Plan 1 (Message kinds.Relation) payload is_1 refl back.sound few).stands
    (ap (plan_by level) (latest_behind kinds.Plan 1 [] payload tt refl)
    ∙ ap (λ (fields : List Field). Root (relation_at (level - 1) fields)) (message_at-one 1 (payload_fields 1 payload) payload (payloads_one 1 payload))
    ∙ ap (λ (relation : Relation). Root relation) back.same)
plan_read_back level (IsCommand (command.WriteOperation it)) known bits short deep =
    let payload = spell (command_fields relation_fields (command.WriteOperation it)) in
    let few = short_payload 2 payload short in
    let back = command_back (level - 1) (level - 3) it (omega arith) known bits.0 bits.1 few (omega (arith, deep)) in
    read_back level kinds.Plan (payload_fields 2 payload) (plan_at level) (IsCommand (command.WriteOperation it)) (omega (arith, deep))
    (payload_piece (level - 1) kinds.Plan 2 (Message kinds.Command) payload is_2 refl back.sound few).stands
    (ap (plan_by level) (latest_behind kinds.Plan 2 [] payload tt refl)
    ∙ ap (λ (fields : List Field). IsCommand (command_of (relation_at (level - 3)) fields)) (message_at-one 2 (payload_fields 2 payload) payload (payloads_one 2 payload))
    ∙ ap (λ (it : Command Relation). IsCommand it) back.same)
plan_read_back level (IsCommand (command.Other number)) known bits short deep = absurd (false≢true known)
