-- What is read of a sound message is the same at every level that suffices.
use Rattle.std.proofs.Common.{◌≡◌, ℕ, ◌-◌, ◌≤◌, ◌==◌, List, Option, None, Some, refl, sym, ap, ◌∙◌, subst, arith}
use Rattle.std.specs.Prelude.{if◌then◌else◌, option_map, unwrap_or}
use Rattle.std.specs.List.{AllByRecursion}
use Rattle.proto_fields.specs.declared.kind.MessageKind.TheVariants as kinds
use Rattle.proto_fields.specs.Fields.{Field, fields_of}
use Rattle.proto_fields.specs.Kinds.{payload_of}
use Rattle.proto_fields.specs.Faults.{IsSound}
use Rattle.proto_fields.specs.Readings.{payloads, Member, latest}
use Rattle.expression_messages.specs.Messages.{message_at}
use Rattle.expression_messages.proofs.Agreement.{AreSound, fields_sound, fields_in, message_at-joined, payloads_sound, message_sound, since_sound}
use Rattle.command_messages.specs.declared.command.Command.{Command}
use Rattle.command_messages.specs.declared.command.Command.TheVariants as command
use Rattle.command_messages.specs.Commands.{write_operation_of, command_member, command_of}
use Rattle.relation_messages.specs.declared.relation.Relation.{Relation}
use Rattle.relation_messages.specs.Relations.{absent, relation_at}
use Rattle.relation_messages.proofs.SameRelations.{relation_agrees, relation_at-nothing}
use Rattle.plan_messages.specs.declared.plan.Plan.{Plan}
use Rattle.plan_messages.specs.declared.plan.Plan.TheVariants.{Root, Command as IsCommand}
use Rattle.plan_messages.specs.Plans.{plan_member, plan_at}
use Rattle.plan_messages.proofs.Joined.{joined_agree}

-- ---- relations

relations_agree : (level more : ℕ) → level ≤ more → (messages : List (List ℕ)) → AllByRecursion (IsSound level kinds.Relation) messages →
    relation_at more (fields_in messages) ≡ relation_at level (fields_in messages)
relations_agree level more upper =
    joined_agree level kinds.Relation (relation_at level) (relation_at more) (relation_at-nothing more ∙ sym (relation_at-nothing level))
    (λ bytes sound. relation_agrees level more bytes upper sound)

-- the relation in a field
relation_same : (level more number : ℕ) (fields : List Field) → level ≤ more → AllByRecursion (IsSound level kinds.Relation) (payloads number fields) →
    relation_at more (message_at number fields) ≡ relation_at level (message_at number fields)
relation_same level more number fields upper sound =
    let joined = message_at-joined number fields in
    ap (relation_at more) joined ∙ relations_agree level more upper (payloads number fields) sound ∙ ap (relation_at level) (sym joined)

-- ---- a command, in a message of so many levels

-- the relation of an operation
input_same : (level low more : ℕ) (fields : List Field) → low ≡ level - 2 → low ≤ more → AreSound (level - 1) kinds.WriteOperation fields →
    relation_at more (message_at 1 fields) ≡ relation_at low (message_at 1 fields)
unfolding payload_of
input_same level low more fields left upper sound =
    let next : level - 1 - 1 ≡ low = omega (arith, left) in
    relation_same low more 1 fields upper
    (subst (λ (n : ℕ). AllByRecursion (IsSound n kinds.Relation) (payloads 1 fields)) next (payloads_sound (level - 1 - 1) kinds.WriteOperation kinds.Relation 1 refl fields sound))

command_by : (level low more : ℕ) (fields : List Field) → low ≡ level - 2 → low ≤ more → AreSound level kinds.Command fields → (found : Option Member) → latest kinds.Command fields ≡ found →
    option_map (command_member (relation_at more)) found ≡ option_map (command_member (relation_at low)) found
unfolding payload_of
command_by level low more fields left upper sound None is = refl
command_by level low more fields left upper sound (Some member) is =
    let inside = message_sound level kinds.Command kinds.WriteOperation 2 refl member.since (since_sound level kinds.Command fields member is sound) in
    ap (λ (input : Relation). Some (if member.number == 2 then command.WriteOperation (write_operation_of input (message_at 2 member.since)) else command.Other member.number))
    (input_same level low more (message_at 2 member.since) left upper inside)

command_same : (level low more : ℕ) (fields : List Field) → low ≡ level - 2 → low ≤ more → AreSound level kinds.Command fields → command_of (relation_at more) fields ≡ command_of (relation_at low) fields
command_same level low more fields left upper sound =
    ap (λ (o : Option (Command Relation)). unwrap_or o (command.Other 0)) (command_by level low more fields left upper sound (latest kinds.Command fields) refl)

-- ---- a plan

-- the member of this number among these
chosen : ℕ → Relation → Command Relation → Plan
chosen number root command = if number == 1 then Root root else IsCommand command

chosen_same : {root root2 : Relation} {it it2 : Command Relation} (number : ℕ) → root ≡ root2 → it ≡ it2 → chosen number root it ≡ chosen number root2 it2
chosen_same number root_is it_is = rw root_is (rw it_is refl)

member_same : (level more : ℕ) (member : Member) → level ≤ more → AreSound level kinds.Plan member.since → plan_member more member ≡ plan_member level member
unfolding payload_of chosen
member_same level more member upper sound =
    chosen_same member.number
    (relation_same (level - 1) (more - 1) 1 member.since (omega arith) (payloads_sound (level - 1) kinds.Plan kinds.Relation 1 refl member.since sound))
    (command_same (level - 1) (level - 3) (more - 3) (message_at 2 member.since) (omega arith) (omega arith) (message_sound level kinds.Plan kinds.Command 2 refl member.since sound))

plan_by : (level more : ℕ) (fields : List Field) → level ≤ more → AreSound level kinds.Plan fields → (found : Option Member) → latest kinds.Plan fields ≡ found →
    option_map (plan_member more) found ≡ option_map (plan_member level) found
plan_by level more fields upper sound None is = refl
plan_by level more fields upper sound (Some member) is =
    ap (λ (plan : Plan). Some plan) (member_same level more member upper (since_sound level kinds.Plan fields member is sound))

pub plan_agrees : (level more : ℕ) (bytes : List ℕ) → level ≤ more → IsSound level kinds.Plan bytes → plan_at more (fields_of bytes) ≡ plan_at level (fields_of bytes)
plan_agrees level more bytes upper sound =
    ap (λ (o : Option Plan). unwrap_or o (Root absent))
    (plan_by level more (fields_of bytes) upper (fields_sound level kinds.Plan bytes sound) (latest kinds.Plan (fields_of bytes)) refl)
