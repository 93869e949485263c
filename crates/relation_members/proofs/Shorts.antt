-- The parts of a member that is short are short.
use Rattle.std.proofs.Common.{ℕ, List, [], length, Option, None, Some, ap, arith}
use Rattle.std.specs.Prelude.{IfSome}
use Rattle.proto_fields.specs.Fields.{Field}
use Rattle.proto_fields.specs.Spelling.{spell, payload_fields}
use Rattle.expression_messages.specs.Laws.{IsShort}
use Rattle.expression_messages.proofs.Pieces.{short_payload}
use Rattle.expression_messages.proofs.Written.{spell_nil}
use Rattle.field_groups.proofs.Groups.{ThreeShort, three_short}
use Rattle.relation_members.specs.declared.member.RelationMember.{RelationMember}
use Rattle.relation_members.specs.declared.member.RelationMember.TheVariants as V
use Rattle.relation_members.specs.Inputs.{first_of, second_of}
use Rattle.relation_members.specs.Spelled.{rest_fields, input_fields, message_fields, member_fields}

-- the groups of a member's message
abbrev pub PartsShort : {R : Type 0} → (R → List Field) → RelationMember R → Type 0
PartsShort inner member = ThreeShort (input_fields inner 1 (first_of member)) (input_fields inner 2 (second_of member)) (rest_fields member)

pub message_parts : {R : Type 0} (inner : R → List Field) (member : RelationMember R) → IsShort (message_fields inner member) → PartsShort inner member
message_parts inner member short = three_short (input_fields inner 1 (first_of member)) (input_fields inner 2 (second_of member)) (rest_fields member) short

by_field : {R : Type 0} (inner : R → List Field) (member : RelationMember R) (number : ℕ) → IsShort (payload_fields number (spell (message_fields inner member))) → PartsShort inner member
by_field inner member number short = message_parts inner member (short_payload number (spell (message_fields inner member)) short)

nothing_short : IsShort []
nothing_short = omega (arith, ap (length {A = ℕ}) spell_nil)

parts_short : {R : Type 0} (inner : R → List Field) (member : RelationMember R) → IsShort (member_fields inner member) → PartsShort inner member
parts_short inner (V.Read it) short = by_field inner (V.Read it) 2 short
parts_short inner (V.Project it) short = by_field inner (V.Project it) 3 short
parts_short inner (V.Filter it) short = by_field inner (V.Filter it) 4 short
parts_short inner (V.Join it) short = by_field inner (V.Join it) 5 short
parts_short inner (V.SetOperation it) short = by_field inner (V.SetOperation it) 6 short
parts_short inner (V.Sort it) short = by_field inner (V.Sort it) 7 short
parts_short inner (V.Limit it) short = by_field inner (V.Limit it) 8 short
parts_short inner (V.Aggregate it) short = by_field inner (V.Aggregate it) 9 short
parts_short inner (V.LocalRelation it) short = by_field inner (V.LocalRelation it) 11 short
parts_short inner (V.Offset it) short = by_field inner (V.Offset it) 13 short
parts_short inner (V.Deduplicate it) short = by_field inner (V.Deduplicate it) 14 short
parts_short inner (V.Range it) short = by_field inner (V.Range it) 15 short
parts_short inner (V.SubqueryAlias it) short = by_field inner (V.SubqueryAlias it) 16 short
parts_short inner (V.ToDf it) short = by_field inner (V.ToDf it) 18 short
parts_short inner (V.WithColumnsRenamed it) short = by_field inner (V.WithColumnsRenamed it) 19 short
parts_short inner (V.DropColumns it) short = by_field inner (V.DropColumns it) 21 short
parts_short inner (V.WithColumns it) short = by_field inner (V.WithColumns it) 23 short
parts_short inner (V.Other number) short = record { first = nothing_short; second = nothing_short; third = nothing_short }

pub input_short : {R : Type 0} (inner : R → List Field) (number : ℕ) (input : Option R) → IsShort (input_fields inner number input) → IfSome input (λ present. IsShort (inner present))
input_short inner number None short = tt
input_short inner number (Some input) short = short_payload number (spell (inner input)) short

-- the inputs of a short member, and its other fields

pub first_short : {R : Type 0} (inner : R → List Field) (member : RelationMember R) → IsShort (member_fields inner member) → IfSome (first_of member) (λ input. IsShort (inner input))
first_short inner member short = input_short inner 1 (first_of member) (parts_short inner member short).first

pub second_short : {R : Type 0} (inner : R → List Field) (member : RelationMember R) → IsShort (member_fields inner member) → IfSome (second_of member) (λ input. IsShort (inner input))
second_short inner member short = input_short inner 2 (second_of member) (parts_short inner member short).second

pub rest_short : {R : Type 0} (inner : R → List Field) (member : RelationMember R) → IsShort (member_fields inner member) → IsShort (rest_fields member)
rest_short inner member short = (parts_short inner member short).third
