-- What relations are spelled as is read as the relations.
use Rattle.std.proofs.Common.{◌≡◌, ℕ, zero, suc, ◌+◌, ◌-◌, ◌≤◌, max, true, List, ◌++◌, Option, None, Some, refl, sym, ap, ◌∙◌, subst, arith}
use Rattle.std.specs.Prelude.{◌&&◌, IfSome, option_map, unwrap_or}
use Rattle.std.proofs.lemmas.Bool.{false≢true}
use Rattle.std.proofs.lemmas.List.{append-nil}
use Rattle.proto_fields.specs.declared.kind.MessageKind.TheVariants as kinds
use Rattle.proto_fields.specs.declared.kind.PayloadKind.TheVariants.{Message}
use Rattle.proto_fields.specs.Fields.{Field, fields_of}
use Rattle.proto_fields.specs.Kinds.{payload_of}
use Rattle.proto_fields.specs.Readings.{payloads, joined, merged, latest}
use Rattle.proto_fields.specs.Spelling.{spell}
use Rattle.expression_messages.specs.Laws.{IsShort, IsReadBack}
use Rattle.expression_messages.proofs.Pieces.{Stands, nothing_stands, two_stand, read_back, short_two, short_payload, is_numbered, Piece, payload_piece, payloads_front, payloads_one}
use Rattle.expression_messages.proofs.TypeBack.{and_true}
use Rattle.relation_parts.specs.declared.common.RelationCommon.{RelationCommon}
use Rattle.relation_parts.specs.Parts.{common_of}
use Rattle.relation_parts.specs.Spelled.{common_fields}
use Rattle.relation_parts.specs.Bits.{HasCommonBits}
use Rattle.relation_parts.proofs.PartsBack.{common_read_back}
use Rattle.relation_members.specs.declared.member.RelationMember.{RelationMember}
use Rattle.relation_members.specs.declared.member.RelationMember.TheVariants as V
use Rattle.relation_members.specs.Members.{member_at}
use Rattle.relation_members.specs.Inputs.{first_of, second_of}
use Rattle.relation_members.specs.Spelled.{member_fields}
use Rattle.relation_members.specs.Depths.{rest_depth, member_depth}
use Rattle.relation_members.specs.Known.{is_known_rest}
use Rattle.relation_members.proofs.Shorts.{first_short, second_short}
use Rattle.relation_members.proofs.Messages.{FieldBack}
use Rattle.relation_members.proofs.MemberBack.{IsInputBack, member_back}
use Rattle.relation_messages.specs.declared.relation.Relation.{Relation}
use Rattle.relation_messages.specs.declared.relation.Relation.TheOpen.{Relation-F}
use Rattle.relation_messages.specs.declared.relation.Relation.TheViews.{out-Relation, roll-out-Relation}
use Rattle.relation_messages.specs.declared.relation.Relation.TheFolds.{every-Relation, every_here-Relation, every_held-Relation}
use Rattle.relation_messages.specs.Relations.{relation_of, relation_at}
use Rattle.relation_messages.specs.Spelled.{common_field, relation_fields}
use Rattle.relation_messages.specs.Depths.{relation_depth}
use Rattle.relation_messages.specs.Known.{is_known_relation, IsKnownRelation, HasRelationBitsHere, HasRelationBits}
use Rattle.relation_messages.proofs.Folds.{mapped, mapped_first, mapped_second, relation_spelled, relation_deep, relation_known}
use Rattle.relation_messages.proofs.Levels.{of_parts, relation_at_level}

-- what is asked of a relation that is read back at this level
abbrev pub ReadsBack : ℕ → Relation → Type 0
ReadsBack level relation =
    IsKnownRelation relation → HasRelationBits relation → IsShort (relation_fields relation) → relation_depth relation ≤ level →
    IsReadBack level kinds.Relation (relation_fields relation) (relation_at level) relation

-- ---- what all relations may have

record CommonBack (levels : ℕ) (common : Option RelationCommon) : Type 0 where
  piece : Piece levels kinds.Relation 1 (common_field common)
  same : option_map common_of (merged 1 (common_field common)) ≡ common

common_back : (levels : ℕ) (common : Option RelationCommon) → IfSome common HasCommonBits → IsShort (common_field common) → 1 ≤ levels → CommonBack levels common
unfolding payload_of payloads
common_back levels None bits short some = record { piece = record { stands = nothing_stands levels kinds.Relation; numbered = tt }; same = refl }
common_back levels (Some common) bits short some =
    let payload = spell (common_fields common) in
    let few = short_payload 1 payload short in
    let back = common_read_back levels common bits few some in
    record {
      piece = payload_piece levels kinds.Relation 1 (Message kinds.RelationCommon) payload (is_numbered 1 (omega arith) (omega arith)) refl back.sound few;
      same =
          ap (λ (ps : List (List ℕ)). option_map common_of (joined ps)) (payloads_one 1 payload)
          ∙ ap (λ (fields : List Field). Some (common_of fields)) (append-nil (fields_of payload))
          ∙ ap (λ (c : RelationCommon). Some c) back.same;
    }

-- ---- the bits of a relation, and of its inputs

abbrev Held : Type 0
Held = (relation : Relation) × every-Relation HasRelationBitsHere relation

held_some : (input : Option Held) → IfSome (option_map (λ (h : Held). h.0) input) (every-Relation HasRelationBitsHere)
held_some None = tt
held_some (Some input) = input.1

bits_here : (relation : Relation) → HasRelationBits relation → HasRelationBitsHere (out-Relation relation)
unfolding HasRelationBits
bits_here relation bits = every_here-Relation HasRelationBitsHere relation bits

bits_in : (held_of : RelationMember Held → Option Held) (of : RelationMember Relation → Option Relation) →
    ((common : Option RelationCommon) (member : RelationMember Held) → of (mapped (λ (h : Held). h.0) common member) ≡ option_map (λ (h : Held). h.0) (held_of member)) →
    (relation : Relation) → HasRelationBits relation → IfSome (of (out-Relation relation).member) HasRelationBits
unfolding HasRelationBits
bits_in held_of of mapped_of relation bits =
    let held = every_held-Relation HasRelationBitsHere relation bits in
    subst (λ (layer : Relation-F Relation). IfSome (of layer.member) (every-Relation HasRelationBitsHere)) held.1
    (subst (λ (input : Option Relation). IfSome input (every-Relation HasRelationBitsHere)) (sym (mapped_of held.0.common held.0.member)) (held_some (held_of held.0.member)))

-- ---- depths

-- a relation is a message
pub depth_some : (relation : Relation) → 1 ≤ relation_depth relation
depth_some relation = omega (arith, relation_deep relation)

depth_in : Option Relation → ℕ
depth_in input = unwrap_or (option_map relation_depth input) 0

-- and a member of the profile is one in it
member_deep : (member : RelationMember Relation) → is_known_rest member ≡ true → member_depth relation_depth member ≡ 1 + max (max (depth_in (first_of member)) (depth_in (second_of member))) (rest_depth member)
unfolding depth_in
member_deep (V.Read it) known = refl
member_deep (V.Project it) known = refl
member_deep (V.Filter it) known = refl
member_deep (V.Join it) known = refl
member_deep (V.SetOperation it) known = refl
member_deep (V.Sort it) known = refl
member_deep (V.Limit it) known = refl
member_deep (V.Aggregate it) known = refl
member_deep (V.LocalRelation it) known = refl
member_deep (V.Offset it) known = refl
member_deep (V.Deduplicate it) known = refl
member_deep (V.Range it) known = refl
member_deep (V.SubqueryAlias it) known = refl
member_deep (V.ToDf it) known = refl
member_deep (V.WithColumnsRenamed it) known = refl
member_deep (V.DropColumns it) known = refl
member_deep (V.WithColumns it) known = refl
member_deep (V.Other number) known = absurd (false≢true known)

-- ---- a relation whose inputs are read back

input_back : (level : ℕ) → ((relation : Relation) → ReadsBack level relation) → (input : Option Relation) → unwrap_or (option_map is_known_relation input) true ≡ true → IfSome input HasRelationBits →
    IfSome input (λ present. IsShort (relation_fields present)) → depth_in input ≤ level → IfSome input (IsInputBack level relation_fields (relation_at level))
unfolding depth_in
input_back level inner None known bits short deep = tt
input_back level inner (Some input) known bits short deep = inner input known bits short deep

-- the parts of a relation, one behind the other
parts_back : (level : ℕ) (relation : Relation) → 2 ≤ level → CommonBack (level - 1) (out-Relation relation).common →
    FieldBack (level - 1 - 1) (member_fields relation_fields (out-Relation relation).member) (relation_at (level - 1 - 1)) (out-Relation relation).member →
    IsReadBack level kinds.Relation (relation_fields relation) (relation_at level) relation
parts_back level relation some common member =
    subst (λ (fields : List Field). IsReadBack level kinds.Relation fields (relation_at level) relation) (sym (relation_spelled relation))
    (read_back level kinds.Relation whole (relation_at level) relation (omega arith) stands same)
  where
    layer : Relation-F Relation
    layer = out-Relation relation

    front : List Field
    front = common_field layer.common

    back : List Field
    back = member_fields relation_fields layer.member

    whole : List Field
    whole = front ++ back

    left : 1 + (level - 1 - 1) ≡ level - 1
    left = omega arith

    stands : Stands (level - 1) kinds.Relation whole
    stands = two_stand (level - 1) kinds.Relation front back common.piece.stands (subst (λ (n : ℕ). Stands n kinds.Relation back) left member.piece.stands)

    common_read : option_map common_of (merged 1 whole) ≡ layer.common
    common_read =
        ap (λ (ps : List (List ℕ)). option_map common_of (joined ps)) (payloads_front 1 member.number front back member.piece.numbered (omega (arith, member.above)))
        ∙ common.same

    inner : level - 2 ≡ level - 1 - 1
    inner = omega arith

    same : relation_at level whole ≡ relation
    same =
        relation_at_level level whole (omega arith) ∙ ap (λ (n : ℕ). relation_of (relation_at n) n whole) inner
        ∙ of_parts (option_map common_of (merged 1 whole)) layer.common
        (unwrap_or (option_map (member_at (relation_at (level - 1 - 1)) (level - 1 - 1)) (latest kinds.Relation whole)) (V.Other 0)) layer.member
        common_read (member.same front common.piece.numbered)
        ∙ roll-out-Relation relation

layer_back : (level : ℕ) → ((relation : Relation) → ReadsBack (level - 1 - 1) relation) → (relation : Relation) → ReadsBack level relation
layer_back level inner relation known bits short deep =
    let layer = out-Relation relation in
    let member = layer.member in
    let shorts = short_two (common_field layer.common) (member_fields relation_fields member) (subst IsShort (relation_spelled relation) short) in
    let first = unwrap_or (option_map is_known_relation (first_of member)) true in
    let second = unwrap_or (option_map is_known_relation (second_of member)) true in
    let both = and_true (is_known_rest member && first) second (sym (relation_known relation) ∙ known) in
    let front = and_true (is_known_rest member) first both.0 in
    let depth = relation_deep relation in
    let member_depth = member_deep member front.0 in
    let here = bits_here relation bits in
    let first_back = input_back (level - 1 - 1) inner (first_of member) front.1 (bits_in first_of first_of (mapped_first (λ (h : Held). h.0)) relation bits) (first_short relation_fields member shorts.1) (omega (arith, depth, member_depth, deep)) in
    let second_back = input_back (level - 1 - 1) inner (second_of member) both.1 (bits_in second_of second_of (mapped_second (λ (h : Held). h.0)) relation bits) (second_short relation_fields member shorts.1) (omega (arith, depth, member_depth, deep)) in
    parts_back level relation (omega (arith, depth, member_depth, deep))
    (common_back (level - 1) layer.common here.common shorts.0 (omega (arith, depth, member_depth, deep)))
    (member_back (level - 1 - 1) relation_fields (relation_at (level - 1 - 1)) member front.0 here.rest shorts.1 (omega (arith, depth, member_depth, deep)) first_back second_back)

-- with so many levels left in the proof
back_to : (fuel level : ℕ) → level ≤ fuel → (relation : Relation) → ReadsBack level relation
back_to zero level few = layer_back level (λ relation known bits short deep. absurd (omega (arith, few, depth_some relation, deep)))
back_to (suc fuel) level few = layer_back level (back_to fuel (level - 1 - 1) (omega (arith, few)))

-- what a relation is spelled as is sound and read back, at every level that its depth allows
pub relation_read_back : (level : ℕ) (relation : Relation) → ReadsBack level relation
relation_read_back level = back_to level level (omega arith)
