-- The fields and the depth of a relation, and whether it is known, by its member over the relations in it.
use Rattle.std.proofs.Common.{◌≡◌, ℕ, ◌+◌, ◌-◌, ◌^◌, max, Bool, List, ◌++◌, Option, None, Some, refl, sym, ap, ◌∙◌, arith}
use Rattle.std.specs.Prelude.{min, option_map, unwrap_or}
use Rattle.proto_fields.specs.Fields.{Field}
use Rattle.expression_messages.specs.Depths.{told}
use Rattle.relation_parts.specs.declared.common.RelationCommon.{RelationCommon}
use Rattle.relation_members.specs.declared.member.RelationMember.{RelationMember}
use Rattle.relation_members.specs.declared.member.RelationMember.TheVariants as V
use Rattle.relation_members.specs.Inputs.{member_number_of, first_of, second_of}
use Rattle.relation_members.specs.Spelled.{member_fields}
use Rattle.relation_members.specs.Depths.{rest_depth, member_depth}
use Rattle.relation_members.specs.Known.{is_known_member}
use Rattle.relation_messages.specs.declared.relation.Relation.{Relation}
use Rattle.relation_messages.specs.declared.relation.Relation.TheViews.{out-Relation, roll-Relation, roll-out-Relation}
use Rattle.relation_messages.specs.declared.relation.Relation.TheFolds.{map-Relation, fold-roll-Relation}
use Rattle.relation_messages.specs.Spelled.{common_field, relation_fields_step, relation_fields}
use Rattle.relation_messages.specs.Depths.{common_depth, relation_depth_step, relation_depth}
use Rattle.relation_messages.specs.Known.{is_known_relation_step, is_known_relation}

-- ---- a member, where each relation in it is mapped

abbrev pub mapped : {A B : Type 0} → (A → B) → Option RelationCommon → RelationMember A → RelationMember B
mapped {A} {B} f common member = (map-Relation A B f (record { common = common; member = member })).member

pub mapped_first : {A B : Type 0} (f : A → B) (common : Option RelationCommon) (member : RelationMember A) → first_of (mapped f common member) ≡ option_map f (first_of member)
mapped_first f common (V.Read it) = refl
mapped_first f common (V.Project it) = refl
mapped_first f common (V.Filter it) = refl
mapped_first f common (V.Join it) = refl
mapped_first f common (V.SetOperation it) = refl
mapped_first f common (V.Sort it) = refl
mapped_first f common (V.Limit it) = refl
mapped_first f common (V.Aggregate it) = refl
mapped_first f common (V.LocalRelation it) = refl
mapped_first f common (V.Offset it) = refl
mapped_first f common (V.Deduplicate it) = refl
mapped_first f common (V.Range it) = refl
mapped_first f common (V.SubqueryAlias it) = refl
mapped_first f common (V.ToDf it) = refl
mapped_first f common (V.WithColumnsRenamed it) = refl
mapped_first f common (V.DropColumns it) = refl
mapped_first f common (V.WithColumns it) = refl
mapped_first f common (V.Other number) = refl

pub mapped_second : {A B : Type 0} (f : A → B) (common : Option RelationCommon) (member : RelationMember A) → second_of (mapped f common member) ≡ option_map f (second_of member)
mapped_second f common (V.Read it) = refl
mapped_second f common (V.Project it) = refl
mapped_second f common (V.Filter it) = refl
mapped_second f common (V.Join it) = refl
mapped_second f common (V.SetOperation it) = refl
mapped_second f common (V.Sort it) = refl
mapped_second f common (V.Limit it) = refl
mapped_second f common (V.Aggregate it) = refl
mapped_second f common (V.LocalRelation it) = refl
mapped_second f common (V.Offset it) = refl
mapped_second f common (V.Deduplicate it) = refl
mapped_second f common (V.Range it) = refl
mapped_second f common (V.SubqueryAlias it) = refl
mapped_second f common (V.ToDf it) = refl
mapped_second f common (V.WithColumnsRenamed it) = refl
mapped_second f common (V.DropColumns it) = refl
mapped_second f common (V.WithColumns it) = refl
mapped_second f common (V.Other number) = refl

pub mapped_fields : (f : Relation → List Field) (common : Option RelationCommon) (member : RelationMember Relation) → member_fields (λ inner. inner) (mapped f common member) ≡ member_fields f member
mapped_fields f common (V.Read it) = refl
mapped_fields f common (V.Project it) = refl
mapped_fields f common (V.Filter it) = refl
mapped_fields f common (V.Join it) = refl
mapped_fields f common (V.SetOperation it) = refl
mapped_fields f common (V.Sort it) = refl
mapped_fields f common (V.Limit it) = refl
mapped_fields f common (V.Aggregate it) = refl
mapped_fields f common (V.LocalRelation it) = refl
mapped_fields f common (V.Offset it) = refl
mapped_fields f common (V.Deduplicate it) = refl
mapped_fields f common (V.Range it) = refl
mapped_fields f common (V.SubqueryAlias it) = refl
mapped_fields f common (V.ToDf it) = refl
mapped_fields f common (V.WithColumnsRenamed it) = refl
mapped_fields f common (V.DropColumns it) = refl
mapped_fields f common (V.WithColumns it) = refl
mapped_fields f common (V.Other number) = refl

pub mapped_depth : (f : Relation → ℕ) (common : Option RelationCommon) (member : RelationMember Relation) → member_depth (λ depth. depth) (mapped f common member) ≡ member_depth f member
mapped_depth f common (V.Read it) = refl
mapped_depth f common (V.Project it) = refl
mapped_depth f common (V.Filter it) = refl
mapped_depth f common (V.Join it) = refl
mapped_depth f common (V.SetOperation it) = refl
mapped_depth f common (V.Sort it) = refl
mapped_depth f common (V.Limit it) = refl
mapped_depth f common (V.Aggregate it) = refl
mapped_depth f common (V.LocalRelation it) = refl
mapped_depth f common (V.Offset it) = refl
mapped_depth f common (V.Deduplicate it) = refl
mapped_depth f common (V.Range it) = refl
mapped_depth f common (V.SubqueryAlias it) = refl
mapped_depth f common (V.ToDf it) = refl
mapped_depth f common (V.WithColumnsRenamed it) = refl
mapped_depth f common (V.DropColumns it) = refl
mapped_depth f common (V.WithColumns it) = refl
mapped_depth f common (V.Other number) = refl

pub mapped_known : (f : Relation → Bool) (common : Option RelationCommon) (member : RelationMember Relation) → is_known_member (λ known. known) (mapped f common member) ≡ is_known_member f member
mapped_known f common (V.Read it) = refl
mapped_known f common (V.Project it) = refl
mapped_known f common (V.Filter it) = refl
mapped_known f common (V.Join it) = refl
mapped_known f common (V.SetOperation it) = refl
mapped_known f common (V.Sort it) = refl
mapped_known f common (V.Limit it) = refl
mapped_known f common (V.Aggregate it) = refl
mapped_known f common (V.LocalRelation it) = refl
mapped_known f common (V.Offset it) = refl
mapped_known f common (V.Deduplicate it) = refl
mapped_known f common (V.Range it) = refl
mapped_known f common (V.SubqueryAlias it) = refl
mapped_known f common (V.ToDf it) = refl
mapped_known f common (V.WithColumnsRenamed it) = refl
mapped_known f common (V.DropColumns it) = refl
mapped_known f common (V.WithColumns it) = refl
mapped_known f common (V.Other number) = refl

-- ---- a relation by its member

pub relation_spelled : (relation : Relation) → relation_fields relation ≡ common_field (out-Relation relation).common ++ member_fields relation_fields (out-Relation relation).member
unfolding relation_fields
relation_spelled relation =
    let layer = out-Relation relation in
    ap relation_fields (sym (roll-out-Relation relation)) ∙ fold-roll-Relation (List Field) relation_fields_step layer
    ∙ ap (λ (fields : List Field). common_field layer.common ++ fields) (mapped_fields relation_fields layer.common layer.member)

pub relation_deep : (relation : Relation) → relation_depth relation ≡ 1 + max (common_depth (out-Relation relation).common) (member_depth relation_depth (out-Relation relation).member)
unfolding relation_depth
relation_deep relation =
    let layer = out-Relation relation in
    ap relation_depth (sym (roll-out-Relation relation)) ∙ fold-roll-Relation ℕ relation_depth_step layer
    ∙ ap (λ (depth : ℕ). 1 + max (common_depth layer.common) depth) (mapped_depth relation_depth layer.common layer.member)

pub relation_known : (relation : Relation) → is_known_relation relation ≡ is_known_member is_known_relation (out-Relation relation).member
unfolding is_known_relation
relation_known relation =
    let layer = out-Relation relation in
    ap is_known_relation (sym (roll-out-Relation relation)) ∙ fold-roll-Relation Bool is_known_relation_step layer
    ∙ mapped_known is_known_relation layer.common layer.member

-- a relation of a member that is the member of another, and of what that has in common, is the other
pub rolled : (relation : Relation) (member : RelationMember Relation) → member ≡ (out-Relation relation).member → roll-Relation (record { common = (out-Relation relation).common; member = member }) ≡ relation
rolled relation member same = ap (λ (m : RelationMember Relation). roll-Relation (record { common = (out-Relation relation).common; member = m })) same ∙ roll-out-Relation relation

-- ---- the depth of a relation by those of its parts

member_deep : (member : RelationMember Relation) (number : ℕ) → Some number ≡ member_number_of member →
    member_depth relation_depth member ≡ 1 + max (max (unwrap_or (option_map relation_depth (first_of member)) 0) (unwrap_or (option_map relation_depth (second_of member)) 0)) (rest_depth member)
member_deep member number is =
    let deep = 1 + max (max (unwrap_or (option_map relation_depth (first_of member)) 0) (unwrap_or (option_map relation_depth (second_of member)) 0)) (rest_depth member) in
    ap (λ (n : Option ℕ). unwrap_or (option_map (λ i. deep) n) 0) (sym is)

pub deep_some : (relation : Relation) (number common first second rest both all inner widest whole : ℕ) → Some number ≡ member_number_of (out-Relation relation).member → common ≡ common_depth (out-Relation relation).common →
    first ≡ told (unwrap_or (option_map relation_depth (first_of (out-Relation relation).member)) 0) → second ≡ told (unwrap_or (option_map relation_depth (second_of (out-Relation relation).member)) 0) →
    rest ≡ told (rest_depth (out-Relation relation).member) → both ≡ max first second → all ≡ max both rest → inner ≡ min (all + 1) (2 ^ 32 - 1) → widest ≡ max common inner →
    whole ≡ min (widest + 1) (2 ^ 32 - 1) → whole ≡ told (relation_depth relation)
deep_some relation number common first second rest both all inner widest whole number_is common_is first_is second_is rest_is both_is all_is inner_is widest_is whole_is =
    omega (arith, relation_deep relation, member_deep (out-Relation relation).member number number_is, common_is, first_is, second_is, rest_is, both_is, all_is, inner_is, widest_is, whole_is)

pub deep_none : (relation : Relation) (common whole : ℕ) → None ≡ member_number_of (out-Relation relation).member → common ≡ common_depth (out-Relation relation).common → whole ≡ min (common + 1) (2 ^ 32 - 1) →
    whole ≡ told (relation_depth relation)
deep_none relation common whole number_is common_is whole_is =
    let member = (out-Relation relation).member in
    let deep = 1 + max (max (unwrap_or (option_map relation_depth (first_of member)) 0) (unwrap_or (option_map relation_depth (second_of member)) 0)) (rest_depth member) in
    let none : member_depth relation_depth member ≡ 0 = ap (λ (n : Option ℕ). unwrap_or (option_map (λ i. deep) n) 0) (sym number_is) in
    omega (arith, relation_deep relation, none, common_is, whole_is)
