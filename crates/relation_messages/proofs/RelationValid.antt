-- Whatever fields are read, the numbers of a relation and of every relation in it have the bits of their types, and their texts are UTF-8.
use Rattle.std.proofs.Common.{◌≡◌, ℕ, zero, suc, List, Option, None, Some, refl, ap}
use Rattle.std.specs.Prelude.{IfSome, option_map, unwrap_or}
use Rattle.proto_fields.specs.declared.kind.MessageKind.TheVariants as kinds
use Rattle.proto_fields.specs.Fields.{Field}
use Rattle.proto_fields.specs.Readings.{merged, Member, latest}
use Rattle.expression_messages.specs.Messages.{message_at}
use Rattle.expression_messages.proofs.Valid.{one_of, if_there}
use Rattle.relation_parts.specs.declared.common.RelationCommon.{RelationCommon}
use Rattle.relation_parts.specs.Parts.{common_of}
use Rattle.relation_parts.specs.Bits.{HasCommonBits}
use Rattle.relation_parts.proofs.PartsValid.{common_valid}
use Rattle.relation_members.specs.declared.member.RelationMember.{RelationMember}
use Rattle.relation_members.specs.declared.member.RelationMember.TheVariants as V
use Rattle.relation_members.specs.Inputs.{first_of, second_of}
use Rattle.relation_members.specs.Members.{member_at}
use Rattle.relation_members.proofs.MemberValid.{IsValid, member_valid}
use Rattle.relation_messages.specs.declared.relation.Relation.{Relation}
use Rattle.relation_messages.specs.declared.relation.Relation.TheOpen.{Relation-F}
use Rattle.relation_messages.specs.declared.relation.Relation.TheViews.{roll-Relation}
use Rattle.relation_messages.specs.declared.relation.Relation.TheFolds.{every-Relation, every_made-Relation}
use Rattle.relation_messages.specs.Relations.{absent, relation_of, relation_at}
use Rattle.relation_messages.specs.Known.{HasRelationBitsHere, HasRelationBits}
use Rattle.relation_messages.proofs.Folds.{mapped}

-- ---- a relation by its layer

abbrev Every : Relation → Type 0
Every = every-Relation HasRelationBitsHere

abbrev Held : Type 0
Held = (relation : Relation) × Every relation

-- the member, whose inputs come with what is known of them
attach : (member : RelationMember Relation) → IfSome (first_of member) Every → IfSome (second_of member) Every → RelationMember Held
attach (V.Read it) first second = V.Read it
attach (V.Project it) first second = V.Project (record { input = (it.input, first); expressions = it.expressions })
attach (V.Filter it) first second = V.Filter (record { input = (it.input, first); condition = it.condition })
attach (V.Join it) first second = V.Join (record { left = (it.left, first); right = (it.right, second); join_condition = it.join_condition; join_type = it.join_type; using_columns = it.using_columns })
attach (V.SetOperation it) first second = V.SetOperation (record { left_input = (it.left_input, first); right_input = (it.right_input, second); set_op_type = it.set_op_type; is_all = it.is_all; by_name = it.by_name; allow_missing_columns = it.allow_missing_columns })
attach (V.Sort it) first second = V.Sort (record { input = (it.input, first); order = it.order; is_global = it.is_global })
attach (V.Limit it) first second = V.Limit (record { input = (it.input, first); number = it.number })
attach (V.Aggregate it) first second = V.Aggregate (record { input = (it.input, first); group_type = it.group_type; grouping_expressions = it.grouping_expressions; aggregate_expressions = it.aggregate_expressions })
attach (V.LocalRelation it) first second = V.LocalRelation it
attach (V.Offset it) first second = V.Offset (record { input = (it.input, first); number = it.number })
attach (V.Deduplicate it) first second = V.Deduplicate (record { input = (it.input, first); column_names = it.column_names; all_columns_as_keys = it.all_columns_as_keys })
attach (V.Range it) first second = V.Range it
attach (V.SubqueryAlias it) first second = V.SubqueryAlias (record { input = (it.input, first); alias = it.alias; qualifier = it.qualifier })
attach (V.ToDf it) first second = V.ToDf (record { input = (it.input, first); column_names = it.column_names })
attach (V.WithColumnsRenamed it) first second = V.WithColumnsRenamed (record { input = (it.input, first); rename_map = it.rename_map })
attach (V.DropColumns it) first second = V.DropColumns (record { input = (it.input, first); columns = it.columns; column_names = it.column_names })
attach (V.WithColumns it) first second = V.WithColumns (record { input = (it.input, first); aliases = it.aliases })
attach (V.Other number) first second = V.Other number

attached : (common : Option RelationCommon) (member : RelationMember Relation) (first : IfSome (first_of member) Every) (second : IfSome (second_of member) Every) →
    mapped (λ (h : Held). h.0) common (attach member first second) ≡ member
unfolding attach
attached common (V.Read it) first second = refl
attached common (V.Project it) first second = refl
attached common (V.Filter it) first second = refl
attached common (V.Join it) first second = refl
attached common (V.SetOperation it) first second = refl
attached common (V.Sort it) first second = refl
attached common (V.Limit it) first second = refl
attached common (V.Aggregate it) first second = refl
attached common (V.LocalRelation it) first second = refl
attached common (V.Offset it) first second = refl
attached common (V.Deduplicate it) first second = refl
attached common (V.Range it) first second = refl
attached common (V.SubqueryAlias it) first second = refl
attached common (V.ToDf it) first second = refl
attached common (V.WithColumnsRenamed it) first second = refl
attached common (V.DropColumns it) first second = refl
attached common (V.WithColumns it) first second = refl
attached common (V.Other number) first second = refl

made : (common : Option RelationCommon) (member : RelationMember Relation) → IfSome common HasCommonBits → IsValid Every member → Every (roll-Relation (record { common = common; member = member }))
made common member common_bits valid =
    every_made-Relation HasRelationBitsHere (record { common = common; member = member }) (record { common = common; member = attach member valid.first valid.second })
    (ap (λ (m : RelationMember Relation). layer common m) (attached common member valid.first valid.second))
    (record { common = common_bits; rest = valid.rest })
  where
    layer : Option RelationCommon → RelationMember Relation → Relation-F Relation
    layer common member = record { common = common; member = member }

absent_every : Every absent
absent_every = made None (V.Other 0) tt (record { rest = tt; first = tt; second = tt })

of_valid : (inner : List Field → Relation) → ((fields : List Field) → Every (inner fields)) → (level : ℕ) (fields : List Field) → Every (relation_of inner level fields)
of_valid inner each level fields =
    made (option_map common_of (merged 1 fields)) (unwrap_or (option_map (member_at inner level) (latest kinds.Relation fields)) (V.Other 0))
    (if_there HasCommonBits common_of common_valid (merged 1 fields))
    (one_of (IsValid Every) (member_at inner level) (V.Other 0)
    (λ member. member_valid Every inner each level member.number (message_at member.number member.since))
    (record { rest = tt; first = tt; second = tt }) (latest kinds.Relation fields))

every_valid : (level : ℕ) (fields : List Field) → Every (relation_at level fields)
unfolding relation_at
every_valid zero fields = absent_every
every_valid (suc zero) fields = of_valid (relation_at zero) (λ found. absent_every) zero fields
every_valid (suc (suc level)) fields = of_valid (relation_at level) (λ found. every_valid level found) level fields

pub relation_valid : (level : ℕ) (fields : List Field) → HasRelationBits (relation_at level fields)
unfolding HasRelationBits
relation_valid level fields = every_valid level fields

pub absent_valid : HasRelationBits absent
unfolding HasRelationBits
absent_valid = absent_every
