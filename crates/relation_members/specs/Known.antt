-- Which members have a spelling, and that the numbers and texts in them are values of their types.
use Rattle.std.specs.Prelude.{Bool, true, false, ◌&&◌, option_map, unwrap_or}
use Rattle.relation_parts.specs.Bits.{HasReadBits, HasRangeBits, HasLocalRelationBits}
use Rattle.plain_relations.specs.Bits.{HasLimitBits, HasOffsetBits, HasSubqueryAliasBits, HasToDfBits, HasDeduplicateBits, HasRenamedBits, HasSetOperationBits}
use Rattle.expression_relations.specs.Known.{is_known_project, is_known_filter, is_known_join, is_known_sort, is_known_aggregate, is_known_drop_columns, is_known_with_columns, HasProjectBits, HasFilterBits, HasJoinBits, HasSortBits, HasAggregateBits, HasDropColumnsBits, HasWithColumnsBits}
use Rattle.relation_members.specs.declared.member.RelationMember.{RelationMember}
use Rattle.relation_members.specs.declared.member.RelationMember.TheVariants as V
use Rattle.relation_members.specs.Inputs.{first_of, second_of}

-- nothing but its inputs is outside the profile
abbrev pub is_known_rest : {R : Type 0} → RelationMember R → Bool
is_known_rest (V.Read it) = true
is_known_rest (V.Project it) = is_known_project it
is_known_rest (V.Filter it) = is_known_filter it
is_known_rest (V.Join it) = is_known_join it
is_known_rest (V.SetOperation it) = true
is_known_rest (V.Sort it) = is_known_sort it
is_known_rest (V.Limit it) = true
is_known_rest (V.Aggregate it) = is_known_aggregate it
is_known_rest (V.LocalRelation it) = true
is_known_rest (V.Offset it) = true
is_known_rest (V.Deduplicate it) = true
is_known_rest (V.Range it) = true
is_known_rest (V.SubqueryAlias it) = true
is_known_rest (V.ToDf it) = true
is_known_rest (V.WithColumnsRenamed it) = true
is_known_rest (V.DropColumns it) = is_known_drop_columns it
is_known_rest (V.WithColumns it) = is_known_with_columns it
is_known_rest (V.Other number) = false

-- nothing is, where so much is known of a relation
abbrev pub is_known_member : {R : Type 0} → (R → Bool) → RelationMember R → Bool
is_known_member inner member =
    is_known_rest member && unwrap_or (option_map inner (first_of member)) true && unwrap_or (option_map inner (second_of member)) true

-- numbers have the bits of their types, texts are UTF-8 and the keys of a map rise, but for the inputs
abbrev pub HasRestBits : {R : Type 0} → RelationMember R → Type 0
HasRestBits (V.Read it) = HasReadBits it
HasRestBits (V.Project it) = HasProjectBits it
HasRestBits (V.Filter it) = HasFilterBits it
HasRestBits (V.Join it) = HasJoinBits it
HasRestBits (V.SetOperation it) = HasSetOperationBits it
HasRestBits (V.Sort it) = HasSortBits it
HasRestBits (V.Limit it) = HasLimitBits it
HasRestBits (V.Aggregate it) = HasAggregateBits it
HasRestBits (V.LocalRelation it) = HasLocalRelationBits it
HasRestBits (V.Offset it) = HasOffsetBits it
HasRestBits (V.Deduplicate it) = HasDeduplicateBits it
HasRestBits (V.Range it) = HasRangeBits it
HasRestBits (V.SubqueryAlias it) = HasSubqueryAliasBits it
HasRestBits (V.ToDf it) = HasToDfBits it
HasRestBits (V.WithColumnsRenamed it) = HasRenamedBits it
HasRestBits (V.DropColumns it) = HasDropColumnsBits it
HasRestBits (V.WithColumns it) = HasWithColumnsBits it
HasRestBits (V.Other number) = Unit {0}
