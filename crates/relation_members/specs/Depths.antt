-- How many messages are nested in the spelling of a member.
use Rattle.std.specs.Prelude.{ℕ, ◌+◌, ◌-◌, max, option_map, unwrap_or}
use Rattle.relation_parts.specs.Depths.{read_depth}
use Rattle.plain_relations.specs.Depths.{renamed_depth}
use Rattle.expression_relations.specs.Depths.{project_depth, filter_depth, join_depth, sort_depth, aggregate_depth, drop_columns_depth, with_columns_depth}
use Rattle.relation_members.specs.declared.member.RelationMember.{RelationMember}
use Rattle.relation_members.specs.declared.member.RelationMember.TheVariants as V
use Rattle.relation_members.specs.Inputs.{member_number_of, first_of, second_of}

-- in the fields besides its inputs
abbrev pub rest_depth : {R : Type 0} → RelationMember R → ℕ
rest_depth (V.Read it) = read_depth it - 1
rest_depth (V.Project it) = project_depth it
rest_depth (V.Filter it) = filter_depth it
rest_depth (V.Join it) = join_depth it
rest_depth (V.SetOperation it) = 0
rest_depth (V.Sort it) = sort_depth it
rest_depth (V.Limit it) = 0
rest_depth (V.Aggregate it) = aggregate_depth it
rest_depth (V.LocalRelation it) = 0
rest_depth (V.Offset it) = 0
rest_depth (V.Deduplicate it) = 0
rest_depth (V.Range it) = 0
rest_depth (V.SubqueryAlias it) = 0
rest_depth (V.ToDf it) = 0
rest_depth (V.WithColumnsRenamed it) = renamed_depth it
rest_depth (V.DropColumns it) = drop_columns_depth it
rest_depth (V.WithColumns it) = with_columns_depth it
rest_depth (V.Other number) = 0

-- a member's message and what is nested in it, where a relation is so deep; 0 where it is outside the profile
abbrev pub member_depth : {R : Type 0} → (R → ℕ) → RelationMember R → ℕ
member_depth inner member = unwrap_or (option_map (λ number. 1 + max (max (unwrap_or (option_map inner (first_of member)) 0) (unwrap_or (option_map inner (second_of member)) 0)) (rest_depth member)) (member_number_of member)) 0
