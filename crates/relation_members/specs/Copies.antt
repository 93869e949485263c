-- A member over other inputs.
use Rattle.std.specs.Prelude.{Option, Some, option_map, option_and_then}
use Rattle.relation_members.specs.declared.member.RelationMember.{RelationMember}
use Rattle.relation_members.specs.declared.member.RelationMember.TheVariants as V

-- the same member over these inputs; none where one lacks
abbrev pub member_over : {R : Type 0} {S : Type 0} → Option S → Option S → RelationMember R → Option (RelationMember S)
member_over first second (V.Read it) = Some (V.Read it)
member_over first second (V.Project it) = option_map (λ one. V.Project (record { input = one; expressions = it.expressions })) first
member_over first second (V.Filter it) = option_map (λ one. V.Filter (record { input = one; condition = it.condition })) first
member_over first second (V.Join it) =
    option_and_then (λ one. option_map (λ other. V.Join (record { left = one; right = other; join_condition = it.join_condition; join_type = it.join_type; using_columns = it.using_columns })) second) first
member_over first second (V.SetOperation it) =
    option_and_then (λ one. option_map (λ other. V.SetOperation (record { left_input = one; right_input = other; set_op_type = it.set_op_type; is_all = it.is_all; by_name = it.by_name; allow_missing_columns = it.allow_missing_columns })) second) first
member_over first second (V.Sort it) = option_map (λ one. V.Sort (record { input = one; order = it.order; is_global = it.is_global })) first
member_over first second (V.Limit it) = option_map (λ one. V.Limit (record { input = one; number = it.number })) first
member_over first second (V.Aggregate it) = option_map (λ one. V.Aggregate (record { input = one; group_type = it.group_type; grouping_expressions = it.grouping_expressions; aggregate_expressions = it.aggregate_expressions })) first
member_over first second (V.LocalRelation it) = Some (V.LocalRelation it)
member_over first second (V.Offset it) = option_map (λ one. V.Offset (record { input = one; number = it.number })) first
member_over first second (V.Deduplicate it) = option_map (λ one. V.Deduplicate (record { input = one; column_names = it.column_names; all_columns_as_keys = it.all_columns_as_keys })) first
member_over first second (V.Range it) = Some (V.Range it)
member_over first second (V.SubqueryAlias it) = option_map (λ one. V.SubqueryAlias (record { input = one; alias = it.alias; qualifier = it.qualifier })) first
member_over first second (V.ToDf it) = option_map (λ one. V.ToDf (record { input = one; column_names = it.column_names })) first
member_over first second (V.WithColumnsRenamed it) = option_map (λ one. V.WithColumnsRenamed (record { input = one; rename_map = it.rename_map })) first
member_over first second (V.DropColumns it) = option_map (λ one. V.DropColumns (record { input = one; columns = it.columns; column_names = it.column_names })) first
member_over first second (V.WithColumns it) = option_map (λ one. V.WithColumns (record { input = one; aliases = it.aliases })) first
member_over first second (V.Other number) = Some (V.Other number)
