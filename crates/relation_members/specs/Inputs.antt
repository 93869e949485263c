-- Which field a member is, and which relations it stands on.
use Rattle.std.specs.Prelude.{ℕ, Option, Some, None}
use Rattle.relation_members.specs.declared.member.RelationMember.{RelationMember}
use Rattle.relation_members.specs.declared.member.RelationMember.TheVariants as V

-- the number of its field; what is outside the profile has no spelling
abbrev pub member_number_of : {R : Type 0} → RelationMember R → Option ℕ
member_number_of (V.Read it) = Some 2
member_number_of (V.Project it) = Some 3
member_number_of (V.Filter it) = Some 4
member_number_of (V.Join it) = Some 5
member_number_of (V.SetOperation it) = Some 6
member_number_of (V.Sort it) = Some 7
member_number_of (V.Limit it) = Some 8
member_number_of (V.Aggregate it) = Some 9
member_number_of (V.LocalRelation it) = Some 11
member_number_of (V.Offset it) = Some 13
member_number_of (V.Deduplicate it) = Some 14
member_number_of (V.Range it) = Some 15
member_number_of (V.SubqueryAlias it) = Some 16
member_number_of (V.ToDf it) = Some 18
member_number_of (V.WithColumnsRenamed it) = Some 19
member_number_of (V.DropColumns it) = Some 21
member_number_of (V.WithColumns it) = Some 23
member_number_of (V.Other number) = None

-- the only input, or the left one
abbrev pub first_of : {R : Type 0} → RelationMember R → Option R
first_of (V.Read it) = None
first_of (V.Project it) = Some it.input
first_of (V.Filter it) = Some it.input
first_of (V.Join it) = Some it.left
first_of (V.SetOperation it) = Some it.left_input
first_of (V.Sort it) = Some it.input
first_of (V.Limit it) = Some it.input
first_of (V.Aggregate it) = Some it.input
first_of (V.LocalRelation it) = None
first_of (V.Offset it) = Some it.input
first_of (V.Deduplicate it) = Some it.input
first_of (V.Range it) = None
first_of (V.SubqueryAlias it) = Some it.input
first_of (V.ToDf it) = Some it.input
first_of (V.WithColumnsRenamed it) = Some it.input
first_of (V.DropColumns it) = Some it.input
first_of (V.WithColumns it) = Some it.input
first_of (V.Other number) = None

-- the right input of two
abbrev pub second_of : {R : Type 0} → RelationMember R → Option R
second_of (V.Read it) = None
second_of (V.Project it) = None
second_of (V.Filter it) = None
second_of (V.Join it) = Some it.right
second_of (V.SetOperation it) = Some it.right_input
second_of (V.Sort it) = None
second_of (V.Limit it) = None
second_of (V.Aggregate it) = None
second_of (V.LocalRelation it) = None
second_of (V.Offset it) = None
second_of (V.Deduplicate it) = None
second_of (V.Range it) = None
second_of (V.SubqueryAlias it) = None
second_of (V.ToDf it) = None
second_of (V.WithColumnsRenamed it) = None
second_of (V.DropColumns it) = None
second_of (V.WithColumns it) = None
second_of (V.Other number) = None
