-- A member over other inputs, and over its own.
use Rattle.std.proofs.Common.{◌≡◌, Option, Some, None, refl}
use Rattle.relation_members.specs.declared.member.RelationMember.{RelationMember}
use Rattle.relation_members.specs.declared.member.RelationMember.TheVariants as V
use Rattle.relation_members.specs.Inputs.{first_of, second_of}
use Rattle.relation_members.specs.Copies.{member_over}

-- without a first input there is no second
pub over_nothing : {R : Type 0} {S : Type 0} (second : Option S) (member : RelationMember R) → member_over None second member ≡ member_over None None member
over_nothing second (V.Read it) = refl
over_nothing second (V.Project it) = refl
over_nothing second (V.Filter it) = refl
over_nothing second (V.Join it) = refl
over_nothing second (V.SetOperation it) = refl
over_nothing second (V.Sort it) = refl
over_nothing second (V.Limit it) = refl
over_nothing second (V.Aggregate it) = refl
over_nothing second (V.LocalRelation it) = refl
over_nothing second (V.Offset it) = refl
over_nothing second (V.Deduplicate it) = refl
over_nothing second (V.Range it) = refl
over_nothing second (V.SubqueryAlias it) = refl
over_nothing second (V.ToDf it) = refl
over_nothing second (V.WithColumnsRenamed it) = refl
over_nothing second (V.DropColumns it) = refl
over_nothing second (V.WithColumns it) = refl
over_nothing second (V.Other number) = refl

-- over its own inputs it is itself
pub over_itself : {R : Type 0} (member : RelationMember R) → member_over (first_of member) (second_of member) member ≡ Some member
over_itself (V.Read it) = refl
over_itself (V.Project it) = refl
over_itself (V.Filter it) = refl
over_itself (V.Join it) = refl
over_itself (V.SetOperation it) = refl
over_itself (V.Sort it) = refl
over_itself (V.Limit it) = refl
over_itself (V.Aggregate it) = refl
over_itself (V.LocalRelation it) = refl
over_itself (V.Offset it) = refl
over_itself (V.Deduplicate it) = refl
over_itself (V.Range it) = refl
over_itself (V.SubqueryAlias it) = refl
over_itself (V.ToDf it) = refl
over_itself (V.WithColumnsRenamed it) = refl
over_itself (V.DropColumns it) = refl
over_itself (V.WithColumns it) = refl
over_itself (V.Other number) = refl
