-- The plan of an ask, as a client asks for it.
use Rattle.std.specs.Prelude.{Option, Some, None}
use Rattle.relation_parts.specs.declared.range.Range.{Range}
use Rattle.relation_members.specs.declared.member.RelationMember.{RelationMember}
use Rattle.relation_members.specs.declared.member.RelationMember.TheVariants as V
use Rattle.relation_messages.specs.declared.relation.Relation.{Relation}
use Rattle.relation_messages.specs.declared.relation.Relation.TheViews.{out-Relation, roll-Relation}
use Rattle.plan_messages.specs.declared.plan.Plan.{Plan}
use Rattle.plan_messages.specs.declared.plan.Plan.TheVariants.{Root, Command as IsCommand}
use Rattle.connect_replay.specs.declared.ask.Ask.{Ask}

-- the range of an ask, with its start and without a number of partitions
abbrev pub asked_range : Ask → Range
asked_range ask = record { start = Some ask.start; end = ask.end; step = ask.step; num_partitions = None }

-- a plan whose root is that range
abbrev pub asked_plan : Ask → Plan
asked_plan ask = Root (roll-Relation (record { common = None; member = V.Range (asked_range ask) }))

-- the range that a member is; none where it is another
abbrev pub range_in : RelationMember Relation → Option Range
range_in (V.Range range) = Some range
range_in other = None

-- the range that a plan's root is; none where it is another
abbrev pub root_range : Plan → Option Range
root_range (Root root) = range_in (out-Relation root).member
root_range (IsCommand command) = None
