-- What a relation holds is read with the levels that it leaves.
use Rattle.std.proofs.Common.{◌+◌, ◌*◌}
use Rattle.relation_messages.proofs.relation_reading.+relations.Given as goal

abbrev pub decreases-relation_from : goal.decreases-relation_from
decreases-relation_from l = 3 * l.level

abbrev pub decreases-member_from : goal.decreases-member_from
decreases-member_from l = 3 * l.level + 2

abbrev pub decreases-input_from : goal.decreases-input_from
decreases-input_from l = 3 * l.level + 1
