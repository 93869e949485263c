use Rattle.relation_parts.proofs.PartsValid.{common_valid, read_valid, range_valid, local_relation_valid}
use Rattle.relation_parts.proofs.laws.parts_are_valid.Goals as goal

pub returns : goal.returns
returns c = record { commons = common_valid; reads = read_valid; ranges = range_valid; local_relations = local_relation_valid }
