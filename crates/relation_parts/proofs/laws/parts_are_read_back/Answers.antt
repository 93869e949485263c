use Rattle.relation_parts.proofs.PartsBack.{common_read_back, read_read_back, range_read_back, local_relation_read_back}
use Rattle.relation_parts.proofs.laws.parts_are_read_back.Goals as goal

pub returns : goal.returns
returns c = record { commons = common_read_back; reads = read_read_back; ranges = range_read_back; local_relations = local_relation_read_back }
