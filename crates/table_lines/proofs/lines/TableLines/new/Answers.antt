use Rattle.table_lines.proofs.StandFacts.{stand_nil}
use Rattle.table_lines.proofs.lines.TableLines.new.Goals as goal

pub invariant_of-result : goal.invariant_of-result
invariant_of-result c = stand_nil c.new.result.items c.new.ensures.items
