use Rattle.std.proofs.Common.{◌∙◌}
use Rattle.table_lines.proofs.StandFacts.{any_named}
use Rattle.table_lines.proofs.lines.TableLines.has_table.Goals as goal

pub returns : goal.returns
returns c = c.any_is_named.ensures ∙ any_named c.args.name.now c.args.self.now
