use Rattle.std.proofs.Common.{rules, ◌≡◌}
use Rattle.std.specs.Prelude.{None}
use Rattle.table_lines.specs.Lines.{named_of}
use Rattle.table_store.specs.Names.{table_named}
use Rattle.table_lines.proofs.StandFacts.{pushed_table, not_some}
use Rattle.table_lines.proofs.lines.TableLines.add_table.Goals as goal

pub invariant_of-self-2 : goal.invariant_of-self-2
invariant_of-self-2 c =
    let none : table_named c.args.table.name (named_of c.self.inside.tables.items) ≡ None = not_some _ (search rules) in
    pushed_table c.push.result c.self.inside.tables.items c.push.new.self.items c.args.table c.push.ensures.items c.self.invariant none c.requires
