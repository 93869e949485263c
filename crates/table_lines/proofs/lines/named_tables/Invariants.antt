use Rattle.std.proofs.Common.{◌≡◌}
use Rattle.table_lines.specs.Lines.{named_of}
use Rattle.table_lines.proofs.lines.named_tables.Given as goal

abbrev pub invariant-loop-table : goal.invariant-loop-table
invariant-loop-table l = l.named ≡ named_of l.yielded
