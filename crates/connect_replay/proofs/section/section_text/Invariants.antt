-- The lines of the rows so far.
use Rattle.std.proofs.Common.{◌≡◌, ◌++◌, take, map}
use Rattle.std.specs.Prelude.{flat_map}
use Rattle.cn_types.specs.Printed.{row_line}
use Rattle.connect_replay.specs.Range.{row_of}
use Rattle.connect_replay.proofs.section.section_text.Given as goal

abbrev pub invariant-loop-number : goal.invariant-loop-number
invariant-loop-number l = l.text ≡ l.initial.text ++ flat_map row_line (map row_of (take l.number-index l.numbers))
