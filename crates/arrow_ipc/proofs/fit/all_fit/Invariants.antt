-- the rows so far fit
use Rattle.std.proofs.Common.{take}
use Rattle.std.specs.List.{All}
use Rattle.cn_types.specs.Fit.{Fits}
use Rattle.arrow_ipc.proofs.fit.all_fit.Given as goal

abbrev pub invariant-loop-row : goal.invariant-loop-row
invariant-loop-row l = All (Fits l.schema) (take l.row-index l.rows)
