use Rattle.std.proofs.Common.{◌≤◌, ◌-◌, ℕ, List, ◌++◌, length, map}
use Rattle.cn_types.specs.Weight.{row_weight}
use Rattle.response_buffer.specs.Batches.{AreBatches}
use Rattle.response_buffer.proofs.batches.cut.Given as goal

-- the batches so far, followed by batches of what is left, are batches of all rows
abbrev pub invariant-loop-start : goal.invariant-loop-start
invariant-loop-start l = record {
  within : l.start ≤ length l.rows;
  batches : (rest : List ℕ) → AreBatches l.max_rows (map row_weight l.rows) l.start rest
      → AreBatches l.max_rows (map row_weight l.rows) 0 (l.ends ++ rest);
}

abbrev pub decreases-loop-start : goal.decreases-loop-start
decreases-loop-start l = length l.rows - l.start
