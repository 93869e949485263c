-- the texts so far, up to the largest number
use Rattle.std.proofs.Common.{◌≡◌, ◌-◌, ◌^◌, take, min, sum_by}
use Rattle.arrow_ipc.specs.Columns.{text_size}
use Rattle.arrow_ipc.proofs.fit.size_of_row.Given as goal

abbrev pub invariant-loop-value : goal.invariant-loop-value
invariant-loop-value l = l.size ≡ min (sum_by text_size (take l.value-index l.values)) (2 ^ 64 - 1)
