-- The weights so far, up to the largest number.
use Rattle.std.proofs.Common.{◌≡◌, ◌-◌, ◌^◌, take, min, sum_by}
use Rattle.cn_types.specs.Weight.{weight_of}
use Rattle.cn_types.proofs.row.Row.weight.Given as goal

abbrev pub invariant-loop-value : goal.invariant-loop-value
invariant-loop-value l = l.sum ≡ min (sum_by weight_of (take l.value-index l.value-items)) (2 ^ 64 - 1)
