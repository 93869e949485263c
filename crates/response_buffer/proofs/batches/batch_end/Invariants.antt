use Rattle.std.proofs.Common.{◌≡◌, ◌≤◌, ◌+◌, ◌-◌, ◌^◌, ◌⊎◌, min, map, sum, slice_range}
use Rattle.cn_types.specs.Weight.{row_weight}
use Rattle.response_buffer.proofs.batches.batch_end.Given as goal

-- the weight of the rows so far, which is at most 1 MiB where they are more than one
abbrev pub invariant-loop-end : goal.invariant-loop-end
invariant-loop-end l = record {
  weighed : l.weight ≡ min (sum (slice_range (map row_weight l.rows) l.start l.end)) (2 ^ 64 - 1);
  fits : (l.end ≡ l.start + 1) ⊎ (sum (slice_range (map row_weight l.rows) l.start l.end) ≤ 2 ^ 20);
}
