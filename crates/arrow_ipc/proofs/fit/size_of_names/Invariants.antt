-- the names so far, up to the largest number
use Rattle.std.proofs.Common.{◌≡◌, ◌-◌, ◌^◌, length, take, min, sum_by}
use Rattle.arrow_ipc.proofs.fit.size_of_names.Given as goal

abbrev pub invariant-loop-field : goal.invariant-loop-field
invariant-loop-field l = l.size ≡ min (sum_by (λ field. length field.name) (take l.field-index l.fields)) (2 ^ 64 - 1)
