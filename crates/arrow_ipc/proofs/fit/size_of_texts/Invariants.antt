-- the names, and the texts so far, up to the largest number
use Rattle.std.proofs.Common.{◌≡◌, ◌+◌, ◌-◌, ◌^◌, length, take, min, sum_by}
use Rattle.arrow_ipc.specs.Columns.{text_size}
use Rattle.arrow_ipc.proofs.fit.size_of_texts.Given as goal

abbrev pub invariant-loop-row : goal.invariant-loop-row
invariant-loop-row l = l.size ≡ min (sum_by (λ field. length field.name) l.schema.0 + sum_by (λ row. sum_by text_size row.0) (take l.row-index l.rows)) (2 ^ 64 - 1)
