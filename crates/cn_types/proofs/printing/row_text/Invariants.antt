-- The printed values so far, joined.
use Rattle.std.proofs.Common.{◌≡◌, map, take}
use Rattle.std.specs.List.{join_with_byte}
use Rattle.std.specs.String.{string_bytes}
use Rattle.cn_types.specs.Printed.{printed}
use Rattle.cn_types.proofs.printing.row_text.Given as goal

abbrev pub invariant-loop-place : goal.invariant-loop-place
invariant-loop-place l = string_bytes l.out ≡ join_with_byte 9 (map printed (take l.place l.value-items))
