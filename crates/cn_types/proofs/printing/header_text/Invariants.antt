-- The names so far, joined.
use Rattle.std.proofs.Common.{◌≡◌, map, take}
use Rattle.std.specs.List.{join_with_byte}
use Rattle.std.specs.String.{string_bytes}
use Rattle.cn_types.specs.Printed.{escaped}
use Rattle.cn_types.proofs.printing.header_text.Given as goal

abbrev pub invariant-loop-place : goal.invariant-loop-place
invariant-loop-place l = string_bytes l.out ≡ join_with_byte 9 (map (λ field. escaped field.name) (take l.place l.field-items))
