-- the bytes so far
use Rattle.std.proofs.Common.{◌≡◌, ◌*◌, ◌++◌, take, drop, map}
use Rattle.std.specs.List.{range_with_len}
use Rattle.arrow_ipc.specs.Columns.{number_of}
use Rattle.arrow_ipc.proofs.bitmap.write_bitmap.Given as goal

abbrev pub invariant-loop-at : goal.invariant-loop-at
invariant-loop-at l = l.out.items ≡ l.fn.out.items ++ map (λ k. number_of (take 8 (drop (8 * k) l.bits))) (range_with_len 0 l.at)
