use Rattle.std.proofs.Common.{◌≡◌, drop}
use Rattle.std.specs.Cmp.Lexicographic.{slice_cmp}
use Rattle.cn_types.specs.Order.{value_cmp, row_cmp}
use Rattle.relation_eval.specs.Places.{key_by}
use Rattle.relation_eval.proofs.buckets.compare_keys.Given as goal

abbrev pub invariant-loop-place : goal.invariant-loop-place
invariant-loop-place l = row_cmp (key_by l.left_columns l.left) (key_by l.right_columns l.right) ≡ slice_cmp value_cmp (drop l.place (key_by l.left_columns l.left).0) (drop l.place (key_by l.right_columns l.right).0)
