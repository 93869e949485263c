-- Rows beside the values of their keys, and their order.
use Rattle.std.specs.Prelude.{Bool, List}
use Rattle.std.specs.Ordering.{is_lt}
use Rattle.cn_types.specs.declared.row.Row.{Row}
use Rattle.plan_model.specs.declared.node.SortKey.{SortKey}
use Rattle.plan_model.specs.Selections.{image}
use Rattle.relation_eval.specs.declared.sorting.Keyed.{Keyed}
use Rattle.relation_eval.specs.SortKeys.{found_order, key_exprs}

abbrev pub with_keys : List SortKey → Row → Keyed
with_keys keys row = record { found = image (key_exprs keys) row; row = row }

abbrev pub row_of_keyed : Keyed → Row
row_of_keyed keyed = keyed.row

-- the first stands before the second
abbrev pub is_before : List SortKey → Keyed → Keyed → Bool
is_before keys a b = is_lt (found_order keys 0 a.found b.found)
