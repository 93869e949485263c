use Rattle.std.proofs.Common.{◌≡◌, map, sym, subst, List}
use Rattle.std.specs.Prelude.{IsPermutation}
use Rattle.cn_types.specs.declared.row.Row.{Row}
use Rattle.plan_model.specs.Sorting.{IsSort}
use Rattle.relation_eval.specs.declared.sorting.Keyed.{Keyed}
use Rattle.relation_eval.specs.KeyedRows.{with_keys, row_of_keyed}
use Rattle.relation_eval.proofs.SortFacts.{sorted_is}
use Rattle.relation_eval.proofs.sorting.sorted_rows.Goals as goal

pub returns : goal.returns
returns c =
    let keyed : c.in_ok-keyed.keyed.items ≡ map (with_keys c.args.keys.now) c.args.rows.items = c.in_ok-keyed.ensures in
    let permuted = subst (λ (xs : List Keyed). IsPermutation xs c.in_ok-ordered.ordered.items) keyed c.in_ok-ordered.ensures.permuted in
    let list : c.in_ok-list.list.items ≡ map row_of_keyed c.in_ok-ordered.ordered.items = c.in_ok-list.ensures in
    subst (λ (xs : List Row). IsSort c.args.keys.now c.args.rows.items xs) (sym list)
    (sorted_is c.args.keys.now c.args.rows.items c.in_ok-ordered.ordered.items permuted c.in_ok-ordered.ensures.ordered)
