use Rattle.std.proofs.Common.{◌≡◌, ◌∙◌, [], List, Bool, ap}
use Rattle.std.specs.Prelude.{Some}
use Rattle.cn_types.specs.declared.row.Row.{Row}
use Rattle.plan_model.specs.Outcomes.{limited}
use Rattle.relation_eval.specs.Given.{rows_of}
use Rattle.relation_eval.specs.Firsts.{flags_after, flagged, firsts}
use Rattle.relation_eval.proofs.FirstFacts.{distinct_is}
use Rattle.relation_eval.proofs.firsts.distinct_on.Goals as goal

pub returns : goal.returns
returns c =
    let rows = rows_of c.args.rows in
    let listed = c.as_slice-2.result in
    let owned : c.in_ok-owned.owned.items ≡ rows = c.in_ok-owned.ensures in
    let flags = c.in_ok-flags.ensures.flags in
    let list : c.in_ok-list.list.items ≡ firsts (Some listed) rows =
    c.in_ok-list.ensures ∙ ap (λ (fs : List Bool). flagged fs c.in_ok-owned.owned.items) (c.as_slice-3.ensures.value ∙ flags ∙ ap (λ (rs : List Row). flags_after (Some listed) [] rs) c.as_slice.ensures)
    ∙ ap (λ (rs : List Row). flagged (flags_after (Some listed) [] rows) rs) owned in
    (firsts (Some listed) rows, distinct_is listed c.args.columns.now rows c.as_slice-2.ensures, c.limited_rows.ensures ∙ ap limited list)
