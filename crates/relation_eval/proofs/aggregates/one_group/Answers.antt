use Rattle.std.proofs.Common.{◌∙◌, length, refl}
use Rattle.relation_eval.proofs.GroupFacts.{all_within}
use Rattle.relation_eval.proofs.aggregates.one_group.Goals as goal

pub group_row-requires-clause-within : goal.group_row-requires-clause-within
group_row-requires-clause-within c =
    let rows = c.args.rows.now in
    all_within (length rows) (length rows) c.as_slice.result.now refl (c.as_slice.ensures.value ∙ c.in_ok-places.ensures)
