-- The depth is that of the parts, one level further out.
use Rattle.std.proofs.Common.{ℕ, ◌+◌, max, sym, ap, ◌∙◌}
use Rattle.std.specs.Prelude.{option_map, unwrap_or}
use Rattle.expression_messages.specs.Depths.{told}
use Rattle.relation_members.specs.Inputs.{first_of, second_of}
use Rattle.relation_members.specs.Depths.{member_depth}
use Rattle.relation_messages.specs.declared.relation.Relation.TheViews.{out-Relation}
use Rattle.relation_messages.specs.Depths.{relation_depth}
use Rattle.relation_messages.proofs.Folds.{relation_deep}
use Rattle.relation_messages.proofs.Measured.{told_over}
use Rattle.relation_messages.proofs.relation_depths.+relation_depths.Goals as goal

pub relation_depth-returns : goal.relation_depth-returns
relation_depth-returns t c =
    let relation = c.args.relation.now in
    let layer = out-Relation relation in
    let first = unwrap_or (option_map relation_depth (first_of layer.member)) 0 in
    let second = unwrap_or (option_map relation_depth (second_of layer.member)) 0 in
    let member = c.depth_over-member.ensures first second c.first_input_depth-first.ensures c.second_input_depth-second.ensures in
    let outer = told_over c.common_levels-common.result c.depth_over-member.result (member_depth relation_depth layer.member) c.max.result c.saturating_add.result
    c.common_levels-common.ensures.few member c.max.ensures c.saturating_add.ensures in
    outer ∙ ap (λ (common : ℕ). told (1 + max common (member_depth relation_depth layer.member))) c.common_levels-common.ensures.exact ∙ ap told (sym (relation_deep relation))
