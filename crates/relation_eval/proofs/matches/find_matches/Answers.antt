use Rattle.std.proofs.Common.{◌≡◌, ◌∙◌, length, ltb, ap, arith}
use Rattle.std.specs.Option.{option_copied}
use Rattle.plan_model.specs.Outcomes.{row_limit}
use Rattle.relation_eval.specs.Matches.{is_candidate, matches_some}
use Rattle.relation_eval.specs.Places.{places_from}
use Rattle.relation_eval.proofs.MatchFacts.{known_places, found_within, some_more, pairs_more, pairs_many, marks_more, grown_more}
use Rattle.relation_eval.proofs.matches.find_matches.Goals as goal
use Rattle.relation_eval.proofs.matches.find_matches.Goals.{After-right_flags-in-loop-row-1}

places : (c : After-right_flags-in-loop-row-1) → c.candidates-places.result.now ≡ places_from (is_candidate c.args.keys.now.left.items c.args.keys.now.right.items c.row-item.result) 0 c.args.right.now
places c =
    known_places c.candidates-places.result.now c.args.keys.now.left.items c.args.keys.now.right.items c.as_slice-in-loop-row.result.now c.as_slice.result.now c.in_ok-rights.rights.rows.now c.args.right.now
    c.row-item.result (c.candidates-places.ensures c.as_slice.result c.in_ok-rights.ensures.columns) c.as_slice-in-loop-row.ensures.value c.as_slice.ensures.value c.in_ok-rights.ensures.rows

pub add_pairs-requires-clause-within : goal.add_pairs-requires-clause-within
add_pairs-requires-clause-within c =
    found_within (option_copied c.args.condition) c.args.keys.now.left.items c.args.keys.now.right.items c.args.left.now c.args.right.now c.requires.keys c.loop-row.row-index c.row-item.result
    c.loop-row-test.true c.row-item.is c.candidates-places.result.now (places c)

pub returns-then-not-branch-clause-many : goal.returns-then-not-branch-clause-many
returns-then-not-branch-clause-many c =
    pairs_many (option_copied c.args.condition) c.args.keys.now.left.items c.args.keys.now.right.items c.args.left.now c.args.right.now c.requires.keys c.loop-row.row-index c.row-item.result
    c.loop-row-test.true c.row-item.is c.candidates-places.result.now (places (goal.at.returns-then-not-branch-clause-many c).After-right_flags-in-loop-row-1)
    row_limit c.loop-row.rows.items c.loop-row.invariant.rows (c.in_ok-add_pairs.ensures.many c.if-not-branch.true)

pub loop-row-preserved : goal.loop-row-preserved
loop-row-preserved c =
    let condition = option_copied c.args.condition in
    let lefts = c.args.keys.now.left.items in
    let rights = c.args.keys.now.right.items in
    let a = c.args.left.now in
    let b = c.args.right.now in
    let found = c.candidates-places.result.now in
    let is = places (goal.at.loop-row-preserved c).After-right_flags-in-loop-row-1 in
    let rows = c.in_ok-add_pairs.ensures.rows c.if-not-branch.false in
    let marks = c.in_ok-add_pairs.ensures.flags c.if-not-branch.false in
    let grown = grown_more condition lefts rights a b c.requires.keys c.loop-row.row-index c.row-item.result c.loop-row-test.true c.row-item.is found is c.loop-row.rows.items c.add_pairs.new.rows.items rows in
    let before : c.len-before.result ≡ length c.loop-row.rows.items = omega arith in
    let after : c.len.result ≡ length c.add_pairs.new.rows.items = omega arith in
    let flag : ltb c.len-before.result c.len.result ≡ matches_some condition b c.row-item.result = ap (λ n. ltb n c.len.result) before ∙ ap (λ n. ltb (length c.loop-row.rows.items) n) after ∙ grown in
    record {
      rows = pairs_more condition lefts rights a b c.requires.keys c.loop-row.row-index c.row-item.result c.loop-row-test.true c.row-item.is found is c.loop-row.rows.items c.add_pairs.new.rows.items c.loop-row.invariant.rows rows;
      left_flags = c.in_ok-push.ensures.items
          ∙ some_more condition lefts rights a b c.requires.keys c.loop-row.row-index c.row-item.result c.loop-row-test.true c.row-item.is found is c.loop-row.left_flags.items (ltb c.len-before.result c.len.result)
          c.loop-row.invariant.left_flags flag;
      right_flags = marks_more condition lefts rights a b c.requires.keys c.loop-row.row-index c.row-item.result c.loop-row-test.true c.row-item.is found is c.loop-row.right_flags.items c.add_pairs.new.flags.items c.loop-row.invariant.right_flags marks;
    }
