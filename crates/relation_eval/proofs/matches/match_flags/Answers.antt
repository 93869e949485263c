use Rattle.std.proofs.Common.{◌≡◌, ◌∙◌}
use Rattle.std.specs.Option.{option_copied}
use Rattle.relation_eval.specs.Matches.{is_candidate}
use Rattle.relation_eval.specs.Places.{places_from}
use Rattle.relation_eval.proofs.MatchFacts.{known_places, found_within, found_some, some_more}
use Rattle.relation_eval.proofs.matches.match_flags.Goals as goal
use Rattle.relation_eval.proofs.matches.match_flags.Goals.{After-flags-1}

places : (c : After-flags-1) → c.candidates-places.result.now ≡ places_from (is_candidate c.args.keys.now.left.items c.args.keys.now.right.items c.row-item.result) 0 c.args.right.now
places c =
    known_places c.candidates-places.result.now c.args.keys.now.left.items c.args.keys.now.right.items c.as_slice-in-loop-row.result.now c.as_slice.result.now c.in_ok-rights.rights.rows.now c.args.right.now
    c.row-item.result (c.candidates-places.ensures c.as_slice.result c.in_ok-rights.ensures.columns) c.as_slice-in-loop-row.ensures.value c.as_slice.ensures.value c.in_ok-rights.ensures.rows

pub has_match-requires-clause-within : goal.has_match-requires-clause-within
has_match-requires-clause-within c =
    found_within (option_copied c.args.condition) c.args.keys.now.left.items c.args.keys.now.right.items c.args.left.now c.args.right.now c.requires.keys c.loop-row.row-index c.row-item.result
    c.loop-row-test.true c.row-item.is c.candidates-places.result.now (places c)

pub loop-row-preserved : goal.loop-row-preserved
loop-row-preserved c =
    let found = places (goal.at.loop-row-preserved c).After-flags-1 in
    let some = found_some (option_copied c.args.condition) c.args.keys.now.left.items c.args.keys.now.right.items c.args.left.now c.args.right.now c.requires.keys c.loop-row.row-index c.row-item.result
    c.loop-row-test.true c.row-item.is c.candidates-places.result.now found in
    c.in_ok-push.ensures.items
    ∙ some_more (option_copied c.args.condition) c.args.keys.now.left.items c.args.keys.now.right.items c.args.left.now c.args.right.now c.requires.keys c.loop-row.row-index c.row-item.result
    c.loop-row-test.true c.row-item.is c.candidates-places.result.now found c.loop-row.flags.items c.in_ok-has_match.field-0 c.loop-row.invariant (c.in_ok-has_match.ensures ∙ some)
