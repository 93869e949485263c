use Rattle.std.proofs.Common.{◌≡◌, ◌++◌, map, take, drop}
use Rattle.std.specs.Prelude.{All, None}
use Rattle.expr_eval.specs.Dated.{HasDatesInRange}
use Rattle.relation_eval.specs.Firsts.{flags_after, flagged, firsts}
use Rattle.relation_eval.specs.Members.{group_of}
use Rattle.relation_eval.proofs.aggregates.groups_by_key.Given as goal

abbrev pub invariant-loop-place : goal.invariant-loop-place
invariant-loop-place l =
    record {
      groups : map (group_of l.calls l.rows l.keys) (firsts None l.keys) ≡ l.groups.items ++ map (group_of l.calls l.rows l.keys) (flagged (flags_after None (take l.place l.keys) (drop l.place l.keys)) (drop l.place l.keys));
      dates : All HasDatesInRange l.groups.items;
    }
