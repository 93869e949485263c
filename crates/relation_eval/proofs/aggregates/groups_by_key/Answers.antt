use Rattle.std.proofs.Common.{◌≡◌, ◌+◌, ◌++◌, ◌∷◌, [], ◌∙◌, Bool, cond, List, ℕ, map, take, drop, sym, ap, subst, arith}
use Rattle.std.specs.Prelude.{All, None, not}
use Rattle.std.proofs.lemmas.List.Elements.{All-push}
use Rattle.cn_types.specs.declared.row.Row.{Row}
use Rattle.expr_eval.specs.Dated.{HasDatesInRange}
use Rattle.relation_eval.specs.Firsts.{is_among, flags_after, flagged}
use Rattle.relation_eval.specs.Members.{group_at, group_of}
use Rattle.relation_eval.specs.Places.{Columns, places_of}
use Rattle.relation_eval.proofs.GroupFacts.{group_within, groups_next}
use Rattle.relation_eval.proofs.aggregates.groups_by_key.Goals as goal
use Rattle.relation_eval.proofs.aggregates.groups_by_key.Goals.{then-is_first+in_ok-group_row+in_ok-push, else-is_first}

pub group_row-requires-clause-within : goal.group_row-requires-clause-within
group_row-requires-clause-within c =
    let keys = c.args.keys.now in
    let key = c.index-keys-place.result in
    let buckets = c.in_ok-buckets.ensures in
    group_within keys c.args.rows.now key c.same.result.now c.requires.as_many
    (c.same.ensures ∙ ap (λ (columns : Columns). places_of columns key c.in_ok-buckets.buckets.rows.now) buckets.columns ∙ ap (λ (rows : List Row). places_of None key rows) buckets.rows)

pub loop-place-preserved : goal.loop-place-preserved
loop-place-preserved c =
    let keys = c.args.keys.now in
    let key = c.index-keys-place.result in
    let place = c.loop-place.place in
    let buckets = c.in_ok-buckets.ensures in
    let f = group_of c.args.calls.now c.args.rows.now keys in
    let list = c.loop-place.groups.items in
    let rest = flagged (flags_after None (take (place + 1) keys) (drop (place + 1) keys)) (drop (place + 1) keys) in
    let flag : c.is_first.result ≡ not (is_among None (take place keys) key) =
    c.is_first.ensures ∙ ap (λ (columns : Columns). not (is_among columns (take place c.in_ok-buckets.buckets.rows.now) key)) buckets.columns ∙ ap (λ (rows : List Row). not (is_among None (take place rows) key)) buckets.rows in
    let next = groups_next f keys list _ key place c.is_first.result (omega arith) c.index-keys-place.is flag c.loop-place.invariant.groups in
    elim c.if-is_first.branch [
      | then-is_first+in_ok-group_row+in_ok-push w ↦
          let same = w.same.ensures ∙ ap (λ (columns : Columns). places_of columns key c.in_ok-buckets.buckets.rows.now) buckets.columns ∙ ap (λ (rows : List Row). places_of None key rows) buckets.rows in
          let row = w.in_ok-group_row.ensures.group ∙ ap (λ (places : List ℕ). group_at c.args.calls.now c.args.rows.now places key) same in
          let pushed : c.if-is_first.groups.items ≡ list ++ w.in_ok-group_row.field-0 ∷ [] = ap (λ v. v.items) w.groups-is ∙ w.in_ok-push.ensures.items in
          record {
            groups = next ∙ ap (λ (b : Bool). cond b (list ++ f key ∷ []) list ++ map f rest) w.if-is_first.true ∙ ap (λ r. (list ++ r ∷ []) ++ map f rest) (sym row) ∙ ap (λ (xs : List Row). xs ++ map f rest) (sym pushed);
            dates = subst (λ (xs : List Row). All HasDatesInRange xs) (sym pushed) (All-push HasDatesInRange list w.in_ok-group_row.field-0 c.loop-place.invariant.dates w.in_ok-group_row.ensures.dates);
          }
      | else-is_first w ↦
          let same : c.if-is_first.groups.items ≡ list = ap (λ v. v.items) w.groups-is in
          record {
            groups = next ∙ ap (λ (b : Bool). cond b (list ++ f key ∷ []) list ++ map f rest) w.if-is_first.false ∙ ap (λ (xs : List Row). xs ++ map f rest) (sym same);
            dates = subst (λ (xs : List Row). All HasDatesInRange xs) (sym same) c.loop-place.invariant.dates;
          }
    ]
