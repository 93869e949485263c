-- The groups of rows by their keys, whose rows are told by their places.
use Rattle.std.proofs.Common.{◌≡◌, ◌≢◌, ◌<◌, ◌≤◌, ℕ, zero, suc, ◌+◌, Bool, true, false, cond, List, [], ◌∷◌, ◌++◌, append_assoc, map, length, take, drop, get_or, refl, sym, ap, ◌∙◌, subst, arith, length-append}
use Rattle.std.specs.Prelude.{All, None, not, filter, Result, Ok, Err, IfOk}
use Rattle.std.proofs.lemmas.List.{map-append, get_or_at, take_more}
use Rattle.std.proofs.lemmas.List.Elements.{All-nil, All-cons}
use Rattle.cn_types.specs.declared.row.Row.{Row}
use Rattle.cn_types.specs.declared.value.Value.{Value}
use Rattle.cn_types.specs.Order.{row_eq}
use Rattle.plan_model.specs.declared.expression.TypedExpr.{TypedExpr}
use Rattle.plan_model.specs.declared.node.AggregateCall.{AggregateCall}
use Rattle.plan_model.specs.Aggregates.{call_value}
use Rattle.plan_model.specs.Counts.{HasEachOnce, once}
use Rattle.plan_model.specs.Groups.{IsAggregate, key_values, key_and_calls, aggregated, group}
use Rattle.plan_model.specs.Outcomes.{Bounded, limited}
use Rattle.plan_model.specs.Selections.{image, projected}
use Rattle.relation_eval.specs.declared.given.Given.{Given}
use Rattle.relation_eval.specs.Firsts.{is_among, flags_after, flagged, firsts}
use Rattle.relation_eval.specs.Given.{outcome_of}
use Rattle.relation_eval.specs.Grouped.{count_from}
use Rattle.relation_eval.specs.Members.{empty_row, row_at, rows_at, group_at, group_of, different_keys, grouped}
use Rattle.relation_eval.specs.Places.{places_from, places_of, has_key}
use Rattle.plan_model.proofs.Multisets.{count_of_rest}
use Rattle.plan_model.proofs.RowCounts.{row_exact}
use Rattle.relation_eval.proofs.FirstFacts.{flagged_next}
use Rattle.relation_eval.proofs.SetFacts.{rows_once}

-- ---- the rows at places

rows_where : (all found rest : List Row) (place : ℕ) (places : List ℕ) (row : Row) (b : Bool) → row_at all place ≡ row → rows_at all places ≡ found
    → rows_at all (cond b (place ∷ places) places) ≡ cond b (row ∷ found) found
rows_where all found rest place places row true h later = ap (λ x. x ∷ rows_at all places) h ∙ ap (λ (xs : List Row). row ∷ xs) later
rows_where all found rest place places row false h later = later

-- of the rows behind a front, those whose key passes stand at the places of the keys that pass
rows_from : (key : Row → Row) (test : Row → Bool) (all front rows : List Row) (place : ℕ) → all ≡ front ++ rows → length front ≡ place
    → rows_at all (places_from test place (map key rows)) ≡ filter (λ row. test (key row)) rows
rows_from key test all front [] place e l = refl
rows_from key test all front (row ∷ rows) place e l =
    let here : row_at all place ≡ row = ap (λ (xs : List Row). get_or xs place empty_row) e ∙ get_or_at front row rows empty_row place l in
    let more : all ≡ (front ++ row ∷ []) ++ rows = e ∙ sym (append_assoc front (row ∷ []) rows) in
    rows_where all (filter (λ x. test (key x)) rows) rows place (places_from test (suc place) (map key rows)) row (test (key row)) here
    (rows_from key test all (front ++ row ∷ []) rows (suc place) more (omega (arith, length-append front (row ∷ []))))

pub rows_of_group : (keys : List TypedExpr) (rows : List Row) (key : Row) → rows_at rows (places_of None key (projected keys rows)) ≡ group keys rows key
rows_of_group keys rows key = rows_from (image keys) (row_eq key) rows [] rows 0 refl refl

rows_counted : (all front rows : List Row) (place : ℕ) → all ≡ front ++ rows → length front ≡ place → rows_at all (count_from place (length rows)) ≡ rows
rows_counted all front [] place e l = refl
rows_counted all front (row ∷ rows) place e l =
    let here : row_at all place ≡ row = ap (λ (xs : List Row). get_or xs place empty_row) e ∙ get_or_at front row rows empty_row place l in
    let more : all ≡ (front ++ row ∷ []) ++ rows = e ∙ sym (append_assoc front (row ∷ []) rows) in
    ap (λ x. x ∷ rows_at all (count_from (suc place) (length rows))) here
    ∙ ap (λ (xs : List Row). row ∷ xs) (rows_counted all (front ++ row ∷ []) rows (suc place) more (omega (arith, length-append front (row ∷ []))))

pub all_rows : (rows : List Row) → rows_at rows (count_from 0 (length rows)) ≡ rows
all_rows rows = rows_counted rows [] rows 0 refl refl

-- ---- places are within the rows

within_where : (n place : ℕ) (places : List ℕ) (b : Bool) → place < n → All (λ p. p < n) places → All (λ p. p < n) (cond b (place ∷ places) places)
within_where n place places true h later = All-cons (λ p. p < n) place places h later
within_where n place places false h later = later

places_within : (test : Row → Bool) (n place : ℕ) (keys : List Row) → place + length keys ≤ n → All (λ p. p < n) (places_from test place keys)
places_within test n place [] h = All-nil (λ p. p < n)
places_within test n place (key ∷ keys) h = within_where n place (places_from test (suc place) keys) (test key) (omega arith) (places_within test n (suc place) keys (omega arith))

pub group_within : (keys rows : List Row) (key : Row) (places : List ℕ) → length keys ≡ length rows → places ≡ places_of None key keys → All (λ p. p < length rows) places
group_within keys rows key places l e = subst (λ (ps : List ℕ). All (λ p. p < length rows) ps) (sym e) (places_within (has_key None key) (length rows) 0 keys (omega arith))

counted_within : (n place count : ℕ) → place + count ≤ n → All (λ p. p < n) (count_from place count)
counted_within n place zero h = All-nil (λ p. p < n)
counted_within n place (suc count) h = All-cons (λ p. p < n) place (count_from (suc place) count) (omega arith) (counted_within n (suc place) count (omega arith))

pub all_within : (n count : ℕ) (places : List ℕ) → count ≡ n → places ≡ count_from 0 count → All (λ p. p < n) places
all_within n count places h e = subst (λ (ps : List ℕ). All (λ p. p < n) ps) (sym e) (counted_within n 0 count (omega arith))

-- ---- one key more

groups_where : (f : Row → Row) (key : Row) (rest list : List Row) (flag : Bool) → list ++ map f (cond flag (key ∷ rest) rest) ≡ cond flag (list ++ f key ∷ []) list ++ map f rest
groups_where f key rest list true = sym (append_assoc list (f key ∷ []) (map f rest))
groups_where f key rest list false = refl

pub groups_next : (f : Row → Row) (keys list whole : List Row) (key : Row) (place : ℕ) (flag : Bool) → place < length keys → key ≡ get_or keys place key
    → flag ≡ not (is_among None (take place keys) key)
    → whole ≡ list ++ map f (flagged (flags_after None (take place keys) (drop place keys)) (drop place keys))
    → whole ≡ cond flag (list ++ f key ∷ []) list ++ map f (flagged (flags_after None (take (place + 1) keys) (drop (place + 1) keys)) (drop (place + 1) keys))
groups_next f keys list whole key place flag h e t so_far =
    let rest = flagged (flags_after None (take (place + 1) keys) (drop (place + 1) keys)) (drop (place + 1) keys) in
    so_far ∙ ap (λ (xs : List Row). list ++ map f xs) (flagged_next keys key place flag h e t) ∙ groups_where f key rest list flag

-- ---- the rows of an aggregate

group_is : (keys : List TypedExpr) (calls : List AggregateCall) (rows : List Row) (key : Row) → group_of calls rows (projected keys rows) key ≡ key_and_calls keys calls rows key
group_is keys calls rows key = ap (λ (members : List Row). record { 0 = key.0 ++ map (λ c. call_value c members) calls }) (rows_of_group keys rows key)

pub groups_are : (keys : List TypedExpr) (calls : List AggregateCall) (rows different : List Row) → map (group_of calls rows (projected keys rows)) different ≡ map (key_and_calls keys calls rows) different
groups_are keys calls rows [] = refl
groups_are keys calls rows (key ∷ different) = ap (λ x. x ∷ map (group_of calls rows (projected keys rows)) different) (group_is keys calls rows key) ∙ ap (λ (xs : List Row). key_and_calls keys calls rows key ∷ xs) (groups_are keys calls rows different)

images_of_groups : (keys : List TypedExpr) (calls : List AggregateCall) (items : List TypedExpr) (rows different : List Row)
    → projected items (map (key_and_calls keys calls rows) different) ≡ map (aggregated keys calls items rows) different
images_of_groups keys calls items rows [] = refl
images_of_groups keys calls items rows (key ∷ different) = ap (λ (xs : List Row). aggregated keys calls items rows key ∷ xs) (images_of_groups keys calls items rows different)

-- without keys each row is of the one group
same_empty : (rows : List Row) → filter (λ row. row_eq empty_row (image [] row)) rows ≡ rows
same_empty [] = refl
same_empty (row ∷ rows) = ap (λ (xs : List Row). row ∷ xs) (same_empty rows)

pub one_group_is : (calls : List AggregateCall) (rows : List Row) (places : List ℕ) → places ≡ count_from 0 (length rows) → group_at calls rows places empty_row ≡ key_and_calls [] calls rows empty_row
one_group_is calls rows places e =
    ap (λ (members : List Row). record { 0 = map (λ c. call_value c members) calls }) (ap (λ (ps : List ℕ). rows_at rows ps) e ∙ all_rows rows ∙ sym (same_empty rows))

once_where : (b : Bool) → cond b 1 0 + 0 ≡ once (cond b 1 0 + 0)
once_where true = refl
once_where false = refl

one_once : HasEachOnce (empty_row ∷ []) (empty_row ∷ [])
one_once row = count_of_rest row_eq row_exact empty_row [] row (row_eq row empty_row) refl ∙ once_where (row_eq row empty_row) ∙ ap once (sym (count_of_rest row_eq row_exact empty_row [] row (row_eq row empty_row) refl))

each_key_once : (keys : List TypedExpr) (rows : List Row) → HasEachOnce (different_keys keys rows) (key_values keys rows)
each_key_once [] rows = one_once
each_key_once (key ∷ keys) rows = rows_once (projected (key ∷ keys) rows)

pub aggregate_is : (keys : List TypedExpr) (calls : List AggregateCall) (items : List TypedExpr) (rows : List Row)
    → IsAggregate keys calls items rows (projected items (map (key_and_calls keys calls rows) (different_keys keys rows)))
aggregate_is keys calls items rows = record {
  different = different_keys keys rows;
  each_once = each_key_once keys rows;
  is = images_of_groups keys calls items rows (different_keys keys rows);
}

pub aggregate_allowed : {E : Type 0} (r : Result Given E) (keys : List TypedExpr) (calls : List AggregateCall) (items : List TypedExpr) (rows : List Row)
    → IfOk r (λ given. outcome_of given ≡ limited (grouped keys calls items rows)) → IfOk r (λ given. Bounded (IsAggregate keys calls items rows) (outcome_of given))
aggregate_allowed (Ok given) keys calls items rows h = (grouped keys calls items rows, aggregate_is keys calls items rows, h)
aggregate_allowed (Err e) keys calls items rows h = h

pub without_keys : (keys : List TypedExpr) (calls : List AggregateCall) (rows list : List Row) → keys ≡ [] → list ≡ group_at calls rows (count_from 0 (length rows)) empty_row ∷ []
    → list ≡ map (key_and_calls keys calls rows) (different_keys keys rows)
without_keys [] calls rows list h e = e ∙ ap (λ (row : Row). row ∷ []) (one_group_is calls rows (count_from 0 (length rows)) refl)
without_keys (key ∷ keys) calls rows list h e = absurd cc

pub with_keys : (keys : List TypedExpr) (calls : List AggregateCall) (rows list : List Row) → keys ≢ []
    → list ≡ map (group_of calls rows (projected keys rows)) (firsts None (projected keys rows)) → list ≡ map (key_and_calls keys calls rows) (different_keys keys rows)
with_keys [] calls rows list h e = absurd (h refl)
with_keys (key ∷ keys) calls rows list h e = e ∙ groups_are (key ∷ keys) calls rows (firsts None (projected (key ∷ keys) rows))

-- ---- one call more

pub calls_next : (listed calls : List AggregateCall) (members : List Row) (front values more : List Value) (i : ℕ) (call : AggregateCall) (value : Value) → listed ≡ calls → i < length listed → call ≡ get_or listed i call
    → value ≡ call_value call members → more ≡ values ++ value ∷ [] → values ≡ front ++ map (λ c. call_value c members) (take i calls) → more ≡ front ++ map (λ c. call_value c members) (take (i + 1) calls)
calls_next listed calls members front values more i call value same h here v m so_far =
    let f = λ (c : AggregateCall). call_value c members in
    let within : i < length calls = omega (arith, ap length same) in
    let there : call ≡ get_or calls i call = here ∙ ap (λ (cs : List AggregateCall). get_or cs i call) same in
    m ∙ ap (λ (vs : List Value). vs ++ value ∷ []) so_far ∙ append_assoc front (map f (take i calls)) (value ∷ [])
    ∙ ap (λ x. front ++ (map f (take i calls) ++ x ∷ [])) (v ∙ ap f there)
    ∙ ap (λ (vs : List Value). front ++ vs) (sym (map-append f (take i calls) (get_or calls i call ∷ [])) ∙ ap (λ (cs : List AggregateCall). map f cs) (sym (take_more calls i call within)))
