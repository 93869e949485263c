-- What is read of sound fields is the same at every level that suffices.
use Rattle.std.proofs.Common.{◌≡◌, ℕ, ◌≤◌, List, [], ◌∷◌, map, Option, Some, refl, ap}
use Rattle.std.specs.Prelude.{option_map}
use Rattle.std.specs.List.{AllByRecursion}
use Rattle.proto_fields.specs.declared.kind.MessageKind.{MessageKind}
use Rattle.proto_fields.specs.declared.kind.MessageKind.TheVariants as kinds
use Rattle.proto_fields.specs.declared.kind.PayloadKind.TheVariants.{Message}
use Rattle.proto_fields.specs.Fields.{Field, fields_of}
use Rattle.proto_fields.specs.Kinds.{payload_of}
use Rattle.proto_fields.specs.Faults.{IsSoundField, IsSound}
use Rattle.proto_fields.specs.Readings.{payloads, joined, merged, int32_field, optional_bool, texts}
use Rattle.expression_messages.specs.declared.expression.Alias.{Alias}
use Rattle.expression_messages.specs.declared.expression.SortOrder.{SortOrder}
use Rattle.expression_messages.specs.declared.expression.Expr.{Expr}
use Rattle.expression_messages.specs.Messages.{messages_at}
use Rattle.expression_messages.specs.Expressions.{expr_at, alias_at, sort_order_at}
use Rattle.expression_messages.proofs.Agreement.{fields_sound, fields_in, payloads_sound}
use Rattle.expression_messages.proofs.SameExprs.{exprs_agree, expr_agrees, inner_expr_agrees, alias_agrees, sort_order_agrees}
use Rattle.expression_relations.specs.declared.project.Project.{Project}
use Rattle.expression_relations.specs.declared.filter.Filter.{Filter}
use Rattle.expression_relations.specs.declared.join.Join.{Join}
use Rattle.expression_relations.specs.declared.sort.Sort.{Sort}
use Rattle.expression_relations.specs.declared.aggregate.Aggregate.{Aggregate}
use Rattle.expression_relations.specs.declared.drop_columns.DropColumns.{DropColumns}
use Rattle.expression_relations.specs.declared.with_columns.WithColumns.{WithColumns}
use Rattle.expression_relations.specs.Reading.{project_of, filter_of, join_of, sort_of, aggregate_of, drop_columns_of, with_columns_of}

-- ---- lists of messages

each_same : {A : Type 0} (level : ℕ) (inner : MessageKind) (higher lower : List Field → A) → ((bytes : List ℕ) → IsSound level inner bytes → higher (fields_of bytes) ≡ lower (fields_of bytes)) →
    (messages : List (List ℕ)) → AllByRecursion (IsSound level inner) messages → map (λ payload. higher (fields_of payload)) messages ≡ map (λ payload. lower (fields_of payload)) messages
each_same level inner higher lower same [] sound = refl
each_same {A} level inner higher lower same (message ∷ messages) sound =
    rw (same message sound.0) (ap (λ (items : List A). lower (fields_of message) ∷ items) (each_same level inner higher lower same messages sound.1))

exprs_same : (level more number : ℕ) (kind : MessageKind) (fields : List Field) → payload_of kind number ≡ Message kinds.Expression → level ≤ more → AllByRecursion (IsSoundField (IsSound level) kind) fields →
    messages_at (expr_at more) number fields ≡ messages_at (expr_at level) number fields
exprs_same level more number kind fields is upper sound =
    each_same level kinds.Expression (expr_at more) (expr_at level) (λ bytes good. expr_agrees level more bytes upper good) (payloads number fields) (payloads_sound level kind kinds.Expression number is fields sound)

aliases_same : (level more number : ℕ) (kind : MessageKind) (fields : List Field) → payload_of kind number ≡ Message kinds.Alias → level ≤ more → AllByRecursion (IsSoundField (IsSound level) kind) fields →
    messages_at (alias_at more) number fields ≡ messages_at (alias_at level) number fields
aliases_same level more number kind fields is upper sound =
    each_same level kinds.Alias (alias_at more) (alias_at level) (λ bytes good. alias_agrees level more (fields_of bytes) upper (fields_sound level kinds.Alias bytes good))
    (payloads number fields) (payloads_sound level kind kinds.Alias number is fields sound)

sort_orders_same : (level more number : ℕ) (kind : MessageKind) (fields : List Field) → payload_of kind number ≡ Message kinds.SortOrder → level ≤ more → AllByRecursion (IsSoundField (IsSound level) kind) fields →
    messages_at (sort_order_at more) number fields ≡ messages_at (sort_order_at level) number fields
sort_orders_same level more number kind fields is upper sound =
    each_same level kinds.SortOrder (sort_order_at more) (sort_order_at level) (λ bytes good. sort_order_agrees level more (fields_of bytes) upper (fields_sound level kinds.SortOrder bytes good))
    (payloads number fields) (payloads_sound level kind kinds.SortOrder number is fields sound)

-- ---- a message that may be absent

joined_same : (level more : ℕ) → level ≤ more → (messages : List (List ℕ)) → AllByRecursion (IsSound level kinds.Expression) messages →
    option_map (expr_at more) (joined messages) ≡ option_map (expr_at level) (joined messages)
unfolding fields_in
joined_same level more upper [] sound = refl
joined_same level more upper (message ∷ messages) sound = ap (λ (expr : Expr). Some expr) (exprs_agree level more upper (message ∷ messages) sound)

condition_same : (level more number : ℕ) (kind : MessageKind) (fields : List Field) → payload_of kind number ≡ Message kinds.Expression → level ≤ more → AllByRecursion (IsSoundField (IsSound level) kind) fields →
    option_map (expr_at more) (merged number fields) ≡ option_map (expr_at level) (merged number fields)
condition_same level more number kind fields is upper sound = joined_same level more upper (payloads number fields) (payloads_sound level kind kinds.Expression number is fields sound)

-- ---- the messages

unfoldable pub with_expressions : {R : Type 0} → R → List Expr → Project R
with_expressions input expressions = record { input = input; expressions = expressions }

pub project_agrees : {R : Type 0} (level more : ℕ) (input : R) (fields : List Field) → level ≤ more → AllByRecursion (IsSoundField (IsSound level) kinds.Project) fields →
    project_of more input fields ≡ project_of level input fields
unfolding payload_of with_expressions
project_agrees level more input fields upper sound = ap (with_expressions input) (exprs_same level more 3 kinds.Project fields refl upper sound)

unfoldable pub with_condition : {R : Type 0} → R → Expr → Filter R
with_condition input condition = record { input = input; condition = condition }

pub filter_agrees : {R : Type 0} (level more : ℕ) (input : R) (fields : List Field) → level ≤ more → AllByRecursion (IsSoundField (IsSound level) kinds.Filter) fields →
    filter_of more input fields ≡ filter_of level input fields
unfolding payload_of with_condition
filter_agrees level more input fields upper sound =
    ap (with_condition input) (inner_expr_agrees level more 2 fields upper (payloads_sound level kinds.Filter kinds.Expression 2 refl fields sound))

with_join : {R : Type 0} → R → R → List Field → Option Expr → Join R
with_join left right fields condition = record { left = left; right = right; join_condition = condition; join_type = int32_field 4 fields; using_columns = texts 5 fields }

pub join_agrees : {R : Type 0} (level more : ℕ) (left right : R) (fields : List Field) → level ≤ more → AllByRecursion (IsSoundField (IsSound level) kinds.Join) fields →
    join_of more left right fields ≡ join_of level left right fields
unfolding payload_of with_join
join_agrees level more left right fields upper sound = ap (with_join left right fields) (condition_same level more 3 kinds.Join fields refl upper sound)

with_order : {R : Type 0} → R → List Field → List (SortOrder Expr) → Sort R
with_order input fields order = record { input = input; order = order; is_global = optional_bool 3 fields }

pub sort_agrees : {R : Type 0} (level more : ℕ) (input : R) (fields : List Field) → level ≤ more → AllByRecursion (IsSoundField (IsSound level) kinds.Sort) fields →
    sort_of more input fields ≡ sort_of level input fields
unfolding payload_of with_order
sort_agrees level more input fields upper sound = ap (with_order input fields) (sort_orders_same level more 2 kinds.Sort fields refl upper sound)

same_aggregate : {R : Type 0} (input : R) (fields : List Field) {grouping grouping2 aggregates aggregates2 : List Expr} → grouping ≡ grouping2 → aggregates ≡ aggregates2 →
    ◌≡◌ {A = Aggregate R} (record { input = input; group_type = int32_field 2 fields; grouping_expressions = grouping; aggregate_expressions = aggregates })
    (record { input = input; group_type = int32_field 2 fields; grouping_expressions = grouping2; aggregate_expressions = aggregates2 })
same_aggregate input fields grouping_is aggregates_are = rw grouping_is (rw aggregates_are refl)

pub aggregate_agrees : {R : Type 0} (level more : ℕ) (input : R) (fields : List Field) → level ≤ more → AllByRecursion (IsSoundField (IsSound level) kinds.Aggregate) fields →
    aggregate_of more input fields ≡ aggregate_of level input fields
unfolding payload_of
aggregate_agrees level more input fields upper sound =
    same_aggregate input fields (exprs_same level more 3 kinds.Aggregate fields refl upper sound) (exprs_same level more 4 kinds.Aggregate fields refl upper sound)

with_columns_in : {R : Type 0} → R → List Field → List Expr → DropColumns R
with_columns_in input fields columns = record { input = input; columns = columns; column_names = texts 3 fields }

pub drop_columns_agrees : {R : Type 0} (level more : ℕ) (input : R) (fields : List Field) → level ≤ more → AllByRecursion (IsSoundField (IsSound level) kinds.Drop) fields →
    drop_columns_of more input fields ≡ drop_columns_of level input fields
unfolding payload_of with_columns_in
drop_columns_agrees level more input fields upper sound = ap (with_columns_in input fields) (exprs_same level more 2 kinds.Drop fields refl upper sound)

unfoldable pub with_aliases : {R : Type 0} → R → List (Alias Expr) → WithColumns R
with_aliases input aliases = record { input = input; aliases = aliases }

pub with_columns_agrees : {R : Type 0} (level more : ℕ) (input : R) (fields : List Field) → level ≤ more → AllByRecursion (IsSoundField (IsSound level) kinds.WithColumns) fields →
    with_columns_of more input fields ≡ with_columns_of level input fields
unfolding payload_of with_aliases
with_columns_agrees level more input fields upper sound = ap (with_aliases input) (aliases_same level more 2 kinds.WithColumns fields refl upper sound)
