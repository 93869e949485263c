-- What relations that hold expressions are spelled as, besides their inputs, is read as the relations behind any inputs.
use Rattle.std.proofs.Common.{◌≡◌, ℕ, ℤ, ◌≤◌, Bool, true, List, ◌++◌, map, Option, None, Some, refl, ap, ◌∙◌, arith}
use Rattle.std.specs.Prelude.{IsTrue, IfSome, option_map}
use Rattle.std.specs.List.{list_all, AllByRecursion}
use Rattle.std.proofs.lemmas.List.{append-nil}
use Rattle.proto_fields.specs.declared.kind.MessageKind.{MessageKind}
use Rattle.proto_fields.specs.declared.kind.MessageKind.TheVariants as kinds
use Rattle.proto_fields.specs.declared.kind.PayloadKind.TheVariants.{Message}
use Rattle.proto_fields.specs.Fields.{Field, fields_of}
use Rattle.proto_fields.specs.Kinds.{payload_of}
use Rattle.proto_fields.specs.Readings.{joined, merged}
use Rattle.proto_fields.specs.Spelling.{spell, payload_fields, int_fields, optional_bool_fields, optional_payload_fields}
use Rattle.expression_messages.specs.declared.expression.Alias.{Alias}
use Rattle.expression_messages.specs.declared.expression.SortOrder.{SortOrder}
use Rattle.expression_messages.specs.declared.expression.Expr.{Expr}
use Rattle.expression_messages.specs.Messages.{message_at, messages_at, repeated_fields, messages_fields}
use Rattle.expression_messages.specs.Expressions.{expr_at, alias_at, sort_order_at}
use Rattle.expression_messages.specs.Spelled.{expr_fields, alias_fields, sort_order_fields}
use Rattle.expression_messages.specs.Depths.{largest, expr_depth, alias_depth, sort_order_depth}
use Rattle.expression_messages.specs.Known.{is_known_expr, HasExprBits, HasAliasBits, HasSortOrderBits}
use Rattle.expression_messages.specs.Laws.{IsShort}
use Rattle.expression_messages.proofs.Pieces.{nothing_stands, short_two, short_payload, short_messages, IsNumber, payload_piece, payloads_one, message_at-one}
use Rattle.expression_messages.proofs.TypeBack.{and_true}
use Rattle.expression_messages.proofs.ExprBack.{expr_read_back, alias_read_back, sort_order_read_back}
use Rattle.expression_relations.specs.declared.project.Project.{Project}
use Rattle.expression_relations.specs.declared.filter.Filter.{Filter}
use Rattle.expression_relations.specs.declared.join.Join.{Join}
use Rattle.expression_relations.specs.declared.sort.Sort.{Sort}
use Rattle.expression_relations.specs.declared.aggregate.Aggregate.{Aggregate}
use Rattle.expression_relations.specs.declared.drop_columns.DropColumns.{DropColumns}
use Rattle.expression_relations.specs.declared.with_columns.WithColumns.{WithColumns}
use Rattle.expression_relations.specs.Reading.{project_of, filter_of, join_of, sort_of, aggregate_of, drop_columns_of, with_columns_of}
use Rattle.expression_relations.specs.Spelled.{project_rest, filter_rest, join_rest, sort_rest, aggregate_rest, drop_columns_rest, with_columns_rest}
use Rattle.expression_relations.specs.Depths.{condition_depth, project_depth, filter_depth, join_depth, sort_depth, aggregate_depth, drop_columns_depth, with_columns_depth}
use Rattle.expression_relations.specs.Known.{is_known_condition, is_known_project, is_known_filter, is_known_join, is_known_sort, is_known_aggregate, is_known_drop_columns, is_known_with_columns, HasProjectBits, HasFilterBits, HasJoinBits, HasSortBits, HasAggregateBits, HasDropColumnsBits, HasWithColumnsBits}
use Rattle.field_groups.proofs.Rests.{RestBack, one_rest, two_rest, three_rest}
use Rattle.field_groups.proofs.Scalars.{is_2, is_3, is_4, is_5, no_payloads}
use Rattle.expression_relations.proofs.Groups.{GroupBack, int_group, flag_group, texts_group, messages_group, items_back}
use Rattle.expression_relations.proofs.Agree.{with_expressions, with_condition, with_aliases}

-- ---- groups of expressions, aliases and sort orders

exprs_group : (level : ℕ) (kind : MessageKind) (number : ℕ) (exprs : List Expr) → IsNumber number → payload_of kind number ≡ Message kinds.Expression → list_all is_known_expr exprs ≡ true →
    AllByRecursion HasExprBits exprs → IsShort (messages_fields expr_fields number exprs) → largest (map expr_depth exprs) ≤ level →
    GroupBack level kind number (messages_fields expr_fields number exprs) (messages_at (expr_at level) number) exprs
exprs_group level kind number exprs is_number is known bits short deep =
    messages_group level kind kinds.Expression number expr_fields (expr_at level) exprs is_number is
    (items_back level kinds.Expression expr_fields (expr_at level) is_known_expr HasExprBits expr_depth (expr_read_back level) exprs known bits (short_messages expr_fields number exprs short) deep)

aliases_group : (level : ℕ) (kind : MessageKind) (number : ℕ) (aliases : List (Alias Expr)) → IsNumber number → payload_of kind number ≡ Message kinds.Alias →
    list_all (λ alias. is_known_expr alias.expr) aliases ≡ true → AllByRecursion HasAliasBits aliases → IsShort (messages_fields alias_fields number aliases) → largest (map alias_depth aliases) ≤ level →
    GroupBack level kind number (messages_fields alias_fields number aliases) (messages_at (alias_at level) number) aliases
aliases_group level kind number aliases is_number is known bits short deep =
    messages_group level kind kinds.Alias number alias_fields (alias_at level) aliases is_number is
    (items_back level kinds.Alias alias_fields (alias_at level) (λ alias. is_known_expr alias.expr) HasAliasBits alias_depth (alias_read_back level) aliases known bits (short_messages alias_fields number aliases short) deep)

sort_orders_group : (level : ℕ) (kind : MessageKind) (number : ℕ) (orders : List (SortOrder Expr)) → IsNumber number → payload_of kind number ≡ Message kinds.SortOrder →
    list_all (λ order. is_known_expr order.child) orders ≡ true → AllByRecursion HasSortOrderBits orders → IsShort (messages_fields sort_order_fields number orders) → largest (map sort_order_depth orders) ≤ level →
    GroupBack level kind number (messages_fields sort_order_fields number orders) (messages_at (sort_order_at level) number) orders
sort_orders_group level kind number orders is_number is known bits short deep =
    messages_group level kind kinds.SortOrder number sort_order_fields (sort_order_at level) orders is_number is
    (items_back level kinds.SortOrder sort_order_fields (sort_order_at level) (λ order. is_known_expr order.child) HasSortOrderBits sort_order_depth (sort_order_read_back level) orders known bits (short_messages sort_order_fields number orders short) deep)

expr_group : (level : ℕ) (kind : MessageKind) (number : ℕ) (expr : Expr) → IsNumber number → payload_of kind number ≡ Message kinds.Expression → IsTrue (is_known_expr expr) → HasExprBits expr →
    IsShort (payload_fields number (spell (expr_fields expr))) → expr_depth expr ≤ level →
    GroupBack level kind number (payload_fields number (spell (expr_fields expr))) (λ fields. expr_at level (message_at number fields)) expr
expr_group level kind number expr is_number is known bits short deep =
    let payload = spell (expr_fields expr) in
    let few = short_payload number payload short in
    let back = expr_read_back level expr known bits few deep in
    record {
      piece = payload_piece level kind number (Message kinds.Expression) payload is_number is back.sound few;
      same = λ whole reads. ap (expr_at level) (message_at-one number whole payload (reads.payloads_are ∙ payloads_one number payload)) ∙ back.same;
    }

condition_group : (level : ℕ) (kind : MessageKind) (number : ℕ) (condition : Option Expr) → IsNumber number → payload_of kind number ≡ Message kinds.Expression → is_known_condition condition ≡ true → IfSome condition HasExprBits →
    IsShort (optional_payload_fields number (option_map (λ expr. spell (expr_fields expr)) condition)) → condition_depth condition ≤ level →
    GroupBack level kind number (optional_payload_fields number (option_map (λ expr. spell (expr_fields expr)) condition)) (λ fields. option_map (expr_at level) (merged number fields)) condition
condition_group level kind number None is_number is known bits short deep = record {
  piece = record { stands = nothing_stands level kind; numbered = tt };
  same = λ whole reads. ap (λ (ps : List (List ℕ)). option_map (expr_at level) (joined ps)) (reads.payloads_are ∙ no_payloads number);
}
condition_group level kind number (Some expr) is_number is known bits short deep =
    let payload = spell (expr_fields expr) in
    let few = short_payload number payload short in
    let back = expr_read_back level expr known bits few deep in
    record {
      piece = payload_piece level kind number (Message kinds.Expression) payload is_number is back.sound few;
      same = λ whole reads.
          ap (λ (ps : List (List ℕ)). option_map (expr_at level) (joined ps)) (reads.payloads_are ∙ payloads_one number payload)
          ∙ ap (λ (fields : List Field). Some (expr_at level fields)) (append-nil (fields_of payload))
          ∙ ap (λ (e : Expr). Some e) back.same;
    }

-- ---- the messages

pub project_back : {R : Type 0} (level : ℕ) (it : Project R) → IsTrue (is_known_project it) → HasProjectBits it → IsShort (project_rest it) → project_depth it ≤ level →
    RestBack level 1 kinds.Project (project_rest it) (project_of level it.input) it
unfolding payload_of with_expressions
project_back level it known bits short deep =
    let expressions = exprs_group level kinds.Project 3 it.expressions is_3 refl known bits short deep in
    one_rest level 1 3 kinds.Project (project_rest it) (project_of level it.input) it expressions.piece (omega arith)
    (λ whole reads. ap (with_expressions it.input) (expressions.same whole reads))

pub filter_back : {R : Type 0} (level : ℕ) (it : Filter R) → IsTrue (is_known_filter it) → HasFilterBits it → IsShort (filter_rest it) → filter_depth it ≤ level →
    RestBack level 1 kinds.Filter (filter_rest it) (filter_of level it.input) it
unfolding payload_of with_condition
filter_back level it known bits short deep =
    let condition = expr_group level kinds.Filter 2 it.condition is_2 refl known bits short deep in
    one_rest level 1 2 kinds.Filter (filter_rest it) (filter_of level it.input) it condition.piece (omega arith)
    (λ whole reads. ap (with_condition it.input) (condition.same whole reads))

same_join : {R : Type 0} (left right : R) {condition condition2 : Option Expr} {kind kind2 : ℤ} {columns columns2 : List (List ℕ)} → condition ≡ condition2 → kind ≡ kind2 → columns ≡ columns2 →
    ◌≡◌ {A = Join R} (record { left = left; right = right; join_condition = condition; join_type = kind; using_columns = columns })
    (record { left = left; right = right; join_condition = condition2; join_type = kind2; using_columns = columns2 })
same_join left right condition_is kind_is columns_are = rw condition_is (rw kind_is (rw columns_are refl))

pub join_back : {R : Type 0} (level : ℕ) (it : Join R) → IsTrue (is_known_join it) → HasJoinBits it → IsShort (join_rest it) → join_depth it ≤ level →
    RestBack level 2 kinds.Join (join_rest it) (join_of level it.left it.right) it
unfolding payload_of
join_back level it known bits short deep =
    let condition_fields = optional_payload_fields 3 (option_map (λ expr. spell (expr_fields expr)) it.join_condition) in
    let kind_fields = int_fields 4 it.join_type in
    let column_fields = repeated_fields 5 it.using_columns in
    let last = short_two (condition_fields ++ kind_fields) column_fields short in
    let first = short_two condition_fields kind_fields last.0 in
    let condition = condition_group level kinds.Join 3 it.join_condition is_3 refl known bits.join_condition first.0 deep in
    let kind = int_group level kinds.Join 4 it.join_type is_4 bits.join_type in
    let columns = texts_group level kinds.Join 5 it.using_columns is_5 refl bits.using_columns last.1 in
    three_rest level 2 3 4 5 kinds.Join condition_fields kind_fields column_fields (join_of level it.left it.right) it
    condition.piece kind.piece columns.piece (omega arith) (omega arith) (omega arith)
    (λ whole a b c. same_join it.left it.right (condition.same whole a) (kind.same whole b) (columns.same whole c))

same_sort : {R : Type 0} (input : R) {order order2 : List (SortOrder Expr)} {global global2 : Option Bool} → order ≡ order2 → global ≡ global2 →
    ◌≡◌ {A = Sort R} (record { input = input; order = order; is_global = global }) (record { input = input; order = order2; is_global = global2 })
same_sort input order_is global_is = rw order_is (rw global_is refl)

pub sort_back : {R : Type 0} (level : ℕ) (it : Sort R) → IsTrue (is_known_sort it) → HasSortBits it → IsShort (sort_rest it) → sort_depth it ≤ level →
    RestBack level 1 kinds.Sort (sort_rest it) (sort_of level it.input) it
unfolding payload_of
sort_back level it known bits short deep =
    let order_fields = messages_fields sort_order_fields 2 it.order in
    let global_fields = optional_bool_fields 3 it.is_global in
    let order = sort_orders_group level kinds.Sort 2 it.order is_2 refl known bits (short_two order_fields global_fields short).0 deep in
    let global = flag_group level kinds.Sort 3 it.is_global is_3 in
    two_rest level 1 2 3 kinds.Sort order_fields global_fields (sort_of level it.input) it order.piece global.piece (omega arith) (omega arith)
    (λ whole a b. same_sort it.input (order.same whole a) (global.same whole b))

same_aggregate : {R : Type 0} (input : R) {kind kind2 : ℤ} {grouping grouping2 aggregates aggregates2 : List Expr} → kind ≡ kind2 → grouping ≡ grouping2 → aggregates ≡ aggregates2 →
    ◌≡◌ {A = Aggregate R} (record { input = input; group_type = kind; grouping_expressions = grouping; aggregate_expressions = aggregates })
    (record { input = input; group_type = kind2; grouping_expressions = grouping2; aggregate_expressions = aggregates2 })
same_aggregate input kind_is grouping_is aggregates_are = rw kind_is (rw grouping_is (rw aggregates_are refl))

pub aggregate_back : {R : Type 0} (level : ℕ) (it : Aggregate R) → IsTrue (is_known_aggregate it) → HasAggregateBits it → IsShort (aggregate_rest it) → aggregate_depth it ≤ level →
    RestBack level 1 kinds.Aggregate (aggregate_rest it) (aggregate_of level it.input) it
unfolding payload_of
aggregate_back level it known bits short deep =
    let kind_fields = int_fields 2 it.group_type in
    let grouping_fields = messages_fields expr_fields 3 it.grouping_expressions in
    let aggregate_fields = messages_fields expr_fields 4 it.aggregate_expressions in
    let last = short_two (kind_fields ++ grouping_fields) aggregate_fields short in
    let first = short_two kind_fields grouping_fields last.0 in
    let both = and_true (list_all is_known_expr it.grouping_expressions) (list_all is_known_expr it.aggregate_expressions) known in
    let kind = int_group level kinds.Aggregate 2 it.group_type is_2 bits.group_type in
    let grouping = exprs_group level kinds.Aggregate 3 it.grouping_expressions is_3 refl both.0 bits.grouping_expressions first.1 (omega arith) in
    let aggregates = exprs_group level kinds.Aggregate 4 it.aggregate_expressions is_4 refl both.1 bits.aggregate_expressions last.1 (omega arith) in
    three_rest level 1 2 3 4 kinds.Aggregate kind_fields grouping_fields aggregate_fields (aggregate_of level it.input) it
    kind.piece grouping.piece aggregates.piece (omega arith) (omega arith) (omega arith)
    (λ whole a b c. same_aggregate it.input (kind.same whole a) (grouping.same whole b) (aggregates.same whole c))

same_drop : {R : Type 0} (input : R) {columns columns2 : List Expr} {names names2 : List (List ℕ)} → columns ≡ columns2 → names ≡ names2 →
    ◌≡◌ {A = DropColumns R} (record { input = input; columns = columns; column_names = names }) (record { input = input; columns = columns2; column_names = names2 })
same_drop input columns_are names_are = rw columns_are (rw names_are refl)

pub drop_columns_back : {R : Type 0} (level : ℕ) (it : DropColumns R) → IsTrue (is_known_drop_columns it) → HasDropColumnsBits it → IsShort (drop_columns_rest it) → drop_columns_depth it ≤ level →
    RestBack level 1 kinds.Drop (drop_columns_rest it) (drop_columns_of level it.input) it
unfolding payload_of
drop_columns_back level it known bits short deep =
    let column_fields = messages_fields expr_fields 2 it.columns in
    let name_fields = repeated_fields 3 it.column_names in
    let shorts = short_two column_fields name_fields short in
    let columns = exprs_group level kinds.Drop 2 it.columns is_2 refl known bits.columns shorts.0 deep in
    let names = texts_group level kinds.Drop 3 it.column_names is_3 refl bits.column_names shorts.1 in
    two_rest level 1 2 3 kinds.Drop column_fields name_fields (drop_columns_of level it.input) it columns.piece names.piece (omega arith) (omega arith)
    (λ whole a b. same_drop it.input (columns.same whole a) (names.same whole b))

pub with_columns_back : {R : Type 0} (level : ℕ) (it : WithColumns R) → IsTrue (is_known_with_columns it) → HasWithColumnsBits it → IsShort (with_columns_rest it) → with_columns_depth it ≤ level →
    RestBack level 1 kinds.WithColumns (with_columns_rest it) (with_columns_of level it.input) it
unfolding payload_of with_aliases
with_columns_back level it known bits short deep =
    let aliases = aliases_group level kinds.WithColumns 2 it.aliases is_2 refl known bits short deep in
    one_rest level 1 2 kinds.WithColumns (with_columns_rest it) (with_columns_of level it.input) it aliases.piece (omega arith)
    (λ whole reads. ap (with_aliases it.input) (aliases.same whole reads))
