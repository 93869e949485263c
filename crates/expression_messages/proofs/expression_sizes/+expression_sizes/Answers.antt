-- Sizes of fields one after another.
use Rattle.std.proofs.Common.{◌≡◌, ℕ, ℤ, List, ap, sym, ◌∙◌, arith, SFits, w32, w64, rules}
use Rattle.std.proofs.lemmas.Int.{to_z-of_z}
use Rattle.proto_fields.specs.Spelling.{spell, text_fields, payload_fields, bool_fields, int_fields}
use Rattle.proto_fields.specs.Sizes.{size_of}
use Rattle.expression_messages.specs.declared.expression.Expr.{Expr}
use Rattle.expression_messages.specs.Messages.{repeated_fields, messages_fields}
use Rattle.expression_messages.specs.Spelled.{target_fields, function_fields, expr_fields}
use Rattle.expression_messages.proofs.ExprCases.{expr_fields-UnresolvedFunction}
use Rattle.expression_messages.proofs.Measured.{size_of_nil, sized_two, sized_three, messages_sized}
use Rattle.expression_messages.proofs.expression_sizes.+expression_sizes.Goals as goal

pub exprs_size-loop-expr-init : goal.exprs_size-loop-expr-init
exprs_size-loop-expr-init t c = size_of_nil

pub exprs_size-loop-expr-preserved : goal.exprs_size-loop-expr-preserved
exprs_size-loop-expr-preserved t c =
    let expr = c.expr-item.result in
    messages_sized expr_fields c.args.number c.args.exprs.now c.loop-expr.expr-index expr c.loop-expr.total c.message_size.result c.saturating_add-total.result
    (omega arith) c.expr-item.is c.loop-expr.invariant (c.message_size.ensures (expr_fields expr) c.expr_size.ensures) c.saturating_add-total.ensures

pub alias_size-returns : goal.alias_size-returns
alias_size-returns t c =
    let alias = c.args.alias.now in
    let expr = c.message_size-expr.ensures (expr_fields alias.expr) (c.expr_size.ensures ∙ ap (λ (e : Expr). size_of (expr_fields e)) c.get.ensures) in
    let names = c.texts_size.ensures ∙ ap (λ (texts : List (List ℕ)). size_of (repeated_fields 2 texts)) c.as_slice.ensures in
    sized_two (payload_fields 1 (spell (expr_fields alias.expr))) (repeated_fields 2 alias.name) c.message_size-expr.result c.texts_size.result c.saturating_add.result expr names c.saturating_add.ensures

pub cast_size-returns : goal.cast_size-returns
cast_size-returns t c =
    let cast = c.args.cast.now in
    let expr = c.message_size-expr.ensures (expr_fields cast.expr) (c.expr_size.ensures ∙ ap (λ (e : Expr). size_of (expr_fields e)) c.get.ensures) in
    sized_two (payload_fields 1 (spell (expr_fields cast.expr))) (target_fields cast.target) c.message_size-expr.result c.target_size.result c.saturating_add.result expr c.target_size.ensures c.saturating_add.ensures

pub sort_order_size-returns : goal.sort_order_size-returns
sort_order_size-returns t c =
    let order = c.args.order.now in
    let fits-direction : SFits w32 order.direction = search rules in
    let fits-null_ordering : SFits w32 order.null_ordering = search rules in
    let child = c.message_size-child.ensures (expr_fields order.child) (c.expr_size.ensures ∙ ap (λ (e : Expr). size_of (expr_fields e)) c.get.ensures) in
    let direction-is = simp to_z-of_z at c.from.ensures in
    let nulls-is = simp to_z-of_z at c.from-2.ensures in
    let wide-direction : SFits w64 c.from.result = search rules in
    let wide-nulls : SFits w64 c.from-2.result = search rules in
    let direction-size = simp to_z-of_z at c.int_size-direction.ensures.size in
    let nulls-size = simp to_z-of_z at c.int_size-null_ordering.ensures.size in
    let direction : c.int_size-direction.result ≡ size_of (int_fields 2 order.direction) =
    direction-size ∙ ap (λ (z : ℤ). size_of (int_fields 2 z)) direction-is in
    let nulls : c.int_size-null_ordering.result ≡ size_of (int_fields 3 order.null_ordering) =
    nulls-size ∙ ap (λ (z : ℤ). size_of (int_fields 3 z)) nulls-is in
    sized_three (payload_fields 1 (spell (expr_fields order.child))) (int_fields 2 order.direction) (int_fields 3 order.null_ordering)
    c.message_size-child.result c.int_size-direction.result c.int_size-null_ordering.result c.saturating_add.result c.saturating_add-2.result
    child direction nulls c.saturating_add.ensures c.saturating_add-2.ensures

pub expr_size-returns-in-UnresolvedFunction : goal.expr_size-returns-in-UnresolvedFunction
expr_size-returns-in-UnresolvedFunction t c =
    let function = c.in-UnresolvedFunction.function in
    let name = c.text_size-name.ensures ∙ ap (λ (n : List ℕ). size_of (text_fields 1 n)) c.as_str.ensures in
    let arguments = c.exprs_size-arguments.ensures ∙ ap (λ (es : List Expr). size_of (messages_fields expr_fields 2 es)) c.as_slice.ensures in
    let whole = sized_three (text_fields 1 function.function_name) (messages_fields expr_fields 2 function.arguments) (bool_fields 3 function.is_distinct)
    c.text_size-name.result c.exprs_size-arguments.result c.bool_size.result c.saturating_add-size.result c.saturating_add.result
    name arguments c.bool_size.ensures.size c.saturating_add-size.ensures c.saturating_add.ensures in
    rw (c.in-UnresolvedFunction.is, expr_fields-UnresolvedFunction) (c.message_size-in-UnresolvedFunction.ensures (function_fields expr_fields function) whole)
