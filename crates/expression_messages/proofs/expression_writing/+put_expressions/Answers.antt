-- What is written piece by piece is the message.
use Rattle.std.proofs.Common.{◌≡◌, ℕ, ◌-◌, ◌++◌, List, take, sym, ap, ◌∙◌, arith, SFits, w32, rules}
use Rattle.std.proofs.lemmas.Int.{to_z-of_z}
use Rattle.std.proofs.lemmas.Result.{on_ok_weaker}
use Rattle.proto_fields.specs.Spelling.{spell, payload_fields, int_fields, text_fields, bool_fields}
use Rattle.expression_messages.specs.declared.expression.Expr.{Expr}
use Rattle.expression_messages.specs.Messages.{repeated_fields, messages_fields}
use Rattle.expression_messages.specs.Spelled.{target_fields, function_fields, expr_fields}
use Rattle.expression_messages.proofs.ExprCases.{expr_fields-UnresolvedFunction}
use Rattle.expression_messages.proofs.Written.{stand_two, stand_three, messages_more, messages_none}
use Rattle.expression_messages.proofs.expression_writing.+put_expressions.Goals as goal

pub put_exprs-returns : goal.put_exprs-returns
put_exprs-returns t c =
    sym (messages_none expr_fields c.args.number c.args.exprs.now c.loop-index.index c.loop-index.out (omega arith)) ∙ c.loop-index.invariant

pub put_exprs-loop-index-preserved : goal.put_exprs-loop-index-preserved
put_exprs-loop-index-preserved t c =
    let expr = c.index-exprs-index.result in
    let left = messages_fields expr_fields c.args.number (take (c.loop-index.index - 1) c.args.exprs.now) in
    let head = c.in_ok-put_message_head.ensures.ok (spell (expr_fields expr)) c.loop-index.out c.in_ok-put_expr.ensures (sym c.len-end.ensures) in
    ap (λ (bytes : List ℕ). spell left ++ bytes) head
    ∙ messages_more expr_fields c.args.number c.args.exprs.now c.loop-index.index expr c.loop-index.out (omega arith) (omega arith) c.index-exprs-index.is
    ∙ c.loop-index.invariant

pub put_alias-returns : goal.put_alias-returns
put_alias-returns t c =
    let alias = c.args.alias.now in
    let inner = expr_fields alias.expr in
    let names = c.in_ok-put_texts.ensures ∙ ap (λ (texts : List (List ℕ)). spell (repeated_fields 2 texts) ++ c.args.out.now) c.as_slice.ensures in
    let stands : c.put_expr.new.out ≡ spell inner ++ c.put_texts.new.out =
    c.in_ok-put_expr.ensures ∙ ap (λ e. spell (expr_fields e) ++ c.put_texts.new.out) c.get.ensures in
    on_ok_weaker c.put_message_head.result
    (stand_two (payload_fields 1 (spell inner)) (repeated_fields 2 alias.name) c.args.out.now c.put_texts.new.out c.put_message_head.new.out names)
    (c.put_message_head.ensures.ok (spell inner) c.put_texts.new.out stands (sym c.len-end.ensures))

pub put_cast-returns : goal.put_cast-returns
put_cast-returns t c =
    let cast = c.args.cast.now in
    let inner = expr_fields cast.expr in
    let stands : c.put_expr.new.out ≡ spell inner ++ c.put_target.new.out =
    c.in_ok-put_expr.ensures ∙ ap (λ e. spell (expr_fields e) ++ c.put_target.new.out) c.get.ensures in
    on_ok_weaker c.put_message_head.result
    (stand_two (payload_fields 1 (spell inner)) (target_fields cast.target) c.args.out.now c.put_target.new.out c.put_message_head.new.out c.in_ok-put_target.ensures)
    (c.put_message_head.ensures.ok (spell inner) c.put_target.new.out stands (sym c.len-end.ensures))

pub put_sort_order-returns : goal.put_sort_order-returns
put_sort_order-returns t c =
    let order = c.args.order.now in
    let inner = expr_fields order.child in
    let fits-direction : SFits w32 order.direction = search rules in
    let fits-null_ordering : SFits w32 order.null_ordering = search rules in
    let nulls = simp to_z-of_z at c.in_ok-put_int32.ensures.ok in
    let direction = simp to_z-of_z at c.in_ok-put_int32-2.ensures.ok in
    let stands : c.put_expr.new.out ≡ spell inner ++ c.put_int32-2.new.self =
    c.in_ok-put_expr.ensures ∙ ap (λ e. spell (expr_fields e) ++ c.put_int32-2.new.self) c.get.ensures in
    on_ok_weaker c.put_message_head.result
    (stand_three (payload_fields 1 (spell inner)) (int_fields 2 order.direction) (int_fields 3 order.null_ordering) c.args.out.now c.put_int32.new.self c.put_int32-2.new.self c.put_message_head.new.out nulls direction)
    (c.put_message_head.ensures.ok (spell inner) c.put_int32-2.new.self stands (sym c.len-end.ensures))

pub put_expr-returns-in_ok-put_text-in-UnresolvedFunction : goal.put_expr-returns-in_ok-put_text-in-UnresolvedFunction
put_expr-returns-in_ok-put_text-in-UnresolvedFunction t c =
    let function = c.in-UnresolvedFunction.function in
    let out = c.args.out.now in
    let name = text_fields 1 function.function_name in
    let arguments = messages_fields expr_fields 2 function.arguments in
    let distinct = bool_fields 3 function.is_distinct in
    let exprs : c.put_exprs.new.out ≡ spell arguments ++ c.put_bool.new.self =
    c.in_ok-put_exprs-in-UnresolvedFunction.ensures ∙ ap (λ (es : List Expr). spell (messages_fields expr_fields 2 es) ++ c.put_bool.new.self) c.as_slice.ensures in
    let text : c.put_text.new.self ≡ spell name ++ c.put_exprs.new.out =
    c.in_ok-put_text-in-UnresolvedFunction.ensures.ok ∙ ap (λ (n : List ℕ). spell (text_fields 1 n) ++ c.put_exprs.new.out) c.as_str.ensures in
    let whole : c.put_text.new.self ≡ spell (function_fields expr_fields function) ++ out =
    stand_three name arguments distinct out c.put_bool.new.self c.put_exprs.new.out c.put_text.new.self c.in_ok-put_bool-in-UnresolvedFunction.ensures.ok exprs text in
    rw (c.in-UnresolvedFunction.is, expr_fields-UnresolvedFunction)
    (c.put_message_head-in-UnresolvedFunction.ensures.ok (spell (function_fields expr_fields function)) out whole (sym c.len-end.ensures))
