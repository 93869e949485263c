-- Each return is what the message's fields say at this level.
use Rattle.std.proofs.Common.{◌≡◌, ℕ, ◌<◌, ◌-◌, List, refl, sym, ap, ◌∙◌, arith}
use Rattle.std.proofs.lemmas.Result.{IfOk-weaker}
use Rattle.proto_fields.specs.Views.{seen, member_of}
use Rattle.expression_messages.specs.declared.expression.Expr.{Expr}
use Rattle.expression_messages.specs.Types.{type_at}
use Rattle.expression_messages.specs.Expressions.{expr_member, expr_at}
use Rattle.expression_messages.proofs.Levels.{expr_at-zero, expr_at-None, expr_at-Some}
use Rattle.expression_messages.proofs.expression_reading.+expressions.Goals as goal

pub expr_from-returns-then-level-eq0 : goal.expr_from-returns-then-level-eq0
expr_from-returns-then-level-eq0 t c = sym (expr_at-zero c.args.level (seen c.args.items.now) c.if-level-eq0.true)

pub expr_from-returns-in-None : goal.expr_from-returns-in-None
expr_from-returns-in-None t c = sym (expr_at-None c.args.level (seen c.args.items.now) (omega arith) (sym c.in-None.ensures))

pub expr_from-returns-in-Some : goal.expr_from-returns-in-Some
expr_from-returns-in-Some t c =
    let member = member_of c.in-Some.member in
    let whole = expr_at-Some c.args.level (seen c.args.items.now) member (omega arith) (sym c.in-Some.ensures) in
    let level : c.saturating_sub.result ≡ c.args.level - 2 = c.saturating_sub.ensures in
    let inner = ap (λ (n : ℕ). expr_member (type_at n) (expr_at n) member) level in
    let read = c.saturating_sub.result in
    let left : Expr → Type 0 = λ expr. expr ≡ expr_member (type_at read) (expr_at read) member in
    let asked : Expr → Type 0 = λ expr. expr ≡ expr_at c.args.level (seen c.args.items.now) in
    IfOk-weaker c.expr_of_member.result left asked (λ expr is. is ∙ inner ∙ sym whole) c.expr_of_member.ensures
