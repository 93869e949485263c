-- Each form of an expression.
use Rattle.expression_messages.specs.declared.expression.Expr.TheVariants.{outs-Literal, outs-UnresolvedAttribute, outs-UnresolvedFunction, outs-UnresolvedStar, outs-Alias, outs-Cast, outs-SortOrder, outs-Other}
use Rattle.plan_model.specs.declared.expression.TypedExpr.TheVariants as typed

pub ruleset forms = (outs-Literal, outs-UnresolvedAttribute, outs-UnresolvedFunction, outs-UnresolvedStar, outs-Alias, outs-Cast, outs-SortOrder, outs-Other)

pub ruleset typed_forms = (typed.outs-Column, typed.outs-Literal, typed.outs-Call, typed.outs-Cast)
