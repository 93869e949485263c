use Rattle.expression_messages.proofs.Valid.{type_valid, expr_valid, alias_valid, sort_order_valid}
use Rattle.expression_messages.proofs.laws.exprs_are_valid.Goals as goal

pub returns : goal.returns
returns c = record { types = type_valid; exprs = expr_valid; aliases = alias_valid; sort_orders = sort_order_valid }
