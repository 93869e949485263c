-- The type of each form of expression.
use Rattle.plan_model.proofs.ExpressionFacts.{kind_of-Column, kind_of-Literal, kind_of-Call, kind_of-Cast}

pub ruleset kinds = (kind_of-Column, kind_of-Literal, kind_of-Call, kind_of-Cast)
