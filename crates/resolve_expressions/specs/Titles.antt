-- The name of a column whose expression has no alias, after Spark SQL's.
use Rattle.std.specs.Prelude.{ℕ, zero, suc, ℤ, nat_eq, Bool, true, false, ◌&&◌, if◌then◌else◌, List, [], ◌∷◌, ◌++◌, length, Option, Some, None, codes, option_and_then, option_map, unwrap_or}
use Rattle.std.specs.Str.{str_to_ascii_lowercase}
use Rattle.cn_types.specs.declared.value.Value.TheVariants as value
use Rattle.cn_types.specs.Printed.{printed}
use Rattle.expression_messages.specs.declared.literal.Literal.{Literal}
use Rattle.expression_messages.specs.declared.expression.UnresolvedAttribute.{UnresolvedAttribute}
use Rattle.expression_messages.specs.declared.expression.UnresolvedFunction.{UnresolvedFunction}
use Rattle.expression_messages.specs.declared.expression.Expr.{Expr}
use Rattle.expression_messages.specs.declared.expression.Expr.TheOpen.{Expr-F}
use Rattle.expression_messages.specs.declared.expression.Expr.TheFolds.{fold-Expr}
use Rattle.plan_model.specs.declared.function.Function.{Function}
use Rattle.plan_model.specs.DateFunctions.{is_day}
use Rattle.resolve_functions.specs.FunctionNames.{function_named}

-- a date that no value has has no name either
abbrev pub date_title : ℤ → List ℕ
date_title days = if is_day days then printed (value.Date days) else []

-- a literal has its printed value as its name, a null `NULL`
abbrev pub literal_title : Literal → List ℕ
literal_title (Literal.Null kind) = codes "NULL"
literal_title (Literal.Boolean b) = printed (value.Boolean b)
literal_title (Literal.Integer n) = printed (value.Integer n)
literal_title (Literal.Long n) = printed (value.Long n)
literal_title (Literal.String text) = printed (value.Text text)
literal_title (Literal.Date days) = date_title days
literal_title Literal.Absent = []

-- the operators of two sides, each in the one form that names have it in
abbrev pub operator_text : Function → Option (List ℕ)
operator_text Function.Add = Some (codes "+")
operator_text Function.Subtract = Some (codes "-")
operator_text Function.Multiply = Some (codes "*")
operator_text Function.Remainder = Some (codes "%")
operator_text Function.IntegralDivide = Some (codes "div")
operator_text Function.EqualTo = Some (codes "=")
operator_text Function.NotEqualTo = Some (codes "!=")
operator_text Function.LessThan = Some (codes "<")
operator_text Function.LessThanOrEqual = Some (codes "<=")
operator_text Function.GreaterThan = Some (codes ">")
operator_text Function.GreaterThanOrEqual = Some (codes ">=")
operator_text Function.EqualNullSafe = Some (codes "<=>")
operator_text Function.And = Some (codes "and")
operator_text Function.Or = Some (codes "or")
operator_text function = None

-- the function that is named before its one side
abbrev pub is_not : Function → Bool
is_not Function.Not = true
is_not function = false

-- the operator of a function's name
abbrev pub operator_of : List ℕ → Option (List ℕ)
operator_of name = option_and_then operator_text (function_named name)

abbrev pub is_negation : List ℕ → Bool
is_negation name = unwrap_or (option_map is_not (function_named name)) false

-- texts with this text between each two
abbrev pub joined : List ℕ → List (List ℕ) → List ℕ
joined between [] = []
joined between (text ∷ []) = text
joined between (text ∷ next ∷ texts) = text ++ (between ++ joined between (next ∷ texts))

-- what stands between a text and the one before it, where there is one
abbrev pub gap : ℕ → List ℕ → List ℕ
gap zero between = []
gap (suc place) between = between

-- an operator with spaces about it
abbrev pub spaced : List ℕ → List ℕ
spaced operator = codes " " ++ operator ++ codes " "

-- what stands before the arguments of a call
abbrev pub opening : Bool → List ℕ
opening distinct = if distinct then codes "(DISTINCT " else codes "("

-- a call by its function's name in lower case, with commas between its arguments
abbrev pub plain_title : List ℕ → Bool → List (List ℕ) → List ℕ
plain_title name distinct arguments =
    str_to_ascii_lowercase name ++ opening distinct ++ joined (codes ", ") arguments ++ codes ")"

-- `(l op r)`; an operator without two sides is written as a call
abbrev pub operator_title : Option (List ℕ) → List ℕ → Bool → List (List ℕ) → List ℕ
operator_title (Some operator) name distinct (left ∷ right ∷ []) = codes "(" ++ (left ++ (spaced operator ++ right)) ++ codes ")"
operator_title operator name distinct arguments = plain_title name distinct arguments

-- `(NOT x)`
abbrev pub negation_title : Bool → List ℕ → Bool → List (List ℕ) → List ℕ
negation_title true name distinct (side ∷ []) = codes "(NOT " ++ side ++ codes ")"
negation_title negation name distinct arguments = operator_title (operator_of name) name distinct arguments

unfoldable pub call_title : UnresolvedFunction (List ℕ) → List ℕ
call_title f = negation_title (is_negation f.function_name) f.function_name f.is_distinct f.arguments

-- whether a call is `not` of one side; and the operator with spaces about it, where there are two sides
abbrev pub is_negated : {X : Type 0} → UnresolvedFunction X → Bool
is_negated f = nat_eq (length f.arguments) 1 && is_negation f.function_name

abbrev pub operator_between : {X : Type 0} → UnresolvedFunction X → Option (List ℕ)
operator_between f = if nat_eq (length f.arguments) 2 then option_map spaced (operator_of f.function_name) else None

-- one expression, with the name of each expression in it in its place. An attribute is named by its column; a cast as what it casts; the star
-- of a count as `1`
abbrev pub title_step : (UnresolvedAttribute → List ℕ) → Expr-F (List ℕ) → List ℕ
title_step column_name (Expr-F.Literal literal) = literal_title literal
title_step column_name (Expr-F.UnresolvedAttribute attribute) = column_name attribute
title_step column_name (Expr-F.UnresolvedFunction f) = call_title f
title_step column_name (Expr-F.UnresolvedStar star) = codes "1"
title_step column_name (Expr-F.Alias alias) = alias.expr
title_step column_name (Expr-F.Cast cast) = cast.expr
title_step column_name (Expr-F.SortOrder order) = order.child
title_step column_name (Expr-F.Other number) = []

-- the name of an expression, where attributes have these names
unfoldable pub title : (UnresolvedAttribute → List ℕ) → Expr → List ℕ
title column_name = fold-Expr (List ℕ) (title_step column_name)
