-- Expressions are the same exactly where they are equal.
use Rattle.std.proofs.Common.{◌≡◌, ℕ, Bool, true, false, List, [], ◌∷◌, map, get_or, refl, sym, ap, ◌∙◌, subst, eq-eqb}
use Rattle.std.specs.Prelude.{◌&&◌, nat_eq}
use Rattle.std.specs.List.{AllByRecursion}
use Rattle.std.proofs.lemmas.Bool.{and_parts, eqb-true}
use Rattle.cn_types.specs.declared.value.DataType.{DataType}
use Rattle.cn_types.specs.declared.value.DataType.TheVariants as K
use Rattle.cn_types.specs.declared.value.Value.{Value}
use Rattle.cn_types.specs.Order.{value_eq}
use Rattle.plan_model.specs.declared.expression.TypedExpr.{TypedExpr}
use Rattle.plan_model.specs.declared.expression.TypedExpr.TheOpen as O
use Rattle.plan_model.specs.declared.expression.TypedExpr.TheOpen.{TypedExpr-F}
use Rattle.plan_model.specs.declared.expression.TypedExpr.TheVariants as V
use Rattle.plan_model.specs.declared.expression.TypedExpr.TheViews.{out-TypedExpr, roll-TypedExpr, roll-out-TypedExpr}
use Rattle.plan_model.specs.declared.function.Function.{Function}
use Rattle.plan_model.specs.FunctionTypes.{same_kind}
use Rattle.plan_model.proofs.ExpressionFacts.{Forms, induct}
use Rattle.plan_model.proofs.NullFacts.{same_kind-is}
use Rattle.plan_model.proofs.RowCounts.{value_exact}
use Rattle.resolve_expressions.specs.Laws.{SameIsEqual}
use Rattle.resolve_expressions.specs.Same.{all_same, number_of, same_call, same_cast, same_column, same_expr, same_function, same_literal}
use Rattle.resolve_expressions.proofs.SameForms.{same-Call, same-Cast, same-Column, same-Literal}

-- ---- functions by their numbers

functions : List Function
functions =
    Function.Add ∷
    Function.Subtract ∷
    Function.Multiply ∷
    Function.Remainder ∷
    Function.IntegralDivide ∷
    Function.Negative ∷
    Function.Abs ∷
    Function.EqualTo ∷
    Function.NotEqualTo ∷
    Function.LessThan ∷
    Function.LessThanOrEqual ∷
    Function.GreaterThan ∷
    Function.GreaterThanOrEqual ∷
    Function.EqualNullSafe ∷
    Function.And ∷
    Function.Or ∷
    Function.Not ∷
    Function.IsNull ∷
    Function.IsNotNull ∷
    Function.Coalesce ∷
    Function.When ∷
    Function.In ∷
    Function.Concat ∷
    Function.Length ∷
    Function.StartsWith ∷
    Function.EndsWith ∷
    Function.Contains ∷
    Function.Year ∷
    Function.Month ∷
    Function.DayOfMonth ∷
    Function.DateAdd ∷
    Function.DateSub ∷
    Function.DateDiff ∷
    Function.Count ∷
    Function.Sum ∷
    Function.Min ∷
    Function.Max ∷
    []

abbrev function_at : ℕ → Function
function_at n = get_or functions n Function.Add

number_back : (f : Function) → function_at (number_of f) ≡ f
unfolding functions
number_back Function.Add = refl
number_back Function.Subtract = refl
number_back Function.Multiply = refl
number_back Function.Remainder = refl
number_back Function.IntegralDivide = refl
number_back Function.Negative = refl
number_back Function.Abs = refl
number_back Function.EqualTo = refl
number_back Function.NotEqualTo = refl
number_back Function.LessThan = refl
number_back Function.LessThanOrEqual = refl
number_back Function.GreaterThan = refl
number_back Function.GreaterThanOrEqual = refl
number_back Function.EqualNullSafe = refl
number_back Function.And = refl
number_back Function.Or = refl
number_back Function.Not = refl
number_back Function.IsNull = refl
number_back Function.IsNotNull = refl
number_back Function.Coalesce = refl
number_back Function.When = refl
number_back Function.In = refl
number_back Function.Concat = refl
number_back Function.Length = refl
number_back Function.StartsWith = refl
number_back Function.EndsWith = refl
number_back Function.Contains = refl
number_back Function.Year = refl
number_back Function.Month = refl
number_back Function.DayOfMonth = refl
number_back Function.DateAdd = refl
number_back Function.DateSub = refl
number_back Function.DateDiff = refl
number_back Function.Count = refl
number_back Function.Sum = refl
number_back Function.Min = refl
number_back Function.Max = refl

function_is : (f g : Function) → same_function f g ≡ true → f ≡ g
function_is f g e = sym (number_back f) ∙ ap function_at (eqb-true (number_of f) (number_of g) e) ∙ number_back g

kind_self : (kind : DataType) → same_kind kind kind ≡ true
kind_self K.Boolean = refl
kind_self K.Integer = refl
kind_self K.Long = refl
kind_self K.Text = refl
kind_self K.Date = refl

both : (a b : Bool) → a ≡ true → b ≡ true → (a && b) ≡ true
both true b one other = other
both false b one other = cc

-- ---- what is the same is equal

abbrev IsExact : TypedExpr → Type 0
IsExact a = (b : TypedExpr) → same_expr a b ≡ true → a ≡ b

abbrev Form : Type 0
Form = TypedExpr-F TypedExpr

column_is : (place : ℕ) (kind : DataType) (form : Form) → same_column place kind form ≡ true → ◌≡◌ {A = Form} (O.Column place kind) form
column_is place kind (O.Column own own_kind) e =
    let parts = and_parts (nat_eq place own) (same_kind kind own_kind) e in
    let place_is : place ≡ own = eqb-true place own parts.0 in
    let kind_is : kind ≡ own_kind = same_kind-is kind own_kind parts.1 in
    cc
column_is place kind (O.Literal value own_kind) e = cc
column_is place kind (O.Call function arguments own_kind) e = cc
column_is place kind (O.Cast child own_kind) e = cc

literal_is : (value : Value) (kind : DataType) (form : Form) → same_literal value kind form ≡ true → ◌≡◌ {A = Form} (O.Literal value kind) form
literal_is value kind (O.Literal own own_kind) e =
    let parts = and_parts (value_eq value own) (same_kind kind own_kind) e in
    let value_is : value ≡ own = (value_exact value own).0 parts.0 in
    let kind_is : kind ≡ own_kind = same_kind-is kind own_kind parts.1 in
    cc
literal_is value kind (O.Column place own_kind) e = cc
literal_is value kind (O.Call function arguments own_kind) e = cc
literal_is value kind (O.Cast child own_kind) e = cc

all_exact : (exprs : List TypedExpr) → AllByRecursion IsExact exprs → (others : List TypedExpr) → all_same (map same_expr exprs) others ≡ true → exprs ≡ others
all_exact [] all [] e = refl
all_exact [] all (other ∷ others) e = cc
all_exact (expr ∷ exprs) all [] e = cc
all_exact (expr ∷ exprs) all (other ∷ others) e =
    let parts = and_parts (same_expr expr other) (all_same (map same_expr exprs) others) e in
    let first : expr ≡ other = all.0 other parts.0 in
    let rest : exprs ≡ others = all_exact exprs all.1 others parts.1 in
    cc

call_is : (function : Function) (arguments : List TypedExpr) (kind : DataType) → AllByRecursion IsExact arguments → (form : Form) →
    same_call function (map same_expr arguments) kind form ≡ true → ◌≡◌ {A = Form} (O.Call function arguments kind) form
call_is function arguments kind all (O.Call own others own_kind) e =
    let one = and_parts (same_function function own) (all_same (map same_expr arguments) others && same_kind kind own_kind) e in
    let two = and_parts (all_same (map same_expr arguments) others) (same_kind kind own_kind) one.1 in
    let function_same : function ≡ own = function_is function own one.0 in
    let arguments_same : arguments ≡ others = all_exact arguments all others two.0 in
    let kind_same : kind ≡ own_kind = same_kind-is kind own_kind two.1 in
    cc
call_is function arguments kind all (O.Column place own_kind) e = cc
call_is function arguments kind all (O.Literal value own_kind) e = cc
call_is function arguments kind all (O.Cast child own_kind) e = cc

cast_is : (child : TypedExpr) (kind : DataType) → IsExact child → (form : Form) → same_cast (same_expr child) kind form ≡ true → ◌≡◌ {A = Form} (O.Cast child kind) form
cast_is child kind exact (O.Cast own own_kind) e =
    let parts = and_parts (same_expr child own) (same_kind kind own_kind) e in
    let child_is : child ≡ own = exact own parts.0 in
    let kind_is : kind ≡ own_kind = same_kind-is kind own_kind parts.1 in
    cc
cast_is child kind exact (O.Column place own_kind) e = cc
cast_is child kind exact (O.Literal value own_kind) e = cc
cast_is child kind exact (O.Call function arguments own_kind) e = cc

rolled : (form : Form) (expr b : TypedExpr) → roll-TypedExpr form ≡ expr → form ≡ out-TypedExpr b → expr ≡ b
rolled form expr b rolls is = sym rolls ∙ ap roll-TypedExpr is ∙ roll-out-TypedExpr b

exact_forms : Forms IsExact
exact_forms = record {
  column = λ place kind b e. rolled (O.Column place kind) (V.Column place kind) b (V.rolls-Column place kind)
      (column_is place kind (out-TypedExpr b) (sym (same-Column b place kind) ∙ e));
  literal = λ value kind b e. rolled (O.Literal value kind) (V.Literal value kind) b (V.rolls-Literal value kind)
      (literal_is value kind (out-TypedExpr b) (sym (same-Literal b value kind) ∙ e));
  call_form = λ function arguments kind all b e. rolled (O.Call function arguments kind) (V.Call function arguments kind) b (V.rolls-Call function arguments kind)
      (call_is function arguments kind all (out-TypedExpr b) (sym (same-Call b function arguments kind) ∙ e));
  cast = λ child kind exact b e. rolled (O.Cast child kind) (V.Cast child kind) b (V.rolls-Cast child kind)
      (cast_is child kind exact (out-TypedExpr b) (sym (same-Cast b child kind) ∙ e));
}

-- ---- an expression is the same as itself

abbrev IsSelf : TypedExpr → Type 0
IsSelf a = same_expr a a ≡ true

all_self : (exprs : List TypedExpr) → AllByRecursion IsSelf exprs → all_same (map same_expr exprs) exprs ≡ true
all_self [] all = refl
all_self (expr ∷ exprs) all = both (same_expr expr expr) (all_same (map same_expr exprs) exprs) all.0 (all_self exprs all.1)

self_forms : Forms IsSelf
self_forms = record {
  column = λ place kind. same-Column (V.Column place kind) place kind ∙ ap (same_column place kind) (V.outs-Column place kind)
      ∙ both (nat_eq place place) (same_kind kind kind) (eq-eqb place place refl) (kind_self kind);
  literal = λ value kind. same-Literal (V.Literal value kind) value kind ∙ ap (same_literal value kind) (V.outs-Literal value kind)
      ∙ both (value_eq value value) (same_kind kind kind) ((value_exact value value).1 refl) (kind_self kind);
  call_form = λ function arguments kind all. same-Call (V.Call function arguments kind) function arguments kind
      ∙ ap (same_call function (map same_expr arguments) kind) (V.outs-Call function arguments kind)
      ∙ both (same_function function function) (all_same (map same_expr arguments) arguments && same_kind kind kind) (eq-eqb (number_of function) (number_of function) refl)
      (both (all_same (map same_expr arguments) arguments) (same_kind kind kind) (all_self arguments all) (kind_self kind));
  cast = λ child kind self. same-Cast (V.Cast child kind) child kind ∙ ap (same_cast (same_expr child) kind) (V.outs-Cast child kind)
      ∙ both (same_expr child child) (same_kind kind kind) self (kind_self kind);
}

pub same_is_equal : SameIsEqual
same_is_equal a b = (induct IsExact exact_forms a b, λ (e : a ≡ b). subst (λ (x : TypedExpr). same_expr a x ≡ true) e (induct IsSelf self_forms a))
