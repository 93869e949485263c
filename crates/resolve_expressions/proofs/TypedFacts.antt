-- What typing makes is well formed over the columns and the values of the aggregate calls.
use Rattle.std.proofs.Common.{◌≡◌, ℕ, zero, suc, ◌+◌, Bool, true, false, cond, List, [], ◌∷◌, ◌++◌, map, length, refl, sym, ap, ◌∙◌, subst, append_assoc, arith, Option, Some, None}
use Rattle.std.specs.Prelude.{Ok, Err, nat_eq, slice_get, option_map, if◌then◌else◌, ◌&&◌, not, codes}
use Rattle.std.specs.List.{AllByRecursion, AllZip}
use Rattle.std.specs.Str.{str_to_ascii_lowercase}
use Rattle.std.proofs.lemmas.List.{append-nil, length-map}
use Rattle.std.proofs.lemmas.Slice.Zip.{AllZip-long}
use Rattle.cn_types.specs.declared.value.DataType.{DataType}
use Rattle.expression_messages.specs.declared.expression.Cast.{Cast}
use Rattle.expression_messages.specs.declared.expression.UnresolvedFunction.{UnresolvedFunction}
use Rattle.expression_messages.specs.declared.expression.UnresolvedAttribute.{UnresolvedAttribute}
use Rattle.expression_messages.specs.declared.expression.Expr.{Expr}
use Rattle.expression_messages.specs.declared.expression.Expr.TheOpen as E
use Rattle.expression_messages.specs.declared.expression.Expr.TheOpen.{Expr-F}
use Rattle.expression_messages.specs.declared.expression.Expr.TheFolds.{fold-roll-Expr, ind-Expr, map-Expr}
use Rattle.expression_messages.specs.declared.expression.Expr.TheViews.{roll-Expr}
use Rattle.plan_model.specs.declared.expression.TypedExpr.{TypedExpr}
use Rattle.plan_model.specs.declared.expression.TypedExpr.TheOpen as O
use Rattle.plan_model.specs.declared.expression.TypedExpr.TheOpen.{TypedExpr-F}
use Rattle.plan_model.specs.declared.expression.TypedExpr.TheVariants as V
use Rattle.plan_model.specs.declared.function.Function.{Function}
use Rattle.plan_model.specs.declared.node.AggregateCall.{AggregateCall}
use Rattle.plan_model.specs.FunctionTypes.{aggregate_type, same_kind}
use Rattle.plan_model.specs.NodeTypes.{kind_of}
use Rattle.plan_model.specs.WellFormed.{IsCallOver, IsCondition, IsFormOver, IsOver}
use Rattle.plan_model.proofs.ExpressionFacts.{Forms, induct, every_here, every_part, made-Call, made-Cast, made-Column, made-Literal}
use Rattle.plan_model.proofs.NullFacts.{same_kind-is}
use Rattle.resolve_names.specs.declared.scope.ColumnOf.{ColumnOf}
use Rattle.resolve_names.specs.declared.scope.Tagged.{Tagged}
use Rattle.resolve_names.specs.Checks.{Checked, ◌>>=◌, or_refused, refused}
use Rattle.resolve_names.specs.declared.error.ErrorName.TheVariants.{InvalidAggregate, UnresolvedRoutine, Unsupported, WrongNumArgs}
use Rattle.resolve_names.specs.Refusals.{Refusal, refusal}
use Rattle.resolve_functions.specs.Arguments.{is_aggregate, mismatch, takes, typed_call, untyped}
use Rattle.resolve_functions.specs.FunctionNames.{function_named}
use Rattle.resolve_types.specs.Calls.{aggregate_of, called, is_count, may_be_distinct, unless}
use Rattle.resolve_types.specs.Laws.{IsTypingOver}
use Rattle.resolve_types.specs.Leaves.{typed_attribute, typed_cast, typed_literal}
use Rattle.resolve_types.proofs.WellFormed.{attributes_are_well_formed, calls_are_well_formed, casts_are_well_formed, literals_are_well_formed}
use Rattle.resolve_expressions.specs.Laws.{ConditionsAreWellFormed, IsTypedOver, TypedIsWellFormed, ValuesAreWellFormed, column_kinds}
use Rattle.resolve_expressions.specs.Outputs.{boolean_only, condition_of, value_of}
use Rattle.resolve_expressions.specs.Typings.{Arguments, Standing, Typing, aggregate_typed, arguments, arguments_typed, call_typed, cast_typed, first_of, function_typed, has_star, leaf, no_value, plain_typed, rows_counted, some_typed, standing, standing_step, typed_over, typing, with_call}

-- ---- chains of checks

pub same_ok : {A : Type 0} (a b : A) → ◌≡◌ {A = Checked A} (Ok a) (Ok b) → a ≡ b
same_ok a b e = cc

pub bind_ok : {A B : Type 0} (o : Checked A) (k : A → Checked B) (y : B) → (o >>= k) ≡ Ok y → (x : A) × (o ≡ Ok x) × (k x ≡ Ok y)
bind_ok (Ok x) k y e = (x, refl, e)
bind_ok (Err stop) k y e = absurd (let h : ⊥ = cc in h)

found_ok : {A : Type 0} (why : Refusal) (o : Option A) (x : A) → or_refused why o ≡ Ok x → o ≡ Some x
found_ok why (Some y) x e = ap Some (same_ok y x e)
found_ok why None x e = absurd (let h : ⊥ = cc in h)

-- ---- over more columns

pub get_more : {X : Type 0} (xs more : List X) (at : ℕ) (x : X) → slice_get xs at ≡ Some x → slice_get (xs ++ more) at ≡ Some x
get_more [] more at x is = absurd (let h : ⊥ = cc in h)
get_more (y ∷ ys) more zero x is = is
get_more (y ∷ ys) more (suc at) x is = get_more ys more at x is

pub get_behind : {X : Type 0} (xs ys : List X) (n at : ℕ) → at ≡ length xs + n → slice_get (xs ++ ys) at ≡ slice_get ys n
get_behind [] ys n at is = let e : at ≡ n = omega arith in ap (slice_get ys) e
get_behind (x ∷ xs) ys n zero is = absurd (let h : ⊥ = omega arith in h)
get_behind (x ∷ xs) ys n (suc at) is = get_behind xs ys n at (omega arith)

module _ (columns more : List DataType) where
  abbrev Before : TypedExpr-F TypedExpr → Type 0
  Before = IsFormOver columns

  abbrev After : TypedExpr-F TypedExpr → Type 0
  After = IsFormOver (columns ++ more)

  abbrev Widens : TypedExpr → Type 0
  Widens expr = IsOver columns expr → IsOver (columns ++ more) expr

  all_widen : (exprs : List TypedExpr) → AllByRecursion Widens exprs → AllByRecursion (IsOver columns) exprs → AllByRecursion (IsOver (columns ++ more)) exprs
  all_widen [] w h = tt
  all_widen (expr ∷ exprs) w h = (w.0 h.0, all_widen exprs w.1 h.1)

  widen_forms : Forms Widens
  widen_forms = record {
    column = λ place kind h. made-Column After place kind (get_more columns more place kind (every_here Before (V.Column place kind) (O.Column place kind) (V.outs-Column place kind) h));
    literal = λ value kind h. made-Literal After value kind (every_here Before (V.Literal value kind) (O.Literal value kind) (V.outs-Literal value kind) h);
    call_form = λ function arguments kind w h. made-Call After function arguments kind
        (every_here Before (V.Call function arguments kind) (O.Call function arguments kind) (V.outs-Call function arguments kind) h)
        (all_widen arguments w (every_part Before (V.Call function arguments kind) (O.Call function arguments kind) (V.outs-Call function arguments kind) h));
    cast = λ child kind w h. made-Cast After child kind
        (every_here Before (V.Cast child kind) (O.Cast child kind) (V.outs-Cast child kind) h)
        (w (every_part Before (V.Cast child kind) (O.Cast child kind) (V.outs-Cast child kind) h).0);
  }

  widen : (expr : TypedExpr) → Widens expr
  widen = induct Widens widen_forms

  widen_typing : (t : Option TypedExpr) → IsTypingOver columns t → IsTypingOver (columns ++ more) t
  widen_typing None h = tt
  widen_typing (Some expr) h = widen expr h

-- ---- counts are aggregates

count_is : (f : Function) → is_aggregate f ≡ false → is_count f ≡ false
count_is Function.Count e = cc
count_is Function.Add e = refl
count_is Function.Subtract e = refl
count_is Function.Multiply e = refl
count_is Function.Remainder e = refl
count_is Function.IntegralDivide e = refl
count_is Function.Negative e = refl
count_is Function.Abs e = refl
count_is Function.EqualTo e = refl
count_is Function.NotEqualTo e = refl
count_is Function.LessThan e = refl
count_is Function.LessThanOrEqual e = refl
count_is Function.GreaterThan e = refl
count_is Function.GreaterThanOrEqual e = refl
count_is Function.EqualNullSafe e = refl
count_is Function.And e = refl
count_is Function.Or e = refl
count_is Function.Not e = refl
count_is Function.IsNull e = refl
count_is Function.IsNotNull e = refl
count_is Function.Coalesce e = refl
count_is Function.When e = refl
count_is Function.In e = refl
count_is Function.Concat e = refl
count_is Function.Length e = refl
count_is Function.StartsWith e = refl
count_is Function.EndsWith e = refl
count_is Function.Contains e = refl
count_is Function.Year e = refl
count_is Function.Month e = refl
count_is Function.DayOfMonth e = refl
count_is Function.DateAdd e = refl
count_is Function.DateSub e = refl
count_is Function.DateDiff e = refl
count_is Function.Sum e = refl
count_is Function.Min e = refl
count_is Function.Max e = refl

-- an aggregate stands where one is allowed
unless_ok : (b : Bool) (why : Refusal) (u : Unit {0}) → unless b why ≡ Ok u → b ≡ false
unless_ok true why u e = absurd (let h : ⊥ = cc in h)
unless_ok false why u e = refl

no_aggregate : (b : Bool) → (b && not false) ≡ false → b ≡ false
no_aggregate true e = e
no_aggregate false e = refl

called_plain : (name : List ℕ) (distinct starred : Bool) (count : ℕ) (function : Function) → called name false distinct starred count ≡ Ok function → is_aggregate function ≡ false
unfolding called
called_plain name distinct starred count function is =
    let one = bind_ok (or_refused (refusal UnresolvedRoutine name) (function_named name)) _ function is in
    let two = bind_ok (unless (is_aggregate one.0 && not false) (refusal InvalidAggregate name)) _ function one.2 in
    let three = bind_ok (unless (distinct && not (may_be_distinct one.0 starred)) (refusal Unsupported (codes "option 0"))) _ function two.2 in
    let four = bind_ok (unless (not (takes one.0 count)) (refusal WrongNumArgs name)) _ function three.2 in
    subst (λ (f : Function). is_aggregate f ≡ false) (same_ok one.0 function four.2)
    (no_aggregate (is_aggregate one.0) (unless_ok (is_aggregate one.0 && not false) (refusal InvalidAggregate name) two.0 two.1))

-- ---- standings

zip_push : {A B : Type 0} (R : A → B → Type 0) (xs : List A) (ys : List B) (x : A) (y : B) → AllZip R xs ys → R x y → AllZip R (xs ++ x ∷ []) (ys ++ y ∷ [])
zip_push R [] [] x y h r = (r, tt)
zip_push R [] (b ∷ ys) x y h r = absurd h
zip_push R (a ∷ xs) [] x y h r = absurd h
zip_push R (a ∷ xs) (b ∷ ys) x y h r = (h.0, zip_push R xs ys x y h.1 r)

zip_none : {A B : Type 0} (R : A → B → Type 0) (xs : List A) (ys : List B) → xs ≡ [] → AllZip R xs ys → ys ≡ []
zip_none R [] [] none h = refl
zip_none R [] (y ∷ ys) none h = absurd h
zip_none R (x ∷ xs) ys none h = absurd (let f : ⊥ = cc in f)

module _ (columns : List DataType) where
  abbrev Calls : List AggregateCall → List DataType → Type 0
  Calls = AllZip (IsCallOver columns)

  record IsSound (s : Standing) : Type 0 where
    typed : (allowed : Bool) (calls : List AggregateCall) (kinds : List DataType) (t : Typing) → Calls calls kinds → s.typed allowed calls ≡ Ok t → IsTypedOver columns kinds t
    quiet : (calls : List AggregateCall) (t : Typing) → s.typed false calls ≡ Ok t → t.calls ≡ calls

  record AreTyped (kinds : List DataType) (a : Arguments) : Type 0 where
    more : List DataType
    calls : Calls a.calls (kinds ++ more)
    exprs : AllByRecursion (IsTypingOver (columns ++ (kinds ++ more))) a.exprs

  no_more : (kinds : List DataType) (calls : List AggregateCall) → Calls calls kinds → Calls calls (kinds ++ [])
  no_more kinds calls over = subst (Calls calls) (sym (append-nil kinds)) over

  args_typed : (allowed : Bool) (ss : List Standing) → AllByRecursion IsSound ss → (calls : List AggregateCall) (kinds : List DataType) (a : Arguments) →
      Calls calls kinds → arguments_typed allowed ss calls ≡ Ok a → AreTyped kinds a
  args_typed allowed [] all calls kinds a over is =
      subst (AreTyped kinds) (same_ok (arguments [] calls) a is) (record { more = []; calls = no_more kinds calls over; exprs = tt })
  args_typed allowed (s ∷ ss) all calls kinds a over is =
      let one = bind_ok (s.typed allowed calls) _ a is in
      let head = all.0.typed allowed calls kinds one.0 over one.1 in
      let two = bind_ok (arguments_typed allowed ss one.0.calls) _ a one.2 in
      let rest = args_typed allowed ss all.1 one.0.calls (kinds ++ head.more) two.0 head.calls two.1 in
      let wide : (columns ++ (kinds ++ head.more)) ++ rest.more ≡ columns ++ (kinds ++ (head.more ++ rest.more)) =
      append_assoc columns (kinds ++ head.more) rest.more ∙ ap (λ (k : List DataType). columns ++ k) (append_assoc kinds head.more rest.more) in
      subst (AreTyped kinds) (same_ok (arguments (one.0.expr ∷ two.0.exprs) two.0.calls) a two.2) (record {
        more = head.more ++ rest.more;
        calls = subst (Calls two.0.calls) (append_assoc kinds head.more rest.more) rest.calls;
        exprs = (
          subst (λ (k : List DataType). IsTypingOver k one.0.expr) wide (widen_typing (columns ++ (kinds ++ head.more)) rest.more one.0.expr head.expr),
          subst (λ (k : List DataType). AllByRecursion (IsTypingOver (columns ++ k)) two.0.exprs) (append_assoc kinds head.more rest.more) rest.exprs,
        );
      })

  args_quiet : (ss : List Standing) → AllByRecursion IsSound ss → (calls : List AggregateCall) (a : Arguments) → arguments_typed false ss calls ≡ Ok a → a.calls ≡ calls
  args_quiet [] all calls a is = ap (λ (x : Arguments). x.calls) (sym (same_ok (arguments [] calls) a is))
  args_quiet (s ∷ ss) all calls a is =
      let one = bind_ok (s.typed false calls) _ a is in
      let two = bind_ok (arguments_typed false ss one.0.calls) _ a one.2 in
      ap (λ (x : Arguments). x.calls) (sym (same_ok (arguments (one.0.expr ∷ two.0.exprs) two.0.calls) a two.2))
      ∙ args_quiet ss all.1 one.0.calls two.0 two.1 ∙ all.0.quiet calls one.0 one.1

  leaf_sound : (found : Checked (Option TypedExpr)) → ((expr : Option TypedExpr) → found ≡ Ok expr → IsTypingOver columns expr) → IsSound (leaf found)
  leaf_sound found holds = record {
    typed = λ allowed calls kinds t over is.
        let one = bind_ok found _ t is in
        subst (IsTypedOver columns kinds) (same_ok (typing one.0 calls) t one.2) (record {
          more = [];
          calls = no_more kinds calls over;
          expr = widen_typing columns (kinds ++ []) one.0 (holds one.0 one.1);
        });
    quiet = λ calls t is.
        let one = bind_ok found _ t is in
        ap (λ (x : Typing). x.calls) (sym (same_ok (typing one.0 calls) t one.2));
  }

  no_value_sound : (star : Bool) (number : ℕ) → IsSound (no_value star number)
  no_value_sound star number = record {
    typed = λ allowed calls kinds t over is. absurd (let h : ⊥ = cc in h);
    quiet = λ calls t is. absurd (let h : ⊥ = cc in h);
  }

  cast_sound : (cast : Cast Standing) → IsSound cast.expr → IsSound (record { star = false; typed = cast_typed cast })
  unfolding cast_typed
  cast_sound cast sound = record {
    typed = λ allowed calls kinds t over is.
        let one = bind_ok (cast.expr.typed allowed calls) _ t is in
        let two = bind_ok (typed_cast one.0.expr cast.target) _ t one.2 in
        let child = sound.typed allowed calls kinds one.0 over one.1 in
        subst (IsTypedOver columns kinds) (same_ok (typing (Some two.0) one.0.calls) t two.2) (record {
          more = child.more;
          calls = child.calls;
          expr = casts_are_well_formed (columns ++ (kinds ++ child.more)) one.0.expr cast.target two.0 two.1 child.expr;
        });
    quiet = λ calls t is.
        let one = bind_ok (cast.expr.typed false calls) _ t is in
        let two = bind_ok (typed_cast one.0.expr cast.target) _ t one.2 in
        ap (λ (x : Typing). x.calls) (sym (same_ok (typing (Some two.0) one.0.calls) t two.2)) ∙ sound.quiet calls one.0 one.1;
  }

  module _ (ss : List Standing) (all : AllByRecursion IsSound ss) where
    plain_sound : (name : List ℕ) (function : Function) (allowed : Bool) (calls : List AggregateCall) (kinds : List DataType) (t : Typing) → Calls calls kinds →
        plain_typed name function ss allowed calls ≡ Ok t → IsTypedOver columns kinds t
    unfolding plain_typed
    plain_sound name function allowed calls kinds t over is =
        let one = bind_ok (arguments_typed allowed ss calls) _ t is in
        let two = bind_ok (typed_call name function one.0.exprs) _ t one.2 in
        let found = args_typed allowed ss all calls kinds one.0 over one.1 in
        subst (IsTypedOver columns kinds) (same_ok (typing (Some two.0) one.0.calls) t two.2) (record {
          more = found.more;
          calls = found.calls;
          expr = calls_are_well_formed (columns ++ (kinds ++ found.more)) name function one.0.exprs two.0 two.1 found.exprs;
        })

    plain_quiet : (name : List ℕ) (function : Function) (calls : List AggregateCall) (t : Typing) → plain_typed name function ss false calls ≡ Ok t → t.calls ≡ calls
    unfolding plain_typed
    plain_quiet name function calls t is =
        let one = bind_ok (arguments_typed false ss calls) _ t is in
        let two = bind_ok (typed_call name function one.0.exprs) _ t one.2 in
        ap (λ (x : Typing). x.calls) (sym (same_ok (typing (Some two.0) one.0.calls) t two.2)) ∙ args_quiet ss all calls one.0 one.1

    call_behind : (width : ℕ) → width ≡ length columns → (calls : List AggregateCall) (kinds : List DataType) (call : AggregateCall) (kind : DataType) → Calls calls kinds →
        IsCallOver columns call kind → IsTypedOver columns kinds (with_call width calls call kind)
    call_behind width is calls kinds call kind over here =
        let long : length kinds ≡ length calls = AllZip-long (IsCallOver columns) calls kinds over in
        let place : slice_get (columns ++ (kinds ++ kind ∷ [])) (width + length calls) ≡ Some kind =
        get_behind columns (kinds ++ kind ∷ []) (length calls) (width + length calls) (omega arith)
        ∙ get_behind kinds (kind ∷ []) 0 (length calls) (omega arith) in
        record {
          more = kind ∷ [];
          calls = zip_push (IsCallOver columns) calls kinds call kind over here;
          expr = made-Column (IsFormOver (columns ++ (kinds ++ kind ∷ []))) (width + length calls) kind place;
        }

    first_over : (exprs : List (Option TypedExpr)) → AllByRecursion (IsTypingOver columns) exprs → IsTypingOver columns (first_of exprs)
    first_over [] h = tt
    first_over (expr ∷ exprs) h = h.0

    taken : (name : List ℕ) (function : Function) (distinct : Bool) (argument : Option TypedExpr) (kind : DataType) →
        aggregate_of name function distinct argument ≡ Ok kind → aggregate_type function distinct (option_map kind_of argument) ≡ Some kind
    unfolding aggregate_of
    taken name function distinct None kind is = absurd (let h : ⊥ = cc in h)
    taken name function distinct (Some expr) kind is = found_ok (mismatch name) (aggregate_type function distinct (Some (kind_of expr))) kind is

    aggregate_sound : (width : ℕ) → width ≡ length columns → (name : List ℕ) (function : Function) (distinct : Bool) (calls : List AggregateCall) (kinds : List DataType) (t : Typing) →
        Calls calls kinds → aggregate_typed width name function distinct ss calls ≡ Ok t → IsTypedOver columns kinds t
    unfolding aggregate_typed
    aggregate_sound width long name function distinct calls kinds t over is =
        let one = bind_ok (arguments_typed false ss []) _ t is in
        let two = bind_ok (aggregate_of name function distinct (first_of one.0.exprs)) _ t one.2 in
        let found = args_typed false ss all [] [] one.0 tt one.1 in
        let none : [] ++ found.more ≡ [] = zip_none (IsCallOver columns) one.0.calls ([] ++ found.more) (args_quiet ss all [] one.0 one.1) found.calls in
        let exprs : AllByRecursion (IsTypingOver columns) one.0.exprs =
        subst (λ (k : List DataType). AllByRecursion (IsTypingOver k) one.0.exprs) (ap (λ (k : List DataType). columns ++ k) none ∙ append-nil columns) found.exprs in
        subst (IsTypedOver columns kinds) (same_ok _ t two.2)
        (call_behind width long calls kinds (record { function = function; argument = first_of one.0.exprs; distinct = distinct }) two.0 over (record {
          argument = first_over one.0.exprs exprs;
          taken = taken name function distinct (first_of one.0.exprs) two.0 two.1;
        }))

    rows_over : IsCallOver columns (record { function = Function.Count; argument = None; distinct = false }) DataType.Long
    rows_over = record { argument = tt; taken = refl }

    call_sound : (b c : Bool) (width : ℕ) → width ≡ length columns → (name : List ℕ) (function : Function) (distinct allowed : Bool) (calls : List AggregateCall) (kinds : List DataType) (t : Typing) →
        Calls calls kinds →
        (if b then Ok (rows_counted width calls) else (if c then aggregate_typed width name function distinct ss calls else plain_typed name function ss allowed calls)) ≡ Ok t →
        IsTypedOver columns kinds t
    call_sound true c width long name function distinct allowed calls kinds t over is =
        subst (IsTypedOver columns kinds) (same_ok (rows_counted width calls) t is)
        (call_behind width long calls kinds (record { function = Function.Count; argument = None; distinct = false }) DataType.Long over rows_over)
    call_sound false true width long name function distinct allowed calls kinds t over is = aggregate_sound width long name function distinct calls kinds t over is
    call_sound false false width long name function distinct allowed calls kinds t over is = plain_sound name function allowed calls kinds t over is

    call_quiet : (b c : Bool) → (b && has_star ss) ≡ false → c ≡ false → (width : ℕ) (name : List ℕ) (function : Function) (distinct : Bool) (calls : List AggregateCall) (t : Typing) →
        (if b && has_star ss then Ok (rows_counted width calls) else (if c then aggregate_typed width name function distinct ss calls else plain_typed name function ss false calls)) ≡ Ok t →
        t.calls ≡ calls
    call_quiet b c no_rows no_call width name function distinct calls t is =
        plain_quiet name function calls t
        (sym (ap (λ (x : Bool). if x then Ok (rows_counted width calls) else (if c then aggregate_typed width name function distinct ss calls else plain_typed name function ss false calls)) no_rows
        ∙ ap (λ (x : Bool). if x then aggregate_typed width name function distinct ss calls else plain_typed name function ss false calls) no_call) ∙ is)

  function_sound : (width : ℕ) → width ≡ length columns → (f : UnresolvedFunction Standing) → AllByRecursion IsSound f.arguments → IsSound (record { star = false; typed = function_typed width f })
  unfolding function_typed
  function_sound width long f all = record {
    typed = λ allowed calls kinds t over is.
        let one = bind_ok (called (str_to_ascii_lowercase f.function_name) allowed f.is_distinct (has_star f.arguments) (length f.arguments)) _ t is in
        call_sound f.arguments all (is_count one.0 && has_star f.arguments) (is_aggregate one.0) width long (str_to_ascii_lowercase f.function_name) one.0 f.is_distinct allowed calls kinds t over one.2;
    quiet = λ calls t is.
        let one = bind_ok (called (str_to_ascii_lowercase f.function_name) false f.is_distinct (has_star f.arguments) (length f.arguments)) _ t is in
        let plain = called_plain (str_to_ascii_lowercase f.function_name) f.is_distinct (has_star f.arguments) (length f.arguments) one.0 one.1 in
        call_quiet f.arguments all (is_count one.0) (is_aggregate one.0) (ap (λ (b : Bool). b && has_star f.arguments) (count_is one.0 plain)) plain width (str_to_ascii_lowercase f.function_name) one.0 f.is_distinct calls t one.2;
  }

-- ---- all expressions

module _ (exact : Bool) (scope : List (ColumnOf ℕ)) (relations : List (Tagged ℕ)) where
  abbrev stands : Expr → Standing
  stands = standing nat_eq exact scope relations

  abbrev step : Expr-F Standing → Standing
  step = standing_step nat_eq exact scope relations

  abbrev Sound : Expr → Type 0
  Sound expr = IsSound (column_kinds scope) (stands expr)

  abbrev With : Type 0
  With = (expr : Expr) × Sound expr

  abbrev plain : Expr-F With → Expr-F Expr
  plain y = map-Expr With Expr (λ e. e.0) y

  all_sound : (es : List With) → AllByRecursion (IsSound (column_kinds scope)) (map stands (map (λ e. e.0) es))
  all_sound [] = tt
  all_sound (e ∷ es) = (e.1, all_sound es)

  attribute_over : (attribute : UnresolvedAttribute) (expr : Option TypedExpr) → some_typed (typed_attribute nat_eq exact scope relations attribute) ≡ Ok expr →
      IsTypingOver (column_kinds scope) expr
  attribute_over attribute expr is =
      let one = bind_ok (typed_attribute nat_eq exact scope relations attribute) _ expr is in
      subst (IsTypingOver (column_kinds scope)) (same_ok (Some one.0) expr one.2) (attributes_are_well_formed exact scope relations attribute one.0 one.1)

  layer_sound : (y : Expr-F With) → IsSound (column_kinds scope) (step (map-Expr Expr Standing stands (plain y)))
  layer_sound (E.Literal literal) = leaf_sound (column_kinds scope) (typed_literal literal) (literals_are_well_formed (column_kinds scope) literal)
  layer_sound (E.UnresolvedAttribute attribute) = leaf_sound (column_kinds scope) _ (attribute_over attribute)
  layer_sound (E.UnresolvedFunction f) = function_sound (column_kinds scope) (length scope) (sym (length-map scope (λ column. column.kind))) _ (all_sound f.arguments)
  layer_sound (E.UnresolvedStar star) = no_value_sound (column_kinds scope) true 5
  layer_sound (E.Alias alias) = no_value_sound (column_kinds scope) false 6
  layer_sound (E.Cast cast) = cast_sound (column_kinds scope) _ cast.expr.1
  layer_sound (E.SortOrder order) = no_value_sound (column_kinds scope) false 9
  layer_sound (E.Other number) = no_value_sound (column_kinds scope) false number

  at_layer : (y : Expr-F With) → Sound (roll-Expr (plain y))
  unfolding standing
  at_layer y = subst (IsSound (column_kinds scope)) (sym (fold-roll-Expr Standing step (plain y))) (layer_sound y)

  sound : (expr : Expr) → Sound expr
  sound = ind-Expr Sound (λ x y is. subst (λ (z : Expr-F Expr). Sound (roll-Expr z)) is (at_layer y))

pub typed_is_well_formed : TypedIsWellFormed
unfolding typed_over
typed_is_well_formed exact columns relations expr allowed calls kinds typing over is = (sound exact columns relations expr).typed allowed calls kinds typing over is

pub values_are_well_formed : ValuesAreWellFormed
unfolding value_of typed_over
values_are_well_formed exact columns relations expr typed is =
    let one = bind_ok (typed_over nat_eq exact columns relations expr false []) _ typed is in
    let over = (sound exact columns relations expr).typed false [] [] one.0 tt one.1 in
    let quiet = (sound exact columns relations expr).quiet [] one.0 one.1 in
    let none : [] ++ over.more ≡ [] = zip_none (IsCallOver (column_kinds columns)) one.0.calls ([] ++ over.more) quiet over.calls in
    let there : one.0.expr ≡ Some typed = found_ok untyped one.0.expr typed one.2 in
    let alone : IsTypingOver (column_kinds columns) one.0.expr =
    subst (λ (k : List DataType). IsTypingOver k one.0.expr) (ap (λ (k : List DataType). column_kinds columns ++ k) none ∙ append-nil (column_kinds columns)) over.expr in
    subst (IsTypingOver (column_kinds columns)) there alone

boolean_ok : (b : Bool) (typed expr : TypedExpr) (why : Refusal) → (if b then Ok typed else refused why) ≡ Ok expr → (b ≡ true) × (typed ≡ expr)
boolean_ok true typed expr why is = (refl, same_ok typed expr is)
boolean_ok false typed expr why is = absurd (let h : ⊥ = cc in h)

pub conditions_are_well_formed : ConditionsAreWellFormed
unfolding condition_of
conditions_are_well_formed exact columns relations what expr typed is =
    let one = bind_ok (value_of nat_eq exact columns relations expr) _ typed is in
    let two = boolean_ok (same_kind DataType.Boolean (kind_of one.0)) one.0 typed _ one.2 in
    subst (IsCondition (column_kinds columns)) two.1 (record {
      over = values_are_well_formed exact columns relations expr one.0 one.1;
      boolean = sym (same_kind-is DataType.Boolean (kind_of one.0) two.0);
    })
