-- What typing makes is well formed.
use Rattle.std.proofs.Common.{◌≡◌, ℕ, ℤ, Bool, List, [], ◌∷◌, map, true, false, cond, Option, Some, None, refl, ap, subst, ◌∙◌}
use Rattle.std.specs.Prelude.{Ok, Err, nat_eq, option_map, slice_get}
use Rattle.std.specs.List.{AllByRecursion}
use Rattle.cn_types.specs.declared.value.DataType.{DataType}
use Rattle.cn_types.specs.declared.value.DataType.TheVariants as K
use Rattle.cn_types.specs.declared.value.Value.{Value}
use Rattle.cn_types.specs.declared.value.Value.TheVariants as N
use Rattle.cn_types.specs.Fit.{HasType, IsDay}
use Rattle.expression_messages.specs.declared.literal.Literal.TheVariants as L
use Rattle.plan_model.specs.declared.expression.TypedExpr.{TypedExpr}
use Rattle.plan_model.specs.declared.expression.TypedExpr.TheVariants as V
use Rattle.plan_model.specs.declared.function.Function.{Function}
use Rattle.plan_model.specs.FunctionTypes.{call_type, can_cast}
use Rattle.plan_model.specs.NodeTypes.{kind_of, kinds_of}
use Rattle.plan_model.specs.WellFormed.{IsFormOver, IsOver}
use Rattle.plan_model.specs.DateFunctions.{is_day}
use Rattle.plan_model.proofs.CastFacts.{days_tested}
use Rattle.plan_model.proofs.ExpressionFacts.{made-Call, made-Cast, made-Column, made-Literal}
use Rattle.std.proofs.lemmas.Option.{slice_get-map}
use Rattle.resolve_names.specs.declared.scope.ColumnOf.{ColumnOf}
use Rattle.resolve_names.specs.Scopes.{attribute_at}
use Rattle.resolve_names.specs.Checks.{Checked, ◌>>=◌, or_refused, refused}
use Rattle.resolve_names.specs.Refusals.{Refusal}
use Rattle.resolve_functions.specs.declared.asked.Asked.{Asked}
use Rattle.resolve_functions.specs.declared.asked.Asked.TheVariants.{AnyKind, Number, Only, Same, When}
use Rattle.resolve_functions.specs.Arguments.{asked_first, asked_later, call_asked, call_of, conditions, each_meets, filled, known, known_kinds, mismatch, plain_call, same_call, together, typed_call, values, when_call}
use Rattle.resolve_types.specs.Laws.{AttributesAreWellFormed, CallsAreWellFormed, CastsAreWellFormed, IsTypingOver, LiteralsAreWellFormed}
use Rattle.resolve_types.specs.Leaves.{bad_cast, cast_to_kind, column_at, kind_of_type, says_no_type, target_kind, typed_attribute, typed_cast, typed_null, value_of_kind}

same_ok : {A : Type 0} (a b : A) → ◌≡◌ {A = Checked A} (Ok a) (Ok b) → a ≡ b
same_ok a b e = cc

bind_ok : {A B : Type 0} (o : Checked A) (k : A → Checked B) (y : B) → (o >>= k) ≡ Ok y → (x : A) × (k x ≡ Ok y)
bind_ok (Ok x) k y e = (x, e)
bind_ok (Err stop) k y e = absurd (let h : ⊥ = cc in h)

module _ (columns : List DataType) where
  literal_over : (value : Value) (kind : DataType) → HasType kind value → IsOver columns (V.Literal value kind)
  literal_over value kind has = made-Literal (IsFormOver columns) value kind has

  typing_over : (typing : Option TypedExpr) (value : Value) (kind : DataType) → HasType kind value → ◌≡◌ {A = Checked (Option TypedExpr)} (Ok (value_of_kind value kind)) (Ok typing) →
      IsTypingOver columns typing
  typing_over typing value kind has e = subst (IsTypingOver columns) (same_ok (value_of_kind value kind) typing e) (literal_over value kind has)

  null_has : (kind : DataType) → HasType kind N.Null
  null_has K.Boolean = tt
  null_has K.Integer = tt
  null_has K.Long = tt
  null_has K.Text = tt
  null_has K.Date = tt

  null_over : (none : Bool) (kind : Option DataType) (typing : Option TypedExpr) → typed_null none kind ≡ Ok typing → IsTypingOver columns typing
  null_over true kind typing e = subst (IsTypingOver columns) (same_ok None typing e) tt
  null_over false (Some kind) typing e = typing_over typing N.Null kind (null_has kind) e
  null_over false None typing e = absurd (let h : ⊥ = cc in h)

  date_over : (days : ℤ) (day : Bool) → (day ≡ true → IsDay days) → (typing : Option TypedExpr) → (why : Refusal) →
      ◌≡◌ {A = Checked (Option TypedExpr)} (cond day (Ok (value_of_kind (N.Date days) K.Date)) (refused why)) (Ok typing) → IsTypingOver columns typing
  date_over days true is typing why e = typing_over typing (N.Date days) K.Date (is refl) e
  date_over days false is typing why e = absurd (let h : ⊥ = cc in h)

  exprs_known : (arguments : List (Option TypedExpr)) → AllByRecursion (IsTypingOver columns) arguments → AllByRecursion (IsOver columns) (known arguments)
  exprs_known [] over = tt
  exprs_known (None ∷ arguments) over = exprs_known arguments over.1
  exprs_known (Some expr ∷ arguments) over = (over.0, exprs_known arguments over.1)

  exprs_filled : (kind : DataType) (arguments : List (Option TypedExpr)) → AllByRecursion (IsTypingOver columns) arguments → AllByRecursion (IsOver columns) (map (filled kind) arguments)
  exprs_filled kind [] over = tt
  exprs_filled kind (None ∷ arguments) over = (literal_over N.Null kind (null_has kind), exprs_filled kind arguments over.1)
  exprs_filled kind (Some expr ∷ arguments) over = (over.0, exprs_filled kind arguments over.1)

  call_over : (name : List ℕ) (function : Function) (exprs : List TypedExpr) (call : TypedExpr) → call_of name function exprs ≡ Ok call →
      AllByRecursion (IsOver columns) exprs → IsOver columns call
  unfolding call_of
  call_over name function exprs call e over = by (call_type function (kinds_of exprs)) refl e
    where
      by : (kind : Option DataType) → call_type function (kinds_of exprs) ≡ kind →
          ◌≡◌ {A = Checked TypedExpr} (or_refused (mismatch name) kind >>= λ k. Ok (V.Call function exprs k)) (Ok call) → IsOver columns call
      by None is e = absurd (let h : ⊥ = cc in h)
      by (Some kind) is e = subst (IsOver columns) (same_ok (V.Call function exprs kind) call e) (made-Call (IsFormOver columns) function exprs kind is over)

  plain_over : (name : List ℕ) (function : Function) (first later : Asked) (arguments : List (Option TypedExpr)) (call : TypedExpr) →
      plain_call name function first later arguments ≡ Ok call → AllByRecursion (IsTypingOver columns) arguments → IsOver columns call
  unfolding plain_call
  plain_over name function first later arguments call e over =
      let met = bind_ok (each_meets name first later arguments) (λ met. call_of name function (known arguments)) call e in
      call_over name function (known arguments) call met.1 (exprs_known arguments over)

  same_over : (name : List ℕ) (function : Function) (arguments : List (Option TypedExpr)) (call : TypedExpr) →
      same_call name function arguments ≡ Ok call → AllByRecursion (IsTypingOver columns) arguments → IsOver columns call
  unfolding same_call
  same_over name function arguments call e over =
      let found = bind_ok (together name (known_kinds arguments)) (λ kind. call_of name function (map (filled kind) arguments)) call e in
      call_over name function (map (filled found.0) arguments) call found.1 (exprs_filled found.0 arguments over)

  when_over : (name : List ℕ) (function : Function) (arguments : List (Option TypedExpr)) (call : TypedExpr) →
      when_call name function arguments ≡ Ok call → AllByRecursion (IsTypingOver columns) arguments → IsOver columns call
  unfolding when_call
  when_over name function arguments call e over =
      let met = bind_ok (each_meets name (Only K.Boolean) (Only K.Boolean) (conditions arguments))
      (λ met. together name (known_kinds (values arguments)) >>= λ kind. call_of name function (map (filled kind) arguments)) call e in
      let found = bind_ok (together name (known_kinds (values arguments))) (λ kind. call_of name function (map (filled kind) arguments)) call met.1 in
      call_over name function (map (filled found.0) arguments) call found.1 (exprs_filled found.0 arguments over)

  asked_over : (name : List ℕ) (function : Function) (first later : Asked) (arguments : List (Option TypedExpr)) (call : TypedExpr) →
      call_asked name function first later arguments ≡ Ok call → AllByRecursion (IsTypingOver columns) arguments → IsOver columns call
  asked_over name function Same later arguments call e over = same_over name function arguments call e over
  asked_over name function When later arguments call e over = when_over name function arguments call e over
  asked_over name function AnyKind later arguments call e over = plain_over name function AnyKind later arguments call e over
  asked_over name function Number later arguments call e over = plain_over name function Number later arguments call e over
  asked_over name function (Only kind) later arguments call e over = plain_over name function (Only kind) later arguments call e over

  cast_over : (expr : TypedExpr) (kind : DataType) (fits : Bool) → can_cast (kind_of expr) kind ≡ fits → (cast : TypedExpr) → IsOver columns expr →
      ◌≡◌ {A = Checked TypedExpr} (cond fits (Ok (V.Cast expr kind)) (refused bad_cast)) (Ok cast) → IsOver columns cast
  cast_over expr kind true is cast over e = subst (IsOver columns) (same_ok (V.Cast expr kind) cast e) (made-Cast (IsFormOver columns) expr kind is over)
  cast_over expr kind false is cast over e = absurd (let h : ⊥ = cc in h)

  cast_to_over : (child : Option TypedExpr) (kind : DataType) (cast : TypedExpr) → cast_to_kind child kind ≡ Ok cast → IsTypingOver columns child → IsOver columns cast
  cast_to_over None kind cast e over = subst (IsOver columns) (same_ok (V.Literal N.Null kind) cast e) (literal_over N.Null kind (null_has kind))
  cast_to_over (Some expr) kind cast e over = cast_over expr kind (can_cast (kind_of expr) kind) refl cast over e

pub calls_are_well_formed : CallsAreWellFormed
unfolding typed_call
calls_are_well_formed columns name function arguments call e over =
    asked_over columns name function (asked_first function) (asked_later function) arguments call e over

pub casts_are_well_formed : CastsAreWellFormed
unfolding typed_cast
casts_are_well_formed columns child target cast e over =
    let found = bind_ok (or_refused bad_cast (target_kind target)) (λ kind. cast_to_kind child kind) cast e in
    cast_to_over columns child found.0 cast found.1 over

pub literals_are_well_formed : LiteralsAreWellFormed
literals_are_well_formed columns (L.Null kind) typing e = null_over columns (says_no_type kind) (kind_of_type kind) typing e
literals_are_well_formed columns (L.Boolean value) typing e = typing_over columns typing (N.Boolean value) K.Boolean tt e
literals_are_well_formed columns (L.Integer value) typing e = typing_over columns typing (N.Integer value) K.Integer tt e
literals_are_well_formed columns (L.Long value) typing e = typing_over columns typing (N.Long value) K.Long tt e
literals_are_well_formed columns (L.String text) typing e = typing_over columns typing (N.Text text) K.Text tt e
literals_are_well_formed columns (L.Date days) typing e = date_over columns days (is_day days) (days_tested days).0 typing _ e
literals_are_well_formed columns L.Absent typing e = absurd (let h : ⊥ = cc in h)

column_over : (columns : List (ColumnOf ℕ)) (place : ℕ) (why : Refusal) (found : Option (ColumnOf ℕ)) → slice_get columns place ≡ found → (expr : TypedExpr) →
    ◌≡◌ {A = Checked TypedExpr} (or_refused why found >>= λ column. Ok (V.Column place column.kind)) (Ok expr) → IsOver (map (λ column. column.kind) columns) expr
column_over columns place why None is expr e = absurd (let h : ⊥ = cc in h)
column_over columns place why (Some column) is expr e =
    let kinds : List DataType = map (λ column. column.kind) columns in
    let here : slice_get kinds place ≡ Some column.kind = slice_get-map (λ column. column.kind) columns place ∙ ap (option_map (λ column. column.kind)) is in
    subst (IsOver kinds) (same_ok (V.Column place column.kind) expr e) (made-Column (IsFormOver kinds) place column.kind here)

pub attributes_are_well_formed : AttributesAreWellFormed
unfolding typed_attribute
attributes_are_well_formed exact columns relations attribute expr e =
    let found = bind_ok (attribute_at nat_eq exact columns relations attribute.unparsed_identifier attribute.plan_id)
    (λ place. column_at attribute.unparsed_identifier columns place) expr e in
    column_over columns found.0 _ (slice_get columns found.0) refl expr found.1
