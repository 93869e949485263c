-- Items over keys and calls are well formed over the keys' and the calls' types.
use Rattle.std.proofs.Common.{◌≡◌, ℕ, zero, suc, ◌+◌, ◌-◌, ◌<◌, ◌≤◌, Bool, true, false, List, [], ◌∷◌, ◌++◌, map, length, get_or, refl, sym, ap, ◌∙◌, subst, arith, Option, Some, None}
use Rattle.std.specs.Prelude.{Ok, Err, option_map, position, slice_get}
use Rattle.std.specs.List.{AllByRecursion}
use Rattle.std.proofs.lemmas.List.{length-map}
use Rattle.std.proofs.lemmas.List.Quantifiers.{position-Some}
use Rattle.std.proofs.lemmas.Option.{slice_get-map}
use Rattle.cn_types.specs.declared.value.DataType.{DataType}
use Rattle.plan_model.specs.declared.expression.TypedExpr.{TypedExpr}
use Rattle.plan_model.specs.declared.expression.TypedExpr.TheOpen as O
use Rattle.plan_model.specs.declared.expression.TypedExpr.TheOpen.{TypedExpr-F}
use Rattle.plan_model.specs.declared.expression.TypedExpr.TheVariants as V
use Rattle.plan_model.specs.declared.function.Function.{Function}
use Rattle.plan_model.specs.FunctionTypes.{call_type, can_cast}
use Rattle.plan_model.specs.NodeTypes.{kind_of, kinds_of}
use Rattle.plan_model.specs.WellFormed.{IsFormOver, IsOver}
use Rattle.plan_model.proofs.ExpressionFacts.{Forms, induct, every_here, every_part, kind_of-Call, kind_of-Cast, kind_of-Column, kind_of-Literal, made-Call, made-Cast, made-Column, made-Literal}
use Rattle.resolve_names.specs.declared.error.ErrorName.TheVariants.{MissingAggregation}
use Rattle.resolve_names.specs.declared.scope.ColumnOf.{ColumnOf}
use Rattle.resolve_names.specs.Checks.{Checked, ◌>>=◌, refused}
use Rattle.resolve_names.specs.Refusals.{refusal}
use Rattle.resolve_expressions.specs.Grouping.{all_checked, key_or, regrouped, ungrouped}
use Rattle.resolve_expressions.specs.Laws.{RegroupedIsWellFormed, column_kinds}
use Rattle.resolve_expressions.specs.Same.{same_expr}
use Rattle.resolve_expressions.proofs.GroupForms.{keyed-Call, keyed-Cast, keyed-Column, keyed-Literal}
use Rattle.resolve_expressions.proofs.SameFacts.{same_is_equal}
use Rattle.resolve_expressions.proofs.TypedFacts.{bind_ok, get_behind, get_more, same_ok}

-- ---- places in lists

here : {X : Type 0} (xs : List X) (at : ℕ) → at < length xs → (x : X) × (slice_get xs at ≡ Some x) × (get_or xs at x ≡ x)
here [] at within = absurd (omega arith)
here (x ∷ xs) zero within = (x, refl, refl)
here (x ∷ xs) (suc at) within = let h : at < length xs = omega arith in here xs at h

past : {X : Type 0} (xs : List X) (at : ℕ) → slice_get xs at ≡ None → length xs ≤ at
past [] at none = omega arith
past (x ∷ xs) zero none = absurd (let h : ⊥ = cc in h)
past (x ∷ xs) (suc at) none = let h : length xs ≤ at = past xs at none in omega arith

position_within : {X : Type 0} (p : X → Bool) (xs : List X) (i : ℕ) → position p xs ≡ Some i → i < length xs
position_within p [] i e = cc
position_within p (x ∷ xs) i e = (position-Some p (x ∷ xs) i x e).0

-- the key that is the same is at its place
key_at : (expr : TypedExpr) (keys : List TypedExpr) (place : ℕ) → position (same_expr expr) keys ≡ Some place → slice_get keys place ≡ Some expr
key_at expr keys place is =
    let own = here keys place (position_within (same_expr expr) keys place is) in
    let passes : same_expr expr own.0 ≡ true = ap (same_expr expr) (sym own.2) ∙ (position-Some (same_expr expr) keys place own.0 is).1 in
    own.1 ∙ ap Some (sym ((same_is_equal expr own.0).0 passes))

module _ (columns : List (ColumnOf ℕ)) (keys : List TypedExpr) (kinds : List DataType) where
  abbrev Old : TypedExpr-F TypedExpr → Type 0
  Old = IsFormOver (column_kinds columns ++ kinds)

  abbrev New : TypedExpr-F TypedExpr → Type 0
  New = IsFormOver (kinds_of keys ++ kinds)

  abbrev over : TypedExpr → Checked TypedExpr
  over = regrouped same_expr columns keys

  -- over the keys and calls, and of the same type
  abbrev IsGood : DataType → TypedExpr → Type 0
  IsGood kind made = IsOver (kinds_of keys ++ kinds) made × (kind_of made ≡ kind)

  abbrev Holds : TypedExpr → Type 0
  Holds expr = (made : TypedExpr) → IsOver (column_kinds columns ++ kinds) expr → over expr ≡ Ok made → IsGood (kind_of expr) made

  by_key : (expr : TypedExpr) (place : ℕ) → position (same_expr expr) keys ≡ Some place → IsGood (kind_of expr) (V.Column place (kind_of expr))
  by_key expr place is =
      let there : slice_get (kinds_of keys) place ≡ Some (kind_of expr) = slice_get-map kind_of keys place ∙ ap (λ (o : Option TypedExpr). option_map kind_of o) (key_at expr keys place is) in
      (made-Column New place (kind_of expr) (get_more (kinds_of keys) kinds place (kind_of expr) there), kind_of-Column place (kind_of expr))

  by_or : (o : Option ℕ) (expr made : TypedExpr) (otherwise : Checked TypedExpr) → position (same_expr expr) keys ≡ o →
      (otherwise ≡ Ok made → IsGood (kind_of expr) made) → key_or o expr otherwise ≡ Ok made → IsGood (kind_of expr) made
  by_or (Some place) expr made otherwise found rest is =
      subst (IsGood (kind_of expr)) (same_ok (V.Column place (kind_of expr)) made is) (by_key expr place found)
  by_or None expr made otherwise found rest is = rest is

  by_form : (expr made : TypedExpr) (otherwise : Checked TypedExpr) → over expr ≡ key_or (position (same_expr expr) keys) expr otherwise →
      (otherwise ≡ Ok made → IsGood (kind_of expr) made) → over expr ≡ Ok made → IsGood (kind_of expr) made
  by_form expr made otherwise form rest is = by_or (position (same_expr expr) keys) expr made otherwise refl rest (sym form ∙ is)

  column_good : (o : Option (ColumnOf ℕ)) (place : ℕ) (kind : DataType) (made : TypedExpr) → slice_get columns place ≡ o →
      slice_get (column_kinds columns ++ kinds) place ≡ Some kind → ungrouped o (length columns) (length keys) place kind ≡ Ok made → IsGood kind made
  column_good (Some column) place kind made found old is = absurd (let h : ⊥ = cc in h)
  column_good None place kind made found old is =
      let outside : length columns ≤ place = past columns place found in
      let width : length (column_kinds columns) ≡ length columns = length-map columns (λ column. column.kind) in
      let many : length (kinds_of keys) ≡ length keys = length-map keys kind_of in
      let behind = place - length columns in
      let there : slice_get kinds behind ≡ Some kind = sym (get_behind (column_kinds columns) kinds behind place (omega arith)) ∙ old in
      let new : slice_get (kinds_of keys ++ kinds) (length keys + behind) ≡ Some kind =
      get_behind (kinds_of keys) kinds behind (length keys + behind) (omega arith) ∙ there in
      subst (IsGood kind) (same_ok (V.Column (length keys + behind) kind) made is) (made-Column New (length keys + behind) kind new, kind_of-Column (length keys + behind) kind)

  all_good : (exprs : List TypedExpr) → AllByRecursion Holds exprs → (made : List TypedExpr) → AllByRecursion (IsOver (column_kinds columns ++ kinds)) exprs →
      all_checked (map over exprs) ≡ Ok made → AllByRecursion (IsOver (kinds_of keys ++ kinds)) made × (kinds_of made ≡ kinds_of exprs)
  all_good [] all made old is = subst (λ (m : List TypedExpr). AllByRecursion (IsOver (kinds_of keys ++ kinds)) m × (kinds_of m ≡ [])) (same_ok [] made is) (tt, refl)
  all_good (expr ∷ exprs) all made old is =
      let one = bind_ok (over expr) _ made is in
      let two = bind_ok (all_checked (map over exprs)) _ made one.2 in
      let first = all.0 one.0 old.0 one.1 in
      let rest = all_good exprs all.1 two.0 old.1 two.1 in
      subst (λ (m : List TypedExpr). AllByRecursion (IsOver (kinds_of keys ++ kinds)) m × (kinds_of m ≡ kind_of expr ∷ kinds_of exprs))
      (same_ok (one.0 ∷ two.0) made two.2)
      ((first.0, rest.0), ap (λ (k : DataType). k ∷ kinds_of two.0) first.1 ∙ ap (λ (ks : List DataType). kind_of expr ∷ ks) rest.1)

  call_good : (function : Function) (arguments : List TypedExpr) (kind : DataType) → AllByRecursion Holds arguments → (made : TypedExpr) →
      IsOver (column_kinds columns ++ kinds) (V.Call function arguments kind) →
      (all_checked (map over arguments) >>= λ exprs. Ok (V.Call function exprs kind)) ≡ Ok made → IsGood (kind_of (V.Call function arguments kind)) made
  call_good function arguments kind all made old is =
      let one = bind_ok (all_checked (map over arguments)) _ made is in
      let rest = all_good arguments all one.0 (every_part Old (V.Call function arguments kind) (O.Call function arguments kind) (V.outs-Call function arguments kind) old) one.1 in
      let fits : call_type function (kinds_of one.0) ≡ Some kind =
      ap (call_type function) rest.1 ∙ every_here Old (V.Call function arguments kind) (O.Call function arguments kind) (V.outs-Call function arguments kind) old in
      subst (IsGood (kind_of (V.Call function arguments kind))) (same_ok (V.Call function one.0 kind) made one.2)
      (made-Call New function one.0 kind fits rest.0, kind_of-Call function one.0 kind ∙ sym (kind_of-Call function arguments kind))

  cast_good : (child : TypedExpr) (kind : DataType) → Holds child → (made : TypedExpr) → IsOver (column_kinds columns ++ kinds) (V.Cast child kind) →
      (over child >>= λ expr. Ok (V.Cast expr kind)) ≡ Ok made → IsGood (kind_of (V.Cast child kind)) made
  cast_good child kind holds made old is =
      let one = bind_ok (over child) _ made is in
      let good = holds one.0 (every_part Old (V.Cast child kind) (O.Cast child kind) (V.outs-Cast child kind) old).0 one.1 in
      let fits : can_cast (kind_of one.0) kind ≡ true =
      subst (λ (k : DataType). can_cast k kind ≡ true) (sym good.1) (every_here Old (V.Cast child kind) (O.Cast child kind) (V.outs-Cast child kind) old) in
      subst (IsGood (kind_of (V.Cast child kind))) (same_ok (V.Cast one.0 kind) made one.2)
      (made-Cast New one.0 kind fits good.0, kind_of-Cast one.0 kind ∙ sym (kind_of-Cast child kind))

  forms : Forms Holds
  forms = record {
    column = λ place kind made old is. by_form (V.Column place kind) made _ (keyed-Column same_expr columns keys place kind)
        (λ e. subst (λ (k : DataType). IsGood k made) (sym (kind_of-Column place kind))
        (column_good (slice_get columns place) place kind made refl (every_here Old (V.Column place kind) (O.Column place kind) (V.outs-Column place kind) old) e)) is;
    literal = λ value kind made old is. by_form (V.Literal value kind) made _ (keyed-Literal same_expr columns keys value kind)
        (λ e. subst (IsGood (kind_of (V.Literal value kind))) (same_ok (V.Literal value kind) made e)
        (made-Literal New value kind (every_here Old (V.Literal value kind) (O.Literal value kind) (V.outs-Literal value kind) old), refl)) is;
    call_form = λ function arguments kind all made old is. by_form (V.Call function arguments kind) made _ (keyed-Call same_expr columns keys function arguments kind)
        (call_good function arguments kind all made old) is;
    cast = λ child kind holds made old is. by_form (V.Cast child kind) made _ (keyed-Cast same_expr columns keys child kind) (cast_good child kind holds made old) is;
  }

pub regrouped_is_well_formed : RegroupedIsWellFormed
regrouped_is_well_formed columns keys kinds expr made old is = induct (Holds columns keys kinds) (forms columns keys kinds) expr made old is
