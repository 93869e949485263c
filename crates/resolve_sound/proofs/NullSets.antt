-- Set operations give no null but where their columns may have one.
use Rattle.std.proofs.Common.{◌≡◌, ℕ, ℤ, suc, Bool, true, false, List, [], ◌∷◌, ◌++◌, map, length, refl, sym, ap, ◌∙◌, subst, arith, append_assoc, Option, Some, None}
use Rattle.std.specs.Prelude.{◌||◌, ◌&&◌, not, if◌then◌else◌, All, IfOk, IsTrue, slice_get, unwrap_or}
use Rattle.std.specs.List.{AllByRecursion}
use Rattle.std.proofs.lemmas.List.{length_push}
use Rattle.std.proofs.lemmas.List.Elements.{All-head, All-tail, recursion_from_All}
use Rattle.std.proofs.lemmas.Result.{IfOk-at_ok}
use Rattle.cn_types.specs.declared.row.Row.{Row}
use Rattle.cn_types.specs.declared.value.DataType.{DataType}
use Rattle.cn_types.specs.declared.value.Value.{Value}
use Rattle.cn_types.specs.declared.value.Value.TheVariants.{Null}
use Rattle.cn_types.specs.Fit.{FitsTypes, HasType}
use Rattle.plan_model.specs.declared.expression.TypedExpr.{TypedExpr}
use Rattle.plan_model.specs.declared.expression.TypedExpr.TheVariants as T
use Rattle.plan_model.specs.declared.node.Node.TheVariants as V
use Rattle.plan_model.specs.declared.node.SetKind.{SetKind}
use Rattle.plan_model.specs.FunctionTypes.{can_cast, same_kind}
use Rattle.plan_model.specs.Selections.{image}
use Rattle.plan_model.specs.Truth.{is_present}
use Rattle.plan_model.specs.Val.{val}
use Rattle.plan_model.proofs.ExpressionFacts.{kind_of-Column}
use Rattle.plan_model.proofs.Fitting.{rows_have_the_types}
use Rattle.plan_model.proofs.TypedValues.{values_typed}
use Rattle.plan_model.proofs.ValueFacts.{values_of_forms}
use Rattle.resolve_names.specs.declared.scope.ColumnOf.{ColumnOf}
use Rattle.resolve_names.specs.Checks.{or_refused}
use Rattle.resolve_types.specs.Calls.{unless}
use Rattle.resolve_expressions.specs.Same.{all_same, same_expr}
use Rattle.resolve_expressions.proofs.TypedFacts.{get_behind}
use Rattle.resolve_relations.specs.declared.found.FoundOf.{FoundOf}
use Rattle.resolve_relations.specs.Columns.{numbered, numbered_from}
use Rattle.resolve_sets.specs.declared.aligned.Aligned.{Aligned}
use Rattle.resolve_sets.specs.Aligning.{aligned, column_at}
use Rattle.resolve_sets.specs.Sets.{aligned_column, as_kind, combined, is_union, is_whole, kind_numbered, left_value, own_value, places_of, right_value, set_column, set_rule, side, side_value, value_at}
use Rattle.resolve_sound.specs.PairLaws.{SetOperationsAre}
use Rattle.resolve_sound.specs.Sound.{FitsNulls, HaveNullsWithin, IsNullSafe, flags, kinds}
use Rattle.resolve_sound.proofs.Chains.{then_holds}
use Rattle.resolve_sound.proofs.NodeRows.{Each, each_image, each_of_both}
use Rattle.resolve_sound.proofs.NullFacts.{May, column_may, flags_numbered}
use Rattle.resolve_sound.proofs.NullRelations.{TellsNulls, safe_answer, told}
use Rattle.resolve_sound.proofs.PresentCasts.{cast_present}
use Rattle.resolve_sound.proofs.SetRelations.{Casts, IsFitting, all_are, all_fit, own_over, sets_sound}

-- ---- the value of a side

-- whether a side's value may be null: where its column may, or where there is none
abbrev may_at : {I : Type 0} → Option (ColumnOf I) → Bool
may_at (Some column) = column.nullable
may_at None = true

abbrev Fits : {I : Type 0} → List (ColumnOf I) → Row → Type 0
Fits columns row = FitsTypes (kinds columns) row × FitsNulls (flags columns) row

there_or : (a b : Bool) → (a ≡ true → b ≡ true) → (f : Bool) → IsTrue (f || a) → IsTrue (f || b)
there_or a b h true k = refl
there_or a b h false k = h k

module _ {I : Type 0} (columns : List (ColumnOf I)) (row : Row) (fits : Fits columns row) where
  own_may : (place : ℕ) (column : ColumnOf I) → slice_get columns place ≡ Some column →
      May column.nullable (val (T.Column place column.kind) row)
  own_may place column is = column_may columns row place column.kind column is fits.1

  own_typed : (place : ℕ) (column : ColumnOf I) → slice_get columns place ≡ Some column →
      HasType column.kind (val (T.Column place column.kind) row)
  own_typed place column is =
      subst (λ (k : DataType). HasType k (val (T.Column place column.kind) row)) (kind_of-Column place column.kind)
      (values_typed (kinds columns) (T.Column place column.kind) row (own_over columns place column is) fits.0)

  cast_may : (kind : DataType) (place : ℕ) (column : ColumnOf I) → slice_get columns place ≡ Some column →
      can_cast column.kind kind ≡ true →
      May column.nullable (val (as_kind kind place column) row)
  cast_may kind place column is casts = by (same_kind kind column.kind)
    where
      there : is_present (val (T.Column place column.kind) row) ≡ true →
          is_present (val (T.Cast (T.Column place column.kind) kind) row) ≡ true
      there h = ap is_present (values_of_forms.cast (T.Column place column.kind) kind row)
          ∙ cast_present column.kind kind (val (T.Column place column.kind) row) casts (own_typed place column is) h

      by : (b : Bool) → May column.nullable (val (if b then T.Column place column.kind else T.Cast (T.Column place column.kind) kind) row)
      by true = own_may place column is
      by false = there_or (is_present (val (T.Column place column.kind) row))
          (is_present (val (T.Cast (T.Column place column.kind) kind) row)) there column.nullable (own_may place column is)

  at_may : (kind : DataType) (place : ℕ) (column : Option (ColumnOf I)) → slice_get columns place ≡ column → Casts kind column →
      May (may_at column) (val (value_at kind place column) row)
  at_may kind place (Some column) is casts = cast_may kind place column is casts
  at_may kind place None is casts = refl

  side_may : (kind : DataType) (place : Option ℕ) → Casts kind (column_at columns place) →
      May (may_at (column_at columns place)) (val (side_value columns kind place) row)
  side_may kind (Some place) casts = at_may kind place (slice_get columns place) refl casts
  side_may kind None casts = refl

-- ---- the values of a side

either_may : (a b p : Bool) → IsTrue (a || p) → IsTrue ((a || b) || p)
either_may true b p h = refl
either_may false true p h = refl
either_may false false p h = h

other_may : (a b p : Bool) → IsTrue (b || p) → IsTrue ((a || b) || p)
other_may true b p h = refl
other_may false b p h = h

-- whether the column of both may be null
abbrev set_flag : {I : Type 0} → Option (ColumnOf I) → Option (ColumnOf I) → Bool
set_flag (Some left) (Some right) = left.nullable || right.nullable
set_flag left None = true
set_flag None right = true

module _ {I : Type 0} where
  flag_is : (id : I) (kind : DataType) (a b : Option (ColumnOf I)) → (set_column id kind a b).nullable ≡ set_flag a b
  flag_is id kind (Some a) (Some b) = refl
  flag_is id kind (Some a) None = refl
  flag_is id kind None (Some b) = refl
  flag_is id kind None None = refl

  from_left : (a b : Option (ColumnOf I)) (value : Value) → May (may_at a) value → May (set_flag a b) value
  from_left (Some a) (Some b) value h = either_may a.nullable b.nullable (is_present value) h
  from_left (Some a) None value h = refl
  from_left None (Some b) value h = refl
  from_left None None value h = refl

  from_right : (a b : Option (ColumnOf I)) (value : Value) → May (may_at b) value → May (set_flag a b) value
  from_right (Some a) (Some b) value h = other_may a.nullable b.nullable (is_present value) h
  from_right (Some a) None value h = refl
  from_right None (Some b) value h = refl
  from_right None None value h = refl

-- values of expressions that are made one by one
image_within : (P : Aligned → Type 0) (flag : Aligned → Bool) (value : Aligned → TypedExpr) (row : Row) →
    ((one : Aligned) → P one → May (flag one) (val (value one) row)) →
    (ones : List Aligned) → All P ones → FitsNulls (map flag ones) (image (map value ones) row)
image_within P flag value row h [] all = tt
image_within P flag value row h (one ∷ ones) all =
    (h one (All-head P one ones all), image_within P flag value row h ones (All-tail P one ones all))

-- ---- a side that stays as it is

module _ {I : Type 0} (row : Row) where
  own_values : (front vs : List Value) (columns : List (ColumnOf I)) (n : ℕ) → n ≡ length front → row.0 ≡ front ++ vs →
      HaveNullsWithin (flags columns) vs →
      map (λ item. val item row) (numbered_from own_value n columns) ≡ vs
  own_values front [] [] n is whole h = refl
  own_values front (v ∷ vs) [] n is whole h = absurd h
  own_values front [] (c ∷ cs) n is whole h = absurd h
  own_values front (v ∷ vs) (c ∷ cs) n is whole h =
      let here : slice_get row.0 n ≡ Some v = ap (λ (xs : List Value). slice_get xs n) whole
      ∙ get_behind front (v ∷ vs) 0 n (omega arith) in
      ap (λ (x : Value). x ∷ map (λ item. val item row) (numbered_from own_value (suc n) cs))
      (values_of_forms.column n c.kind row ∙ ap (λ (o : Option Value). unwrap_or o Null) here)
      ∙ ap (λ (xs : List Value). v ∷ xs)
      (own_values (front ++ v ∷ []) vs cs (suc n) (omega (arith, length_push front v)) (whole ∙ sym (append_assoc front (v ∷ []) vs)) h.1)

all_both : (P Q : Row → Type 0) (rows : List Row) → AllByRecursion P rows → AllByRecursion Q rows →
    AllByRecursion (λ row. P row × Q row) rows
all_both P Q [] f g = tt
all_both P Q (row ∷ rows) f g = ((f.0, g.0), all_both P Q rows f.1 g.1)

all_weaker : (P Q : Row → Type 0) → ((row : Row) → P row → Q row) → (rows : List Row) → AllByRecursion P rows → AllByRecursion Q rows
all_weaker P Q h [] all = tt
all_weaker P Q h (row ∷ rows) all = (h row all.0, all_weaker P Q h rows all.1)

module _ {I : Type 0} (input : FoundOf I) (safe : IsNullSafe input) where
  rows_fit : Each input.node (Fits input.columns)
  rows_fit rows allowed = all_both (FitsTypes (kinds input.columns)) (FitsNulls (flags input.columns)) rows
      (recursion_from_All (FitsTypes (kinds input.columns)) rows
      (subst (λ (ks : List DataType). All (FitsTypes ks) rows) safe.sound.columns
      (rows_have_the_types input.node safe.sound.node rows allowed)))
      (told input safe rows allowed)

  side_tells : (values : List TypedExpr) (fs : List Bool) → ((row : Row) → Fits input.columns row → FitsNulls fs (image values row)) →
      Each (side input values) (FitsNulls fs)
  unfolding side is_whole
  side_tells values fs h = by (all_same (map same_expr values) (numbered own_value input.columns)) refl
    where
      by : (b : Bool) → all_same (map same_expr values) (numbered own_value input.columns) ≡ b →
          Each (if b then input.node else V.Project input.node values) (FitsNulls fs)
      by true whole = λ rows allowed. all_weaker (Fits input.columns) (FitsNulls fs) (λ row fits.
          subst (HaveNullsWithin fs)
          (ap (map (λ item. val item row)) (all_are values (numbered own_value input.columns) whole)
          ∙ own_values row [] row.0 input.columns 0 refl refl fits.1)
          (h row fits)) rows (rows_fit rows allowed)
      by false part = each_image (Fits input.columns) (FitsNulls fs) input.node rows_fit values h

-- ---- the rule

module _ {I : Type 0} (exact : Bool) (fresh : ℕ → I) (left right : FoundOf I) (on_left : IsNullSafe left)
    (on_right : IsNullSafe right) where
  abbrev flag : Aligned → Bool
  flag one = set_flag (column_at left.columns one.left) (column_at right.columns one.right)

  abbrev Fitting : Aligned → Type 0
  Fitting = IsFitting left.columns right.columns

  combined_tells : (kind : SetKind) (all : Bool) (ones : List Aligned) → All Fitting ones →
      TellsNulls (combined fresh left right kind all ones)
  unfolding combined
  combined_tells kind all ones fit =
      subst (λ (fs : List Bool). Each (V.SetOp (side left (map (left_value left.columns) ones))
      (side right (map (right_value right.columns) ones)) kind all) (FitsNulls fs))
      (sym (flags_numbered (aligned_column fresh left.columns right.columns) flag
      (λ n one. flag_is (fresh n) one.kind (column_at left.columns one.left) (column_at right.columns one.right)) 0 ones))
      (each_of_both (FitsNulls (map flag ones)) (FitsNulls (map flag ones)) (FitsNulls (map flag ones))
      (side left (map (left_value left.columns) ones)) (side right (map (right_value right.columns) ones))
      (side_tells left on_left (map (left_value left.columns) ones) (map flag ones) (λ row fits.
      image_within Fitting flag (left_value left.columns) row (λ one h.
      from_left (column_at left.columns one.left) (column_at right.columns one.right) (val (left_value left.columns one) row)
      (side_may left.columns row fits one.kind one.left h.on_left)) ones fit))
      (side_tells right on_right (map (right_value right.columns) ones) (map flag ones) (λ row fits.
      image_within Fitting flag (right_value right.columns) row (λ one h.
      from_right (column_at left.columns one.left) (column_at right.columns one.right) (val (right_value right.columns one) row)
      (side_may right.columns row fits one.kind one.right h.on_right)) ones fit))
      kind all (λ row h. h) (λ row h. h))

  set_tells : (number : ℤ) (all named missing : Bool) → IfOk (set_rule exact fresh left right number all named missing) TellsNulls
  unfolding set_rule
  set_tells number all named missing =
      then_holds TellsNulls (or_refused _ (kind_numbered number)) _ (λ kind is.
      then_holds TellsNulls (unless (named && not (is_union kind)) _) _ (λ u options.
      then_holds TellsNulls (places_of exact named missing left.columns right.columns) _ (λ places at.
      then_holds TellsNulls (aligned left.columns right.columns places) _ (λ ones are.
      combined_tells kind all ones (IfOk-at_ok (All Fitting) are (all_fit left.columns right.columns places))))))

pub sets_are_safe : (I : Type 0) → SetOperationsAre I IsNullSafe
sets_are_safe I = record {
  set_operations = λ exact fresh number all named missing left right on_left on_right.
      safe_answer (set_rule exact fresh left right number all named missing)
      ((sets_sound I).set_operations exact fresh number all named missing left right on_left.sound on_right.sound)
      (set_tells exact fresh left right on_left on_right number all named missing);
}
