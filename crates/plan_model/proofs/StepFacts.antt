-- What holds of two rows side by side, of appended inputs and of one more row.
use Rattle.std.proofs.Common.{◌≡◌, ◌≢◌, ◌<◌, ◌+◌, ℕ, zero, suc, pos, min, Bool, true, false, ◌&&◌, ◌||◌, cond, Some, unwrap_or, List, [], ◌∷◌, ◌++◌, map, filter, length, slice_get, length-append, refl, sym, ap, ◌∙◌, subst, arith}
use Rattle.std.specs.Prelude.{fold}
use Rattle.std.specs.List.{AllByRecursion, reduce, list_any}
use Rattle.std.specs.Ordering.{ord_min, ord_max}
use Rattle.std.proofs.lemmas.List.{map-append}
use Rattle.std.proofs.lemmas.List.Elements.{filter-append}
use Rattle.cn_types.specs.declared.row.Row.{Row}
use Rattle.cn_types.specs.declared.value.DataType.{DataType}
use Rattle.cn_types.specs.declared.value.Value.{Value}
use Rattle.cn_types.specs.declared.value.Value.TheVariants.{Null, Boolean, Integer, Long, Text, Date}
use Rattle.cn_types.specs.Fit.{HasType, HaveTypes, FitsTypes}
use Rattle.cn_types.specs.Order.{count, row_eq, value_cmp, value_eq}
use Rattle.plan_model.specs.declared.expression.TypedExpr.{TypedExpr}
use Rattle.plan_model.specs.declared.expression.TypedExpr.TheOpen as O
use Rattle.plan_model.specs.declared.expression.TypedExpr.TheVariants as V
use Rattle.plan_model.specs.Aggregates.{present, total, unless_empty}
use Rattle.plan_model.specs.Arithmetic.{wrapped_long}
use Rattle.plan_model.specs.Casts.{cast_to}
use Rattle.plan_model.specs.Comparisons.{equal_to}
use Rattle.plan_model.specs.Functions.{call}
use Rattle.plan_model.specs.Joins.{Joining, beside, pairs}
use Rattle.plan_model.specs.Selections.{image}
use Rattle.plan_model.specs.StepLaws.{ConditionsOfPairs, JoinsGrow, GroupsGrow, RowsOnceGrow}
use Rattle.plan_model.specs.Truth.{and_value, is_true, is_present}
use Rattle.plan_model.specs.Val.{val}
use Rattle.plan_model.specs.WellFormed.{IsFormOver, IsOver}
use Rattle.plan_model.proofs.AggregateFacts.{total-append}
use Rattle.plan_model.proofs.CallFacts.{present-is}
use Rattle.plan_model.proofs.ComparisonFacts.{equal_in_type, null_right}
use Rattle.plan_model.proofs.ExpressionFacts.{Forms, induct, every_part, every_here}
use Rattle.plan_model.proofs.Multisets.{copies-cons}
use Rattle.plan_model.proofs.RowCounts.{row_exact, count-append}
use Rattle.plan_model.proofs.ValueFacts.{values_of_forms}

-- ---- two rows side by side

value_of_left : (xs ys : List Value) (place : ℕ) → place < length xs → unwrap_or (slice_get (xs ++ ys) place) Null ≡ unwrap_or (slice_get xs place) Null
value_of_left [] ys place h = absurd (omega arith)
value_of_left (x ∷ xs) ys zero h = refl
value_of_left (x ∷ xs) ys (suc place) h = value_of_left xs ys place (omega arith)

value_of_right : (xs ys : List Value) (place : ℕ) → unwrap_or (slice_get (xs ++ ys) (length xs + place)) Null ≡ unwrap_or (slice_get ys place) Null
value_of_right [] ys place = ap (λ n. unwrap_or (slice_get ys n) Null) (omega arith)
value_of_right (x ∷ xs) ys place =
    let e : length (x ∷ xs) + place ≡ suc (length xs + place) = omega arith in
    ap (λ n. unwrap_or (slice_get (x ∷ (xs ++ ys)) n) Null) e ∙ value_of_right xs ys place

column_there : (kind : DataType) (columns : List DataType) (values : List Value) (place : ℕ) → slice_get columns place ≡ Some kind → HaveTypes columns values → place < length values
column_there kind [] values place e h = cc
column_there kind (a ∷ columns) [] place e h = absurd h
column_there kind (a ∷ columns) (v ∷ values) zero e h = omega arith
column_there kind (a ∷ columns) (v ∷ values) (suc place) e h = let there : place < length values = column_there kind columns values place e h.1 in omega arith

module _ (columns : List DataType) (left right : Row) (fits : FitsTypes columns left) where
  abbrev IsOfLeft : TypedExpr → Type 0
  IsOfLeft expr = IsOver columns expr → val expr (beside left right) ≡ val expr left

  arguments_of_left : (arguments : List TypedExpr) → AllByRecursion IsOfLeft arguments → AllByRecursion (IsOver columns) arguments
      → map (λ argument. val argument (beside left right)) arguments ≡ map (λ argument. val argument left) arguments
  arguments_of_left [] all over = refl
  arguments_of_left (argument ∷ arguments) all over =
      ap (λ v. v ∷ map (λ e. val e (beside left right)) arguments) (all.0 over.0) ∙ ap (λ vs. val argument left ∷ vs) (arguments_of_left arguments all.1 over.1)

  forms : Forms IsOfLeft
  forms = record {
    column = λ place kind over.
        let there = column_there kind columns left.0 place (every_here (IsFormOver columns) (V.Column place kind) (O.Column place kind) (V.outs-Column place kind) over) fits in
        values_of_forms.column place kind (beside left right) ∙ value_of_left left.0 right.0 place there ∙ sym (values_of_forms.column place kind left);
    literal = λ value kind over. values_of_forms.literal value kind (beside left right) ∙ sym (values_of_forms.literal value kind left);
    call_form = λ function arguments kind all over.
        let parts = every_part (IsFormOver columns) (V.Call function arguments kind) (O.Call function arguments kind) (V.outs-Call function arguments kind) over in
        values_of_forms.call_form function arguments kind (beside left right) ∙ ap (call function kind) (arguments_of_left arguments all parts) ∙ sym (values_of_forms.call_form function arguments kind left);
    cast = λ child kind all over.
        let part = (every_part (IsFormOver columns) (V.Cast child kind) (O.Cast child kind) (V.outs-Cast child kind) over).0 in
        values_of_forms.cast child kind (beside left right) ∙ ap (cast_to kind) (all part) ∙ sym (values_of_forms.cast child kind left);
  }

both_true : (a b : Value) → is_true (and_value a b) ≡ (is_true a && is_true b)
both_true (Boolean false) b = refl
both_true (Boolean true) (Boolean true) = refl
both_true (Boolean true) (Boolean false) = refl
both_true (Boolean true) b = refl
both_true Null (Boolean true) = refl
both_true Null (Boolean false) = refl
both_true Null b = refl
both_true (Integer a) (Boolean true) = refl
both_true (Integer a) (Boolean false) = refl
both_true (Integer a) b = refl
both_true (Long a) (Boolean true) = refl
both_true (Long a) (Boolean false) = refl
both_true (Long a) b = refl
both_true (Text a) (Boolean true) = refl
both_true (Text a) (Boolean false) = refl
both_true (Text a) b = refl
both_true (Date a) (Boolean true) = refl
both_true (Date a) (Boolean false) = refl
both_true (Date a) b = refl

not_null : (a : Value) → (is_present a && value_eq a Null) ≡ false
not_null Null = refl
not_null (Boolean a) = refl
not_null (Integer a) = refl
not_null (Long a) = refl
not_null (Text a) = refl
not_null (Date a) = refl

same_present : (kind : DataType) (a b : Value) → HasType kind a → HasType kind b → a ≢ Null → b ≢ Null → is_true (equal_to a b) ≡ (is_present a && value_eq a b)
same_present kind a b p q m n = ap is_true (equal_in_type kind a b p q m n) ∙ ap (λ (t : Bool). t && value_eq a b) (sym (present-is a m))

same_keys : (kind : DataType) (a b : Value) → HasType kind a → HasType kind b → is_true (equal_to a b) ≡ (is_present a && value_eq a b)
same_keys kind Null b p q = refl
same_keys kind a Null p q = ap is_true (null_right a) ∙ sym (not_null a)
same_keys kind a b p q = same_present kind a b p q (λ (e : a ≡ Null). cc) (λ (e : b ≡ Null). cc)

pub conditions_of_pairs : ConditionsOfPairs
unfolding call
conditions_of_pairs = record {
  left_column = λ left right place h. value_of_left left.0 right.0 place h;
  right_column = λ left right place. value_of_right left.0 right.0 place;
  of_the_left = λ columns expr left right over fits. induct (IsOfLeft columns left right fits) (forms columns left right fits) expr over;
  both_true = both_true;
  same_keys = same_keys;
}

-- ---- joins

append_assoc : (xs ys zs : List Row) → (xs ++ ys) ++ zs ≡ xs ++ (ys ++ zs)
append_assoc [] ys zs = refl
append_assoc (x ∷ xs) ys zs = ap (λ rows. x ∷ rows) (append_assoc xs ys zs)

more_left : (joining : Joining) (a c b : List Row) → pairs joining (a ++ c) b ≡ pairs joining a b ++ pairs joining c b
more_left joining [] c b = refl
more_left joining (x ∷ a) c b =
    ap (λ rows. map (beside x) (filter (joining.matching x) b) ++ rows) (more_left joining a c b) ∙ sym (append_assoc (map (beside x) (filter (joining.matching x) b)) (pairs joining a b) (pairs joining c b))

more_right : (joining : Joining) (a b d : List Row) (row : Row) → count (pairs joining a (b ++ d)) row ≡ count (pairs joining a b ++ pairs joining a d) row
more_right joining [] b d row = refl
more_right joining (x ∷ a) b d row =
    let m = joining.matching x in
    let here : map (beside x) (filter m (b ++ d)) ≡ map (beside x) (filter m b) ++ map (beside x) (filter m d) = ap (map (beside x)) (filter-append m b d) ∙ map-append (beside x) (filter m b) (filter m d) in
    let counted : count (map (beside x) (filter m (b ++ d))) row ≡ count (map (beside x) (filter m b)) row + count (map (beside x) (filter m d)) row =
    ap (λ rows. count rows row) here ∙ count-append (map (beside x) (filter m b)) (map (beside x) (filter m d)) row in
    omega (
      arith,
      counted,
      more_right joining a b d row,
      count-append (map (beside x) (filter m (b ++ d))) (pairs joining a (b ++ d)) row,
      count-append (map (beside x) (filter m b)) (pairs joining a b) row,
      count-append (map (beside x) (filter m d)) (pairs joining a d) row,
      count-append (pairs joining a b) (pairs joining a d) row,
      count-append (map (beside x) (filter m b) ++ pairs joining a b) (map (beside x) (filter m d) ++ pairs joining a d) row,
    )

or_assoc : (a b c : Bool) → (a || (b || c)) ≡ ((a || b) || c)
or_assoc true b c = refl
or_assoc false b c = refl

any_append : (p : Row → Bool) (xs ys : List Row) → list_any p (xs ++ ys) ≡ (list_any p xs || list_any p ys)
any_append p [] ys = refl
any_append p (x ∷ xs) ys = ap (λ (b : Bool). p x || b) (any_append p xs ys) ∙ or_assoc (p x) (list_any p xs) (list_any p ys)

pub joins_grow : JoinsGrow
joins_grow = record {
  more_left = more_left;
  more_right = more_right;
  match_right = λ joining b d left. any_append (joining.matching left) b d;
  match_left = λ joining a c right. any_append (λ left. joining.matching left right) a c;
}

-- ---- groups and aggregates

present-append : (xs ys : List Value) → present (xs ++ ys) ≡ present xs ++ present ys
present-append xs ys = filter-append is_present xs ys

fold-more : (f : Value → Value → Value) (a : Value) (xs : List Value) (v : Value) → fold f a (xs ++ (v ∷ [])) ≡ f (fold f a xs) v
fold-more f a [] v = refl
fold-more f a (x ∷ xs) v = fold-more f (f a x) xs v

reduced-more : (f : Value → Value → Value) (here : List Value) (v : Value) → here ≢ [] → unwrap_or (reduce f (here ++ (v ∷ []))) Null ≡ f (unwrap_or (reduce f here) Null) v
reduced-more f [] v some = absurd (some refl)
reduced-more f (a ∷ here) v some = fold-more f a here v

present-more : (xs : List Value) (v : Value) → v ≢ Null → present (xs ++ (v ∷ [])) ≡ present xs ++ (v ∷ [])
present-more xs v h = present-append xs (v ∷ []) ∙ ap (λ (b : Bool). present xs ++ cond b (v ∷ []) []) (present-is v h)

pub groups_grow : GroupsGrow
groups_grow = record {
  groups = λ keys rows more key. filter-append (λ row. row_eq key (image keys row)) rows more;
  present_values = present-append;
  counts = λ xs ys. ap (λ (vs : List Value). Long (pos (length vs))) (present-append xs ys) ∙ ap (λ n. Long (pos n)) (length-append (present xs) (present ys));
  sums = λ xs ys.
      ap (λ (vs : List Value). unless_empty vs (wrapped_long (total vs))) (present-append xs ys)
      ∙ ap (λ n. unless_empty (present xs ++ present ys) (wrapped_long n)) (total-append (present xs) (present ys));
  least_of_more = λ xs v some h. ap (λ (vs : List Value). unwrap_or (reduce (ord_min value_cmp) vs) Null) (present-more xs v h) ∙ reduced-more (ord_min value_cmp) (present xs) v some;
  greatest_of_more = λ xs v some h. ap (λ (vs : List Value). unwrap_or (reduce (ord_max value_cmp) vs) Null) (present-more xs v h) ∙ reduced-more (ord_max value_cmp) (present xs) v some;
}

-- ---- each row once

seen_where : (m n : ℕ) (b : Bool) → m ≡ min n 1 → (b ≡ true → 0 < n) → m ≡ min (n + (cond b 1 0 + 0)) 1
seen_where m n true e h = let some : 0 < n = h refl in omega arith
seen_where m n false e h = omega arith

unseen_where : (m n : ℕ) (b : Bool) → m ≡ min n 1 → (b ≡ true → n ≡ 0) → m + (cond b 1 0 + 0) ≡ min (n + (cond b 1 0 + 0)) 1
unseen_where m n true e h = let none : n ≡ 0 = h refl in omega arith
unseen_where m n false e h = omega arith

one_more : (rows : List Row) (row r : Row) → count (rows ++ (row ∷ [])) r ≡ count rows r + (cond (row_eq r row) 1 0 + 0)
one_more rows row r = count-append rows (row ∷ []) r ∙ ap (λ n. count rows r + n) (copies-cons row_eq row_exact row [] r)

pub rows_once_grow : RowsOnceGrow
rows_once_grow = record {
  seen = λ different rows row once among r.
      seen_where (count different r) (count rows r) (row_eq r row) (once r) (λ e. subst (λ (x : Row). 0 < count rows x) (sym ((row_exact r row).0 e)) among) ∙ ap (λ n. min n 1) (sym (one_more rows row r));
  unseen = λ different rows row once none r.
      one_more different row r ∙ unseen_where (count different r) (count rows r) (row_eq r row) (once r) (λ e. ap (count rows) ((row_exact r row).0 e) ∙ none) ∙ ap (λ n. min n 1) (sym (one_more rows row r));
}
