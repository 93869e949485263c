-- Columns in which rows that match have the same values.
use Rattle.std.proofs.Common.{◌≡◌, ◌<◌, inl, inr, ℕ, ◌+◌, Bool, true, false, List, [], ◌∷◌, ◌++◌, map, length, get_or, refl, sym, ap, ◌∙◌, subst, arith}
use Rattle.std.specs.Prelude.{◌⊎◌, not, ◌&&◌, ◌||◌, ◌==◌, All, Option, None, Some, Result, Ok, Err, IfSome, IfOk, OnOk}
use Rattle.std.specs.List.{AllByRecursion, list_all}
use Rattle.std.proofs.lemmas.Bool.{false≢true, and_parts, eqb-true}
use Rattle.std.proofs.lemmas.List.{map-append}
use Rattle.std.proofs.lemmas.List.Elements.{All-from_recursion}
use Rattle.std.proofs.lemmas.List.Folds.{list_any-append}
use Rattle.cn_types.specs.declared.row.Row.{Row}
use Rattle.cn_types.specs.declared.value.DataType.{DataType}
use Rattle.cn_types.specs.declared.value.Value.{Value}
use Rattle.cn_types.specs.declared.value.Value.TheVariants.{Null, Boolean, Integer, Long, Text, Date}
use Rattle.cn_types.specs.Fit.{value_at}
use Rattle.cn_types.specs.Order.{value_cmp, value_eq, row_eq}
use Rattle.cn_types.proofs.OrderFacts.{values_exact}
use Rattle.plan_model.specs.declared.expression.TypedExpr.{TypedExpr}
use Rattle.plan_model.specs.declared.function.Function.{Function}
use Rattle.plan_model.specs.Comparisons.{equal_to}
use Rattle.plan_model.specs.Functions.{call}
use Rattle.plan_model.specs.Groups.{columns_of}
use Rattle.plan_model.specs.Joins.{beside}
use Rattle.plan_model.specs.Truth.{is_true, is_present}
use Rattle.plan_model.specs.Val.{val}
use Rattle.plan_model.proofs.ComparisonFacts.{is_eq-Equal, null_right}
use Rattle.plan_model.proofs.RowCounts.{row_exact}
use Rattle.plan_model.proofs.StepFacts.{conditions_of_pairs}
use Rattle.relation_eval.specs.declared.equalities.Equality.{Equality}
use Rattle.relation_eval.specs.Equalities.{is_of_kind, are_of_kind, AreSame, IsMet, IsShared, CandidatesShare}
use Rattle.relation_eval.specs.Matches.{has_null_in, is_candidate, AreKeys}

-- ---- what follows from a result's fact

pub if_some_more : {X : Type 0} (o : Option X) (P Q : X → Type 0) → ((x : X) → Q x → P x) → IfSome o Q → IfSome o P
if_some_more None P Q f h = h
if_some_more (Some x) P Q f h = f x h

pub if_ok_more : {X E : Type 0} (r : Result X E) (P Q : X → Type 0) → ((x : X) → Q x → P x) → IfOk r Q → IfOk r P
if_ok_more (Ok x) P Q f h = f x h
if_ok_more (Err e) P Q f h = h

pub on_ok_more : {X E : Type 0} (r : Result X E) (P Q : Type 0) → (Q → P) → OnOk r Q → OnOk r P
on_ok_more (Ok x) P Q f h = f h
on_ok_more (Err e) P Q f h = h

-- ---- the values of columns that are equal

eq_exact : (a b : Value) → value_eq a b ≡ true → a ≡ b
eq_exact a b h = (values_exact a b).0 (is_eq-Equal (value_cmp a b) h)

pub same_of_kind : (kind : DataType) (a b : Value) → is_of_kind kind a ≡ true → is_of_kind kind b ≡ true → is_true (equal_to a b) ≡ true → (a ≡ b) × (is_present a ≡ true)
same_of_kind kind Null b p q h = absurd (false≢true h)
same_of_kind kind a Null p q h = absurd (false≢true (sym (ap is_true (null_right a)) ∙ h))
same_of_kind DataType.Boolean (Boolean a) (Boolean b) p q h = (eq_exact (Boolean a) (Boolean b) h, refl)
same_of_kind DataType.Integer (Integer a) (Integer b) p q h = (eq_exact (Integer a) (Integer b) h, refl)
same_of_kind DataType.Long (Long a) (Long b) p q h = (eq_exact (Long a) (Long b) h, refl)
same_of_kind DataType.Text (Text a) (Text b) p q h = (eq_exact (Text a) (Text b) h, refl)
same_of_kind DataType.Date (Date a) (Date b) p q h = (eq_exact (Date a) (Date b) h, refl)
same_of_kind DataType.Boolean a b p q h = absurd (false≢true cc)
same_of_kind DataType.Integer a b p q h = absurd (false≢true cc)
same_of_kind DataType.Long a b p q h = absurd (false≢true cc)
same_of_kind DataType.Text a b p q h = absurd (false≢true cc)
same_of_kind DataType.Date a b p q h = absurd (false≢true cc)

swapped : (a b : Value) → AreSame a b → AreSame b a
swapped a b same kind p q = let s = same kind q p in (sym s.0, ap is_present (sym s.0) ∙ s.1)

pub equal_columns : (kind : DataType) (row : Row) (arguments : List TypedExpr) (d e : TypedExpr) (first second : ℕ) → length arguments ≡ 2
    → val (get_or arguments 0 d) row ≡ value_at first row → val (get_or arguments 1 e) row ≡ value_at second row
    → is_true (call Function.EqualTo kind (map (λ argument. val argument row) arguments)) ≡ true → AreSame (value_at first row) (value_at second row)
unfolding call
equal_columns kind row [] d e first second n f g h = absurd (omega arith)
equal_columns kind row (x ∷ []) d e first second n f g h = absurd (omega arith)
equal_columns kind row (x ∷ y ∷ []) d e first second n f g h =
    let equal : is_true (equal_to (value_at first row) (value_at second row)) ≡ true = ap (λ v. is_true (equal_to v (value_at second row))) (sym f) ∙ ap (λ v. is_true (equal_to (val x row) v)) (sym g) ∙ h in
    λ k p q. same_of_kind k (value_at first row) (value_at second row) p q equal
equal_columns kind row (x ∷ y ∷ z ∷ rest) d e first second n f g h = absurd (omega arith)

-- the places of an equality are those of two columns
abbrev pub IsAcross : ℕ → ℕ → ℕ → Equality → Type 0
IsAcross width first second equality =
    ((equality.left ≡ first) × (second ≡ width + equality.right) × (first < width)) ⊎ ((equality.left ≡ second) × (first ≡ width + equality.right) × (second < width))

placed : (width : ℕ) (row : Row) (equality : Equality) (left right : ℕ) → equality.left ≡ left → right ≡ width + equality.right → left < width → AreSame (value_at left row) (value_at right row) → IsMet width row equality
placed width row equality left right l r h same = (
  subst (λ n. n < width) (sym l) h,
  subst (λ n. AreSame (value_at n row) (value_at (width + equality.right) row)) (sym l) (subst (λ n. AreSame (value_at left row) (value_at n row)) r same),
)

pub met_across : (width : ℕ) (row : Row) (equality : Equality) (first second : ℕ) → IsAcross width first second equality → AreSame (value_at first row) (value_at second row) → IsMet width row equality
met_across width row equality first second (inl h) same = placed width row equality first second h.0 h.1 h.2 same
met_across width row equality first second (inr h) same = placed width row equality second first h.0 h.1 h.2 (swapped (value_at first row) (value_at second row) same)

-- ---- conditions that are joined by `and`

all_true : (kind : DataType) (values : List Value) → is_true (call Function.And kind values) ≡ true → AllByRecursion (λ value. is_true value ≡ true) values
unfolding call
all_true kind [] h = absurd (false≢true h)
all_true kind (a ∷ []) h = absurd (false≢true h)
all_true kind (a ∷ b ∷ []) h = let parts = and_parts (is_true a) (is_true b) (sym (conditions_of_pairs.both_true a b) ∙ h) in (parts.0, (parts.1, tt))
all_true kind (a ∷ b ∷ c ∷ rest) h = absurd (false≢true h)

of_values : (row : Row) (arguments : List TypedExpr) → AllByRecursion (λ value. is_true value ≡ true) (map (λ argument. val argument row) arguments) → AllByRecursion (λ argument. is_true (val argument row) ≡ true) arguments
of_values row [] all = tt
of_values row (argument ∷ arguments) all = (all.0, of_values row arguments all.1)

pub arguments_true : (kind : DataType) (row : Row) (arguments : List TypedExpr) → is_true (call Function.And kind (map (λ argument. val argument row) arguments)) ≡ true → All (λ argument. is_true (val argument row) ≡ true) arguments
arguments_true kind row arguments h =
    All-from_recursion (λ argument. is_true (val argument row) ≡ true) arguments (of_values row arguments (all_true kind (map (λ argument. val argument row) arguments) h))

-- ---- one key more

all_passed : {X : Type 0} (test : X → Bool) (xs : List X) → list_all test xs ≡ true → AllByRecursion (λ x. test x ≡ true) xs
all_passed test [] h = tt
all_passed test (x ∷ xs) h = let parts = and_parts (test x) (list_all test xs) h in (parts.0, all_passed test xs parts.1)

all_pass : {X : Type 0} (test : X → Bool) (xs : List X) → list_all test xs ≡ true → All (λ x. test x ≡ true) xs
all_pass test xs h = All-from_recursion (λ x. test x ≡ true) xs (all_passed test xs h)

still_none : (a b : Bool) → not a ≡ true → b ≡ true → not (a || (not b || false)) ≡ true
still_none true b p q = absurd (false≢true p)
still_none false true p q = refl
still_none false false p q = absurd (false≢true q)

both : (a b : Bool) → a ≡ true → b ≡ true → (a && b) ≡ true
both true true p q = refl
both true false p q = absurd (false≢true q)
both false b p q = absurd (false≢true p)

columns_more : (columns : List ℕ) (column : ℕ) (row : Row) → columns_of (columns ++ column ∷ []) row ≡ record { 0 = (columns_of columns row).0 ++ value_at column row ∷ [] }
columns_more columns column row = ap (λ (vs : List Value). record { 0 = vs }) (map-append (λ c. value_at c row) columns (column ∷ []))

candidate_more : (lefts rights : List ℕ) (left right : Row) (l r : ℕ) → is_candidate lefts rights left right ≡ true → value_at l left ≡ value_at r right → is_present (value_at l left) ≡ true
    → is_candidate (lefts ++ l ∷ []) (rights ++ r ∷ []) left right ≡ true
candidate_more lefts rights left right l r before same present =
    let parts = and_parts (not (has_null_in lefts left)) (row_eq (columns_of lefts left) (columns_of rights right)) before in
    let values : columns_of lefts left ≡ columns_of rights right = (row_exact (columns_of lefts left) (columns_of rights right)).0 parts.1 in
    let all_values : columns_of (lefts ++ l ∷ []) left ≡ columns_of (rights ++ r ∷ []) right =
    columns_more lefts l left ∙ ap (λ (row : Row). record { 0 = row.0 ++ value_at l left ∷ [] }) values ∙ ap (λ v. record { 0 = (columns_of rights right).0 ++ v ∷ [] }) same ∙ sym (columns_more rights r right) in
    let no_null : not (has_null_in (lefts ++ l ∷ []) left) ≡ true =
    ap not (list_any-append (λ column. not (is_present (value_at column left))) lefts (l ∷ [])) ∙ still_none (has_null_in lefts left) (is_present (value_at l left)) parts.0 present in
    both (not (has_null_in (lefts ++ l ∷ []) left)) (row_eq (columns_of (lefts ++ l ∷ []) left) (columns_of (rights ++ r ∷ []) right)) no_null
    ((row_exact (columns_of (lefts ++ l ∷ []) left) (columns_of (rights ++ r ∷ []) right)).1 all_values)

pub shares_more : (equalities : List Equality) (lefts rights : List ℕ) (a b : List Row) (i : ℕ) (equality d : Equality) → CandidatesShare equalities lefts rights a b → i < length equalities → equality ≡ get_or equalities i d
    → (are_of_kind equality.kind equality.left a && are_of_kind equality.kind equality.right b) ≡ true → CandidatesShare equalities (lefts ++ equality.left ∷ []) (rights ++ equality.right ∷ []) a b
shares_more equalities lefts rights a b i equality o so_far there is typed = λ m d dm n e en all.
    let left = get_or a m d in
    let right = get_or b n e in
    let kinds = and_parts (are_of_kind equality.kind equality.left a) (are_of_kind equality.kind equality.right b) typed in
    let shared : IsShared left right equality = subst (IsShared left right) (sym is) (all i o there) in
    let same = shared equality.kind (all_pass (λ row. is_of_kind equality.kind (value_at equality.left row)) a kinds.0 m d dm)
    (all_pass (λ row. is_of_kind equality.kind (value_at equality.right row)) b kinds.1 n e en) in
    candidate_more lefts rights left right equality.left equality.right (so_far m d dm n e en all) same.0 same.1

-- ---- the equalities of a condition are keys

shared_of : (width : ℕ) (left right : Row) (equality : Equality) → length left.0 ≡ width → IsMet width (beside left right) equality → IsShared left right equality
shared_of width left right equality wide met =
    let here : equality.left < length left.0 = subst (λ n. equality.left < n) (sym wide) met.0 in
    let behind : value_at (width + equality.right) (beside left right) ≡ value_at equality.right right =
    ap (λ n. value_at (n + equality.right) (beside left right)) (sym wide) ∙ conditions_of_pairs.right_column left right equality.right in
    subst (λ v. AreSame v (value_at equality.right right)) (conditions_of_pairs.left_column left right equality.left here) (subst (λ v. AreSame (value_at equality.left (beside left right)) v) behind met.1)

pub shares_are_keys : (condition : TypedExpr) (width : ℕ) (equalities : List Equality) (lefts rights : List ℕ) (a b : List Row) → list_all (λ row. length row.0 == width) a ≡ true
    → ((row : Row) → is_true (val condition row) ≡ true → All (IsMet width row) equalities) → CandidatesShare equalities lefts rights a b → AreKeys (Some condition) lefts rights a b
shares_are_keys condition width equalities lefts rights a b wide met shares = λ m d dm n e en match.
    let left = get_or a m d in
    let right = get_or b n e in
    let long : length left.0 ≡ width = eqb-true (length left.0) width (all_pass (λ row. length row.0 == width) a wide m d dm) in
    shares m d dm n e en (λ i x ix. shared_of width left right (get_or equalities i x) long (met (beside left right) match i x ix))
