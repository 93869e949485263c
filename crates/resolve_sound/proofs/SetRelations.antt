-- Set operations.
use Rattle.std.proofs.Common.{◌≡◌, ℕ, ℤ, suc, Bool, true, false, List, [], ◌∷◌, map, refl, sym, ap, ◌∙◌, subst, Option, Some, None}
use Rattle.std.specs.Prelude.{All, IfOk, IfSome, ◌&&◌, not, if◌then◌else◌, option_map, slice_get}
use Rattle.std.proofs.lemmas.Bool.{and_parts}
use Rattle.std.proofs.lemmas.List.Elements.{All-cons, All-head, All-map, All-nil, All-tail, All-weaker}
use Rattle.std.proofs.lemmas.Option.{slice_get-map}
use Rattle.std.proofs.lemmas.Result.{IfOk-at_ok}
use Rattle.cn_types.specs.declared.value.DataType.{DataType}
use Rattle.cn_types.specs.declared.value.DataType.TheVariants as K
use Rattle.cn_types.specs.declared.value.Value.{Value}
use Rattle.plan_model.specs.declared.expression.TypedExpr.{TypedExpr}
use Rattle.plan_model.specs.declared.expression.TypedExpr.TheOpen.{TypedExpr-F}
use Rattle.plan_model.specs.declared.expression.TypedExpr.TheVariants as T
use Rattle.plan_model.specs.declared.node.Node.{Node}
use Rattle.plan_model.specs.declared.node.Node.TheVariants as V
use Rattle.plan_model.specs.declared.node.SetKind.{SetKind}
use Rattle.plan_model.specs.FunctionTypes.{can_cast, common, same_kind}
use Rattle.plan_model.specs.NodeTypes.{kind_of, kinds_of, types}
use Rattle.plan_model.specs.WellFormed.{IsFormOver, IsOver, IsSound, IsWellFormed}
use Rattle.plan_model.proofs.ExpressionFacts.{kind_of-Cast, kind_of-Column, kind_of-Literal, made-Cast, made-Column, made-Literal}
use Rattle.plan_model.proofs.NodeFacts.{made-Project, made-SetOp}
use Rattle.plan_model.proofs.NullFacts.{same_kind-is}
use Rattle.plan_model.proofs.TypesFacts.{types-Project, types-SetOp}
use Rattle.resolve_names.specs.declared.scope.ColumnOf.{ColumnOf}
use Rattle.resolve_names.specs.Checks.{Checked, or_refused}
use Rattle.resolve_types.specs.Calls.{unless}
use Rattle.resolve_expressions.specs.Grouping.{all_checked}
use Rattle.resolve_expressions.specs.Same.{all_same, same_expr}
use Rattle.resolve_expressions.proofs.SameFacts.{same_is_equal}
use Rattle.resolve_relations.specs.declared.found.FoundOf.{FoundOf}
use Rattle.resolve_relations.specs.Columns.{numbered, numbered_from}
use Rattle.resolve_sets.specs.declared.aligned.Aligned.{Aligned}
use Rattle.resolve_sets.specs.declared.aligned.Places.{Places}
use Rattle.resolve_sets.specs.Aligning.{aligned, aligned_at, column_at, kind_together, typed_as}
use Rattle.resolve_sets.specs.Sets.{aligned_column, as_kind, combined, is_union, is_whole, kind_numbered, left_value, own_value, places_of, right_value, set_column, set_rule, side, side_value, value_at}
use Rattle.resolve_sound.specs.PairLaws.{SetOperationsAre}
use Rattle.resolve_sound.specs.Sound.{IsSoundFound, kinds}
use Rattle.resolve_sound.proofs.Chains.{then_holds, there}
use Rattle.resolve_sound.proofs.Places.{kinds_numbered}

-- ---- lists of checks, and of numbered things

each_holds : {A : Type 0} (P : A → Type 0) (os : List (Checked A)) → All (λ o. IfOk o P) os → IfOk (all_checked os) (All P)
each_holds P [] all = All-nil P
each_holds P (o ∷ os) all =
    then_holds (All P) o _ (λ x is.
    then_holds (All P) (all_checked os) _ (λ xs are.
    All-cons P x xs (IfOk-at_ok P is (All-head (λ (c : Checked _). IfOk c P) o os all))
    (IfOk-at_ok (All P) are (each_holds P os (All-tail (λ (c : Checked _). IfOk c P) o os all)))))

each_numbered : {X Y : Type 0} (P : Y → Type 0) (f : ℕ → X → Y) → ((n : ℕ) (x : X) → P (f n x)) → (n : ℕ) (xs : List X) →
    All P (numbered_from f n xs)
each_numbered P f h n [] = All-nil P
each_numbered P f h n (x ∷ xs) = All-cons P (f n x) (numbered_from f (suc n) xs) (h n x) (each_numbered P f h (suc n) xs)

-- ---- types that go together

casts_itself : (kind : DataType) → can_cast kind kind ≡ true
casts_itself K.Boolean = refl
casts_itself K.Integer = refl
casts_itself K.Long = refl
casts_itself K.Text = refl
casts_itself K.Date = refl

nothing : {X : Type 0} (kind : DataType) → ◌≡◌ {A = Option DataType} None (Some kind) → X
nothing kind e = absurd (let h : ⊥ = cc in h)

gives : (f : DataType → Bool) (a b : DataType) → f a ≡ true → ◌≡◌ {A = Option DataType} (Some a) (Some b) → f b ≡ true
gives f a b h e = let same : a ≡ b = cc in subst (λ k. f k ≡ true) same h

-- both of two types may be cast to the one that they have together
left_casts : (a b kind : DataType) → common a b ≡ Some kind → can_cast a kind ≡ true
left_casts K.Boolean K.Boolean kind e = gives (can_cast K.Boolean) K.Boolean kind refl e
left_casts K.Boolean K.Integer kind e = nothing kind e
left_casts K.Boolean K.Long kind e = nothing kind e
left_casts K.Boolean K.Text kind e = nothing kind e
left_casts K.Boolean K.Date kind e = nothing kind e
left_casts K.Integer K.Boolean kind e = nothing kind e
left_casts K.Integer K.Integer kind e = gives (can_cast K.Integer) K.Integer kind refl e
left_casts K.Integer K.Long kind e = gives (can_cast K.Integer) K.Long kind refl e
left_casts K.Integer K.Text kind e = nothing kind e
left_casts K.Integer K.Date kind e = nothing kind e
left_casts K.Long K.Boolean kind e = nothing kind e
left_casts K.Long K.Integer kind e = gives (can_cast K.Long) K.Long kind refl e
left_casts K.Long K.Long kind e = gives (can_cast K.Long) K.Long kind refl e
left_casts K.Long K.Text kind e = nothing kind e
left_casts K.Long K.Date kind e = nothing kind e
left_casts K.Text K.Boolean kind e = nothing kind e
left_casts K.Text K.Integer kind e = nothing kind e
left_casts K.Text K.Long kind e = nothing kind e
left_casts K.Text K.Text kind e = gives (can_cast K.Text) K.Text kind refl e
left_casts K.Text K.Date kind e = nothing kind e
left_casts K.Date K.Boolean kind e = nothing kind e
left_casts K.Date K.Integer kind e = nothing kind e
left_casts K.Date K.Long kind e = nothing kind e
left_casts K.Date K.Text kind e = nothing kind e
left_casts K.Date K.Date kind e = gives (can_cast K.Date) K.Date kind refl e

turned : (a b : DataType) → common a b ≡ common b a
turned K.Boolean K.Boolean = refl
turned K.Boolean K.Integer = refl
turned K.Boolean K.Long = refl
turned K.Boolean K.Text = refl
turned K.Boolean K.Date = refl
turned K.Integer K.Boolean = refl
turned K.Integer K.Integer = refl
turned K.Integer K.Long = refl
turned K.Integer K.Text = refl
turned K.Integer K.Date = refl
turned K.Long K.Boolean = refl
turned K.Long K.Integer = refl
turned K.Long K.Long = refl
turned K.Long K.Text = refl
turned K.Long K.Date = refl
turned K.Text K.Boolean = refl
turned K.Text K.Integer = refl
turned K.Text K.Long = refl
turned K.Text K.Text = refl
turned K.Text K.Date = refl
turned K.Date K.Boolean = refl
turned K.Date K.Integer = refl
turned K.Date K.Long = refl
turned K.Date K.Text = refl
turned K.Date K.Date = refl

-- ---- what becomes one column

-- the side's column, where it has one, may be cast to this type
abbrev pub Casts : {I : Type 0} → DataType → Option (ColumnOf I) → Type 0
Casts kind column = IfSome column (λ c. can_cast c.kind kind ≡ true)

pub record IsFitting {I : Type 0} (left right : List (ColumnOf I)) (one : Aligned) : Type 0 where
  pub on_left : Casts one.kind (column_at left one.left)
  pub on_right : Casts one.kind (column_at right one.right)

module _ {I : Type 0} (left right : List (ColumnOf I)) where
  one_kind : (a : ColumnOf I) (kind : DataType) → ◌≡◌ {A = Option DataType} (Some a.kind) (Some kind) → can_cast a.kind kind ≡ true
  one_kind a kind e = gives (can_cast a.kind) a.kind kind (casts_itself a.kind) e

  both_cast : (a b : Option (ColumnOf I)) (kind : DataType) → kind_together a b ≡ Some kind → Casts kind a × Casts kind b
  both_cast (Some a) (Some b) kind e = (left_casts a.kind b.kind kind e, left_casts b.kind a.kind kind (turned b.kind a.kind ∙ e))
  both_cast (Some a) None kind e = (one_kind a kind e, tt)
  both_cast None (Some b) kind e = (tt, one_kind b kind e)
  both_cast None None kind e = nothing kind e

  fits_as : (places : Places) (o : Option DataType) → kind_together (column_at left places.left) (column_at right places.right) ≡ o →
      IfSome (option_map (typed_as places) o) (IsFitting left right)
  fits_as places None is = tt
  fits_as places (Some kind) is =
      let casts = both_cast (column_at left places.left) (column_at right places.right) kind is in
      record { on_left = casts.0; on_right = casts.1 }

  pub all_fit : (places : List Places) → IfOk (aligned left right places) (All (IsFitting left right))
  unfolding aligned
  all_fit places = each_holds (IsFitting left right) (numbered (aligned_at left right) places)
      (each_numbered (λ (o : Checked Aligned). IfOk o (IsFitting left right)) (aligned_at left right)
      (λ n one. there (IsFitting left right) _ _ (fits_as one _ refl)) 0 places)

-- ---- a side

record IsValue (columns : List DataType) (kind : DataType) (expr : TypedExpr) : Type 0 where
  over : IsOver columns expr
  typed : kind_of expr ≡ kind

module _ {I : Type 0} (columns : List (ColumnOf I)) where
  abbrev Form : TypedExpr-F TypedExpr → Type 0
  Form = IsFormOver (kinds columns)

  null_over : (kind : DataType) → IsValue (kinds columns) kind (T.Literal Value.Null kind)
  null_over kind = record { over = made-Literal Form Value.Null kind tt; typed = kind_of-Literal Value.Null kind }

  pub own_over : (place : ℕ) (column : ColumnOf I) → slice_get columns place ≡ Some column → IsOver (kinds columns) (own_value place column)
  own_over place column is = made-Column Form place column.kind
      (slice_get-map (λ c. c.kind) columns place ∙ ap (option_map (λ c. c.kind)) is)

  cast_over : (kind : DataType) (place : ℕ) (column : ColumnOf I) → slice_get columns place ≡ Some column →
      can_cast column.kind kind ≡ true →
      IsValue (kinds columns) kind (as_kind kind place column)
  cast_over kind place column is casts = by (same_kind kind column.kind) refl
    where
      by : (b : Bool) → same_kind kind column.kind ≡ b →
          IsValue (kinds columns) kind (if b then T.Column place column.kind else T.Cast (T.Column place column.kind) kind)
      by true same = record {
        over = own_over place column is;
        typed = kind_of-Column place column.kind
            ∙ sym (same_kind-is kind column.kind same);
      }
      by false other = record {
        over = made-Cast Form (T.Column place column.kind) kind
            (ap (λ (k : DataType). can_cast k kind) (kind_of-Column place column.kind) ∙ casts) (own_over place column is);
        typed = kind_of-Cast (T.Column place column.kind) kind;
      }

  at_over : (kind : DataType) (place : ℕ) (column : Option (ColumnOf I)) → slice_get columns place ≡ column → Casts kind column →
      IsValue (kinds columns) kind (value_at kind place column)
  at_over kind place (Some column) is casts = cast_over kind place column is casts
  at_over kind place None is casts = null_over kind

  side_over : (kind : DataType) (place : Option ℕ) → Casts kind (column_at columns place) →
      IsValue (kinds columns) kind (side_value columns kind place)
  side_over kind (Some place) casts = at_over kind place (slice_get columns place) refl casts
  side_over kind None casts = null_over kind

  -- ---- of all columns

  abbrev kinds_of_all : List Aligned → List DataType
  kinds_of_all all = map (λ one. one.kind) all

  module _ (place : Aligned → Option ℕ) where
    abbrev value : Aligned → TypedExpr
    value one = side_value columns one.kind (place one)

    abbrev Fitting : Aligned → Type 0
    Fitting one = Casts one.kind (column_at columns (place one))

    values_over : (all : List Aligned) → All Fitting all → All (IsOver (kinds columns)) (map value all)
    values_over all fit = All-map (IsOver (kinds columns)) value all
        (All-weaker Fitting (λ one. IsOver (kinds columns) (value one)) (λ one casts. (side_over one.kind (place one) casts).over) all fit)

    values_typed : (all : List Aligned) → All Fitting all → kinds_of (map value all) ≡ kinds_of_all all
    values_typed [] fit = refl
    values_typed (one ∷ all) fit =
        ap (λ (k : DataType). k ∷ kinds_of (map value all)) (side_over one.kind (place one) (All-head Fitting one all fit)).typed
        ∙ ap (λ (ks : List DataType). one.kind ∷ ks) (values_typed all (All-tail Fitting one all fit))

pub all_are : (exprs others : List TypedExpr) → all_same (map same_expr exprs) others ≡ true → exprs ≡ others
all_are [] [] e = refl
all_are [] (other ∷ others) e = absurd (let h : ⊥ = cc in h)
all_are (expr ∷ exprs) [] e = absurd (let h : ⊥ = cc in h)
all_are (expr ∷ exprs) (other ∷ others) e =
    let parts = and_parts (same_expr expr other) (all_same (map same_expr exprs) others) e in
    ap (λ (x : TypedExpr). x ∷ exprs) ((same_is_equal expr other).0 parts.0)
    ∙ ap (λ (xs : List TypedExpr). other ∷ xs) (all_are exprs others parts.1)

own_kinds : {I : Type 0} (n : ℕ) (columns : List (ColumnOf I)) → kinds_of (numbered_from own_value n columns) ≡ kinds columns
own_kinds n [] = refl
own_kinds n (c ∷ cs) =
    ap (λ (k : DataType). k ∷ kinds_of (numbered_from own_value (suc n) cs)) (kind_of-Column n c.kind)
    ∙ ap (λ (ks : List DataType). c.kind ∷ ks) (own_kinds (suc n) cs)

record IsSide (kinds : List DataType) (node : Node) : Type 0 where
  formed : IsWellFormed node
  typed : types node ≡ kinds

module _ {I : Type 0} (input : FoundOf I) (sound : IsSoundFound input) (values : List TypedExpr)
    (over : All (IsOver (kinds input.columns)) values) where
  side_sound : IsSide (kinds_of values) (side input values)
  unfolding side is_whole
  side_sound = by (all_same (map same_expr values) (numbered own_value input.columns)) refl
    where
      by : (b : Bool) → all_same (map same_expr values) (numbered own_value input.columns) ≡ b →
          IsSide (kinds_of values) (if b then input.node else V.Project input.node values)
      by true whole = record {
        formed = sound.node;
        typed = sound.columns ∙ sym (ap kinds_of (all_are values (numbered own_value input.columns) whole) ∙ own_kinds 0 input.columns);
      }
      by false part = record {
        formed = made-Project IsSound input.node values
            (subst (λ (ks : List DataType). All (IsOver ks) values) (sym sound.columns) over) sound.node;
        typed = types-Project input.node values;
      }

-- ---- the rule

set_kind : {I : Type 0} (id : I) (kind : DataType) (a b : Option (ColumnOf I)) → (set_column id kind a b).kind ≡ kind
set_kind id kind (Some a) (Some b) = refl
set_kind id kind (Some a) None = refl
set_kind id kind None (Some b) = refl
set_kind id kind None None = refl

module _ {I : Type 0} (exact : Bool) (fresh : ℕ → I) (left right : FoundOf I) (on_left : IsSoundFound left)
    (on_right : IsSoundFound right) where
  combined_sound : (kind : SetKind) (all : Bool) (ones : List Aligned) → All (IsFitting left.columns right.columns) ones →
      IsSoundFound (combined fresh left right kind all ones)
  unfolding combined
  combined_sound kind all ones fit =
      let left_fit = All-weaker (IsFitting left.columns right.columns) (Fitting left.columns (λ one. one.left))
      (λ one h. h.on_left) ones fit in
      let right_fit = All-weaker (IsFitting left.columns right.columns) (Fitting right.columns (λ one. one.right))
      (λ one h. h.on_right) ones fit in
      let l = side_sound left on_left (map (left_value left.columns) ones) (values_over left.columns (λ one. one.left) ones left_fit) in
      let r = side_sound right on_right (map (right_value right.columns) ones)
      (values_over right.columns (λ one. one.right) ones right_fit) in
      let left_typed = l.typed ∙ values_typed left.columns (λ one. one.left) ones left_fit in
      let right_typed = r.typed ∙ values_typed right.columns (λ one. one.right) ones right_fit in
      record {
        node = made-SetOp IsSound (side left (map (left_value left.columns) ones))
            (side right (map (right_value right.columns) ones)) kind all (left_typed ∙ sym right_typed) l.formed r.formed;
        columns = types-SetOp (side left (map (left_value left.columns) ones)) (side right (map (right_value right.columns) ones)) kind all
            ∙ left_typed
            ∙ sym (kinds_numbered (aligned_column fresh left.columns right.columns) (λ one. one.kind)
            (λ n one. set_kind (fresh n) one.kind _ _) 0 ones);
      }

  pub set_sound : (number : ℤ) (all named missing : Bool) → IfOk (set_rule exact fresh left right number all named missing) IsSoundFound
  unfolding set_rule
  set_sound number all named missing =
      then_holds IsSoundFound (or_refused _ (kind_numbered number)) _ (λ kind is.
      then_holds IsSoundFound (unless (named && not (is_union kind)) _) _ (λ u options.
      then_holds IsSoundFound (places_of exact named missing left.columns right.columns) _ (λ places at.
      then_holds IsSoundFound (aligned left.columns right.columns places) _ (λ ones are.
      combined_sound kind all ones (IfOk-at_ok (All (IsFitting left.columns right.columns)) are
      (all_fit left.columns right.columns places))))))

pub sets_sound : (I : Type 0) → SetOperationsAre I IsSoundFound
sets_sound I = record {
  set_operations = λ exact fresh number all named missing left right on_left on_right.
      set_sound exact fresh left right on_left on_right number all named missing;
}
