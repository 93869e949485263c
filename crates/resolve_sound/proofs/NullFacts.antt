-- Values beside what their columns say of nulls.
use Rattle.std.proofs.Common.{◌≡◌, ℕ, zero, suc, Bool, true, List, [], ◌∷◌, ◌++◌, map, length, refl, sym, ap, ◌∙◌, subst, Option, Some, None}
use Rattle.std.specs.Prelude.{◌||◌, All, IsTrue, slice_get, unwrap_or}
use Rattle.std.proofs.lemmas.List.Elements.{All-head, All-tail}
use Rattle.cn_types.specs.declared.row.Row.{Row}
use Rattle.cn_types.specs.declared.value.DataType.{DataType}
use Rattle.cn_types.specs.declared.value.Value.{Value}
use Rattle.cn_types.specs.declared.value.Value.TheVariants.{Null}
use Rattle.plan_model.specs.declared.expression.TypedExpr.TheVariants as T
use Rattle.plan_model.specs.Selections.{image}
use Rattle.plan_model.specs.Truth.{is_present}
use Rattle.plan_model.specs.Val.{val}
use Rattle.plan_model.proofs.ValueFacts.{values_of_forms}
use Rattle.resolve_names.specs.declared.scope.ColumnOf.{ColumnOf}
use Rattle.resolve_expressions.specs.declared.item.Item.{Item}
use Rattle.resolve_expressions.specs.Stars.{column_item}
use Rattle.resolve_relations.specs.Columns.{exprs_of, made_by, made_column, numbered_from}
use Rattle.resolve_sound.specs.Sound.{FitsNulls, HaveNullsWithin, flags}

-- a value that may be null, or is there
abbrev pub May : Bool → Value → Type 0
May nullable value = IsTrue (nullable || is_present value)

pub may_be : (value : Value) → May true value
may_be value = refl

-- ---- flags of columns

pub flags_of_map : {I : Type 0} (f : ColumnOf I → ColumnOf I) → ((c : ColumnOf I) → (f c).nullable ≡ c.nullable) →
    (columns : List (ColumnOf I)) → flags (map f columns) ≡ flags columns
flags_of_map f h [] = refl
flags_of_map f h (c ∷ cs) = ap (λ (b : Bool). b ∷ flags (map f cs)) (h c) ∙ ap (λ (bs : List Bool). c.nullable ∷ bs) (flags_of_map f h cs)

pub flags_numbered : {I X : Type 0} (f : ℕ → X → ColumnOf I) (flag : X → Bool) → ((n : ℕ) (x : X) → (f n x).nullable ≡ flag x) →
    (n : ℕ) (xs : List X) →
    flags (numbered_from f n xs) ≡ map flag xs
flags_numbered f flag h n [] = refl
flags_numbered f flag h n (x ∷ xs) =
    ap (λ (b : Bool). b ∷ flags (numbered_from f (suc n) xs)) (h n x)
    ∙ ap (λ (bs : List Bool). flag x ∷ bs) (flags_numbered f flag h (suc n) xs)

-- ---- the value of a column

pub value_may : {I : Type 0} (columns : List (ColumnOf I)) (values : List Value) (place : ℕ) (column : ColumnOf I) →
    slice_get columns place ≡ Some column →
    HaveNullsWithin (flags columns) values → May column.nullable (unwrap_or (slice_get values place) Null)
value_may [] values place column is h = absurd (let f : ⊥ = cc in f)
value_may (c ∷ cs) [] place column is h = absurd h
value_may (c ∷ cs) (v ∷ vs) zero column is h = subst (λ (d : ColumnOf _). May d.nullable v) (let same : c ≡ column = cc in same) h.0
value_may (c ∷ cs) (v ∷ vs) (suc n) column is h = value_may cs vs n column is h.1

pub column_may : {I : Type 0} (columns : List (ColumnOf I)) (row : Row) (place : ℕ) (kind : DataType) (column : ColumnOf I) →
    slice_get columns place ≡ Some column →
    FitsNulls (flags columns) row → May column.nullable (val (T.Column place kind) row)
column_may columns row place kind column is h =
    subst (May column.nullable) (sym (values_of_forms.column place kind row)) (value_may columns row.0 place column is h)

-- ---- items

-- over each row that fits the columns, the item's value may be null or is there
abbrev pub Gives : {I : Type 0} → List (ColumnOf I) → Item → Type 0
Gives columns item = (row : Row) → FitsNulls (flags columns) row → May item.nullable (val item.expr row)

made_flag : {I : Type 0} (id : I) (item : Item) (source : Option (ColumnOf I)) → (made_by id item source).nullable ≡ item.nullable
made_flag id item (Some column) = refl
made_flag id item None = refl

abbrev pub item_flags : List Item → List Bool
item_flags items = map (λ item. item.nullable) items

pub flags_of_made : {I : Type 0} (fresh : ℕ → I) (columns : List (ColumnOf I)) (items : List Item) →
    flags (numbered_from (made_column fresh columns) 0 items) ≡ item_flags items
flags_of_made fresh columns items = flags_numbered (made_column fresh columns) (λ item. item.nullable)
    (λ n item. made_flag (fresh n) item _) 0 items

-- the values of such items over a row
pub image_may : (P : Item → Type 0) (row : Row) → ((item : Item) → P item → May item.nullable (val item.expr row)) → (items : List Item) →
    All P items →
    FitsNulls (item_flags items) (image (exprs_of items) row)
image_may P row h [] all = tt
image_may P row h (item ∷ items) all = (h item (All-head P item items all), image_may P row h items (All-tail P item items all))

-- a column behind others, as it is
pub column_gives : {I : Type 0} (front : List (ColumnOf I)) (column : ColumnOf I) (columns : List (ColumnOf I)) →
    Gives (front ++ column ∷ columns) (column_item (length front) column)
column_gives front column columns row h = column_may (front ++ column ∷ columns) row (length front) column.kind column (there front) h
  where
    there : (front : List (ColumnOf _)) → slice_get (front ++ column ∷ columns) (length front) ≡ Some column
    there [] = refl
    there (c ∷ cs) = there cs
