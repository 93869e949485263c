-- Columns at their places, and the types of lists of columns.
use Rattle.std.proofs.Common.{◌≡◌, ℕ, zero, suc, ◌+◌, ◌<◌, Bool, true, false, cond, List, [], ◌∷◌, ◌++◌, map, length, refl, sym, ap, ◌∙◌, subst, arith, append_assoc, Option, Some, None}
use Rattle.std.specs.Prelude.{All, filter, IfOk, nat_lt, count_by, position, slice_get}
use Rattle.std.proofs.lemmas.List.Elements.{All-append, All-cons, All-nil}
use Rattle.std.proofs.lemmas.List.{length_push}
use Rattle.std.proofs.lemmas.List.Quantifiers.{position-Some}
use Rattle.cn_types.specs.declared.value.DataType.{DataType}
use Rattle.plan_model.specs.declared.expression.TypedExpr.TheVariants as V
use Rattle.plan_model.specs.NodeTypes.{kind_of, kinds_of}
use Rattle.plan_model.specs.WellFormed.{IsFormOver, IsOver}
use Rattle.plan_model.proofs.ExpressionFacts.{kind_of-Column, made-Column}
use Rattle.resolve_names.specs.declared.scope.ColumnOf.{ColumnOf}
use Rattle.resolve_names.specs.Checks.{or_refused, refused}
use Rattle.resolve_names.specs.Refusals.{Refusal}
use Rattle.resolve_names.specs.Scopes.{named_place, only_place}
use Rattle.resolve_expressions.specs.declared.item.Item.{Item}
use Rattle.resolve_expressions.specs.Stars.{column_item, item_where, items_where}
use Rattle.resolve_relations.specs.Columns.{exprs_of, made_by, made_column, numbered_from}
use Rattle.resolve_relations.specs.Keeping.{its_place, plain_place}
use Rattle.resolve_sound.specs.Sound.{kinds}
use Rattle.resolve_sound.proofs.Chains.{either_way}

-- ---- types of columns

pub kinds_of_map : {I : Type 0} (f : ColumnOf I → ColumnOf I) → ((c : ColumnOf I) → (f c).kind ≡ c.kind) → (columns : List (ColumnOf I)) →
    kinds (map f columns) ≡ kinds columns
kinds_of_map f h [] = refl
kinds_of_map f h (c ∷ cs) = ap (λ (k : DataType). k ∷ kinds (map f cs)) (h c)
    ∙ ap (λ (ks : List DataType). c.kind ∷ ks) (kinds_of_map f h cs)

pub kinds_numbered : {I X : Type 0} (f : ℕ → X → ColumnOf I) (kind : X → DataType) → ((n : ℕ) (x : X) → (f n x).kind ≡ kind x) →
    (n : ℕ) (xs : List X) →
    kinds (numbered_from f n xs) ≡ map kind xs
kinds_numbered f kind h n [] = refl
kinds_numbered f kind h n (x ∷ xs) =
    ap (λ (k : DataType). k ∷ kinds (numbered_from f (suc n) xs)) (h n x)
    ∙ ap (λ (ks : List DataType). kind x ∷ ks) (kinds_numbered f kind h (suc n) xs)

made_kind : {I : Type 0} (id : I) (item : Item) (source : Option (ColumnOf I)) → (made_by id item source).kind ≡ kind_of item.expr
made_kind id item (Some column) = refl
made_kind id item None = refl

kinds_of_exprs : (items : List Item) → map (λ item. kind_of item.expr) items ≡ kinds_of (exprs_of items)
kinds_of_exprs [] = refl
kinds_of_exprs (item ∷ items) = ap (λ (ks : List DataType). kind_of item.expr ∷ ks) (kinds_of_exprs items)

-- the columns of items have the types of their expressions
pub kinds_of_made : {I : Type 0} (fresh : ℕ → I) (columns : List (ColumnOf I)) (items : List Item) →
    kinds (numbered_from (made_column fresh columns) 0 items) ≡ kinds_of (exprs_of items)
kinds_of_made fresh columns items =
    kinds_numbered (made_column fresh columns) (λ item. kind_of item.expr) (λ n item. made_kind (fresh n) item _) 0 items
    ∙ kinds_of_exprs items

-- ---- places that are there

position_within : {X : Type 0} (p : X → Bool) (xs : List X) (i : ℕ) → position p xs ≡ Some i → i < length xs
position_within p [] i e = cc
position_within p (x ∷ xs) i e = (position-Some p (x ∷ xs) i x e).0

pub one_place : {X : Type 0} (none many : Refusal) (passes : X → Bool) (items : List X) →
    IfOk (only_place none many passes items) (λ place. place < length items)
one_place none many passes items = either_way (λ place. place < length items) (nat_lt 1 (count_by passes items)) (refused many)
    (or_refused none (position passes items)) tt (by (position passes items) refl)
  where
    by : (o : Option ℕ) → position passes items ≡ o → IfOk (or_refused none o) (λ place. place < length items)
    by None is = tt
    by (Some place) is = position_within passes items place is

pub plain_place_within : {I : Type 0} (exact : Bool) (columns : List (ColumnOf I)) (name : List ℕ) →
    IfOk (plain_place exact columns name) (λ place. place < length columns)
unfolding named_place
plain_place_within exact columns name = one_place _ _ _ columns

numbers_within : {X : Type 0} (n : ℕ) (xs : List X) → All (λ place. place < n + length xs) (numbered_from its_place n xs)
numbers_within n [] = All-nil (λ place. place < n + 0)
numbers_within n (x ∷ xs) =
    All-cons (λ place. place < n + suc (length xs)) n (numbered_from its_place (suc n) xs) (omega arith)
    (subst (λ (m : ℕ). All (λ place. place < m) (numbered_from its_place (suc n) xs)) (omega arith) (numbers_within (suc n) xs))

pub places_within : {X : Type 0} (xs : List X) → All (λ place. place < length xs) (numbered_from its_place 0 xs)
places_within xs = subst (λ (m : ℕ). All (λ place. place < m) (numbered_from its_place 0 xs)) (omega arith) (numbers_within 0 xs)

-- ---- columns as expressions

kind_behind : {I : Type 0} (front : List (ColumnOf I)) (column : ColumnOf I) (columns : List (ColumnOf I)) (place : ℕ) →
    place ≡ length front →
    slice_get (kinds (front ++ column ∷ columns)) place ≡ Some column.kind
kind_behind [] column columns place is = ap (slice_get (kinds (column ∷ columns))) is
kind_behind (c ∷ cs) column columns zero is = absurd (let h : ⊥ = omega arith in h)
kind_behind (c ∷ cs) column columns (suc n) is = let h : n ≡ length cs = omega arith in kind_behind cs column columns n h

-- a column that stands behind others
pub column_over : {I : Type 0} (front : List (ColumnOf I)) (column : ColumnOf I) (columns : List (ColumnOf I)) (place : ℕ) →
    place ≡ length front →
    IsOver (kinds (front ++ column ∷ columns)) (V.Column place column.kind)
column_over front column columns place is =
    made-Column (IsFormOver (kinds (front ++ column ∷ columns))) place column.kind (kind_behind front column columns place is)

abbrev pub ItemOver : List DataType → Item → Type 0
ItemOver columns item = IsOver columns item.expr

-- what holds of every item that is made of a column which stands behind others
abbrev pub OfEach : {I : Type 0} → List (ColumnOf I) → (Item → Type 0) → (ℕ → ColumnOf I → Item) → Type 0
OfEach {I = I} all P make = (front : List (ColumnOf I)) (c : ColumnOf I) (rest : List (ColumnOf I)) → front ++ c ∷ rest ≡ all →
    P (make (length front) c)

numbered_hold : {I : Type 0} (P : Item → Type 0) (make : ℕ → ColumnOf I → Item) (all : List (ColumnOf I)) → OfEach all P make →
    (front columns : List (ColumnOf I)) (n : ℕ) → n ≡ length front → front ++ columns ≡ all → All P (numbered_from make n columns)
numbered_hold P make all h front [] n is whole = All-nil P
numbered_hold P make all h front (c ∷ cs) n is whole =
    All-cons P (make n c) (numbered_from make (suc n) cs) (subst (λ (m : ℕ). P (make m c)) (sym is) (h front c cs whole))
    (numbered_hold P make all h (front ++ c ∷ []) cs (suc n) (omega (arith, length_push front c)) (append_assoc front (c ∷ []) cs ∙ whole))

pub all_numbered : {I : Type 0} (P : Item → Type 0) (make : ℕ → ColumnOf I → Item) (all : List (ColumnOf I)) → OfEach all P make →
    All P (numbered_from make 0 all)
all_numbered P make all h = numbered_hold P make all h [] all 0 refl refl

-- the columns that pass, as they are
module _ {I : Type 0} (P : Item → Type 0) (passes : ColumnOf I → Bool) (all : List (ColumnOf I)) (h : OfEach all P column_item) where
  one_holds : (n : ℕ) (c : ColumnOf I) → P (column_item n c) → (b : Bool) → All P (item_where b n c)
  one_holds n c p true = All-cons P (column_item n c) [] p (All-nil P)
  one_holds n c p false = All-nil P

  where_hold : (front columns : List (ColumnOf I)) (n : ℕ) → n ≡ length front → front ++ columns ≡ all →
      All P (items_where passes n columns)
  where_hold front [] n is whole = All-nil P
  where_hold front (c ∷ cs) n is whole =
      All-append P (item_where (passes c) n c) (items_where passes (suc n) cs)
      (one_holds n c (subst (λ (m : ℕ). P (column_item m c)) (sym is) (h front c cs whole)) (passes c))
      (where_hold (front ++ c ∷ []) cs (suc n) (omega (arith, length_push front c)) (append_assoc front (c ∷ []) cs ∙ whole))

  pub all_passing : All P (items_where passes 0 all)
  all_passing = where_hold [] all 0 refl refl

-- columns as they are, are over the columns
pub columns_over : {I : Type 0} (all : List (ColumnOf I)) → OfEach all (ItemOver (kinds all)) column_item
columns_over all front c rest whole = subst (λ (cs : List (ColumnOf _)). IsOver (kinds cs) (V.Column (length front) c.kind)) whole
    (column_over front c rest (length front) refl)

module _ {I : Type 0} (passes : ColumnOf I → Bool) (all : List (ColumnOf I)) where
  pub passing_over : All (ItemOver (kinds all)) (items_where passes 0 all)
  passing_over = all_passing (ItemOver (kinds all)) passes all (columns_over all)

  one_kind : (n : ℕ) (c : ColumnOf I) (cs : List (ColumnOf I)) (items : List Item) → kinds_of (exprs_of items) ≡ kinds cs → (b : Bool) →
      kinds_of (exprs_of (item_where b n c ++ items)) ≡ kinds (cond b (c ∷ cs) cs)
  one_kind n c cs items rest true =
      ap (λ (k : DataType). k ∷ kinds_of (exprs_of items)) (kind_of-Column n c.kind) ∙ ap (λ (ks : List DataType). c.kind ∷ ks) rest
  one_kind n c cs items rest false = rest

  -- they have the types of those columns
  pub kinds_of_passing : (n : ℕ) (columns : List (ColumnOf I)) →
      kinds_of (exprs_of (items_where passes n columns)) ≡ kinds (filter passes columns)
  kinds_of_passing n [] = refl
  kinds_of_passing n (c ∷ cs) = one_kind n c (filter passes cs) (items_where passes (suc n) cs) (kinds_of_passing (suc n) cs) (passes c)
