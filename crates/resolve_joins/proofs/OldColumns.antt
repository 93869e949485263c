-- The columns of a join have the ids of the left's columns, or of the right's.
use Rattle.std.proofs.Common.{◌≡◌, ℕ, zero, suc, ◌+◌, ◌<◌, ◌≤◌, Bool, true, false, List, [], ◌∷◌, ◌++◌, map, length, drop, refl, inl, inr, sym, ap, ◌∙◌, subst, arith, Option, Some, None}
use Rattle.std.specs.Prelude.{ℤ, Ok, nat_eq, ◌==◌, ◌||◌, not, if◌then◌else◌, All, Contains, slice_get, option_and_then, filter, filter_map, codes, pos}
use Rattle.std.specs.List.{cons_option}
use Rattle.std.proofs.lemmas.List.{append-nil, get_or-map, length-map}
use Rattle.std.proofs.lemmas.List.Elements.{All-append, All-cons, All-drop, All-filter, All-map, All-nil, Contains-append_left, Contains-append_right}
use Rattle.expression_messages.specs.declared.expression.Expr.{Expr}
use Rattle.plan_model.specs.declared.node.JoinKind.{JoinKind}
use Rattle.plan_model.specs.declared.node.JoinKind.TheVariants as kind
use Rattle.resolve_names.specs.declared.scope.ColumnOf.{ColumnOf}
use Rattle.resolve_names.specs.Checks.{Checked, or_refused}
use Rattle.resolve_names.specs.Refusals.{Refusal}
use Rattle.resolve_types.specs.Calls.{unless}
use Rattle.resolve_expressions.specs.declared.item.Item.{Item}
use Rattle.resolve_expressions.specs.Grouping.{all_checked}
use Rattle.resolve_expressions.specs.Outputs.{condition_of}
use Rattle.resolve_expressions.specs.Stars.{any_column, items_where}
use Rattle.resolve_expressions.proofs.TypedFacts.{bind_ok, same_ok}
use Rattle.resolve_relations.specs.declared.found.FoundOf.{FoundOf}
use Rattle.resolve_relations.specs.Columns.{column_limit, made_by, made_column, numbered_from}
use Rattle.resolve_relations.specs.Making.{bad_option}
use Rattle.resolve_joins.specs.declared.keys.KeyPair.{KeyPair}
use Rattle.resolve_joins.specs.Joins.{clash, is_there, join_rule, joined_columns, kind_numbered, kind_without, on_rule, perhaps_null, side_columns, using_rule}
use Rattle.resolve_joins.specs.Keys.{is_rest, key_item, key_pair, using_items}
use Rattle.resolve_joins.specs.Laws.{OtherColumnsAreOld, SemiJoinsHaveTheLeftAlone, ids, ids_of, new_columns}

there : {A : Type 0} (why : Refusal) (o : Option A) (x : A) → or_refused why o ≡ Ok x → o ≡ Some x
there why (Some y) x e = ap Some (same_ok y x e)
there why None x e = absurd (let h : ⊥ = cc in h)

abbrev Columns : Type 0
Columns = List (ColumnOf ℕ)

abbrev IsOld : List ℕ → ColumnOf ℕ → Type 0
IsOld known column = Contains known column.id

-- ---- the columns of pairs

own_ids : (columns : Columns) → All (IsOld (ids columns)) columns
own_ids columns at d within = (
  at,
  subst (λ (n : ℕ). at < n) (sym (length-map columns (λ (c : ColumnOf ℕ). c.id))) within,
  get_or-map (λ (c : ColumnOf ℕ). c.id) columns at d _ within,
)

side_old : (known : List ℕ) (nulls : Bool) (columns : Columns) → All (IsOld known) columns → All (IsOld known) (side_columns nulls columns)
side_old known nulls columns held = All-map (IsOld known) (perhaps_null nulls) columns held

both_old : (a b : Bool) (left right : Columns) → All (IsOld (ids left ++ ids right)) (side_columns a left ++ side_columns b right)
both_old a b left right =
    let known = ids left ++ ids right in
    All-append (IsOld known) (side_columns a left) (side_columns b right)
    (side_old known a left (λ at d within. Contains-append_left (ids left) (ids right) _ (own_ids left at d within)))
    (side_old known b right (λ at d within. Contains-append_right (ids left) (ids right) _ (own_ids right at d within)))

left_old : (a : Bool) (left : Columns) → All (IsOld (ids left)) (side_columns a left ++ [])
left_old a left = subst (All (IsOld (ids left))) (sym (append-nil (side_columns a left))) (side_old (ids left) a left (own_ids left))

joined_old : (kind : JoinKind) (left right : Columns) → All (IsOld (ids_of kind (ids left) (ids right))) (joined_columns kind left right)
unfolding joined_columns
joined_old kind.Inner left right = both_old false false left right
joined_old kind.Full left right = both_old true true left right
joined_old kind.Left left right = both_old false true left right
joined_old kind.Right left right = both_old true false left right
joined_old kind.Anti left right = left_old false left
joined_old kind.Semi left right = left_old false left
joined_old kind.Cross left right = both_old false false left right

without_old : (kind : JoinKind) (left right : Columns) →
    All (IsOld (ids_of kind (ids left) (ids right))) (joined_columns (kind_without kind) left right)
without_old kind.Inner left right = joined_old kind.Cross left right
without_old kind.Full left right = joined_old kind.Full left right
without_old kind.Left left right = joined_old kind.Left left right
without_old kind.Right left right = joined_old kind.Right left right
without_old kind.Anti left right = joined_old kind.Anti left right
without_old kind.Semi left right = joined_old kind.Semi left right
without_old kind.Cross left right = joined_old kind.Cross left right

-- ---- items that are columns of the pairs

abbrev IsSourced : Columns → Item → Type 0
IsSourced columns item = (column : ColumnOf ℕ) × (option_and_then (slice_get columns) item.source ≡ Some column)

at_drop : (n : ℕ) (columns : Columns) (x : ColumnOf ℕ) (rest : Columns) → drop n columns ≡ x ∷ rest →
    (slice_get columns n ≡ Some x) × (drop (suc n) columns ≡ rest)
at_drop zero [] x rest e = absurd (let h : ⊥ = cc in h)
at_drop zero (y ∷ ys) x rest e = (ap (λ (l : Columns). slice_get l 0) e, ap (drop 1) e)
at_drop (suc n) [] x rest e = absurd (let h : ⊥ = cc in h)
at_drop (suc n) (y ∷ ys) x rest e = at_drop n ys x rest e

items_sourced : (columns : Columns) (n : ℕ) (rest : Columns) → drop n columns ≡ rest →
    All (IsSourced columns) (items_where any_column n rest)
items_sourced columns n [] e = All-nil (IsSourced columns)
items_sourced columns n (x ∷ rest) e =
    let found = at_drop n columns x rest e in
    All-cons (IsSourced columns) _ (items_where any_column (suc n) rest) (x, found.0) (items_sourced columns (suc n) rest found.1)

get_held : {X : Type 0} (P : X → Type 0) (xs : List X) (at : ℕ) (x : X) → All P xs → slice_get xs at ≡ Some x → P x
get_held P [] at x held e = absurd (let h : ⊥ = cc in h)
get_held P (y ∷ ys) zero x held e = subst P (let same : y ≡ x = cc in same) (held 0 y (omega arith))
get_held P (y ∷ ys) (suc at) x held e = get_held P ys at x (λ k d within. held (suc k) d (omega arith)) e

picked_held : {X Y : Type 0} (P : Y → Type 0) (f : X → Option Y) (xs : List X) → ((x : X) (y : Y) → f x ≡ Some y → P y) →
    All P (filter_map f xs)
picked_held P f [] each = All-nil P
picked_held {X} {Y} P f (x ∷ xs) each = by (f x) refl (picked_held P f xs each)
  where
    by : (o : Option Y) → f x ≡ o → All P (filter_map f xs) → All P (cons_option o (filter_map f xs))
    by None e rest = rest
    by (Some y) e rest = All-cons P y (filter_map f xs) (each x y e) rest

picked_short : {X Y : Type 0} (f : X → Option Y) (xs : List X) → length (filter_map f xs) ≤ length xs
picked_short f [] = omega arith
picked_short {X} {Y} f (x ∷ xs) = by (f x) (picked_short f xs)
  where
    by : (o : Option Y) → length (filter_map f xs) ≤ length xs → length (cons_option o (filter_map f xs)) ≤ suc (length xs)
    by None rest = omega (arith, rest)
    by (Some y) rest = omega (arith, rest)

-- ---- the columns that items make

module _ (fresh : ℕ → ℕ) (columns : Columns) (known : List ℕ) (held : All (IsOld known) columns) where
  made_old : (number : ℕ) (item : Item) → IsSourced columns item → IsOld known (made_column fresh columns number item)
  made_old number item (column, is) =
      subst (λ (o : Option (ColumnOf ℕ)). IsOld known (made_by (fresh number) item o)) (sym is) (source_old item.source is)
    where
      source_old : (source : Option ℕ) → option_and_then (slice_get columns) source ≡ Some column → IsOld known column
      source_old None e = absurd (let h : ⊥ = cc in h)
      source_old (Some place) e = get_held (IsOld known) columns place column held e

  all_old : (number : ℕ) (items : List Item) → All (IsSourced columns) items →
      All (IsOld known) (numbered_from (made_column fresh columns) number items)
  all_old number [] sourced = All-nil (IsOld known)
  all_old number (item ∷ items) sourced =
      All-cons (IsOld known) _ (numbered_from (made_column fresh columns) (suc number) items)
      (made_old number item (sourced 0 item (omega arith)))
      (all_old (suc number) items (λ k d within. sourced (suc k) d (omega arith)))

  -- the items behind the first ones, of which there are at most so many
  rest_old : (front rest : List Item) (number count : ℕ) → length front ≤ count → All (IsSourced columns) rest →
      All (IsOld known) (drop count (numbered_from (made_column fresh columns) number (front ++ rest)))
  rest_old [] rest number count short sourced = All-drop (IsOld known) count _ (all_old number rest sourced)
  rest_old (item ∷ front) rest number zero short sourced = absurd (omega arith)
  rest_old (item ∷ front) rest number (suc count) short sourced = rest_old front rest (suc number) count (omega arith) sourced

-- ---- keys

gathered_long : {A X : Type 0} (f : A → Checked X) (xs : List A) (ys : List X) → all_checked (map f xs) ≡ Ok ys → length ys ≡ length xs
gathered_long f [] ys e = ap length (sym (same_ok [] ys e))
gathered_long f (x ∷ xs) ys e =
    let first = bind_ok (f x) _ ys e in
    let rest = bind_ok (all_checked (map f xs)) _ ys first.2 in
    ap length (sym (same_ok (first.0 ∷ rest.0) ys rest.2)) ∙ ap suc (gathered_long f xs rest.0 rest.1)

module _ (columns : Columns) where
  abbrev plain : List Item
  plain = items_where any_column 0 columns

  plain_sourced : All (IsSourced columns) plain
  plain_sourced = items_sourced columns 0 columns refl

  plain_at : (place : ℕ) (item : Item) → slice_get plain place ≡ Some item → IsSourced columns item
  plain_at place item e = get_held (IsSourced columns) plain place item plain_sourced e

module _ (fresh : ℕ → ℕ) (width : ℕ) (keys : List KeyPair) (columns : Columns) (known : List ℕ) (held : All (IsOld known) columns) where
  abbrev first : JoinKind → List Item
  first kind = filter_map (key_item kind width (plain columns)) keys

  abbrev others : List Item
  others = filter (is_rest width keys) (plain columns)

  others_sourced : All (IsSourced columns) others
  others_sourced = All-filter (is_rest width keys) (IsSourced columns) (plain columns) (plain_sourced columns)

  abbrev made : JoinKind → Columns
  made kind = numbered_from (made_column fresh columns) 0 (using_items kind width keys (plain columns))

  -- where each key is a column of the pairs
  all_keys_old : (kind : JoinKind) →
      ((key : KeyPair) (item : Item) → key_item kind width (plain columns) key ≡ Some item → IsSourced columns item) →
      All (IsOld known) (made kind)
  unfolding using_items
  all_keys_old kind each =
      all_old fresh columns known held 0 (first kind ++ others)
      (All-append (IsSourced columns) (first kind) others
      (picked_held (IsSourced columns) (key_item kind width (plain columns)) keys each) others_sourced)

  behind_keys_old : (kind : JoinKind) (count : ℕ) → length keys ≡ count → All (IsOld known) (drop count (made kind))
  unfolding using_items
  behind_keys_old kind count long =
      rest_old fresh columns known held (first kind) others 0 count
      (omega (arith, picked_short (key_item kind width (plain columns)) keys)) others_sourced

  using_old : (kind : JoinKind) (names : List (List ℕ)) → length keys ≡ length names →
      All (IsOld known) (drop (new_columns kind names) (made kind))
  using_old kind.Inner names long = all_keys_old kind.Inner (λ key. plain_at columns key.left)
  using_old kind.Full names long = behind_keys_old kind.Full (length names) long
  using_old kind.Left names long = all_keys_old kind.Left (λ key. plain_at columns key.left)
  using_old kind.Right names long = all_keys_old kind.Right (λ key. plain_at columns (width + key.right))
  using_old kind.Anti names long = all_keys_old kind.Anti (λ key. plain_at columns key.left)
  using_old kind.Semi names long = all_keys_old kind.Semi (λ key. plain_at columns key.left)
  using_old kind.Cross names long = all_keys_old kind.Cross (λ key. plain_at columns key.left)

-- ---- the rule

module _ (exact : Bool) (fresh : ℕ → ℕ) (left right found : FoundOf ℕ) where
  abbrev AreOld : JoinKind → Columns → Type 0
  AreOld kind columns = All (IsOld (ids_of kind (ids left.columns) (ids right.columns))) columns

  on_old : (kind : JoinKind) (condition : Option Expr) → on_rule nat_eq exact kind left right condition ≡ Ok found →
      AreOld kind found.columns
  unfolding on_rule
  on_old kind None e = subst (λ (f : FoundOf ℕ). AreOld kind f.columns) (same_ok _ found e) (without_old kind left.columns right.columns)
  on_old kind (Some condition) e =
      let columns = left.columns ++ right.columns in
      let made = bind_ok (condition_of nat_eq exact columns (left.relations ++ right.relations) (codes "join") condition) _ found e in
      subst (λ (f : FoundOf ℕ). AreOld kind f.columns) (same_ok _ found made.2) (joined_old kind left.columns right.columns)

  keys_old : (kind : JoinKind) (names : List (List ℕ)) → using_rule nat_eq exact fresh kind left right names ≡ Ok found →
      AreOld kind (drop (new_columns kind names) found.columns)
  unfolding using_rule
  keys_old kind names e =
      let keys = bind_ok (all_checked (map (key_pair exact left.columns right.columns) names)) _ found e in
      let width = length left.columns in
      let columns = joined_columns kind left.columns right.columns in
      let limited = bind_ok (column_limit (length (using_items kind width keys.0 (items_where any_column 0 columns)))) _ found keys.2 in
      subst (λ (f : FoundOf ℕ). AreOld kind (drop (new_columns kind names) f.columns)) (same_ok _ found limited.2)
      (using_old fresh width keys.0 columns _ (joined_old kind left.columns right.columns) kind names
      (gathered_long (key_pair exact left.columns right.columns) names keys.0 keys.1))

  rule_old : (number : ℤ) (condition : Option Expr) (names : List (List ℕ)) (kind : JoinKind) → kind_numbered number ≡ Some kind →
      join_rule nat_eq exact fresh left right number condition names ≡ Ok found → AreOld kind (drop (new_columns kind names) found.columns)
  unfolding join_rule
  rule_old number condition names kind is e =
      let its = bind_ok (or_refused (bad_option number) (kind_numbered number)) _ found e in
      let same : its.0 ≡ kind = same_some its.0 kind (sym (there (bad_option number) (kind_numbered number) its.0 its.1) ∙ is) in
      let fits = bind_ok (unless (clash its.0 (is_there condition) (not (length names == 0))) (bad_option (pos 0))) _ found its.2 in
      subst (λ (k : JoinKind). AreOld k (drop (new_columns k names) found.columns)) same (either its.0 (length names == 0) fits.2)
    where
      same_some : (a b : JoinKind) → ◌≡◌ {A = Option JoinKind} (Some a) (Some b) → a ≡ b
      same_some a b h = cc

      either : (k : JoinKind) (b : Bool) →
          (if b then on_rule nat_eq exact k left right condition else using_rule nat_eq exact fresh k left right names) ≡ Ok found →
          AreOld k (drop (new_columns k names) found.columns)
      either k true h =
          All-drop (IsOld (ids_of k (ids left.columns) (ids right.columns))) (new_columns k names) found.columns (on_old k condition h)
      either k false h = keys_old k names h

pub other_columns_are_old : OtherColumnsAreOld
other_columns_are_old exact fresh left right number condition names kind found is e =
    rule_old exact fresh left right found number condition names kind is e

-- ---- semi joins and anti joins without keys

as_it_is : (column : ColumnOf ℕ) → perhaps_null false column ≡ column
as_it_is column =
    ap (λ (n : Bool). record { qualifier = column.qualifier; name = column.name; id = column.id; kind = column.kind; nullable = n })
    (or_false column.nullable)
  where
    or_false : (b : Bool) → (b || false) ≡ b
    or_false true = refl
    or_false false = refl

all_as_they_are : (columns : Columns) → side_columns false columns ≡ columns
all_as_they_are [] = refl
all_as_they_are (column ∷ columns) =
    ap (λ (c : ColumnOf ℕ). c ∷ side_columns false columns) (as_it_is column) ∙ ap (λ (l : Columns). column ∷ l) (all_as_they_are columns)

semi_columns : (left right : Columns) → joined_columns kind.Semi left right ≡ left
unfolding joined_columns
semi_columns left right = append-nil (side_columns false left) ∙ all_as_they_are left

anti_columns : (left right : Columns) → joined_columns kind.Anti left right ≡ left
unfolding joined_columns
anti_columns left right = append-nil (side_columns false left) ∙ all_as_they_are left

module _ (exact : Bool) (fresh : ℕ → ℕ) (left right found : FoundOf ℕ) (kind : JoinKind)
    (alone : joined_columns kind left.columns right.columns ≡ left.columns)
    (without : joined_columns (kind_without kind) left.columns right.columns ≡ left.columns) where
  alone_on : (condition : Option Expr) → on_rule nat_eq exact kind left right condition ≡ Ok found → found.columns ≡ left.columns
  unfolding on_rule
  alone_on None e = ap (λ (f : FoundOf ℕ). f.columns) (sym (same_ok _ found e)) ∙ without
  alone_on (Some condition) e =
      let columns = left.columns ++ right.columns in
      let made = bind_ok (condition_of nat_eq exact columns (left.relations ++ right.relations) (codes "join") condition) _ found e in
      ap (λ (f : FoundOf ℕ). f.columns) (sym (same_ok _ found made.2)) ∙ alone

  alone_rule : (number : ℤ) (condition : Option Expr) → kind_numbered number ≡ Some kind →
      join_rule nat_eq exact fresh left right number condition [] ≡ Ok found → found.columns ≡ left.columns
  unfolding join_rule
  alone_rule number condition is e =
      let its = bind_ok (or_refused (bad_option number) (kind_numbered number)) _ found e in
      let same : its.0 ≡ kind = same_some its.0 kind (sym (there (bad_option number) (kind_numbered number) its.0 its.1) ∙ is) in
      let fits = bind_ok (unless (clash its.0 (is_there condition) false) (bad_option (pos 0))) _ found its.2 in
      alone_on condition (subst (λ (k : JoinKind). on_rule nat_eq exact k left right condition ≡ Ok found) same fits.2)
    where
      same_some : (a b : JoinKind) → ◌≡◌ {A = Option JoinKind} (Some a) (Some b) → a ≡ b
      same_some a b h = cc

pub semi_joins_have_the_left_alone : SemiJoinsHaveTheLeftAlone
semi_joins_have_the_left_alone exact fresh left right number condition found (inl is) e =
    let alone = semi_columns left.columns right.columns in
    alone_rule exact fresh left right found kind.Semi alone alone number condition is e
semi_joins_have_the_left_alone exact fresh left right number condition found (inr is) e =
    let alone = anti_columns left.columns right.columns in
    alone_rule exact fresh left right found kind.Anti alone alone number condition is e
