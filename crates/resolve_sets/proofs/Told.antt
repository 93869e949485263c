-- The first columns of a set operation are told as the left's.
use Rattle.std.proofs.Common.{◌≡◌, ℕ, zero, suc, ◌+◌, List, [], ◌∷◌, ◌++◌, map, length, take, refl, sym, ap, ◌∙◌, subst, arith}
use Rattle.std.specs.Prelude.{ℤ, pos, not, nat_eq, ◌&&◌, ◌||◌, ◌==◌, Bool, true, false, slice_get, Option, Some, None, Ok, option_map}
use Rattle.cn_types.specs.declared.value.DataType.{DataType}
use Rattle.plan_model.specs.declared.node.SetKind.{SetKind}
use Rattle.resolve_names.specs.declared.error.ResolveStop.{ResolveStop}
use Rattle.resolve_names.specs.declared.scope.ColumnOf.{ColumnOf}
use Rattle.resolve_names.specs.Checks.{Checked, ◌>>=◌, or_refused}
use Rattle.resolve_names.specs.Refusals.{Refusal}
use Rattle.resolve_types.specs.Calls.{unless}
use Rattle.resolve_expressions.specs.Grouping.{all_checked}
use Rattle.resolve_expressions.proofs.TypedFacts.{bind_ok, same_ok}
use Rattle.resolve_relations.specs.declared.found.FoundOf.{FoundOf}
use Rattle.resolve_relations.specs.Columns.{numbered, numbered_from}
use Rattle.resolve_relations.specs.Making.{bad_option, columns_differ}
use Rattle.resolve_sets.specs.declared.aligned.Aligned.{Aligned}
use Rattle.resolve_sets.specs.declared.aligned.Places.{Places}
use Rattle.resolve_sets.specs.Aligning.{aligned, aligned_at, alone, beside, both_at, by_name, by_place, column_at, kind_together, partner, surplus, typed_as}
use Rattle.resolve_sets.specs.Laws.{AreToldAs, ResultsBeginWithTheLeft}
use Rattle.resolve_sets.specs.Sets.{aligned_column, combined, is_union, kind_numbered, left_column, places_of, set_column, set_rule}

-- ---- places whose left ones are those of these columns, from a number on

abbrev Begins : {X : Type 0} → ℕ → List X → List Places → Type 0
Begins number [] places = Unit {0}
Begins number (x ∷ xs) [] = ⊥
Begins number (x ∷ xs) (both ∷ places) = (both.left ≡ Some number) × Begins (suc number) xs places

begins_by_place : {X : Type 0} (number : ℕ) (xs : List X) → Begins number xs (numbered_from both_at number xs)
begins_by_place number [] = tt
begins_by_place number (x ∷ xs) = (refl, begins_by_place (suc number) xs)

begins_by_name : {X : Type 0} (number : ℕ) (xs : List X) (partners : List (Option ℕ)) (more : List Places) → length partners ≡ length xs →
    Begins number xs (numbered_from beside number partners ++ more)
begins_by_name number [] partners more as_many = tt
begins_by_name number (x ∷ xs) [] more as_many = absurd (omega arith)
begins_by_name number (x ∷ xs) (one ∷ partners) more as_many = (refl, begins_by_name (suc number) xs partners more (omega arith))

checked_length : {A X : Type 0} (f : A → Checked X) (xs : List A) (ys : List X) → all_checked (map f xs) ≡ Ok ys → length ys ≡ length xs
checked_length f [] ys is = ap length (sym (same_ok [] ys is))
checked_length f (x ∷ xs) ys is =
    let one = bind_ok (f x) _ ys is in
    let two = bind_ok (all_checked (map f xs)) _ ys one.2 in
    let rest : length two.0 ≡ length xs = checked_length f xs two.0 two.1 in
    ap length (sym (same_ok (one.0 ∷ two.0) ys two.2)) ∙ ap suc rest

-- ---- columns

typed_here : (why : Refusal) (both : Places) (kind : Option DataType) (one : Aligned) → or_refused why (option_map (typed_as both) kind) ≡ Ok one → one.left ≡ both.left
typed_here why both (Some kind) one is = ap (λ (a : Aligned). a.left) (sym (same_ok (typed_as both kind) one is))
typed_here why both None one is = absurd (let h : ⊥ = cc in h)

module _ (left right : List (ColumnOf ℕ)) (fresh : ℕ → ℕ) {X : Type 0} (told : ColumnOf ℕ → X)
    (keeps : (kind : DataType) (nullable : Bool) (column : ColumnOf ℕ) → told (left_column kind nullable column) ≡ told column) where
  kept : (id : ℕ) (kind : DataType) (column : ColumnOf ℕ) (other : Option (ColumnOf ℕ)) → told (set_column id kind (Some column) other) ≡ told column
  kept id kind column (Some other) = keeps kind (column.nullable || other.nullable) column
  kept id kind column None = keeps kind true column

  first_told : (number : ℕ) (one : Aligned) (column : ColumnOf ℕ) → one.left ≡ Some number → slice_get left number ≡ Some column →
      told (aligned_column fresh left right number one) ≡ told column
  first_told number one column is there =
      ap (λ (o : Option (ColumnOf ℕ)). told (set_column (fresh number) one.kind o (column_at right one.right)))
      (ap (column_at left) is ∙ there)
      ∙ kept (fresh number) one.kind column (column_at right one.right)

  told_from : (number : ℕ) (xs : List (ColumnOf ℕ)) (places : List Places) (columns : List Aligned) →
      ((k : ℕ) → slice_get left (number + k) ≡ slice_get xs k) → Begins number xs places →
      all_checked (numbered_from (aligned_at left right) number places) ≡ Ok columns →
      map told (take (length xs) (numbered_from (aligned_column fresh left right) number columns)) ≡ map told xs
  told_from number [] places columns at begins is = refl
  told_from number (x ∷ xs) [] columns at begins is = absurd begins
  told_from number (x ∷ xs) (both ∷ places) columns at begins is =
      let one = bind_ok (aligned_at left right number both) _ columns is in
      let two = bind_ok (all_checked (numbered_from (aligned_at left right) (suc number) places)) _ columns one.2 in
      let here : one.0.left ≡ Some number =
      typed_here _ both (kind_together (column_at left both.left) (column_at right both.right)) one.0 one.1 ∙ begins.0 in
      let there : slice_get left number ≡ Some x = ap (slice_get left) (let h : number ≡ number + 0 = omega arith in h) ∙ at 0 in
      let later : (k : ℕ) → slice_get left (suc number + k) ≡ slice_get xs k =
      λ k. ap (slice_get left) (let h : suc number + k ≡ number + suc k = omega arith in h) ∙ at (suc k) in
      ap (λ (l : List Aligned). map told (take (length (x ∷ xs)) (numbered_from (aligned_column fresh left right) number l))) (sym (same_ok (one.0 ∷ two.0) columns two.2))
      ∙ ap (λ (y : X). y ∷ map told (take (length xs) (numbered_from (aligned_column fresh left right) (suc number) two.0))) (first_told number one.0 x here there)
      ∙ ap (λ (l : List X). told x ∷ l) (told_from (suc number) xs places two.0 later begins.1 two.1)

  told_first : (places : List Places) (columns : List Aligned) → Begins 0 left places → aligned left right places ≡ Ok columns →
      map told (take (length left) (numbered (aligned_column fresh left right) columns)) ≡ map told left
  unfolding aligned
  told_first places columns begins is =
      told_from 0 left places columns (λ k. ap (slice_get left) (let h : 0 + k ≡ k = omega arith in h)) begins is

-- ---- the places of both ways

placed : (left right : List (ColumnOf ℕ)) (places : List Places) → by_place left right ≡ Ok places → Begins 0 left places
unfolding by_place
placed left right places is =
    let one = bind_ok (unless (not (nat_eq (length left) (length right))) (columns_differ (length left) (length right))) _ places is in
    subst (Begins 0 left) (same_ok (numbered both_at left) places one.2) (begins_by_place 0 left)

named_so : (exact missing : Bool) (left right : List (ColumnOf ℕ)) (places : List Places) → by_name exact missing left right ≡ Ok places → Begins 0 left places
unfolding by_name
named_so exact missing left right places is =
    let one = bind_ok (all_checked (map (partner exact missing right) left)) _ places is in
    let two = bind_ok (unless (not missing && not (length (surplus right one.0) == 0)) (columns_differ (length left) (length right))) _ places one.2 in
    subst (Begins 0 left) (same_ok (numbered beside one.0 ++ map alone (surplus right one.0)) places two.2)
    (begins_by_name 0 left one.0 (map alone (surplus right one.0)) (checked_length (partner exact missing right) left one.0 one.1))

either : (exact named missing : Bool) (left right : List (ColumnOf ℕ)) (places : List Places) → places_of exact named missing left right ≡ Ok places →
    Begins 0 left places
either exact true missing left right places is = named_so exact missing left right places is
either exact false missing left right places is = placed left right places is

-- ---- the rule

told_alike : (fresh : ℕ → ℕ) (left right : FoundOf ℕ) (kind : SetKind) (all : Bool) (places : List Places) (columns : List Aligned) →
    Begins 0 left.columns places → aligned left.columns right.columns places ≡ Ok columns →
    AreToldAs (take (length left.columns) (combined fresh left right kind all columns).columns) left.columns
unfolding combined
told_alike fresh left right kind all places columns begins is = record {
  ids = told_first left.columns right.columns fresh (λ column. column.id) (λ k n c. refl) places columns begins is;
  names = told_first left.columns right.columns fresh (λ column. column.name) (λ k n c. refl) places columns begins is;
  qualifiers = told_first left.columns right.columns fresh (λ column. column.qualifier) (λ k n c. refl) places columns begins is;
}

pub results_begin_with_the_left : ResultsBeginWithTheLeft
unfolding set_rule
results_begin_with_the_left exact fresh left right found number all named missing is =
    let one = bind_ok (or_refused (bad_option number) (kind_numbered number)) _ found is in
    let two = bind_ok (unless (named && not (is_union one.0)) (bad_option (pos 0))) _ found one.2 in
    let three = bind_ok (places_of exact named missing left.columns right.columns) _ found two.2 in
    let four = bind_ok (aligned left.columns right.columns three.0) _ found three.2 in
    subst (λ (f : FoundOf ℕ). AreToldAs (take (length left.columns) f.columns) left.columns)
    (same_ok (combined fresh left right one.0 all four.0) found four.2)
    (told_alike fresh left right one.0 all three.0 four.0 (either exact named missing left.columns right.columns three.0 three.1) four.1)
