-- The columns that pass, one by one.
use Rattle.std.proofs.Common.{◌≡◌, ◌≢◌, ℕ, suc, ◌+◌, ◌-◌, ◌<◌, ◌≤◌, Bool, true, false, List, [], ◌∷◌, ◌++◌, length, get_or, take, drop, refl, sym, ap, ◌∙◌, append_assoc, add-one}
use Rattle.std.specs.Prelude.{Ok, bytes_eq, codes, if◌then◌else◌}
use Rattle.std.proofs.Math.ListN.{drop_of_length-le}
use Rattle.std.proofs.lemmas.List.{append-nil, take-append-drop}
use Rattle.std.proofs.lemmas.Slice.Eq.{bytes_eq-Decides}
use Rattle.resolve_names.specs.declared.scope.ColumnOf.{ColumnOf}
use Rattle.resolve_expressions.specs.declared.item.Item.{Item}
use Rattle.resolve_expressions.specs.Stars.{column_item, item_where, items_where, some_items, target_name}
use Rattle.resolve_expressions.proofs.Gathering.{drop_next}

module _ {I : Type 0} (passes : ColumnOf I → Bool) (columns : List (ColumnOf I)) (at : ℕ) (items : List Item) where
  items-next : (column : ColumnOf I) → at < length columns → column ≡ get_or columns at column →
      items_where passes at (drop at columns) ≡ item_where (passes column) at column ++ items_where passes (at + 1) (drop (at + 1) columns)
  items-next column within is =
      ap (items_where passes at) (drop_next columns at column within)
      ∙ ap (λ (c : ColumnOf I). item_where (passes c) at c ++ items_where passes (suc at) (drop (at + 1) columns)) (sym is)
      ∙ ap (λ (n : ℕ). item_where (passes column) at column ++ items_where passes n (drop (at + 1) columns)) (sym (add-one at))

  pub item_more : (column : ColumnOf I) (more : List Item) → at < length columns → column ≡ get_or columns at column →
      more ≡ items ++ item_where (passes column) at column →
      more ++ items_where passes (at + 1) (drop (at + 1) columns) ≡ items ++ items_where passes at (drop at columns)
  item_more column more within is made =
      ap (λ (front : List Item). front ++ items_where passes (at + 1) (drop (at + 1) columns)) made
      ∙ append_assoc items (item_where (passes column) at column) (items_where passes (at + 1) (drop (at + 1) columns))
      ∙ ap (λ (rest : List Item). items ++ rest) (sym (items-next column within is))

  pub item_end : length columns ≤ at → items ++ items_where passes at (drop at columns) ≡ items
  item_end past = ap (λ (l : List (ColumnOf I)). items ++ items_where passes at l) (drop_of_length-le columns past) ∙ append-nil items

pub some_items_there : (identifier : List ℕ) (items : List Item) → items ≢ [] → some_items identifier items ≡ Ok items
some_items_there identifier [] some = absurd (some refl)
some_items_there identifier (item ∷ items) some = refl

pub ruleset star_steps = (item_more, item_end)

-- ---- targets without `.*` at their end

pub target_whole : (target : List ℕ) → ((front : List ℕ) → target ≡ front ++ 46 ∷ 42 ∷ [] → ⊥) → target ≡ target_name target
target_whole target never = by (bytes_eq (drop (length target - 2) target) (codes ".*")) refl
  where
    by : (b : Bool) → bytes_eq (drop (length target - 2) target) (codes ".*") ≡ b → target ≡ (if b then take (length target - 2) target else target)
    by false is = refl
    by true is =
        let ends : drop (length target - 2) target ≡ codes ".*" = (bytes_eq-Decides (drop (length target - 2) target) (codes ".*")).0 is in
        absurd (never (take (length target - 2) target)
        (sym (take-append-drop (length target - 2) target) ∙ ap (λ (rest : List ℕ). take (length target - 2) target ++ rest) ends))
