-- Answers that are alike, one step after another.
use Rattle.std.proofs.Common.{◌≡◌, ℕ, ◌≤◌, ◌<◌, List, length, refl, sym, ap, ◌∙◌, subst, arith}
use Rattle.std.specs.Prelude.{Ok, Err}
use Rattle.std.proofs.lemmas.List.{length-map}
use Rattle.plan_model.specs.declared.node.Node.{Node}
use Rattle.resolve_names.specs.declared.scope.ColumnOf.{ColumnOf}
use Rattle.resolve_names.specs.declared.scope.Tagged.{Tagged}
use Rattle.resolve_names.specs.Checks.{Checked, ◌>>=◌}
use Rattle.resolve_relations.specs.declared.found.FoundOf.{FoundOf}
use Rattle.resolve_relations.specs.Columns.{numbered}
use Rattle.resolve_ids.specs.Renaming.{Alike, FoundAlike, renamed, renamed_column, renamed_columns, renamed_relations}
use Rattle.resolve_ids.proofs.Searches.{bind-made, length-numbered, made, numbered-below, numbered-made}

module _ {I J : Type 0} (name : I → J) where
  -- the very same under other ids
  pub renamed_alike : (found : FoundOf I) → FoundAlike name found (renamed name found)
  renamed_alike found = record { node = refl; count = length-map found.columns (renamed_column name); whole = λ few. refl }

  pub same_alike : (found : FoundOf I) (other : FoundOf J) → other ≡ renamed name found → FoundAlike name found other
  same_alike found other is = subst (FoundAlike name found) (sym is) (renamed_alike found)

  -- a step that answers the same, and then steps that answer alike
  steps_alike : {A : Type 0} (answer : Checked A) (next : A → Checked (FoundOf I)) (next_too : A → Checked (FoundOf J)) →
      ((x : A) → Alike name (next x) (next_too x)) → Alike name (answer >>= next) (answer >>= next_too)
  steps_alike (Ok x) next next_too alike = alike x
  steps_alike (Err stop) next next_too alike = refl

  pub then_alike : {A : Type 0} (answer other : Checked A) (next : A → Checked (FoundOf I)) (next_too : A → Checked (FoundOf J)) →
      other ≡ answer → ((x : A) → Alike name (next x) (next_too x)) → Alike name (answer >>= next) (other >>= next_too)
  then_alike answer other next next_too same alike =
      subst (λ (o : Checked _). Alike name (answer >>= next) (o >>= next_too)) (sym same) (steps_alike answer next next_too alike)

  -- the same where what is answered has other ids too
  pub then_made_alike : {A B : Type 0} (f : A → B) (answer : Checked A) (other : Checked B) (next : A → Checked (FoundOf I))
      (next_too : B → Checked (FoundOf J)) →
      other ≡ made f answer → ((x : A) → Alike name (next x) (next_too (f x))) → Alike name (answer >>= next) (other >>= next_too)
  then_made_alike f answer other next next_too same alike =
      subst (λ (o : Checked (FoundOf J)). Alike name (answer >>= next) o)
      (sym (ap (λ (o : Checked _). o >>= next_too) same ∙ bind-made f answer next_too))
      (steps_alike answer next (λ x. next_too (f x)) alike)

  module _ (node : Node) (relations : List (Tagged I)) where
    abbrev with_columns : List (ColumnOf I) → FoundOf I
    with_columns columns = record { node = node; columns = columns; relations = relations }

    abbrev with_others : List (ColumnOf J) → FoundOf J
    with_others columns = record { node = node; columns = columns; relations = renamed_relations name relations }

    -- the same relations with plan ids over one node, and columns that are alike
    pub columns_alike : (columns : List (ColumnOf I)) (columns_too : List (ColumnOf J)) → length columns_too ≡ length columns →
        (length columns ≤ 1000 → columns_too ≡ renamed_columns name columns) →
        FoundAlike name (with_columns columns) (with_others columns_too)
    columns_alike columns columns_too count whole = record { node = refl; count = count; whole = λ few. ap with_others (whole few) }

    -- columns made item by item
    pub numbered_alike : {X : Type 0} (make : ℕ → X → ColumnOf I) (make_too : ℕ → X → ColumnOf J) →
        ((n : ℕ) (x : X) → n < 1000 → make_too n x ≡ renamed_column name (make n x)) → (xs : List X) →
        FoundAlike name (with_columns (numbered make xs)) (with_others (numbered make_too xs))
    numbered_alike make make_too agree xs = columns_alike (numbered make xs) (numbered make_too xs)
        (length-numbered make_too xs ∙ sym (length-numbered make xs))
        (λ few. let long : length (numbered make xs) ≡ length xs = length-numbered make xs in
        numbered-below (renamed_column name) make make_too 1000 agree xs (omega arith))

    -- columns made of columns
    pub renumbered_alike : (make : ℕ → ColumnOf I → ColumnOf I) (make_too : ℕ → ColumnOf J → ColumnOf J) →
        ((n : ℕ) (x : ColumnOf I) → n < 1000 → make_too n (renamed_column name x) ≡ renamed_column name (make n x)) →
        (xs : List (ColumnOf I)) →
        FoundAlike name (with_columns (numbered make xs)) (with_others (numbered make_too (renamed_columns name xs)))
    renumbered_alike make make_too agree xs =
        subst (λ (l : List (ColumnOf J)). FoundAlike name (with_columns (numbered make xs)) (with_others l))
        (sym (numbered-made (renamed_column name) make_too xs))
        (numbered_alike make (λ n x. make_too n (renamed_column name x)) agree xs)
