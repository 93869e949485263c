-- Set operations answer alike under other ids.
use Rattle.std.proofs.Common.{◌≡◌, ◌<◌, ℕ, ℤ, pos, suc, Bool, true, false, List, [], ◌++◌, map, filter, length, refl, sym, ap, ◌∙◌, subst, Option, Some, None, not, ◌&&◌, ◌==◌, count_by}
use Rattle.std.specs.Prelude.{Ok, if◌then◌else◌, nat_eq, option_map, slice_get}
use Rattle.std.specs.Fmt.{decimal}
use Rattle.std.specs.List.{list_any}
use Rattle.std.proofs.Math.Path.{fun_ext}
use Rattle.cn_types.specs.declared.value.DataType.{DataType}
use Rattle.plan_model.specs.declared.expression.TypedExpr.{TypedExpr}
use Rattle.plan_model.specs.declared.node.Node.{Node}
use Rattle.plan_model.specs.declared.node.Node.TheVariants as node
use Rattle.plan_model.specs.declared.node.SetKind.{SetKind}
use Rattle.resolve_names.specs.declared.error.ErrorName.TheVariants.{IncompatibleColumnType}
use Rattle.resolve_names.specs.declared.scope.ColumnOf.{ColumnOf}
use Rattle.resolve_names.specs.declared.scope.Tagged.{Tagged}
use Rattle.resolve_names.specs.Checks.{Checked, ◌>>=◌, or_refused}
use Rattle.resolve_names.specs.Refusals.{refusal}
use Rattle.resolve_types.specs.Calls.{unless}
use Rattle.resolve_expressions.specs.Grouping.{all_checked}
use Rattle.resolve_expressions.specs.Same.{all_same, same_expr}
use Rattle.resolve_relations.specs.declared.found.FoundOf.{FoundOf}
use Rattle.resolve_relations.specs.Columns.{fresh_column, numbered}
use Rattle.resolve_relations.specs.Keeping.{its_place, plain_place}
use Rattle.resolve_relations.specs.Making.{bad_option, columns_differ}
use Rattle.resolve_sets.specs.declared.aligned.Aligned.{Aligned}
use Rattle.resolve_sets.specs.declared.aligned.Places.{Places}
use Rattle.resolve_sets.specs.Aligning.{aligned, aligned_at, alone, beside, both_at, by_name, by_place, column_at, has_name_of, is_place, kind_together, partner, surplus, typed_as}
use Rattle.resolve_sets.specs.Sets.{aligned_column, combined, is_union, is_whole, kind_numbered, left_value, own_value, places_of, right_value, set_column, set_rule, side, side_value, value_at}
use Rattle.resolve_ids.specs.Renaming.{Alike, DrawnAlike, FoundAlike, renamed, renamed_column, renamed_columns, renamed_relations}
use Rattle.resolve_ids.proofs.Joining.{relations_renamed}
use Rattle.resolve_ids.proofs.Keeping.{plain_renamed}
use Rattle.resolve_ids.proofs.Places.{count_renamed, get_renamed}
use Rattle.resolve_ids.proofs.Searches.{all-same, bind-same, count-map, map-made, numbered-made}
use Rattle.resolve_ids.proofs.Steps.{numbered_alike, then_alike}

module _ {I J : Type 0} (name : I → J) where
  abbrev other : ColumnOf I → ColumnOf J
  other = renamed_column name

  abbrev others : List (ColumnOf I) → List (ColumnOf J)
  others = renamed_columns name

  -- ---- which columns become one

  places_renamed : (left right : List (ColumnOf I)) → by_place (others left) (others right) ≡ by_place left right
  unfolding by_place
  places_renamed left right =
      ap (λ (n : ℕ). unless (not (nat_eq n (length (others right)))) (columns_differ n (length (others right)))
      >>= λ u. Ok (numbered both_at (others left))) (count_renamed name left)
      ∙ ap (λ (n : ℕ). unless (not (nat_eq (length left) n)) (columns_differ (length left) n) >>= λ u. Ok (numbered both_at (others left)))
      (count_renamed name right)
      ∙ ap (λ (places : List Places). unless (not (nat_eq (length left) (length right))) (columns_differ (length left) (length right))
      >>= λ u. Ok places) (numbered-made other both_at left)

  module _ (exact missing : Bool) (right : List (ColumnOf I)) where
    partner_renamed : (column : ColumnOf I) → partner exact missing (others right) (other column) ≡ partner exact missing right column
    partner_renamed column =
        ap (λ (n : ℕ). if missing && (n == 0) then Ok None else (plain_place exact (others right) column.name >>= λ place. Ok (Some place)))
        (count-map other (has_name_of exact (other column)) right)
        ∙ ap (λ (o : Checked ℕ). if missing && (count_by (has_name_of exact column) right == 0) then Ok None else
        (o >>= λ place. Ok (Some place)))
        (plain_renamed name exact right column.name)

    partners_renamed : (left : List (ColumnOf I)) →
        all_checked (map (partner exact missing (others right)) (others left)) ≡ all_checked (map (partner exact missing right) left)
    partners_renamed left =
        ap all_checked (map-made other (partner exact missing (others right)) left)
        ∙ all-same (λ column. partner exact missing (others right) (other column)) (partner exact missing right) partner_renamed left

    surplus_renamed : (partners : List (Option ℕ)) → surplus (others right) partners ≡ surplus right partners
    surplus_renamed partners = ap (filter (λ place. not (list_any (is_place place) partners))) (numbered-made other its_place right)

    -- the places beside the partners, where no column of the right is left over that may not be
    named_with : (left_count right_count : ℕ) (partners : List (Option ℕ)) (more : List ℕ) → Checked (List Places)
    named_with left_count right_count partners more = do
      complete ← unless (not missing && not (length more == 0)) (columns_differ left_count right_count)
      Ok (numbered beside partners ++ map alone more)

    names_renamed : (left : List (ColumnOf I)) → by_name exact missing (others left) (others right) ≡ by_name exact missing left right
    unfolding by_name named_with
    names_renamed left =
        ap (λ (o : Checked (List (Option ℕ))). o >>= λ partners.
        named_with (length (others left)) (length (others right)) partners (surplus (others right) partners)) (partners_renamed left)
        ∙ ap (λ (n : ℕ). all_checked (map (partner exact missing right) left)
        >>= λ partners. named_with n (length (others right)) partners (surplus (others right) partners)) (count_renamed name left)
        ∙ ap (λ (n : ℕ). all_checked (map (partner exact missing right) left)
        >>= λ partners. named_with (length left) n partners (surplus (others right) partners)) (count_renamed name right)
        ∙ bind-same (all_checked (map (partner exact missing right) left)) _
        (λ partners. named_with (length left) (length right) partners (surplus right partners))
        (λ partners. ap (named_with (length left) (length right) partners) (surplus_renamed partners))

  which_renamed : (exact named missing : Bool) (left right : List (ColumnOf I)) →
      places_of exact named missing (others left) (others right) ≡ places_of exact named missing left right
  which_renamed exact true missing left right = names_renamed exact missing right left
  which_renamed exact false missing left right = places_renamed left right

  -- ---- types

  at_renamed : (columns : List (ColumnOf I)) (place : Option ℕ) →
      column_at (others columns) place ≡ option_map other (column_at columns place)
  at_renamed columns (Some place) = get_renamed name columns place
  at_renamed columns None = refl

  kind_renamed : (left right : Option (ColumnOf I)) →
      kind_together (option_map other left) (option_map other right) ≡ kind_together left right
  kind_renamed (Some left) (Some right) = refl
  kind_renamed (Some left) None = refl
  kind_renamed None (Some right) = refl
  kind_renamed None None = refl

  module _ (left right : List (ColumnOf I)) where
    together_renamed : (a b : Option ℕ) → kind_together (column_at (others left) a) (column_at (others right) b)
        ≡ kind_together (column_at left a) (column_at right b)
    together_renamed a b =
        ap (λ (c : Option (ColumnOf J)). kind_together c (column_at (others right) b)) (at_renamed left a)
        ∙ ap (kind_together (option_map other (column_at left a))) (at_renamed right b)
        ∙ kind_renamed (column_at left a) (column_at right b)

    one_aligned : (number : ℕ) (places : Places) →
        aligned_at (others left) (others right) number places ≡ aligned_at left right number places
    one_aligned number places =
        ap (λ (kind : Option DataType). or_refused (refusal IncompatibleColumnType (decimal (suc number)))
        (option_map (typed_as places) kind)) (together_renamed places.left places.right)

    aligned_renamed : (places : List Places) → aligned (others left) (others right) places ≡ aligned left right places
    unfolding aligned
    aligned_renamed places = ap (λ (check : ℕ → Places → Checked Aligned). all_checked (numbered check places))
        (fun_ext (λ number. fun_ext (one_aligned number)))

  -- ---- sides

  value_found : (kind : DataType) (place : ℕ) (column : Option (ColumnOf I)) →
      value_at kind place (option_map other column) ≡ value_at kind place column
  value_found kind place (Some column) = refl
  value_found kind place None = refl

  value_renamed : (columns : List (ColumnOf I)) (kind : DataType) (place : Option ℕ) →
      side_value (others columns) kind place ≡ side_value columns kind place
  value_renamed columns kind (Some place) = ap (value_at kind place) (get_renamed name columns place)
      ∙ value_found kind place (slice_get columns place)
  value_renamed columns kind None = refl

  whole_renamed : (columns : List (ColumnOf I)) (values : List TypedExpr) → is_whole (others columns) values ≡ is_whole columns values
  unfolding is_whole
  whole_renamed columns values = ap (all_same (map same_expr values)) (numbered-made other own_value columns)

  side_renamed : (input : FoundOf I) (values : List TypedExpr) → side (renamed name input) values ≡ side input values
  unfolding side
  side_renamed input values = ap (λ (b : Bool). if b then input.node else node.Project input.node values)
      (whole_renamed input.columns values)

  sides_renamed : (input : FoundOf I) (value value_too : Aligned → TypedExpr) → ((one : Aligned) → value_too one ≡ value one) →
      (columns : List Aligned) →
      side (renamed name input) (map value_too columns) ≡ side input (map value columns)
  sides_renamed input value value_too agree columns =
      ap (λ (v : Aligned → TypedExpr). side (renamed name input) (map v columns)) (fun_ext agree) ∙ side_renamed input (map value columns)

  -- ---- columns

  module _ (fresh : ℕ → I) (fresh_too : ℕ → J) (draws : DrawnAlike name fresh fresh_too) where
    column_set : (n : ℕ) → n < 1000 → (kind : DataType) (left right : Option (ColumnOf I)) →
        set_column (fresh_too n) kind (option_map other left) (option_map other right) ≡ other (set_column (fresh n) kind left right)
    column_set n few kind (Some left) (Some right) = refl
    column_set n few kind (Some left) None = refl
    column_set n few kind None (Some right) = ap (λ (id : J). fresh_column id right.name kind true) (draws.drawn n few)
    column_set n few kind None None = ap (λ (id : J). fresh_column id [] kind true) (draws.drawn n few)

    module _ (left right : FoundOf I) where
      column_aligned : (n : ℕ) (one : Aligned) → n < 1000 →
          aligned_column fresh_too (others left.columns) (others right.columns) n one
          ≡ other (aligned_column fresh left.columns right.columns n one)
      column_aligned n one few =
          ap (λ (c : Option (ColumnOf J)). set_column (fresh_too n) one.kind c (column_at (others right.columns) one.right))
          (at_renamed left.columns one.left)
          ∙ ap (set_column (fresh_too n) one.kind (option_map other (column_at left.columns one.left))) (at_renamed right.columns one.right)
          ∙ column_set n few one.kind (column_at left.columns one.left) (column_at right.columns one.right)

      abbrev over_nodes : Node → Node → SetKind → Bool → List (Tagged J) → List Aligned → FoundOf J
      over_nodes a b kind all relations columns = record {
        node = node.SetOp a b kind all;
        columns = numbered (aligned_column fresh_too (others left.columns) (others right.columns)) columns;
        relations = relations;
      }

      over_same : (kind : SetKind) (all : Bool) (columns : List Aligned) (a a_too b b_too : Node) (r r_too : List (Tagged J)) → a ≡ a_too →
          b ≡ b_too → r ≡ r_too →
          over_nodes a b kind all r columns ≡ over_nodes a_too b_too kind all r_too columns
      over_same kind all columns a a_too b b_too r r_too on_left on_right more =
          ap (λ (x : Node). over_nodes x b kind all r columns) on_left
          ∙ ap (λ (x : Node). over_nodes a_too x kind all r columns) on_right
          ∙ ap (λ (x : List (Tagged J)). over_nodes a_too b_too kind all x columns) more

      abbrev left_values : List Aligned → List TypedExpr
      left_values columns = map (left_value left.columns) columns

      abbrev right_values : List Aligned → List TypedExpr
      right_values columns = map (right_value right.columns) columns

      combined_alike : (kind : SetKind) (all : Bool) (columns : List Aligned) →
          FoundAlike name (combined fresh left right kind all columns)
          (combined fresh_too (renamed name left) (renamed name right) kind all columns)
      unfolding combined
      combined_alike kind all columns =
          subst (FoundAlike name (combined fresh left right kind all columns))
          (sym (over_same kind all columns _ (side left (left_values columns)) _ (side right (right_values columns)) _
          (renamed_relations name (left.relations ++ right.relations))
          (sides_renamed left (left_value left.columns) (left_value (others left.columns))
          (λ one. value_renamed left.columns one.kind one.left) columns)
          (sides_renamed right (right_value right.columns) (right_value (others right.columns))
          (λ one. value_renamed right.columns one.kind one.right) columns)
          (relations_renamed name left.relations right.relations)))
          (numbered_alike name (node.SetOp (side left (left_values columns)) (side right (right_values columns)) kind all)
          (left.relations ++ right.relations)
          (aligned_column fresh left.columns right.columns) (aligned_column fresh_too (others left.columns) (others right.columns))
          column_aligned columns)

      pub set_alike : (exact : Bool) (number : ℤ) (all named missing : Bool) →
          Alike name (set_rule exact fresh left right number all named missing)
          (set_rule exact fresh_too (renamed name left) (renamed name right) number all named missing)
      unfolding set_rule
      set_alike exact number all named missing =
          then_alike name (or_refused (bad_option number) (kind_numbered number)) (or_refused (bad_option number) (kind_numbered number))
          _ _ refl
          (λ kind. let options : Checked (Unit {0}) = unless (named && not (is_union kind)) (bad_option (pos 0)) in
          then_alike name options options _ _ refl
          (λ u. then_alike name (places_of exact named missing left.columns right.columns)
          (places_of exact named missing (others left.columns) (others right.columns)) _ _
          (which_renamed exact named missing left.columns right.columns)
          (λ places. then_alike name (aligned left.columns right.columns places)
          (aligned (others left.columns) (others right.columns) places) _ _
          (aligned_renamed left.columns right.columns places)
          (λ columns. combined_alike kind all columns))))
