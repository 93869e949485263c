-- Two relations whose ids belong together are one relation whose ids are pairs, under the two sides' names.
use Rattle.std.proofs.Common.{◌≡◌, ℕ, ◌<◌, Bool, true, false, List, [], ◌∷◌, refl, sym, ap, ◌∙◌, subst, subst₂, ltb, ltb-true, lt-ltb, arith}
use Rattle.std.specs.Prelude.{Ok, Err}
use Rattle.std.specs.List.{AllZip}
use Rattle.resolve_names.specs.declared.scope.ColumnOf.{ColumnOf}
use Rattle.resolve_names.specs.declared.scope.Tagged.{Tagged}
use Rattle.resolve_names.specs.Checks.{Checked}
use Rattle.resolve_relations.specs.declared.found.FoundOf.{FoundOf}
use Rattle.resolve_ids.specs.Renaming.{Alike, DrawnAlike, TellsApart, limited, renamed, renamed_column, renamed_columns, renamed_relations}
use Rattle.resolve_ids.specs.Together.{DrawnTogether, SameAnswer, SameColumn, SameFound, SameTagged, TellsTogether}
use Rattle.resolve_ids.proofs.Limits.{limited_alike}
use Rattle.resolve_ids.proofs.Searches.{made}

module _ {I J : Type 0} (Belong : I → J → Type 0) where
  -- two ids that belong together
  pub record Pair : Type 0 where
    pub one : I
    pub two : J
    pub belong : Belong one two

  abbrev pub left : Pair → I
  left pair = pair.one

  abbrev pub right : Pair → J
  right pair = pair.two

  -- ---- one relation of pairs for two that are the same

  record OfColumns (columns : List (ColumnOf I)) (others : List (ColumnOf J)) : Type 0 where
    pairs : List (ColumnOf Pair)
    on_left : renamed_columns left pairs ≡ columns
    on_right : renamed_columns right pairs ≡ others

  pair_of : (column : ColumnOf I) (other : ColumnOf J) → SameColumn Belong column other → ColumnOf Pair
  pair_of column other same = record {
    qualifier = column.qualifier;
    name = column.name;
    id = record { one = column.id; two = other.id; belong = same.id };
    kind = column.kind;
    nullable = column.nullable;
  }

  pair_right : (column : ColumnOf I) (other : ColumnOf J) (same : SameColumn Belong column other) →
      renamed_column right (pair_of column other same) ≡ other
  unfolding pair_of
  pair_right column other same = sym (λ i. record {
    qualifier = same.qualifier i;
    name = same.name i;
    id = other.id;
    kind = same.kind i;
    nullable = same.nullable i;
  })

  of_columns : (columns : List (ColumnOf I)) (others : List (ColumnOf J)) → AllZip (SameColumn Belong) columns others →
      OfColumns columns others
  unfolding pair_of
  of_columns [] [] same = record { pairs = []; on_left = refl; on_right = refl }
  of_columns [] (other ∷ others) same = absurd same
  of_columns (column ∷ columns) [] same = absurd same
  of_columns (column ∷ columns) (other ∷ others) same =
      let rest = of_columns columns others same.1 in
      record {
        pairs = pair_of column other same.0 ∷ rest.pairs;
        on_left = ap (λ (l : List (ColumnOf I)). column ∷ l) rest.on_left;
        on_right = ap (λ (l : List (ColumnOf J)). renamed_column right (pair_of column other same.0) ∷ l) rest.on_right
            ∙ ap (λ (c : ColumnOf J). c ∷ others) (pair_right column other same.0);
      }

  record OfRelations (relations : List (Tagged I)) (others : List (Tagged J)) : Type 0 where
    pairs : List (Tagged Pair)
    on_left : renamed_relations left pairs ≡ relations
    on_right : renamed_relations right pairs ≡ others

  of_relations : (relations : List (Tagged I)) (others : List (Tagged J)) → AllZip (SameTagged Belong) relations others →
      OfRelations relations others
  of_relations [] [] same = record { pairs = []; on_left = refl; on_right = refl }
  of_relations [] (other ∷ others) same = absurd same
  of_relations (relation ∷ relations) [] same = absurd same
  of_relations (relation ∷ relations) (other ∷ others) same =
      let first = of_columns relation.columns other.columns same.0.columns in
      let rest = of_relations relations others same.1 in
      record {
        pairs = record { plan_id = relation.plan_id; columns = first.pairs } ∷ rest.pairs;
        on_left = λ i. record { plan_id = relation.plan_id; columns = first.on_left i } ∷ rest.on_left i;
        on_right = λ i. record { plan_id = sym same.0.plan_id i; columns = first.on_right i } ∷ rest.on_right i;
      }

  record OfFound (found : FoundOf I) (other : FoundOf J) : Type 0 where
    pairs : FoundOf Pair
    on_left : renamed left pairs ≡ found
    on_right : renamed right pairs ≡ other

  of_found : (found : FoundOf I) (other : FoundOf J) → SameFound Belong found other → OfFound found other
  of_found found other same =
      let columns = of_columns found.columns other.columns same.columns in
      let relations = of_relations found.relations other.relations same.relations in
      record {
        pairs = record { node = found.node; columns = columns.pairs; relations = relations.pairs };
        on_left = λ i. record { node = found.node; columns = columns.on_left i; relations = relations.on_left i };
        on_right = λ i. record { node = sym same.node i; columns = columns.on_right i; relations = relations.on_right i };
      }

  -- ---- and back

  columns_same : (pairs : List (ColumnOf Pair)) → AllZip (SameColumn Belong) (renamed_columns left pairs) (renamed_columns right pairs)
  columns_same [] = tt
  columns_same (pair ∷ pairs) = (
    record {
      qualifier = refl;
      name = refl;
      id = pair.id.belong;
      kind = refl;
      nullable =
          refl;
    },
    columns_same pairs,
  )

  relations_same : (pairs : List (Tagged Pair)) → AllZip (SameTagged Belong) (renamed_relations left pairs) (renamed_relations right pairs)
  relations_same [] = tt
  relations_same (pair ∷ pairs) = (record { plan_id = refl; columns = columns_same pair.columns }, relations_same pairs)

  found_same : (pairs : FoundOf Pair) → SameFound Belong (renamed left pairs) (renamed right pairs)
  found_same pairs = record { node = refl; columns = columns_same pairs.columns; relations = relations_same pairs.relations }

  answers_same : (answer : Checked (FoundOf Pair)) → SameAnswer Belong (made (renamed left) answer) (made (renamed right) answer)
  answers_same (Ok pairs) = found_same pairs
  answers_same (Err stop) = refl

  -- ---- what answers alike on both sides answers the same, where its columns are within limits

  pub from_pairs : (pairs : Checked (FoundOf Pair)) (answer : Checked (FoundOf I)) (other : Checked (FoundOf J)) →
      Alike left pairs answer → Alike right pairs other → SameAnswer Belong (limited answer) (limited other)
  from_pairs pairs answer other on_left on_right =
      subst₂ (SameAnswer Belong) (sym (limited_alike left pairs answer on_left)) (sym (limited_alike right pairs other on_right))
      (answers_same (limited pairs))

  -- ---- the premises

  abbrev pub same_pair : (I → I → Bool) → Pair → Pair → Bool
  same_pair same a b = same a.one b.one

  pub tells_left : (same : I → I → Bool) → TellsApart (same_pair same) same left
  tells_left same = record { told = λ a b. refl }

  pub tells_right : (same : I → I → Bool) (same_too : J → J → Bool) → TellsTogether Belong same same_too →
      TellsApart (same_pair same) same_too right
  tells_right same same_too tells = record { told = λ a b. tells.told a.one b.one a.two b.two a.belong b.belong }

  module _ (fresh : ℕ → I) (fresh_too : ℕ → J) (draws : DrawnTogether Belong fresh fresh_too) where
    drawn_pair : (number : ℕ) → number < 1000 → Pair
    drawn_pair number few = record { one = fresh number; two = fresh_too number; belong = draws.drawn number few }

    -- a pair below the limit; what stands beyond does not matter
    drawn_by : (number : ℕ) (few : Bool) → ltb number 1000 ≡ few → Pair
    drawn_by number true is = drawn_pair number (ltb-true number 1000 is)
    drawn_by number false is = drawn_pair 0 (omega arith)

    pub fresh_pair : ℕ → Pair
    fresh_pair number = drawn_by number (ltb number 1000) refl

    left_by : (number : ℕ) (few : Bool) (is : ltb number 1000 ≡ few) → few ≡ true → fresh number ≡ left (drawn_by number few is)
    unfolding drawn_by drawn_pair
    left_by number true is below = refl
    left_by number false is below = absurd (let h : ⊥ = cc in h)

    right_by : (number : ℕ) (few : Bool) (is : ltb number 1000 ≡ few) → few ≡ true → fresh_too number ≡ right (drawn_by number few is)
    unfolding drawn_by drawn_pair
    right_by number true is below = refl
    right_by number false is below = absurd (let h : ⊥ = cc in h)

    pub draws_left : DrawnAlike left fresh_pair fresh
    unfolding fresh_pair
    draws_left = record { drawn = λ number few. left_by number (ltb number 1000) refl (lt-ltb number 1000 few) }

    pub draws_right : DrawnAlike right fresh_pair fresh_too
    unfolding fresh_pair
    draws_right = record { drawn = λ number few. right_by number (ltb number 1000) refl (lt-ltb number 1000 few) }

  -- ---- rules of one relation and of two

  pub one_same : (rule : FoundOf I → Checked (FoundOf I)) (rule_too : FoundOf J → Checked (FoundOf J))
      (of_pairs : FoundOf Pair → Checked (FoundOf Pair)) →
      ((input : FoundOf Pair) → Alike left (of_pairs input) (rule (renamed left input))) →
      ((input : FoundOf Pair) → Alike right (of_pairs input) (rule_too (renamed right input))) →
      (input : FoundOf I) (input_too : FoundOf J) → SameFound Belong input input_too →
      SameAnswer Belong (limited (rule input)) (limited (rule_too input_too))
  one_same rule rule_too of_pairs on_left on_right input input_too same =
      let both = of_found input input_too same in
      from_pairs (of_pairs both.pairs) (rule input) (rule_too input_too)
      (subst (λ (f : FoundOf I). Alike left (of_pairs both.pairs) (rule f)) both.on_left (on_left both.pairs))
      (subst (λ (f : FoundOf J). Alike right (of_pairs both.pairs) (rule_too f)) both.on_right (on_right both.pairs))

  pub two_same : (rule : FoundOf I → FoundOf I → Checked (FoundOf I)) (rule_too : FoundOf J → FoundOf J → Checked (FoundOf J))
      (of_pairs : FoundOf Pair → FoundOf Pair → Checked (FoundOf Pair)) →
      ((a b : FoundOf Pair) → Alike left (of_pairs a b) (rule (renamed left a) (renamed left b))) →
      ((a b : FoundOf Pair) → Alike right (of_pairs a b) (rule_too (renamed right a) (renamed right b))) →
      (a : FoundOf I) (a_too : FoundOf J) → SameFound Belong a a_too → (b : FoundOf I) (b_too : FoundOf J) → SameFound Belong b b_too →
      SameAnswer Belong (limited (rule a b)) (limited (rule_too a_too b_too))
  two_same rule rule_too of_pairs on_left on_right a a_too same b b_too also =
      let one = of_found a a_too same in
      let two = of_found b b_too also in
      from_pairs (of_pairs one.pairs two.pairs) (rule a b) (rule_too a_too b_too)
      (subst₂ (λ (f g : FoundOf I). Alike left (of_pairs one.pairs two.pairs) (rule f g)) one.on_left two.on_left
      (on_left one.pairs two.pairs))
      (subst₂ (λ (f g : FoundOf J). Alike right (of_pairs one.pairs two.pairs) (rule_too f g)) one.on_right two.on_right
      (on_right one.pairs two.pairs))
