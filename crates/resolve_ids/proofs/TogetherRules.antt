-- Each rule over relations whose ids belong together.
use Rattle.std.proofs.Common.{ℕ, Bool}
use Rattle.std.specs.Prelude.{Ok}
use Rattle.resolve_relations.specs.Keeping.{alias_rule, deduplicate_rule, filter_rule, limit_rule, offset_rule, sort_rule}
use Rattle.resolve_relations.specs.Making.{aggregate_rule, drop_rule, project_rule, range_rule, read_rule, renamed_rule, to_df_rule, with_columns_rule}
use Rattle.resolve_joins.specs.Joins.{join_rule}
use Rattle.resolve_sets.specs.Sets.{set_rule}
use Rattle.resolve_ids.specs.Renaming.{DrawnAlike, TellsApart, renamed}
use Rattle.resolve_ids.specs.Together.{DrawnTogether, TellsTogether}
use Rattle.resolve_ids.specs.TogetherLaws.{ColumnsStaySame, NamesStaySame, RowsStaySame, RulesStaySame, TestsStaySame}
use Rattle.resolve_ids.proofs.Dropping.{drop_alike}
use Rattle.resolve_ids.proofs.Joining.{join_alike}
use Rattle.resolve_ids.proofs.Keeping.{alias_alike, deduplicate_alike, filter_alike, limit_alike, offset_alike, sort_alike}
use Rattle.resolve_ids.proofs.Making.{aggregate_alike, project_alike, range_alike, read_alike, renamed_columns_alike, to_df_alike, with_columns_alike}
use Rattle.resolve_ids.proofs.Pairs.{Pair, draws_left, draws_right, fresh_pair, from_pairs, left, one_same, right, same_pair, tells_left, tells_right, two_same}
use Rattle.resolve_ids.proofs.SetOperations.{set_alike}
use Rattle.resolve_ids.proofs.Steps.{same_alike}

module _ {I J : Type 0} (Belong : I → J → Type 0) where
  abbrev on_left : Pair Belong → I
  on_left = left Belong

  abbrev on_right : Pair Belong → J
  on_right = right Belong

  rows_same : RowsStaySame Belong
  rows_same = record {
    limit = λ input other same number. one_same Belong (λ f. limit_rule f number) (λ f. limit_rule f number) (λ f. limit_rule f number)
        (λ f. limit_alike on_left f number) (λ f. limit_alike on_right f number) input other same;
    offset = λ input other same number. one_same Belong (λ f. offset_rule f number) (λ f. offset_rule f number) (λ f. offset_rule f number)
        (λ f. offset_alike on_left f number) (λ f. offset_alike on_right f number) input other same;
    alias = λ input other same alias. one_same Belong (λ f. Ok (alias_rule f alias)) (λ f. Ok (alias_rule f alias))
        (λ f. Ok (alias_rule f alias))
        (λ f. same_alike on_left (alias_rule f alias) (alias_rule (renamed on_left f) alias) (alias_alike on_left f alias))
        (λ f. same_alike on_right (alias_rule f alias) (alias_rule (renamed on_right f) alias) (alias_alike on_right f alias))
        input other same;
    deduplicate = λ input other same exact all names. one_same Belong
        (λ f. deduplicate_rule exact f all names) (λ f. deduplicate_rule exact f all names) (λ f. deduplicate_rule exact f all names)
        (λ f. deduplicate_alike on_left exact f all names) (λ f. deduplicate_alike on_right exact f all names) input other same;
  }

  module _ (same : I → I → Bool) (same_too : J → J → Bool) (tells : TellsTogether Belong same same_too) where
    abbrev of_pairs : Pair Belong → Pair Belong → Bool
    of_pairs = same_pair Belong same

    to_left : TellsApart of_pairs same on_left
    to_left = tells_left Belong same

    to_right : TellsApart of_pairs same_too on_right
    to_right = tells_right Belong same same_too tells

    tests_same : TestsStaySame Belong same same_too
    tests_same = record {
      filter = λ input other also exact condition. one_same Belong
          (λ f. filter_rule same exact f condition) (λ f. filter_rule same_too exact f condition)
          (λ f. filter_rule of_pairs exact f condition)
          (λ f. filter_alike on_left of_pairs same to_left exact f condition)
          (λ f. filter_alike on_right of_pairs same_too to_right exact f condition) input other also;
      sort = λ input other also exact orders. one_same Belong
          (λ f. sort_rule same exact f orders) (λ f. sort_rule same_too exact f orders) (λ f. sort_rule of_pairs exact f orders)
          (λ f. sort_alike on_left of_pairs same to_left exact f orders)
          (λ f. sort_alike on_right of_pairs same_too to_right exact f orders) input other also;
      drop = λ input other also exact exprs names. one_same Belong
          (λ f. drop_rule same exact f exprs names) (λ f. drop_rule same_too exact f exprs names)
          (λ f. drop_rule of_pairs exact f exprs names)
          (λ f. drop_alike on_left of_pairs same to_left exact f exprs names)
          (λ f. drop_alike on_right of_pairs same_too to_right exact f exprs names) input other also;
    }

  module _ (fresh : ℕ → I) (fresh_too : ℕ → J) (draws : DrawnTogether Belong fresh fresh_too) where
    abbrev drawn : ℕ → Pair Belong
    drawn = fresh_pair Belong fresh fresh_too draws

    from_left : DrawnAlike on_left drawn fresh
    from_left = draws_left Belong fresh fresh_too draws

    from_right : DrawnAlike on_right drawn fresh_too
    from_right = draws_right Belong fresh fresh_too draws

    names_same : NamesStaySame Belong fresh fresh_too
    names_same = record {
      range = λ start end step. from_pairs Belong (range_rule drawn start end step) (range_rule fresh start end step)
          (range_rule fresh_too start end step)
          (range_alike on_left drawn fresh from_left start end step) (range_alike on_right drawn fresh_too from_right start end step);
      read = λ tables identifier. from_pairs Belong (read_rule drawn tables identifier) (read_rule fresh tables identifier)
          (read_rule fresh_too tables identifier)
          (read_alike on_left drawn fresh from_left tables identifier) (read_alike on_right drawn fresh_too from_right tables identifier);
      to_df = λ input other also names. one_same Belong (λ f. to_df_rule fresh f names) (λ f. to_df_rule fresh_too f names)
          (λ f. to_df_rule drawn f names)
          (λ f. to_df_alike on_left drawn fresh from_left f names) (λ f. to_df_alike on_right drawn fresh_too from_right f names)
          input other also;
      with_columns_renamed = λ input other also exact entries. one_same Belong
          (λ f. Ok (renamed_rule exact fresh f entries)) (λ f. Ok (renamed_rule exact fresh_too f entries))
          (λ f. Ok (renamed_rule exact drawn f entries))
          (λ f. renamed_columns_alike on_left drawn fresh from_left exact f entries)
          (λ f. renamed_columns_alike on_right drawn fresh_too from_right exact f entries) input other also;
      set_op = λ a a_too first b b_too second exact number all named missing. two_same Belong
          (λ f g. set_rule exact fresh f g number all named missing) (λ f g. set_rule exact fresh_too f g number all named missing)
          (λ f g. set_rule exact drawn f g number all named missing)
          (λ f g. set_alike on_left drawn fresh from_left f g exact number all named missing)
          (λ f g. set_alike on_right drawn fresh_too from_right f g exact number all named missing) a a_too first b b_too second;
    }

  module _ (same : I → I → Bool) (same_too : J → J → Bool) (tells : TellsTogether Belong same same_too) (fresh : ℕ → I) (fresh_too : ℕ → J)
      (draws : DrawnTogether Belong fresh fresh_too) where
    abbrev pairs_same : Pair Belong → Pair Belong → Bool
    pairs_same = same_pair Belong same

    abbrev draw : ℕ → Pair Belong
    draw = fresh_pair Belong fresh fresh_too draws

    told_left : TellsApart pairs_same same on_left
    told_left = tells_left Belong same

    told_right : TellsApart pairs_same same_too on_right
    told_right = tells_right Belong same same_too tells

    drawn_left : DrawnAlike on_left draw fresh
    drawn_left = draws_left Belong fresh fresh_too draws

    drawn_right : DrawnAlike on_right draw fresh_too
    drawn_right = draws_right Belong fresh fresh_too draws

    columns_same : ColumnsStaySame Belong same same_too fresh fresh_too
    columns_same = record {
      with_columns = λ input other also exact aliases. one_same Belong
          (λ f. with_columns_rule same exact fresh f aliases) (λ f. with_columns_rule same_too exact fresh_too f aliases)
          (λ f. with_columns_rule pairs_same exact draw f aliases)
          (λ f. with_columns_alike on_left draw fresh drawn_left pairs_same same told_left exact f aliases)
          (λ f. with_columns_alike on_right draw fresh_too drawn_right pairs_same same_too told_right exact f aliases) input other also;
      project = λ input other also exact exprs. one_same Belong
          (λ f. project_rule same exact fresh f exprs) (λ f. project_rule same_too exact fresh_too f exprs)
          (λ f. project_rule pairs_same exact draw f exprs)
          (λ f. project_alike on_left draw fresh drawn_left pairs_same same told_left exact f exprs)
          (λ f. project_alike on_right draw fresh_too drawn_right pairs_same same_too told_right exact f exprs) input other also;
      aggregate = λ input other also exact group_type groupings exprs. one_same Belong
          (λ f. aggregate_rule same exact fresh f group_type groupings exprs)
          (λ f. aggregate_rule same_too exact fresh_too f group_type groupings exprs)
          (λ f. aggregate_rule pairs_same exact draw f group_type groupings exprs)
          (λ f. aggregate_alike on_left draw fresh drawn_left pairs_same same told_left exact f group_type groupings exprs)
          (λ f. aggregate_alike on_right draw fresh_too drawn_right pairs_same same_too told_right exact f group_type groupings exprs)
          input other also;
      join = λ a a_too first b b_too second exact number condition names. two_same Belong
          (λ f g. join_rule same exact fresh f g number condition names)
          (λ f g. join_rule same_too exact fresh_too f g number condition names)
          (λ f g. join_rule pairs_same exact draw f g number condition names)
          (λ f g. join_alike on_left pairs_same same told_left exact f g draw fresh drawn_left number condition names)
          (λ f g. join_alike on_right pairs_same same_too told_right exact f g draw fresh_too drawn_right number condition names)
          a a_too first b b_too second;
    }

  pub rules_stay_same : RulesStaySame Belong
  rules_stay_same = record { rows = rows_same; tests = tests_same; names = names_same; columns = columns_same }
