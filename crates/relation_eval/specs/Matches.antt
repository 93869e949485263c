-- Which pairs of rows match, by the places of the right ones.
use Rattle.std.specs.Prelude.{◌≡◌, ℕ, Bool, true, not, ◌&&◌, List, [], ◌∷◌, All, map, filter, slice_set, slice_index_or, Option}
use Rattle.std.specs.List.{list_any, flat_map}
use Rattle.cn_types.specs.declared.row.Row.{Row}
use Rattle.cn_types.specs.Fit.{value_at}
use Rattle.cn_types.specs.Order.{row_eq}
use Rattle.plan_model.specs.declared.expression.TypedExpr.{TypedExpr}
use Rattle.plan_model.specs.Groups.{columns_of}
use Rattle.plan_model.specs.Joins.{matches}
use Rattle.plan_model.specs.Truth.{is_present}
use Rattle.relation_eval.specs.declared.matches.Matched.{Matched}
use Rattle.relation_eval.specs.Joined.{pairs_with}

-- the rows at these places
abbrev pub row_at : List Row → ℕ → Row
row_at rows place = slice_index_or rows place (record { 0 = [] })

abbrev pub rows_at : List Row → List ℕ → List Row
rows_at rows places = map (row_at rows) places

-- those of the places whose rows the left row matches
abbrev pub match_places : Option TypedExpr → Row → List Row → List ℕ → List ℕ
match_places condition left rows places = filter (λ place. matches condition left (row_at rows place)) places

-- the flags, those at the places set
abbrev pub marked : List Bool → List ℕ → List Bool
marked flags [] = flags
marked flags (place ∷ places) = marked (slice_set flags place true) places

-- one of the row's values in these columns is null
abbrev pub has_null_in : List ℕ → Row → Bool
has_null_in columns row = list_any (λ column. not (is_present (value_at column row))) columns

-- the values of two rows in these columns are the same, and none of them is null
abbrev pub is_candidate : List ℕ → List ℕ → Row → Row → Bool
is_candidate lefts rights left right = not (has_null_in lefts left) && row_eq (columns_of lefts left) (columns_of rights right)

-- of these rows only candidates match the left row
abbrev pub MatchCandidates : Option TypedExpr → List ℕ → List ℕ → List Row → Row → Type 0
MatchCandidates condition lefts rights rows left = All (λ right. matches condition left right ≡ true → is_candidate lefts rights left right ≡ true) rows

-- and so for each left row
abbrev pub AreKeys : Option TypedExpr → List ℕ → List ℕ → List Row → List Row → Type 0
AreKeys condition lefts rights a b = All (MatchCandidates condition lefts rights b) a

-- whether a left row has a match in the list, and whether a right row has one
abbrev pub matches_some : Option TypedExpr → List Row → Row → Bool
matches_some condition rows left = list_any (matches condition left) rows

abbrev pub is_matched : Option TypedExpr → List Row → Row → Bool
is_matched condition rows right = list_any (λ left. matches condition left right) rows

-- all pairs that match were found, and for each row whether it has a match
pub record FindsMatches (condition : Option TypedExpr) (a b : List Row) (found : Matched) : Type 0 where
  pub rows : found.rows.items ≡ flat_map (λ left. pairs_with condition left b) a
  pub left_flags : found.left_flags.items ≡ map (matches_some condition b) a
  pub right_flags : found.right_flags.items ≡ map (is_matched condition a) b
