-- The rows of a join, as they are found.
use Rattle.std.proofs.Common.{◌≡◌, ◌<◌, ◌*◌, ℕ, Bool, false, cond, List, [], ◌∷◌, ◌++◌, map, length, refl, sym, ap, ◌∙◌, subst, arith, length-append, append-nil}
use Rattle.std.specs.Prelude.{filter, not, Option, None, Some, Result, Ok, Err, IfOk}
use Rattle.std.specs.Borrow.{Bor}
use Rattle.std.specs.Option.{is_some, option_copied}
use Rattle.std.proofs.lemmas.List.{length-map}
use Rattle.cn_types.specs.declared.row.Row.{Row}
use Rattle.plan_model.specs.declared.expression.TypedExpr.{TypedExpr}
use Rattle.plan_model.specs.declared.node.JoinKind.{JoinKind}
use Rattle.plan_model.specs.JoinCounts.{HasBothSides}
use Rattle.plan_model.specs.Joins.{Joining, pairs, left_alone, right_alone, joined, IsJoin}
use Rattle.plan_model.specs.Outcomes.{PlanError, Bounded, limited, row_limit}
use Rattle.plan_model.proofs.JoinMatchFacts.{joins_match}
use Rattle.relation_eval.specs.declared.given.Given.{Given}
use Rattle.relation_eval.specs.declared.matches.Matched.{Matched}
use Rattle.relation_eval.specs.Firsts.{flagged}
use Rattle.relation_eval.specs.Given.{outcome_of}
use Rattle.relation_eval.specs.Joined.{widths_joining, rows_where, has_left_alone, has_right_alone, pairs_and_alone, unflagged, before_nulls, behind_nulls}
use Rattle.relation_eval.specs.Matches.{FindsMatches, matches_some, is_matched}
use Rattle.relation_eval.proofs.SetFacts.{limited-many}

-- ---- rows by their flags

pub flagged-map : (test : Row → Bool) (rows : List Row) → flagged (map test rows) rows ≡ filter test rows
flagged-map test [] = refl
flagged-map test (row ∷ rows) = ap (λ (rs : List Row). cond (test row) (row ∷ rs) rs) (flagged-map test rows)

pub unflagged-map : (test : Row → Bool) (rows : List Row) → unflagged (map test rows) rows ≡ filter (λ row. not (test row)) rows
unflagged-map test [] = refl
unflagged-map test (row ∷ rows) = ap (λ (rs : List Row). cond (not (test row)) (row ∷ rs) rs) (unflagged-map test rows)

pub kept_are : (test : Row → Bool) (rows list : List Row) (flags : List Bool) → list ≡ flagged flags rows → flags ≡ map test rows → list ≡ filter test rows
kept_are test rows list flags is f = is ∙ ap (λ (fs : List Bool). flagged fs rows) f ∙ flagged-map test rows

pub left_out_are : (test : Row → Bool) (rows list : List Row) (flags others : List Bool) → list ≡ flagged others rows → others ≡ map not flags → flags ≡ map test rows → list ≡ filter (λ row. not (test row)) rows
left_out_are test rows list flags others is n f = is ∙ ap (λ (fs : List Bool). flagged fs rows) (n ∙ ap (λ (fs : List Bool). map not fs) f) ∙ unflagged-map test rows

pub as_many : (test : Row → Bool) (rows : List Row) (flags : List Bool) → flags ≡ map test rows → length flags ≡ length rows
as_many test rows flags f = ap length f ∙ length-map rows test

-- ---- the rows of each kind

pub both-joined : (kind : JoinKind) (joining : Joining) (a b : List Row) → HasBothSides kind → pairs_and_alone kind joining a b ≡ joined kind joining a b
both-joined JoinKind.Inner joining a b h = append-nil (pairs joining a b ++ []) ∙ append-nil (pairs joining a b)
both-joined JoinKind.Cross joining a b h = append-nil (pairs joining a b ++ []) ∙ append-nil (pairs joining a b)
both-joined JoinKind.Left joining a b h = append-nil (pairs joining a b ++ left_alone joining a b)
both-joined JoinKind.Right joining a b h = ap (λ (rows : List Row). rows ++ right_alone joining a b) (append-nil (pairs joining a b))
both-joined JoinKind.Full joining a b h = refl
both-joined JoinKind.Semi joining a b h = absurd h
both-joined JoinKind.Anti joining a b h = absurd h

pub found-both : (kind : JoinKind) (condition : Option TypedExpr) (left_width right_width : ℕ) (a b : List Row) (found : Matched) → FindsMatches condition a b found
    → found.rows.items ++ rows_where (has_left_alone kind) (before_nulls right_width (unflagged found.left_flags.items a)) ++ rows_where (has_right_alone kind) (behind_nulls left_width (unflagged found.right_flags.items b))
    ≡ pairs_and_alone kind (widths_joining condition left_width right_width) a b
found-both kind condition left_width right_width a b found finds =
    let lefts : unflagged found.left_flags.items a ≡ filter (λ row. not (matches_some condition b row)) a = ap (λ (fs : List Bool). unflagged fs a) finds.left_flags ∙ unflagged-map (matches_some condition b) a in
    let rights : unflagged found.right_flags.items b ≡ filter (λ row. not (is_matched condition a row)) b = ap (λ (fs : List Bool). unflagged fs b) finds.right_flags ∙ unflagged-map (is_matched condition a) b in
    let joining = widths_joining condition left_width right_width in
    ap (λ (rows : List Row). rows ++ rows_where (has_left_alone kind) (before_nulls right_width (unflagged found.left_flags.items a)) ++ rows_where (has_right_alone kind) (behind_nulls left_width (unflagged found.right_flags.items b))) finds.rows
    ∙ ap (λ (rows : List Row). pairs joining a b ++ rows_where (has_left_alone kind) (before_nulls right_width rows) ++ rows_where (has_right_alone kind) (behind_nulls left_width (unflagged found.right_flags.items b))) lefts
    ∙ ap (λ (rows : List Row). pairs joining a b ++ rows_where (has_left_alone kind) (left_alone joining a b) ++ rows_where (has_right_alone kind) (behind_nulls left_width rows)) rights

-- ---- too many pairs

pub many_pairs : (kind : JoinKind) (joining : Joining) (a b : List Row) → row_limit < length (pairs joining a b) → limited (pairs_and_alone kind joining a b) ≡ Err PlanError.TooManyRows
many_pairs kind joining a b many =
    let lefts = rows_where (has_left_alone kind) (left_alone joining a b) in
    let rights = rows_where (has_right_alone kind) (right_alone joining a b) in
    limited-many (pairs_and_alone kind joining a b) (omega (arith, length-append (pairs joining a b ++ lefts) rights, length-append (pairs joining a b) lefts))

pub product_many : (kind : JoinKind) (condition : Option TypedExpr) (left_width right_width : ℕ) (a b : List Row) → condition ≡ None → row_limit < length a * length b
    → limited (pairs_and_alone kind (widths_joining condition left_width right_width) a b) ≡ Err PlanError.TooManyRows
product_many kind condition left_width right_width a b none many =
    let joining = widths_joining None left_width right_width in
    let each : length (pairs joining a b) ≡ length a * length b = joins_match.each_pair joining a b (pairs joining a b) (λ left right. refl) (λ row. refl) in
    ap (λ (c : Option TypedExpr). limited (pairs_and_alone kind (widths_joining c left_width right_width) a b)) none
    ∙ many_pairs kind joining a b (subst (λ n. row_limit < n) (sym each) many)

pub none_copied : (condition : Option (Bor TypedExpr)) → is_some condition ≡ false → option_copied condition ≡ None
none_copied None h = refl
none_copied (Some condition) h = cc

-- ---- left rows alone

pub semi-joined : (kind : JoinKind) (condition : Option TypedExpr) (left_width right_width : ℕ) (a b rows : List Row) → kind ≡ JoinKind.Semi → rows ≡ b
    → filter (matches_some condition rows) a ≡ joined kind (widths_joining condition left_width right_width) a b
semi-joined kind condition left_width right_width a b rows k e =
    ap (λ (rs : List Row). filter (matches_some condition rs) a) e ∙ ap (λ x. joined x (widths_joining condition left_width right_width) a b) (sym k)

-- ---- what a join allows

pub join_allowed : {E : Type 0} (r : Result Given E) (kind : JoinKind) (joining : Joining) (a b : List Row) → IfOk r (λ given. outcome_of given ≡ limited (joined kind joining a b))
    → IfOk r (λ given. Bounded (IsJoin kind joining a b) (outcome_of given))
join_allowed (Ok given) kind joining a b h = (joined kind joining a b, (λ row. refl), h)
join_allowed (Err e) kind joining a b h = h
