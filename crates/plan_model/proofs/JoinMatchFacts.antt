-- Joins of which no pair matches, or each; semi and anti joins.
use Rattle.std.proofs.Common.{◌≡◌, ◌<◌, ◌+◌, ◌*◌, ℕ, zero, suc, Bool, true, false, not, cond, Some, Ok, List, [], ◌∷◌, ◌++◌, map, length, length-append, refl, sym, ap, ◌∙◌, arith}
use Rattle.std.specs.List.{AllByRecursion}
use Rattle.std.proofs.lemmas.Bool.{false≢true}
use Rattle.std.proofs.lemmas.List.{length-map}
use Rattle.std.proofs.lemmas.List.Elements.{All-from_recursion, recursion_from_All}
use Rattle.cn_types.specs.declared.row.Row.{Row}
use Rattle.cn_types.specs.Fit.{FitsTypes, IsValue}
use Rattle.cn_types.specs.Order.{count}
use Rattle.plan_model.specs.declared.expression.TypedExpr.{TypedExpr}
use Rattle.plan_model.specs.declared.node.JoinKind.{JoinKind}
use Rattle.plan_model.specs.declared.node.Node.{Node}
use Rattle.plan_model.specs.declared.node.Node.TheVariants as V
use Rattle.plan_model.specs.Allows.{Allows, joining_of}
use Rattle.plan_model.specs.Joins.{Joining, beside, pairs, has_right, IsJoin}
use Rattle.plan_model.specs.NodeTypes.{types}
use Rattle.plan_model.specs.Outcomes.{Bounded, After}
use Rattle.plan_model.specs.RelationLaws.{NeverMatches, JoinsMatch}
use Rattle.plan_model.specs.ValueRanges.{HasValuesInRange, HasContentInRange}
use Rattle.plan_model.specs.WellFormed.{IsWellFormed}
use Rattle.plan_model.proofs.AllowsFacts.{Allows-Join}
use Rattle.plan_model.proofs.Fitting.{both_have, rows_have_the_types}
use Rattle.plan_model.proofs.JoinFacts.{pair_of}
use Rattle.plan_model.proofs.OutcomeFacts.{bounded_rows, after_rows}
use Rattle.plan_model.proofs.RangedRows.{both_all, rows_are_in_range}
use Rattle.plan_model.proofs.RelationFacts.{allowed_as, nothing_counted, all_pass}
use Rattle.plan_model.proofs.RowCounts.{length-SameCounts, count-filter, counts-from_All}

length-pairs : (joining : Joining) (a b : List Row) → ((left right : Row) → joining.matching left right ≡ true) → length (pairs joining a b) ≡ length a * length b
length-pairs joining [] b h = omega arith
length-pairs joining (left ∷ a) b h =
    ap (λ rows. length (map (beside left) rows ++ pairs joining a b)) (all_pass (joining.matching left) b (h left))
    ∙ length-append (map (beside left) b) (pairs joining a b)
    ∙ omega (arith, length-map b (beside left), length-pairs joining a b h)

split : (b : Bool) (n : ℕ) → cond b n 0 + cond (not b) n 0 ≡ n
split true n = omega arith
split false n = omega arith

-- the lists of both inputs, of which an inner join's rows are the pairs
abbrev Inputs : Node → Node → TypedExpr → List Row → Type 0
Inputs left right condition rows = (a : List Row) × (b : List Row) × Allows left (Ok a) × Allows right (Ok b) × IsJoin JoinKind.Inner (joining_of (Some condition) left right) a b rows

inner_rows : (left right : Node) (condition : TypedExpr) (rows : List Row) → Allows (V.Join left right JoinKind.Inner (Some condition)) (Ok rows) → Inputs left right condition rows
inner_rows left right condition rows h =
    let joining = joining_of (Some condition) left right in
    let s = after_rows (Allows left) (λ a. After (Allows right) (λ b. Bounded (IsJoin JoinKind.Inner joining a b))) rows
    (allowed_as (V.Join left right JoinKind.Inner (Some condition)) (After (Allows left) (λ a. After (Allows right) (λ b. Bounded (IsJoin JoinKind.Inner joining a b)))) (Ok rows)
    (Allows-Join left right JoinKind.Inner (Some condition)) h) in
    let t = after_rows (Allows right) (λ b. Bounded (IsJoin JoinKind.Inner joining s.0 b)) rows s.2 in
    (s.0, t.0, s.1, t.1, bounded_rows (IsJoin JoinKind.Inner joining s.0 t.0) rows t.2)

none_there : (n : ℕ) → (0 < n → ⊥) → n ≡ 0
none_there zero h = refl
none_there (suc n) h = absurd (h (omega arith))

module _ (node : Node) (formed : IsWellFormed node) (content : HasContentInRange node) (rows : List Row) (allowed : Allows node (Ok rows)) (row : Row) (among : 0 < count rows row) where
  row_fits : FitsTypes (types node) row
  row_fits = counts-from_All (FitsTypes (types node)) rows (recursion_from_All (FitsTypes (types node)) rows (rows_have_the_types node formed rows allowed)) row among

  row_ranged : AllByRecursion IsValue row.0
  row_ranged = recursion_from_All IsValue row.0 (counts-from_All HasValuesInRange rows (recursion_from_All HasValuesInRange rows (rows_are_in_range node formed content rows allowed)) row among)

never_true : NeverMatches
never_true left right condition formed_left formed_right content_left content_right never rows h =
    let t = inner_rows left right condition rows h in
    let joining = joining_of (Some condition) left right in
    let no_pair : (row : Row) → 0 < count (pairs joining t.0 t.1) row → ⊥ = λ row more.
    let p = pair_of joining t.0 t.1 row more in
    let fits = both_have (types left) (types right) p.left.0 p.right.0 (row_fits left formed_left content_left t.0 t.2 p.left p.in_left) (row_fits right formed_right content_right t.1 t.3 p.right p.in_right) in
    let ranged = both_all IsValue p.left.0 p.right.0 (row_ranged left formed_left content_left t.0 t.2 p.left p.in_left) (row_ranged right formed_right content_right t.1 t.3 p.right p.in_right) in
    false≢true (sym (never (beside p.left p.right) fits (All-from_recursion IsValue (p.left.0 ++ p.right.0) ranged)) ∙ p.match) in
    nothing_counted rows (λ row. t.4 row ∙ none_there (count (pairs joining t.0 t.1) row) (no_pair row))

pub joins_match : JoinsMatch
joins_match = record {
  never_true = never_true;
  semi_and_anti = λ joining a b semi anti f g row.
      omega (arith, f row, g row, count-filter (has_right joining b) a row, count-filter (λ left. not (has_right joining b left)) a row, split (has_right joining b row) (count a row));
  each_pair = λ joining a b rows matching h. length-SameCounts rows (pairs joining a b) h ∙ length-pairs joining a b matching;
}
