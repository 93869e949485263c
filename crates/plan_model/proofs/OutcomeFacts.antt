-- What follows from an outcome that is a list of rows.
use Rattle.std.proofs.Common.{◌≡◌, ◌≤◌, Bool, true, false, nat_lt, if◌then◌else◌, List, [], ◌∷◌, length, Ok, Err, refl, sym, ap, ◌∙◌, subst, inl, inr}
use Rattle.std.specs.List.{AllByRecursion, list_any}
use Rattle.std.proofs.lemmas.Bool.{ltb-false, or_parts}
use Rattle.cn_types.specs.declared.row.Row.{Row}
use Rattle.cn_types.specs.Weight.{row_weight}
use Rattle.plan_model.specs.Counts.{SameCounts}
use Rattle.plan_model.specs.Outcomes.{PlanError, Allowed, Bounded, After, limited, is_too_large, row_limit, weight_limit}
use Rattle.plan_model.proofs.RowCounts.{length-SameCounts, list_any-SameCounts}

limited_where : (many large : Bool) (rows list : List Row) → Ok rows ≡ (if many then Err PlanError.TooManyRows else if large then Err PlanError.RowTooLarge else Ok list) → rows ≡ list
limited_where true large rows list e = cc
limited_where false true rows list e = cc
limited_where false false rows list e = cc

pub limited_rows : (rows list : List Row) → Ok rows ≡ limited list → rows ≡ list
limited_rows rows list e = limited_where (nat_lt row_limit (length list)) (list_any is_too_large list) rows list e

-- the rows are such a list
pub bounded_rows : (Is : List Row → Type 0) (rows : List Row) → Bounded Is (Ok rows) → Is rows
bounded_rows Is rows h = subst Is (sym (limited_rows rows h.0 h.2)) h.1

-- and within the limits
pub bounded_within : (Is : List Row → Type 0) (rows : List Row) → Bounded Is (Ok rows) → limited rows ≡ Ok rows
bounded_within Is rows h = ap limited (limited_rows rows h.0 h.2) ∙ sym h.2

-- a list that is within the limits is an outcome
pub bounded_from : (Is : List Row → Type 0) (rows : List Row) → Is rows → limited rows ≡ Ok rows → Bounded Is (Ok rows)
bounded_from Is rows h e = (rows, h, sym e)

-- rows follow from rows of the input
pub after_rows : (input : Allowed) (Next : List Row → Allowed) (rows : List Row) → After input Next (Ok rows) → (a : List Row) × input (Ok a) × Next a (Ok rows)
after_rows input Next rows (inl h) = absurd (different rows h.0 h.2)
  where
    different : (rows : List Row) (error : PlanError) → Ok rows ≡ Err error → ⊥
    different rows error e = cc
after_rows input Next rows (inr h) = (h.0, h.1, h.2)

few_where : (many large : Bool) (rows : List Row) → (if many then Err PlanError.TooManyRows else if large then Err PlanError.RowTooLarge else Ok rows) ≡ Ok rows → (many ≡ false) × (large ≡ false)
few_where true large rows e = cc
few_where false true rows e = cc
few_where false false rows e = (refl, refl)

light : (rows : List Row) → list_any is_too_large rows ≡ false → AllByRecursion (λ row. row_weight row ≤ weight_limit) rows
light [] h = tt
light (row ∷ rows) h =
    let parts = or_parts (is_too_large row) (list_any is_too_large rows) h in
    (ltb-false weight_limit (row_weight row) parts.0, light rows parts.1)

-- what the limits are
pub within_limits : (rows : List Row) → limited rows ≡ Ok rows → (length rows ≤ row_limit) × AllByRecursion (λ row. row_weight row ≤ weight_limit) rows
within_limits rows e =
    let parts = few_where (nat_lt row_limit (length rows)) (list_any is_too_large rows) rows e in
    (ltb-false row_limit (length rows) parts.0, light rows parts.1)

-- rows within the limits are so in any order
pub limited-SameCounts : (xs ys : List Row) → SameCounts xs ys → limited ys ≡ Ok ys → limited xs ≡ Ok xs
limited-SameCounts xs ys h e =
    let parts = few_where (nat_lt row_limit (length ys)) (list_any is_too_large ys) ys e in
    let few : nat_lt row_limit (length xs) ≡ false = ap (nat_lt row_limit) (length-SameCounts xs ys h) ∙ parts.0 in
    let small : list_any is_too_large xs ≡ false = list_any-SameCounts is_too_large xs ys h ∙ parts.1 in
    λ i. if few i then Err PlanError.TooManyRows else if small i then Err PlanError.RowTooLarge else Ok xs
