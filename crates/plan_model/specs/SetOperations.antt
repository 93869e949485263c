-- The set operations of SQL, with ALL over multisets and without it over sets.
use Rattle.std.specs.Prelude.{◌≡◌, ℕ, ◌+◌, ◌-◌, min, ◌==◌, Bool, true, false, if◌then◌else◌, List}
use Rattle.cn_types.specs.declared.row.Row.{Row}
use Rattle.cn_types.specs.Order.{count}
use Rattle.plan_model.specs.declared.node.SetKind.{SetKind}
use Rattle.plan_model.specs.Counts.{once}

-- with ALL: how often a row stands in the result that stands so often in the left and in the right input
abbrev pub copies_of_all : SetKind → ℕ → ℕ → ℕ
copies_of_all SetKind.Union a b = a + b
copies_of_all SetKind.Intersect a b = min a b
copies_of_all SetKind.Except a b = a - b

-- without ALL: once, where it stands in one of them, in both, or in the left alone
abbrev pub copies_of_one : SetKind → ℕ → ℕ → ℕ
copies_of_one SetKind.Union a b = once (a + b)
copies_of_one SetKind.Intersect a b = once (min a b)
copies_of_one SetKind.Except a b = if b == 0 then once a else 0

abbrev pub copies : SetKind → Bool → ℕ → ℕ → ℕ
copies kind true a b = copies_of_all kind a b
copies kind false a b = copies_of_one kind a b

-- any list with these counts
abbrev pub IsSetOperation : SetKind → Bool → List Row → List Row → List Row → Type 0
IsSetOperation kind all a b rows = (row : Row) → count rows row ≡ copies kind all (count a row) (count b row)
