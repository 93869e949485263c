-- Which rows a join has, and how often.
use Rattle.std.proofs.Common.{◌≡◌, ◌↔◌, ◌<◌, ◌+◌, ◌*◌, ℕ, zero, suc, Bool, true, false, not, cond, List, [], ◌∷◌, ◌++◌, map, length, filter, take, ◌⊎◌, refl, sym, ap, ◌∙◌, subst, inl, inr, arith}
use Rattle.std.specs.List.{AllByRecursion, flat_map, list_any}
use Rattle.std.proofs.lemmas.Bool.{false≢true, true_from_ne_false, not-true, not_from_false, or_parts, or_cases, or_from, false_from_ne_true}
use Rattle.std.specs.Cmp.{both_ways}
use Rattle.std.proofs.lemmas.List.{take_at, append_cancel_left}
use Rattle.std.proofs.lemmas.List.Elements.{recursion_from_All}
use Rattle.cn_types.specs.declared.row.Row.{Row}
use Rattle.cn_types.specs.declared.value.Value.{Value}
use Rattle.cn_types.specs.Order.{count, row_eq}
use Rattle.plan_model.specs.declared.node.JoinKind.{JoinKind}
use Rattle.plan_model.specs.Joins.{Joining, beside, pairs, has_right, has_left, left_alone, right_alone, joined, IsJoin}
use Rattle.plan_model.specs.RelationLaws.{IsPair, HasNoRight, HasNoLeft, IsLeftAlone, IsRightAlone, HasMatch, IsOfJoin, JoinsHoldTheirRows}
use Rattle.plan_model.proofs.Multisets.{copies-here, count_of_rest, copies-cons}
use Rattle.plan_model.proofs.RowCounts.{row_exact, count-filter, count-append}

-- the row stands in the list
abbrev pub In : List Row → Row → Type 0
In rows row = 0 < count rows row

pub in_first : (row : Row) (rows : List Row) → In (row ∷ rows) row
in_first row rows = omega (arith, copies-here row_eq row_exact row rows)

in_later : (first : Row) (rows : List Row) (row : Row) → In rows row → In (first ∷ rows) row
in_later first rows row h = omega (arith, copies-cons row_eq row_exact first rows row)

in_cases : (first : Row) (rows : List Row) (row : Row) (b : Bool) → row_eq row first ≡ b → In (first ∷ rows) row → (row ≡ first) ⊎ In rows row
in_cases first rows row true e h = inl ((row_exact row first).0 e)
in_cases first rows row false e h = inr (omega (arith, count_of_rest row_eq row_exact first rows row false e))

in_append : (xs ys : List Row) (row : Row) (n : ℕ) → count xs row ≡ n → In (xs ++ ys) row → In xs row ⊎ In ys row
in_append xs ys row zero e h = inr (omega (arith, count-append xs ys row, e))
in_append xs ys row (suc n) e h = inl (omega (arith, e))

append_left : (xs ys : List Row) (row : Row) → In xs row → In (xs ++ ys) row
append_left xs ys row h = omega (arith, count-append xs ys row)

append_right : (xs ys : List Row) (row : Row) → In ys row → In (xs ++ ys) row
append_right xs ys row h = omega (arith, count-append xs ys row)

-- in a filter, a map and a flat map
abbrev Passes : (Row → Bool) → List Row → Row → Type 0
Passes p rows row = (p row ≡ true) × In rows row

passes_where : (p : Row → Bool) (rows : List Row) (row : Row) (b : Bool) → p row ≡ b → 0 < cond b (count rows row) 0 → Passes p rows row
passes_where p rows row true e h = (e, h)
passes_where p rows row false e h = absurd (omega arith)

in_filter : (p : Row → Bool) (rows : List Row) (row : Row) → In (filter p rows) row ↔ Passes p rows row
in_filter p rows row = (
  (λ h. passes_where p rows row (p row) refl (subst (λ n. 0 < n) (count-filter p rows row) h)),
  λ h. subst (λ n. 0 < n) (sym (count-filter p rows row ∙ ap (λ (b : Bool). cond b (count rows row) 0) h.0)) h.1,
)

abbrev Image : (Row → Row) → List Row → Row → Type 0
Image f rows row = (x : Row) × In rows x × (row ≡ f x)

image_later : (f : Row → Row) (first : Row) (rows : List Row) (row : Row) → Image f rows row → Image f (first ∷ rows) row
image_later f first rows row h = (h.0, in_later first rows h.0 h.1, h.2)

in_map : (f : Row → Row) (rows : List Row) (row : Row) → In (map f rows) row → Image f rows row
in_map f [] row h = absurd (omega arith)
in_map f (x ∷ rows) row h = elim (in_cases (f x) (map f rows) row (row_eq row (f x)) refl h) [
  | inl e ↦ (x, in_first x rows, e)
  | inr later ↦ image_later f x rows row (in_map f rows row later)
]

map_in : (f : Row → Row) (rows : List Row) (x : Row) → In rows x → In (map f rows) (f x)
map_in f [] x h = absurd (omega arith)
map_in f (y ∷ rows) x h = elim (in_cases y rows x (row_eq x y) refl h) [
  | inl e ↦ subst (λ (z : Row). In (map f (y ∷ rows)) (f z)) (sym e) (in_first (f y) (map f rows))
  | inr later ↦ in_later (f y) (map f rows) (f x) (map_in f rows x later)
]

abbrev Part : (Row → List Row) → List Row → Row → Type 0
Part f rows row = (x : Row) × In rows x × In (f x) row

part_later : (f : Row → List Row) (first : Row) (rows : List Row) (row : Row) → Part f rows row → Part f (first ∷ rows) row
part_later f first rows row h = (h.0, in_later first rows h.0 h.1, h.2)

in_flat_map : (f : Row → List Row) (rows : List Row) (row : Row) → In (flat_map f rows) row → Part f rows row
in_flat_map f [] row h = absurd (omega arith)
in_flat_map f (x ∷ rows) row h = elim (in_append (f x) (flat_map f rows) row (count (f x) row) refl h) [
  | inl here ↦ (x, in_first x rows, here)
  | inr later ↦ part_later f x rows row (in_flat_map f rows row later)
]

flat_map_in : (f : Row → List Row) (rows : List Row) (x row : Row) → In rows x → In (f x) row → In (flat_map f rows) row
flat_map_in f [] x row h g = absurd (omega arith)
flat_map_in f (y ∷ rows) x row h g = elim (in_cases y rows x (row_eq x y) refl h) [
  | inl e ↦ append_left (f y) (flat_map f rows) row (subst (λ (z : Row). In (f z) row) e g)
  | inr later ↦ append_right (f y) (flat_map f rows) row (flat_map_in f rows x row later g)
]

-- a test that no row, or some row, of a list passes
none_of : (p : Row → Bool) (rows : List Row) → list_any p rows ≡ false → (row : Row) → In rows row → p row ≡ false
none_of p [] h row r = absurd (omega arith)
none_of p (x ∷ rows) h row r =
    let parts = or_parts (p x) (list_any p rows) h in
    elim (in_cases x rows row (row_eq row x) refl r) [ inl e ↦ ap p e ∙ parts.0 | inr later ↦ none_of p rows parts.1 row later ]

none_from : (p : Row → Bool) (rows : List Row) → ((row : Row) → In rows row → p row ≡ false) → list_any p rows ≡ false
none_from p [] h = refl
none_from p (x ∷ rows) h = or_from (p x) (list_any p rows) (h x (in_first x rows)) (none_from p rows (λ row r. h row (in_later x rows row r)))

abbrev pub Passing : (Row → Bool) → List Row → Type 0
Passing p rows = (row : Row) × In rows row × (p row ≡ true)

passing_later : (p : Row → Bool) (first : Row) (rows : List Row) → Passing p rows → Passing p (first ∷ rows)
passing_later p first rows h = (h.0, in_later first rows h.0 h.1, h.2)

pub some_of : (p : Row → Bool) (rows : List Row) → list_any p rows ≡ true → Passing p rows
some_of p [] h = absurd (false≢true h)
some_of p (x ∷ rows) h = elim (or_cases (p x) (list_any p rows) h) [
  | inl here ↦ (x, in_first x rows, here)
  | inr later ↦ passing_later p x rows (some_of p rows later)
]

pub some_from : (p : Row → Bool) (rows : List Row) (row : Row) → In rows row → p row ≡ true → list_any p rows ≡ true
some_from p rows row h e = true_from_ne_false (list_any p rows) (λ f. false≢true (sym (none_of p rows f row h) ∙ e))

module _ (joining : Joining) (a b : List Row) where
  pub pair_of : (row : Row) → In (pairs joining a b) row → IsPair joining a b row
  pair_of row h =
      let part = in_flat_map (λ left. map (beside left) (filter (joining.matching left) b)) a row h in
      let image = in_map (beside part.0) (filter (joining.matching part.0) b) row part.2 in
      let passing = (in_filter (joining.matching part.0) b image.0).0 image.1 in
      record { left = part.0; right = image.0; in_left = part.1; in_right = passing.1; match = passing.0; is = image.2 }

  pair_in : (row : Row) → IsPair joining a b row → In (pairs joining a b) row
  pair_in row h =
      let passing = (in_filter (joining.matching h.left) b h.right).1 (h.match, h.in_right) in
      let image = map_in (beside h.left) (filter (joining.matching h.left) b) h.right passing in
      subst (In (pairs joining a b)) (sym h.is) (flat_map_in (λ left. map (beside left) (filter (joining.matching left) b)) a h.left (beside h.left h.right) h.in_left image)

  no_right : (left : Row) → has_right joining b left ≡ false → HasNoRight joining b left
  no_right left e right h = none_of (λ other. joining.matching left other) b e right h

  no_left : (right : Row) → has_left joining a right ≡ false → HasNoLeft joining a right
  no_left right e left h = none_of (λ other. joining.matching other right) a e left h

  left_alone_of : (row : Row) → In (left_alone joining a b) row → IsLeftAlone joining a b row
  left_alone_of row h =
      let image = in_map (λ left. beside left joining.right_nulls) (filter (λ left. not (has_right joining b left)) a) row h in
      let passing = (in_filter (λ left. not (has_right joining b left)) a image.0).0 image.1 in
      record { left = image.0; in_left = passing.1; no_match = no_right image.0 (not-true (has_right joining b image.0) passing.0); is = image.2 }

  left_alone_in : (row : Row) → IsLeftAlone joining a b row → In (left_alone joining a b) row
  left_alone_in row h =
      let fails = none_from (λ right. joining.matching h.left right) b h.no_match in
      let passing = (in_filter (λ left. not (has_right joining b left)) a h.left).1 (not_from_false (has_right joining b h.left) fails, h.in_left) in
      subst (In (left_alone joining a b)) (sym h.is) (map_in (λ left. beside left joining.right_nulls) (filter (λ left. not (has_right joining b left)) a) h.left passing)

  right_alone_of : (row : Row) → In (right_alone joining a b) row → IsRightAlone joining a b row
  right_alone_of row h =
      let image = in_map (λ right. beside joining.left_nulls right) (filter (λ right. not (has_left joining a right)) b) row h in
      let passing = (in_filter (λ right. not (has_left joining a right)) b image.0).0 image.1 in
      record { right = image.0; in_right = passing.1; no_match = no_left image.0 (not-true (has_left joining a image.0) passing.0); is = image.2 }

  right_alone_in : (row : Row) → IsRightAlone joining a b row → In (right_alone joining a b) row
  right_alone_in row h =
      let fails = none_from (λ left. joining.matching left h.right) a h.no_match in
      let passing = (in_filter (λ right. not (has_left joining a right)) b h.right).1 (not_from_false (has_left joining a h.right) fails, h.in_right) in
      subst (In (right_alone joining a b)) (sym h.is) (map_in (λ right. beside joining.left_nulls right) (filter (λ right. not (has_left joining a right)) b) h.right passing)

  match_of : (row : Row) → In (filter (has_right joining b) a) row → HasMatch joining a b row
  match_of row h =
      let passing = (in_filter (has_right joining b) a row).0 h in
      let some = some_of (λ right. joining.matching row right) b passing.0 in
      record { in_left = passing.1; right = some.0; in_right = some.1; match = some.2 }

  match_in : (row : Row) → HasMatch joining a b row → In (filter (has_right joining b) a) row
  match_in row h = (in_filter (has_right joining b) a row).1 (some_from (λ right. joining.matching row right) b h.right h.in_right h.match, h.in_left)

  alone_of : (row : Row) → In (filter (λ left. not (has_right joining b left)) a) row → In a row × HasNoRight joining b row
  alone_of row h = let passing = (in_filter (λ left. not (has_right joining b left)) a row).0 h in (passing.1, no_right row (not-true (has_right joining b row) passing.0))

  alone_in : (row : Row) → In a row × HasNoRight joining b row → In (filter (λ left. not (has_right joining b left)) a) row
  alone_in row h = (in_filter (λ left. not (has_right joining b left)) a row).1 (not_from_false (has_right joining b row) (none_from (λ right. joining.matching row right) b h.1), h.0)

  either_of : (xs ys : List Row) (row : Row) (P Q : Type 0) → (In xs row → P) → (In ys row → Q) → In (xs ++ ys) row → P ⊎ Q
  either_of xs ys row P Q f g h = elim (in_append xs ys row (count xs row) refl h) [ inl x ↦ inl (f x) | inr y ↦ inr (g y) ]

  either_in : (xs ys : List Row) (row : Row) (P Q : Type 0) → (P → In xs row) → (Q → In ys row) → P ⊎ Q → In (xs ++ ys) row
  either_in xs ys row P Q f g (inl p) = append_left xs ys row (f p)
  either_in xs ys row P Q f g (inr q) = append_right xs ys row (g q)

  regroup_of : (P Q R : Type 0) → (P ⊎ Q) ⊎ R → P ⊎ (Q ⊎ R)
  regroup_of P Q R (inl (inl p)) = inl p
  regroup_of P Q R (inl (inr q)) = inr (inl q)
  regroup_of P Q R (inr r) = inr (inr r)

  regroup_in : (P Q R : Type 0) → P ⊎ (Q ⊎ R) → (P ⊎ Q) ⊎ R
  regroup_in P Q R (inl p) = inl (inl p)
  regroup_in P Q R (inr (inl q)) = inl (inr q)
  regroup_in P Q R (inr (inr r)) = inr r

  joined_rows : (kind : JoinKind) (row : Row) → In (joined kind joining a b) row ↔ IsOfJoin kind joining a b row
  joined_rows JoinKind.Inner row = (pair_of row, pair_in row)
  joined_rows JoinKind.Cross row = (pair_of row, pair_in row)
  joined_rows JoinKind.Left row = (
    either_of (pairs joining a b) (left_alone joining a b) row (IsPair joining a b row) (IsLeftAlone joining a b row) (pair_of row) (left_alone_of row),
    either_in (pairs joining a b) (left_alone joining a b) row (IsPair joining a b row) (IsLeftAlone joining a b row) (pair_in row) (left_alone_in row),
  )
  joined_rows JoinKind.Right row = (
    either_of (pairs joining a b) (right_alone joining a b) row (IsPair joining a b row) (IsRightAlone joining a b row) (pair_of row) (right_alone_of row),
    either_in (pairs joining a b) (right_alone joining a b) row (IsPair joining a b row) (IsRightAlone joining a b row) (pair_in row) (right_alone_in row),
  )
  joined_rows JoinKind.Full row =
      let Pair = IsPair joining a b row in
      let Left = IsLeftAlone joining a b row in
      let Right = IsRightAlone joining a b row in (
        (λ h. regroup_of Pair Left Right (either_of (pairs joining a b ++ left_alone joining a b) (right_alone joining a b) row (Pair ⊎ Left) Right
            (either_of (pairs joining a b) (left_alone joining a b) row Pair Left (pair_of row) (left_alone_of row)) (right_alone_of row) h)),
        λ h. either_in (pairs joining a b ++ left_alone joining a b) (right_alone joining a b) row (Pair ⊎ Left) Right
            (either_in (pairs joining a b) (left_alone joining a b) row Pair Left (pair_in row) (left_alone_in row)) (right_alone_in row) (regroup_in Pair Left Right h),
      )
  joined_rows JoinKind.Semi row = (match_of row, match_in row)
  joined_rows JoinKind.Anti row = (alone_of row, alone_in row)

rows_of_join : (kind : JoinKind) (joining : Joining) (a b rows : List Row) → IsJoin kind joining a b rows → (row : Row) → In rows row ↔ IsOfJoin kind joining a b row
rows_of_join kind joining a b rows h row =
    let is = joined_rows joining a b kind row in
    ((λ r. is.0 (subst (λ n. 0 < n) (h row) r)), λ r. subst (λ n. 0 < n) (sym (h row)) (is.1 r))

-- ---- how often a pair stands in a join

same_row : (x y : Row) → x.0 ≡ y.0 → x ≡ y
same_row x y e = ap (λ (values : List Value). let row : Row = record { 0 = values } in row) e

pub same_left : (x y l r : Row) → length x.0 ≡ length l.0 → beside l r ≡ beside x y → l ≡ x
same_left x y l r w e =
    same_row l x (sym (take_at l.0 r.0 (length l.0) refl) ∙ ap (take (length l.0)) (ap (λ (row : Row). row.0) e) ∙ take_at x.0 y.0 (length l.0) w)

pub same_right : (l r y : Row) → beside l r ≡ beside l y → r ≡ y
same_right l r y e = same_row r y (append_cancel_left l.0 r.0 y.0 (ap (λ (row : Row). row.0) e))

-- two tests of rows that mean the same
pub row_eq-same : (x y u v : Row) → (x ≡ y → u ≡ v) → (u ≡ v → x ≡ y) → row_eq x y ≡ row_eq u v
row_eq-same x y u v f g = both_ways (row_eq x y) (row_eq u v) (λ e. (row_exact u v).1 (f ((row_exact x y).0 e))) (λ e. (row_exact x y).1 (g ((row_exact u v).0 e)))

pub count-beside : (l r : Row) (rows : List Row) → count (map (beside l) rows) (beside l r) ≡ count rows r
count-beside l r [] = refl
count-beside l r (y ∷ rows) =
    count_of_rest row_eq row_exact (beside l y) (map (beside l) rows) (beside l r) (row_eq r y) (row_eq-same (beside l r) (beside l y) r y (same_right l r y) (ap (beside l)))
    ∙ ap (λ n. cond (row_eq r y) 1 0 + n) (count-beside l r rows)
    ∙ sym (copies-cons row_eq row_exact y rows r)

pub count-other : (x l r : Row) (rows : List Row) → length x.0 ≡ length l.0 → row_eq l x ≡ false → count (map (beside x) rows) (beside l r) ≡ 0
count-other x l r [] w e = refl
count-other x l r (y ∷ rows) w e =
    count_of_rest row_eq row_exact (beside x y) (map (beside x) rows) (beside l r) false (false_from_ne_true (row_eq (beside l r) (beside x y)) (λ t.
    false≢true (sym e ∙ (row_exact l x).1 (same_left x y l r w ((row_exact (beside l r) (beside x y)).0 t)))))
    ∙ ap (λ n. 0 + n) (count-other x l r rows w e)

one_left : (joining : Joining) (b : List Row) (x l r : Row) (c : Bool) → length x.0 ≡ length l.0 → joining.matching l r ≡ true → row_eq l x ≡ c
    → count (map (beside x) (filter (joining.matching x) b)) (beside l r) ≡ cond c (count b r) 0
one_left joining b x l r true w m e =
    ap (λ (z : Row). count (map (beside z) (filter (joining.matching z) b)) (beside l r)) (sym ((row_exact l x).0 e))
    ∙ count-beside l r (filter (joining.matching l) b)
    ∙ count-filter (joining.matching l) b r
    ∙ ap (λ (t : Bool). cond t (count b r) 0) m
one_left joining b x l r false w m e = count-other x l r (filter (joining.matching x) b) w e

count_more : (c : Bool) (m n : ℕ) → cond c n 0 + m * n ≡ (cond c 1 0 + m) * n
count_more true m n = omega arith
count_more false m n = omega arith

count-pairs : (joining : Joining) (a b : List Row) (l r : Row) → AllByRecursion (λ row. length row.0 ≡ length l.0) a → joining.matching l r ≡ true → count (pairs joining a b) (beside l r) ≡ count a l * count b r
count-pairs joining [] b l r all m = omega arith
count-pairs joining (x ∷ a) b l r all m =
    count-append (map (beside x) (filter (joining.matching x) b)) (pairs joining a b) (beside l r)
    ∙ ap (λ n. n + count (pairs joining a b) (beside l r)) (one_left joining b x l r (row_eq l x) all.0 m refl)
    ∙ ap (λ n. cond (row_eq l x) (count b r) 0 + n) (count-pairs joining a b l r all.1 m)
    ∙ count_more (row_eq l x) (count a l) (count b r)
    ∙ ap (λ n. n * count b r) (sym (copies-cons row_eq row_exact x a l))

pub joins_hold_their_rows : JoinsHoldTheirRows
joins_hold_their_rows = record {
  rows_of = rows_of_join;
  pairs_counted = λ joining a b rows left right widths m h.
      h (beside left right) ∙ count-pairs joining a b left right (recursion_from_All (λ row. length row.0 ≡ length left.0) a widths) m;
}
