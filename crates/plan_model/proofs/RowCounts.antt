-- How often rows stand in lists that are made of others.
use Rattle.std.proofs.Common.{◌≡◌, ◌↔◌, ℕ, ◌+◌, ◌<◌, Bool, true, false, cond, List, [], ◌∷◌, ◌++◌, map, length, replicate, take, drop, subst, refl, sym, ap, ◌∙◌, arith}
use Rattle.std.specs.List.{AllByRecursion, filter, flat_map, list_any, sum_by}
use Rattle.std.specs.List.Sorted.{IsPermutation}
use Rattle.std.specs.Ordering.{is_eq}
use Rattle.std.proofs.lemmas.List.{length-replicate, nil_from_length, map-append, take-append-drop, take-map, drop-map, take_at, drop_at}
use Rattle.std.proofs.lemmas.List.Sorted.{IsPermutation-map, length_permutation, list_any-IsPermutation, sum_by-IsPermutation}
use Rattle.std.proofs.lemmas.List.Sums.{sum_by-cons}
use Rattle.cn_types.specs.declared.row.Row.{Row}
use Rattle.cn_types.specs.declared.value.Value.{Value}
use Rattle.cn_types.specs.Order.{count, row_eq, value_eq, value_cmp}
use Rattle.cn_types.proofs.OrderFacts.{rows_exact, values_exact}
use Rattle.plan_model.specs.Counts.{SameCounts}
use Rattle.plan_model.specs.RelationLaws.{PermutationsHaveTheSameCounts}
use Rattle.plan_model.proofs.ComparisonFacts.{is_eq-Equal}
use Rattle.plan_model.proofs.Multisets.{permuted, same_from_permutation, count_by-append, count_by-flat_map, copies-cons, copies-middle, copies-filter, copies-replicate, first_found, rest_found, All-from_copies, copies-from_All}

pub row_exact : (a b : Row) → (row_eq a b ≡ true) ↔ (a ≡ b)
row_exact a b = rows_exact a b

pub value_exact : (a b : Value) → (value_eq a b ≡ true) ↔ (a ≡ b)
value_exact a b = ((λ e. (values_exact a b).0 (is_eq-Equal (value_cmp a b) e)), λ e. ap is_eq ((values_exact a b).1 e))

pub rows_permuted : (xs ys : List Row) → SameCounts xs ys → IsPermutation xs ys
rows_permuted = permuted row_eq row_exact

pub SameCounts-permutation : (xs ys : List Row) → IsPermutation xs ys → SameCounts xs ys
SameCounts-permutation = same_from_permutation row_eq row_exact

pub permutations_have_the_same_counts : PermutationsHaveTheSameCounts
permutations_have_the_same_counts xs ys = (SameCounts-permutation xs ys, rows_permuted xs ys)

pub SameCounts-sym : (xs ys : List Row) → SameCounts xs ys → SameCounts ys xs
SameCounts-sym xs ys h row = sym (h row)

pub SameCounts-map : (f : Row → Row) (xs ys : List Row) → SameCounts xs ys → SameCounts (map f xs) (map f ys)
SameCounts-map f xs ys h = SameCounts-permutation (map f xs) (map f ys) (IsPermutation-map f xs ys (rows_permuted xs ys h))

pub count-filter : (p : Row → Bool) (xs : List Row) (row : Row) → count (filter p xs) row ≡ cond (p row) (count xs row) 0
count-filter = copies-filter row_eq row_exact

pub SameCounts-filter : (p : Row → Bool) (xs ys : List Row) → SameCounts xs ys → SameCounts (filter p xs) (filter p ys)
SameCounts-filter p xs ys h row = count-filter p xs row ∙ ap (λ n. cond (p row) n 0) (h row) ∙ sym (count-filter p ys row)

pub count-append : (xs ys : List Row) (row : Row) → count (xs ++ ys) row ≡ count xs row + count ys row
count-append xs ys row = count_by-append (row_eq row) xs ys

pub SameCounts-append : (xs ys us vs : List Row) → SameCounts xs ys → SameCounts us vs → SameCounts (xs ++ us) (ys ++ vs)
SameCounts-append xs ys us vs g h row = omega (arith, count-append xs us row, count-append ys vs row, g row, h row)

pub sum_by-alike : {X : Type 0} (f g : X → ℕ) → ((x : X) → f x ≡ g x) → (xs : List X) → sum_by f xs ≡ sum_by g xs
sum_by-alike f g e [] = refl
sum_by-alike f g e (x ∷ xs) = sum_by-cons f x xs ∙ ap (λ n. n + sum_by f xs) (e x) ∙ ap (λ n. g x + n) (sum_by-alike f g e xs) ∙ sym (sum_by-cons g x xs)

pub SameCounts-flat_map : (f g : Row → List Row) (xs ys : List Row) → ((row : Row) → SameCounts (f row) (g row)) → SameCounts xs ys → SameCounts (flat_map f xs) (flat_map g ys)
SameCounts-flat_map f g xs ys e h row =
    count_by-flat_map (row_eq row) f xs
    ∙ sym (sum_by-IsPermutation (λ x. count (f x) row) xs ys (rows_permuted xs ys h))
    ∙ sum_by-alike (λ x. count (f x) row) (λ x. count (g x) row) (λ x. e x row) ys
    ∙ sym (count_by-flat_map (row_eq row) g ys)

pub length-SameCounts : (xs ys : List Row) → SameCounts xs ys → length xs ≡ length ys
length-SameCounts xs ys h = sym (length_permutation xs ys (rows_permuted xs ys h))

pub list_any-SameCounts : (p : Row → Bool) (xs ys : List Row) → SameCounts xs ys → list_any p xs ≡ list_any p ys
list_any-SameCounts p xs ys h = list_any-IsPermutation p xs ys (rows_permuted xs ys h)

-- what holds of all rows of a list
pub All-from_counts : (P : Row → Type 0) (xs : List Row) → ((row : Row) → 0 < count xs row → P row) → AllByRecursion P xs
All-from_counts = All-from_copies row_eq row_exact

pub counts-from_All : (P : Row → Type 0) (xs : List Row) → AllByRecursion P xs → (row : Row) → 0 < count xs row → P row
counts-from_All = copies-from_All row_eq row_exact

-- ---- copies of one row, and rows in the order of their images

same_rows : (x : Row) (rows : List Row) → AllByRecursion (λ row. row ≡ x) rows → rows ≡ replicate (length rows) x
same_rows x [] all = refl
same_rows x (row ∷ rows) all = ap (λ r. r ∷ rows) all.0 ∙ ap (λ rs. x ∷ rs) (same_rows x rows all.1)

the_row : (x row : Row) (n : ℕ) (b : Bool) → row_eq row x ≡ b → 0 < cond b n 0 → row ≡ x
the_row x row n true e h = (row_exact row x).0 e
the_row x row n false e h = absurd (omega arith)

-- a list with the counts of so many copies of a row is these copies
pub copies_alone : (n : ℕ) (x : Row) (rows : List Row) → SameCounts rows (replicate n x) → rows ≡ replicate n x
copies_alone n x rows h =
    let all = All-from_counts (λ row. row ≡ x) rows (λ row more. the_row x row n (row_eq row x) refl (subst (λ m. 0 < m) (h row ∙ copies-replicate row_eq row_exact n x row) more)) in
    same_rows x rows all ∙ ap (λ m. replicate m x) (length-SameCounts rows (replicate n x) h ∙ length-replicate n x)

-- rows in an order in which their images are these
abbrev Ordered : (Row → Row) → List Row → List Row → Type 0
Ordered f rows images = (list : List Row) × SameCounts list rows × (map f list ≡ images)

placed : (f : Row → Row) (x : Row) (rows p q : List Row) → Ordered f rows (p ++ q) → Ordered f (x ∷ rows) (p ++ (f x ∷ q))
placed f x rows p q h =
    let front = take (length p) h.0 in
    let back = drop (length p) h.0 in
    let front_is : map f front ≡ p = sym (take-map f (length p) h.0) ∙ ap (take (length p)) h.2 ∙ take_at p q (length p) refl in
    let back_is : map f back ≡ q = sym (drop-map f (length p) h.0) ∙ ap (drop (length p)) h.2 ∙ drop_at p q (length p) refl in
    let counted : SameCounts (front ++ (x ∷ back)) (x ∷ rows) = λ row.
    copies-middle row_eq row_exact front x back row
    ∙ ap (λ (list : List Row). cond (row_eq row x) 1 0 + count list row) (take-append-drop (length p) h.0)
    ∙ ap (λ n. cond (row_eq row x) 1 0 + n) (h.1 row)
    ∙ sym (copies-cons row_eq row_exact x rows row) in
    (front ++ (x ∷ back), counted, map-append f front (x ∷ back) ∙ ap (λ us. us ++ (f x ∷ map f back)) front_is ∙ ap (λ vs. p ++ (f x ∷ vs)) back_is)

no_rows : (rows : List Row) → SameCounts rows [] → rows ≡ []
no_rows rows h = nil_from_length rows (length-SameCounts rows [] h)

-- images in any order are those of rows in some order
pub map-order : (f : Row → Row) (rows images : List Row) → SameCounts images (map f rows) → Ordered f rows images
map-order f [] images h = ([], (λ row. refl), sym (no_rows images h))
map-order f (x ∷ rows) images h =
    let same : SameCounts (f x ∷ map f rows) images = λ row. sym (h row) in
    let found = first_found row_eq row_exact (f x) (map f rows) images same in
    let rest = rest_found row_eq row_exact (f x) (map f rows) images same found in
    subst (Ordered f (x ∷ rows)) (sym found.2) (placed f x rows found.0 found.1 (map-order f rows (found.0 ++ found.1) (λ row. sym (rest row))))
