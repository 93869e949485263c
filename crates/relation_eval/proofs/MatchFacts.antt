-- The rows that match a left row, among the candidates and among all rows.
use Rattle.std.proofs.Common.{◌≡◌, ◌<◌, ℕ, suc, ◌+◌, Bool, true, false, cond, List, [], ◌∷◌, ◌++◌, map, length, take, get_or, set, refl, sym, ap, ◌∙◌, subst, arith, ltb, length-append, append-nil}
use Rattle.std.specs.Prelude.{filter, not, ◌||◌, ◌&&◌, All, Option, None, Some}
use Rattle.std.specs.List.{AllByRecursion, flat_map, list_any}
use Rattle.std.proofs.lemmas.Bool.{false≢true}
use Rattle.std.proofs.lemmas.Bool.Decides.{nat_tests}
use Rattle.std.proofs.lemmas.List.{length-map, take_more, map-append}
use Rattle.std.proofs.lemmas.List.Elements.{All-from_recursion, recursion_from_All}
use Rattle.std.proofs.lemmas.List.Folds.{list_any-append, length-flat_map-take}
use Rattle.std.proofs.lemmas.Grind.{flat_map-append}
use Rattle.cn_types.specs.declared.row.Row.{Row}
use Rattle.cn_types.specs.Order.{row_eq}
use Rattle.plan_model.specs.declared.expression.TypedExpr.{TypedExpr}
use Rattle.plan_model.specs.Groups.{columns_of}
use Rattle.plan_model.specs.Joins.{beside, matches}
use Rattle.relation_eval.specs.Joined.{is_passed_by, pairs_with}
use Rattle.relation_eval.specs.Matches.{row_at, rows_at, match_places, marked, has_null_in, is_candidate, MatchCandidates, AreKeys, matches_some, is_matched}
use Rattle.relation_eval.specs.Places.{places_from}

pub passed-beside : (condition : Option TypedExpr) (left right : Row) → is_passed_by condition (beside left right) ≡ matches condition left right
passed-beside None left right = refl
passed-beside (Some condition) left right = refl

-- ---- the places of the rows that pass a test

map-filter : {A B : Type 0} (f : A → B) (test : B → Bool) (xs : List A) → filter test (map f xs) ≡ map f (filter (λ x. test (f x)) xs)
map-filter f test [] = refl
map-filter {A} {B} f test (x ∷ xs) = ap (λ (ys : List B). cond (test (f x)) (f x ∷ ys) ys) (map-filter f test xs) ∙ either_way (test (f x))
  where
    either_way : (b : Bool) → cond b (f x ∷ map f (filter (λ y. test (f y)) xs)) (map f (filter (λ y. test (f y)) xs)) ≡ map f (cond b (x ∷ filter (λ y. test (f y)) xs) (filter (λ y. test (f y)) xs))
    either_way true = refl
    either_way false = refl

places-suc : (test : Row → Bool) (place : ℕ) (rows : List Row) → places_from test (suc place) rows ≡ map suc (places_from test place rows)
places-suc test place [] = refl
places-suc test place (row ∷ rows) =
    ap (λ (ps : List ℕ). cond (test row) (suc place ∷ ps) ps) (places-suc test (suc place) rows) ∙ either_way (test row)
  where
    either_way : (b : Bool) → cond b (suc place ∷ map suc (places_from test (suc place) rows)) (map suc (places_from test (suc place) rows)) ≡ map suc (cond b (place ∷ places_from test (suc place) rows) (places_from test (suc place) rows))
    either_way true = refl
    either_way false = refl

-- where the first row has the place 0
places-cons : (test : Row → Bool) (row : Row) (rows : List Row) (b : Bool) → test row ≡ b → places_from test 0 (row ∷ rows) ≡ cond b (0 ∷ map suc (places_from test 0 rows)) (map suc (places_from test 0 rows))
places-cons test row rows b e = ap (λ (ps : List ℕ). cond (test row) (0 ∷ ps) ps) (places-suc test 0 rows) ∙ ap (λ (c : Bool). cond c (0 ∷ map suc (places_from test 0 rows)) (map suc (places_from test 0 rows))) e

filter_on : {X : Type 0} (test : X → Bool) (x : X) (xs : List X) (b : Bool) → test x ≡ b → filter test (x ∷ xs) ≡ cond b (x ∷ filter test xs) (filter test xs)
filter_on test x xs b e = ap (λ (c : Bool). cond c (x ∷ filter test xs) (filter test xs)) e

map-map : {A B C : Type 0} (g : B → C) (f : A → B) (xs : List A) → map g (map f xs) ≡ map (λ x. g (f x)) xs
map-map g f [] = refl
map-map {A} {B} {C} g f (x ∷ xs) = ap (λ (ys : List C). g (f x) ∷ ys) (map-map g f xs)

rows_where_passed : (test : Row → Bool) (row : Row) (rows : List Row) (b : Bool) → test row ≡ b → rows_at rows (places_from test 0 rows) ≡ filter test rows
    → rows_at (row ∷ rows) (places_from test 0 (row ∷ rows)) ≡ filter test (row ∷ rows)
rows_where_passed test row rows true e later =
    ap (λ (ps : List ℕ). rows_at (row ∷ rows) ps) (places-cons test row rows true e)
    ∙ ap (λ (xs : List Row). row ∷ xs) (map-map (row_at (row ∷ rows)) suc (places_from test 0 rows) ∙ later) ∙ sym (filter_on test row rows true e)
rows_where_passed test row rows false e later =
    ap (λ (ps : List ℕ). rows_at (row ∷ rows) ps) (places-cons test row rows false e)
    ∙ map-map (row_at (row ∷ rows)) suc (places_from test 0 rows) ∙ later ∙ sym (filter_on test row rows false e)

-- the rows at the places of those that pass are those that pass
pub rows_at-places : (test : Row → Bool) (rows : List Row) → rows_at rows (places_from test 0 rows) ≡ filter test rows
rows_at-places test [] = refl
rows_at-places test (row ∷ rows) = rows_where_passed test row rows (test row) refl (rows_at-places test rows)

within_more : (n : ℕ) (places : List ℕ) → AllByRecursion (λ place. place < n) places → AllByRecursion (λ place. place < suc n) (map suc places)
within_more n [] all = tt
within_more n (place ∷ places) all = let here : place < n = all.0 in (omega arith, within_more n places all.1)

within_where : (test : Row → Bool) (row : Row) (rows : List Row) (b : Bool) → test row ≡ b → AllByRecursion (λ place. place < length rows) (places_from test 0 rows)
    → AllByRecursion (λ place. place < length (row ∷ rows)) (places_from test 0 (row ∷ rows))
within_where test row rows true e later =
    subst (AllByRecursion (λ place. place < suc (length rows))) (sym (places-cons test row rows true e)) (omega arith, within_more (length rows) (places_from test 0 rows) later)
within_where test row rows false e later =
    subst (AllByRecursion (λ place. place < suc (length rows))) (sym (places-cons test row rows false e)) (within_more (length rows) (places_from test 0 rows) later)

places_within_rows : (test : Row → Bool) (rows : List Row) → AllByRecursion (λ place. place < length rows) (places_from test 0 rows)
places_within_rows test [] = tt
places_within_rows test (row ∷ rows) = within_where test row rows (test row) refl (places_within_rows test rows)

pub places_within : (test : Row → Bool) (rows : List Row) → All (λ place. place < length rows) (places_from test 0 rows)
places_within test rows = All-from_recursion (λ place. place < length rows) (places_from test 0 rows) (places_within_rows test rows)

pub places-none : (test : Row → Bool) → ((row : Row) → test row ≡ false) → (place : ℕ) (rows : List Row) → places_from test place rows ≡ []
places-none test none place [] = refl
places-none test none place (row ∷ rows) =
    ap (λ (b : Bool). cond b (place ∷ places_from test (suc place) rows) (places_from test (suc place) rows)) (none row) ∙ places-none test none (suc place) rows

pub no_candidate : (lefts rights : List ℕ) (left : Row) (rows : List Row) → has_null_in lefts left ≡ true → places_from (is_candidate lefts rights left) 0 rows ≡ []
no_candidate lefts rights left rows null =
    places-none (is_candidate lefts rights left) (λ row. ap (λ (b : Bool). not b && row_eq (columns_of lefts left) (columns_of rights row)) null) 0 rows

-- ---- of tests of which one implies the other

module _ (weak strong : Row → Bool) where
  abbrev Implied : List Row → Type 0
  Implied rows = AllByRecursion (λ row. strong row ≡ true → weak row ≡ true) rows

  filter_where : (row : Row) (rows : List Row) (w s : Bool) → weak row ≡ w → strong row ≡ s → (strong row ≡ true → weak row ≡ true) → filter strong (filter weak rows) ≡ filter strong rows
      → filter strong (filter weak (row ∷ rows)) ≡ filter strong (row ∷ rows)
  filter_where row rows true s e f h later =
      ap (λ (xs : List Row). filter strong xs) (filter_on weak row rows true e) ∙ ap (λ (xs : List Row). cond (strong row) (row ∷ xs) xs) later
  filter_where row rows false true e f h later = absurd (false≢true (sym e ∙ h f))
  filter_where row rows false false e f h later = ap (λ (xs : List Row). filter strong xs) (filter_on weak row rows false e) ∙ later ∙ sym (filter_on strong row rows false f)

  pub filter-filter : (rows : List Row) → Implied rows → filter strong (filter weak rows) ≡ filter strong rows
  filter-filter [] all = refl
  filter-filter (row ∷ rows) all = filter_where row rows (weak row) (strong row) refl refl all.0 (filter-filter rows all.1)

  any_where : (row : Row) (rows : List Row) (w s : Bool) → weak row ≡ w → strong row ≡ s → (strong row ≡ true → weak row ≡ true) → list_any strong (filter weak rows) ≡ list_any strong rows
      → list_any strong (filter weak (row ∷ rows)) ≡ list_any strong (row ∷ rows)
  any_where row rows true s e f h later = ap (λ (xs : List Row). list_any strong xs) (filter_on weak row rows true e) ∙ ap (λ (b : Bool). strong row || b) later
  any_where row rows false true e f h later = absurd (false≢true (sym e ∙ h f))
  any_where row rows false false e f h later = ap (λ (xs : List Row). list_any strong xs) (filter_on weak row rows false e) ∙ later ∙ ap (λ (b : Bool). b || list_any strong rows) (sym f)

  pub any-filter : (rows : List Row) → Implied rows → list_any strong (filter weak rows) ≡ list_any strong rows
  any-filter [] all = refl
  any-filter (row ∷ rows) all = any_where row rows (weak row) (strong row) refl refl all.0 (any-filter rows all.1)

  abbrev passing : List Row → List ℕ → List ℕ
  passing rows places = filter (λ place. strong (row_at rows place)) places

  passing_later : (row : Row) (rows : List Row) → passing rows (places_from weak 0 rows) ≡ places_from strong 0 rows
      → passing (row ∷ rows) (map suc (places_from weak 0 rows)) ≡ map suc (places_from strong 0 rows)
  passing_later row rows later = map-filter suc (λ place. strong (row_at (row ∷ rows) place)) (places_from weak 0 rows) ∙ ap (λ (ps : List ℕ). map suc ps) later

  passing_where : (row : Row) (rows : List Row) (w s : Bool) → weak row ≡ w → strong row ≡ s → (strong row ≡ true → weak row ≡ true) → passing rows (places_from weak 0 rows) ≡ places_from strong 0 rows
      → passing (row ∷ rows) (places_from weak 0 (row ∷ rows)) ≡ places_from strong 0 (row ∷ rows)
  passing_where row rows true s e f h later =
      ap (λ (ps : List ℕ). passing (row ∷ rows) ps) (places-cons weak row rows true e)
      ∙ ap (λ (ps : List ℕ). cond (strong row) (0 ∷ ps) ps) (passing_later row rows later) ∙ sym (places-cons strong row rows (strong row) refl)
  passing_where row rows false true e f h later = absurd (false≢true (sym e ∙ h f))
  passing_where row rows false false e f h later =
      ap (λ (ps : List ℕ). passing (row ∷ rows) ps) (places-cons weak row rows false e) ∙ passing_later row rows later ∙ sym (places-cons strong row rows false f)

  pub passing-places : (rows : List Row) → Implied rows → passing rows (places_from weak 0 rows) ≡ places_from strong 0 rows
  passing-places [] all = refl
  passing-places (row ∷ rows) all = passing_where row rows (weak row) (strong row) refl refl all.0 (passing-places rows all.1)

-- ---- flags

marked-suc : (flag : Bool) (flags : List Bool) (places : List ℕ) → marked (flag ∷ flags) (map suc places) ≡ flag ∷ marked flags places
marked-suc flag flags [] = refl
marked-suc flag flags (place ∷ places) = marked-suc flag (set flags place true) places

or-true : (b : Bool) → true ≡ (b || true)
or-true true = refl
or-true false = refl

or-false : (b : Bool) → b ≡ (b || false)
or-false true = refl
or-false false = refl

marked_where : (test was : Row → Bool) (row : Row) (rows : List Row) (b : Bool) → test row ≡ b → marked (map was rows) (places_from test 0 rows) ≡ map (λ r. was r || test r) rows
    → marked (map was (row ∷ rows)) (places_from test 0 (row ∷ rows)) ≡ map (λ r. was r || test r) (row ∷ rows)
marked_where test was row rows true e later =
    ap (λ (ps : List ℕ). marked (was row ∷ map was rows) ps) (places-cons test row rows true e)
    ∙ marked-suc true (map was rows) (places_from test 0 rows) ∙ ap (λ (fs : List Bool). true ∷ fs) later
    ∙ ap (λ (b : Bool). b ∷ map (λ r. was r || test r) rows) (or-true (was row) ∙ ap (λ (b : Bool). was row || b) (sym e))
marked_where test was row rows false e later =
    ap (λ (ps : List ℕ). marked (was row ∷ map was rows) ps) (places-cons test row rows false e)
    ∙ marked-suc (was row) (map was rows) (places_from test 0 rows) ∙ ap (λ (fs : List Bool). was row ∷ fs) later
    ∙ ap (λ (b : Bool). b ∷ map (λ r. was r || test r) rows) (or-false (was row) ∙ ap (λ (b : Bool). was row || b) (sym e))

-- the flags of the rows that pass are set
pub marked-places : (test was : Row → Bool) (rows : List Row) → marked (map was rows) (places_from test 0 rows) ≡ map (λ row. was row || test row) rows
marked-places test was [] = refl
marked-places test was (row ∷ rows) = marked_where test was row rows (test row) refl (marked-places test was rows)

-- ---- what the candidates of a left row serve for

module _ (condition : Option TypedExpr) (lefts rights : List ℕ) (rows : List Row) (left : Row) (only : MatchCandidates condition lefts rights rows left) where
  abbrev pub here : List ℕ
  here = places_from (is_candidate lefts rights left) 0 rows

  implied : AllByRecursion (λ right. matches condition left right ≡ true → is_candidate lefts rights left right ≡ true) rows
  implied = recursion_from_All (λ right. matches condition left right ≡ true → is_candidate lefts rights left right ≡ true) rows only

  pub candidate_pairs : pairs_with condition left (rows_at rows here) ≡ pairs_with condition left rows
  candidate_pairs =
      ap (λ (rs : List Row). pairs_with condition left rs) (rows_at-places (is_candidate lefts rights left) rows)
      ∙ ap (λ (rs : List Row). map (beside left) rs) (filter-filter (is_candidate lefts rights left) (matches condition left) rows implied)

  pub candidate_some : matches_some condition (rows_at rows here) left ≡ matches_some condition rows left
  candidate_some =
      ap (λ (rs : List Row). matches_some condition rs left) (rows_at-places (is_candidate lefts rights left) rows)
      ∙ any-filter (is_candidate lefts rights left) (matches condition left) rows implied

  pub candidate_marks : (was : Row → Bool) → marked (map was rows) (match_places condition left rows here) ≡ map (λ row. was row || matches condition left row) rows
  candidate_marks was =
      ap (λ (ps : List ℕ). marked (map was rows) ps) (passing-places (is_candidate lefts rights left) (matches condition left) rows implied)
      ∙ marked-places (matches condition left) was rows

-- ---- one left row more

flat_map-cons : {X A : Type 0} (f : X → List A) (x : X) → flat_map f (x ∷ []) ≡ f x
flat_map-cons f x = append-nil (f x)

map-alike : {X Y : Type 0} (f g : X → Y) → ((x : X) → f x ≡ g x) → (xs : List X) → map f xs ≡ map g xs
map-alike f g same [] = refl
map-alike {X} {Y} f g same (x ∷ xs) = ap (λ y. y ∷ map f xs) (same x) ∙ ap (λ (ys : List Y). g x ∷ ys) (map-alike f g same xs)

matched_more : (condition : Option TypedExpr) (a : List Row) (left right : Row) → (is_matched condition a right || matches condition left right) ≡ is_matched condition (a ++ left ∷ []) right
matched_more condition a left right =
    ap (λ (b : Bool). is_matched condition a right || b) (or-false (matches condition left right)) ∙ sym (list_any-append (λ l. matches condition l right) a (left ∷ []))

-- there are some exactly where the list has a length
some_where : (test : Row → Bool) (row : Row) (rows : List Row) (b : Bool) → test row ≡ b → ltb 0 (length (filter test rows)) ≡ list_any test rows → ltb 0 (length (filter test (row ∷ rows))) ≡ (b || list_any test rows)
some_where test row rows true e later = ap (λ (xs : List Row). ltb 0 (length xs)) (filter_on test row rows true e) ∙ above (length (filter test rows))
  where
    above : (n : ℕ) → ltb 0 (suc n) ≡ true
    above n = grind (arith, nat_tests)
some_where test row rows false e later = ap (λ (xs : List Row). ltb 0 (length xs)) (filter_on test row rows false e) ∙ later

some-filter : (test : Row → Bool) (rows : List Row) → ltb 0 (length (filter test rows)) ≡ list_any test rows
some-filter test [] = refl
some-filter test (row ∷ rows) = some_where test row rows (test row) refl (some-filter test rows)

grown_by : (m n : ℕ) → ltb m (m + n) ≡ ltb 0 n
grown_by m n = grind (arith, nat_tests)

grown_pairs : (condition : Option TypedExpr) (left : Row) (b rows : List Row) → ltb (length rows) (length (rows ++ pairs_with condition left b)) ≡ matches_some condition b left
grown_pairs condition left b rows =
    ap (λ n. ltb (length rows) n) (length-append rows (pairs_with condition left b) ∙ ap (λ n. length rows + n) (length-map (filter (matches condition left) b) (beside left)))
    ∙ grown_by (length rows) (length (filter (matches condition left) b)) ∙ some-filter (matches condition left) b

-- what was found by the columns of the buckets
pub known_places : (found lefts rights own_lefts own : List ℕ) (held rows : List Row) (left : Row) → found ≡ places_from (is_candidate own_lefts own left) 0 held → own_lefts ≡ lefts → own ≡ rights → held ≡ rows
    → found ≡ places_from (is_candidate lefts rights left) 0 rows
known_places found lefts rights own_lefts own held rows left f p q r =
    f ∙ ap (λ (ls : List ℕ). places_from (is_candidate ls own left) 0 held) p ∙ ap (λ (rs : List ℕ). places_from (is_candidate lefts rs left) 0 held) q
    ∙ ap (λ (xs : List Row). places_from (is_candidate lefts rights left) 0 xs) r

module _ (condition : Option TypedExpr) (lefts rights : List ℕ) (a b : List Row) (keys : AreKeys condition lefts rights a b) (i : ℕ) (row : Row) (there : i < length a) (is : row ≡ get_or a i row)
    (found : List ℕ) (places : found ≡ places_from (is_candidate lefts rights row) 0 b) where
  only_here : MatchCandidates condition lefts rights b row
  only_here = subst (MatchCandidates condition lefts rights b) (sym is) (keys i row there)

  abbrev pairs_of : Row → List Row
  pairs_of left = pairs_with condition left b

  one_more : take (i + 1) a ≡ take i a ++ row ∷ []
  one_more = take_more a i row there ∙ ap (λ r. take i a ++ r ∷ []) (sym is)

  pub found_within : All (λ place. place < length b) found
  found_within = subst (All (λ place. place < length b)) (sym places) (places_within (is_candidate lefts rights row) b)

  pub found_some : matches_some condition (rows_at b found) row ≡ matches_some condition b row
  found_some = ap (λ (ps : List ℕ). matches_some condition (rows_at b ps) row) places ∙ candidate_some condition lefts rights b row only_here

  pub found_pairs : pairs_with condition row (rows_at b found) ≡ pairs_with condition row b
  found_pairs = ap (λ (ps : List ℕ). pairs_with condition row (rows_at b ps)) places ∙ candidate_pairs condition lefts rights b row only_here

  pub some_more : (flags : List Bool) (flag : Bool) → flags ≡ map (matches_some condition b) (take i a) → flag ≡ matches_some condition b row → flags ++ flag ∷ [] ≡ map (matches_some condition b) (take (i + 1) a)
  some_more flags flag so_far here =
      ap (λ (fs : List Bool). fs ++ flag ∷ []) so_far ∙ ap (λ f. map (matches_some condition b) (take i a) ++ f ∷ []) here
      ∙ sym (map-append (matches_some condition b) (take i a) (row ∷ [])) ∙ ap (λ (rs : List Row). map (matches_some condition b) rs) (sym one_more)

  pub pairs_more : (rows more : List Row) → rows ≡ flat_map pairs_of (take i a) → more ≡ rows ++ pairs_with condition row (rows_at b found) → more ≡ flat_map pairs_of (take (i + 1) a)
  pairs_more rows more so_far step =
      step ∙ ap (λ (rs : List Row). rs ++ pairs_with condition row (rows_at b found)) so_far ∙ ap (λ (rs : List Row). flat_map pairs_of (take i a) ++ rs) (found_pairs ∙ sym (flat_map-cons pairs_of row))
      ∙ sym (flat_map-append pairs_of (take i a) (row ∷ [])) ∙ ap (λ (rs : List Row). flat_map pairs_of rs) (sym one_more)

  pub pairs_many : (limit : ℕ) (rows : List Row) → rows ≡ flat_map pairs_of (take i a) → limit < length (rows ++ pairs_with condition row (rows_at b found)) → limit < length (flat_map pairs_of a)
  pairs_many limit rows so_far many =
      let size : length (pairs_with condition row (rows_at b found)) ≡ length (pairs_of (get_or a i row)) = ap length found_pairs ∙ ap (λ r. length (pairs_of r)) is in
      let before : length rows ≡ length (flat_map pairs_of (take i a)) = ap length so_far in
      omega (arith, length-append rows (pairs_with condition row (rows_at b found)), length-flat_map-take pairs_of a i row there)

  pub marks_more : (flags more : List Bool) → flags ≡ map (is_matched condition (take i a)) b → more ≡ marked flags (match_places condition row b found) → more ≡ map (is_matched condition (take (i + 1) a)) b
  marks_more flags more so_far step =
      step ∙ ap (λ (fs : List Bool). marked fs (match_places condition row b found)) so_far
      ∙ ap (λ (ps : List ℕ). marked (map (is_matched condition (take i a)) b) (match_places condition row b ps)) places
      ∙ candidate_marks condition lefts rights b row only_here (is_matched condition (take i a))
      ∙ map-alike (λ r. is_matched condition (take i a) r || matches condition row r) (is_matched condition (take i a ++ row ∷ [])) (matched_more condition (take i a) row) b
      ∙ ap (λ (rs : List Row). map (is_matched condition rs) b) (sym one_more)

  pub grown_more : (rows more : List Row) → more ≡ rows ++ pairs_with condition row (rows_at b found) → ltb (length rows) (length more) ≡ matches_some condition b row
  grown_more rows more step =
      ap (λ (rs : List Row). ltb (length rows) (length rs)) (step ∙ ap (λ (rs : List Row). rows ++ rs) found_pairs) ∙ grown_pairs condition row b rows
