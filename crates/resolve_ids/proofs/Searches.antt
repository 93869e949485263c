-- What a search finds among items that were made of others is found among those by the test of what is made.
use Rattle.std.proofs.Common.{◌≡◌, ℕ, suc, ◌+◌, ◌<◌, ◌≤◌, Bool, true, false, cond, not, List, [], ◌∷◌, map, length, refl, sym, ap, ◌∙◌, Option, Some, None, count_by, find, filter, position, arith, ◌||◌}
use Rattle.std.specs.Prelude.{Ok, Err, if◌then◌else◌, nat_lt, option_map}
use Rattle.std.specs.List.{list_any, position_or_len}
use Rattle.std.proofs.Math.Path.{fun_ext}
use Rattle.std.proofs.lemmas.List.{length-map}
use Rattle.std.proofs.lemmas.List.Sums.{sum_by-cons}
use Rattle.resolve_names.specs.Checks.{Checked, ◌>>=◌, or_refused, refused}
use Rattle.resolve_names.specs.Refusals.{Refusal}
use Rattle.resolve_names.specs.Scopes.{only_item, only_place}
use Rattle.resolve_expressions.specs.Grouping.{all_checked}
use Rattle.resolve_relations.specs.Columns.{numbered, numbered_from}

-- ---- chains of checks

-- the answer, of whose value this is made
abbrev pub made : {X Y : Type 0} → (X → Y) → Checked X → Checked Y
made f answer = answer >>= λ x. Ok (f x)

pub bind-same : {X Y : Type 0} (answer : Checked X) (f g : X → Checked Y) → ((x : X) → f x ≡ g x) → (answer >>= f) ≡ (answer >>= g)
bind-same (Ok x) f g same = same x
bind-same (Err stop) f g same = refl

pub bind-made : {X Y Z : Type 0} (f : X → Y) (answer : Checked X) (next : Y → Checked Z) →
    (made f answer >>= next) ≡ (answer >>= λ x. next (f x))
bind-made f (Ok x) next = refl
bind-made f (Err stop) next = refl

pub made-bind : {X Y Z : Type 0} (f : Y → Z) (answer : Checked X) (next : X → Checked Y) →
    made f (answer >>= next) ≡ (answer >>= λ x. made f (next x))
made-bind f (Ok x) next = refl
made-bind f (Err stop) next = refl

pub found-made : {X Y : Type 0} (f : X → Y) (why : Refusal) (o : Option X) → or_refused why (option_map f o) ≡ made f (or_refused why o)
found-made f why (Some x) = refl
found-made f why None = refl

pub all-same : {X Y : Type 0} (f g : X → Checked Y) → ((x : X) → f x ≡ g x) → (xs : List X) →
    all_checked (map f xs) ≡ all_checked (map g xs)
all-same f g same xs = ap (λ h. all_checked (map h xs)) (fun_ext same)

all_by : {X Y : Type 0} (f : X → Y) (first : Checked X) (rest : Checked (List X)) (rest_too : Checked (List Y)) →
    rest_too ≡ made (map f) rest →
    (made f first >>= λ y. rest_too >>= λ ys. Ok (y ∷ ys)) ≡ made (map f) (first >>= λ x. rest >>= λ xs. Ok (x ∷ xs))
all_by f (Err stop) rest rest_too same = refl
all_by f (Ok x) rest rest_too same =
    ap (λ (o : Checked (List _)). o >>= λ ys. Ok (f x ∷ ys)) same
    ∙ bind-made (map f) rest (λ ys. Ok (f x ∷ ys))
    ∙ sym (made-bind (map f) rest (λ xs. Ok (x ∷ xs)))

pub all-made : {X Y Z : Type 0} (f : Y → Z) (check : X → Checked Y) (check_too : X → Checked Z) →
    ((x : X) → check_too x ≡ made f (check x)) →
    (xs : List X) → all_checked (map check_too xs) ≡ made (map f) (all_checked (map check xs))
all-made f check check_too agree [] = refl
all-made f check check_too agree (x ∷ xs) =
    ap (λ (o : Checked _). o >>= λ y. all_checked (map check_too xs) >>= λ ys. Ok (y ∷ ys)) (agree x)
    ∙ all_by f (check x) (all_checked (map check xs)) (all_checked (map check_too xs)) (all-made f check check_too agree xs)

-- ---- searches

module _ {X Y : Type 0} (f : X → Y) (test : Y → Bool) where
  abbrev pub of_made : X → Bool
  of_made x = test (f x)

  pub any-map : (xs : List X) → list_any test (map f xs) ≡ list_any of_made xs
  any-map [] = refl
  any-map (x ∷ xs) = ap (λ b. test (f x) || b) (any-map xs)

  pub count-map : (xs : List X) → count_by test (map f xs) ≡ count_by of_made xs
  count-map [] = refl
  count-map (x ∷ xs) =
      sum_by-cons (λ (y : Y). cond (test y) 1 0) (f x) (map f xs)
      ∙ ap (λ (n : ℕ). cond (test (f x)) 1 0 + n) (count-map xs)
      ∙ sym (sum_by-cons (λ (y : X). cond (of_made y) 1 0) x xs)

  found_by : (b : Bool) (x : X) (o : Option X) (p : Option Y) → p ≡ option_map f o →
      cond b (Some (f x)) p ≡ option_map f (cond b (Some x) o)
  found_by true x o p same = refl
  found_by false x o p same = same

  pub find-map : (xs : List X) → find test (map f xs) ≡ option_map f (find of_made xs)
  find-map [] = refl
  find-map (x ∷ xs) = found_by (test (f x)) x (find of_made xs) (find test (map f xs)) (find-map xs)

  kept_by : (b : Bool) (x : X) (xs : List X) (ys : List Y) → ys ≡ map f xs → cond b (f x ∷ ys) ys ≡ map f (cond b (x ∷ xs) xs)
  kept_by true x xs ys same = ap (λ (l : List Y). f x ∷ l) same
  kept_by false x xs ys same = same

  pub filter-map : (xs : List X) → filter test (map f xs) ≡ map f (filter of_made xs)
  filter-map [] = refl
  filter-map (x ∷ xs) = kept_by (test (f x)) x (filter of_made xs) (filter test (map f xs)) (filter-map xs)

  first-map : (xs : List X) → position_or_len test (map f xs) ≡ position_or_len of_made xs
  first-map [] = refl
  first-map (x ∷ xs) = ap (λ (n : ℕ). cond (not (test (f x))) (1 + n) 0) (first-map xs)

  abbrev place_in : ℕ → ℕ → Option ℕ
  place_in first count = cond (nat_lt first count) (Some first) None

  pub position-map : (xs : List X) → position test (map f xs) ≡ position of_made xs
  position-map xs =
      ap (λ (n : ℕ). place_in n (length (map f xs))) (first-map xs)
      ∙ ap (λ (n : ℕ). place_in (position_or_len of_made xs) n) (length-map xs f)

  module _ (none many : Refusal) (xs : List X) where
    abbrev item_by : ℕ → Option Y → Checked Y
    item_by count found = if nat_lt 1 count then refused many else or_refused none found

    item_made : (b : Bool) (o : Option X) → (if b then refused many else or_refused none (option_map f o))
        ≡ made f (if b then refused many else or_refused none o)
    item_made true o = refl
    item_made false o = found-made f none o

    pub only-item : only_item none many test (map f xs) ≡ made f (only_item none many of_made xs)
    only-item =
        ap (λ (n : ℕ). item_by n (find test (map f xs))) (count-map xs)
        ∙ ap (λ (o : Option Y). item_by (count_by of_made xs) o) (find-map xs)
        ∙ item_made (nat_lt 1 (count_by of_made xs)) (find of_made xs)

    abbrev place_by : ℕ → Option ℕ → Checked ℕ
    place_by count found = if nat_lt 1 count then refused many else or_refused none found

    pub only-place : only_place none many test (map f xs) ≡ only_place none many of_made xs
    only-place =
        ap (λ (n : ℕ). place_by n (position test (map f xs))) (count-map xs)
        ∙ ap (λ (o : Option ℕ). place_by (count_by of_made xs) o) (position-map xs)

-- the same by tests that agree
module _ {X Y : Type 0} (f : X → Y) (test : Y → Bool) (before : X → Bool) (agree : (x : X) → test (f x) ≡ before x) where
  agreed : of_made f test ≡ before
  agreed = fun_ext agree

  pub any-agree : (xs : List X) → list_any test (map f xs) ≡ list_any before xs
  any-agree xs = any-map f test xs ∙ ap (λ (p : X → Bool). list_any p xs) agreed

  pub count-agree : (xs : List X) → count_by test (map f xs) ≡ count_by before xs
  count-agree xs = count-map f test xs ∙ ap (λ (p : X → Bool). count_by p xs) agreed

  pub find-agree : (xs : List X) → find test (map f xs) ≡ option_map f (find before xs)
  find-agree xs = find-map f test xs ∙ ap (λ (p : X → Bool). option_map f (find p xs)) agreed

  pub filter-agree : (xs : List X) → filter test (map f xs) ≡ map f (filter before xs)
  filter-agree xs = filter-map f test xs ∙ ap (λ (p : X → Bool). map f (filter p xs)) agreed

  pub item-agree : (none many : Refusal) (xs : List X) → only_item none many test (map f xs) ≡ made f (only_item none many before xs)
  item-agree none many xs = only-item f test none many xs ∙ ap (λ (p : X → Bool). made f (only_item none many p xs)) agreed

  pub place-agree : (none many : Refusal) (xs : List X) → only_place none many test (map f xs) ≡ only_place none many before xs
  place-agree none many xs = only-place f test none many xs ∙ ap (λ (p : X → Bool). only_place none many p xs) agreed

-- ---- lists that are made item by item

pub map-made : {X Y Z : Type 0} (f : X → Y) (g : Y → Z) (xs : List X) → map g (map f xs) ≡ map (λ x. g (f x)) xs
map-made f g [] = refl
map-made f g (x ∷ xs) = ap (λ l. g (f x) ∷ l) (map-made f g xs)

pub map-agree : {X Y : Type 0} (f g : X → Y) → ((x : X) → f x ≡ g x) → (xs : List X) → map f xs ≡ map g xs
map-agree f g same xs = ap (λ h. map h xs) (fun_ext same)

module _ {X Y Z : Type 0} where
  number_made : (f : X → Y) (make : ℕ → Y → Z) (number : ℕ) (xs : List X) →
      numbered_from make number (map f xs) ≡ numbered_from (λ n x. make n (f x)) number xs
  number_made f make number [] = refl
  number_made f make number (x ∷ xs) = ap (λ (l : List Z). make number (f x) ∷ l) (number_made f make (suc number) xs)

  pub numbered-made : (f : X → Y) (make : ℕ → Y → Z) (xs : List X) → numbered make (map f xs) ≡ numbered (λ n x. make n (f x)) xs
  numbered-made f make xs = number_made f make 0 xs

module _ {X Y : Type 0} where
  number_long : (make : ℕ → X → Y) (number : ℕ) (xs : List X) → length (numbered_from make number xs) ≡ length xs
  number_long make number [] = refl
  number_long make number (x ∷ xs) = ap suc (number_long make (suc number) xs)

  pub length-numbered : (make : ℕ → X → Y) (xs : List X) → length (numbered make xs) ≡ length xs
  length-numbered make xs = number_long make 0 xs

  pub numbered-agree : (make other : ℕ → X → Y) → ((n : ℕ) (x : X) → make n x ≡ other n x) → (xs : List X) →
      numbered make xs ≡ numbered other xs
  numbered-agree make other same xs = ap (λ (h : ℕ → X → Y). numbered h xs) (fun_ext (λ n. fun_ext (same n)))

-- what is made of each numbered item, where they agree on the numbers below a limit
module _ {X Y Z : Type 0} (g : Y → Z) (make : ℕ → X → Y) (make_too : ℕ → X → Z) (limit : ℕ)
    (agree : (n : ℕ) (x : X) → n < limit → make_too n x ≡ g (make n x)) where
  number_below : (number : ℕ) (xs : List X) → number + length xs ≤ limit →
      numbered_from make_too number xs ≡ map g (numbered_from make number xs)
  number_below number [] few = refl
  number_below number (x ∷ xs) few =
      ap (λ (z : Z). z ∷ numbered_from make_too (suc number) xs) (agree number x (omega arith))
      ∙ ap (λ (l : List Z). g (make number x) ∷ l) (number_below (suc number) xs (omega arith))

  pub numbered-below : (xs : List X) → length xs ≤ limit → numbered make_too xs ≡ map g (numbered make xs)
  numbered-below xs few = number_below 0 xs (omega arith)
