-- Lists that are made item by item, each with its number.
use Rattle.std.proofs.Common.{◌≡◌, ℕ, suc, ◌+◌, ◌<◌, ◌≤◌, List, [], ◌∷◌, ◌++◌, map, length, get_or, drop, sym, ap, ◌∙◌, append_assoc, add-one}
use Rattle.std.proofs.Math.ListN.{drop_of_length-le}
use Rattle.std.proofs.lemmas.List.{append-nil}
use Rattle.std.specs.Prelude.{Bool, true, false, cond, filter}
use Rattle.resolve_expressions.proofs.Gathering.{drop_next}
use Rattle.resolve_relations.specs.Columns.{numbered_from}

module _ {X Y : Type 0} (make : ℕ → X → Y) (xs : List X) (at : ℕ) where
  rest-next : (x : X) → at < length xs → x ≡ get_or xs at x → numbered_from make at (drop at xs) ≡ make at x ∷ numbered_from make (at + 1) (drop (at + 1) xs)
  rest-next x within is =
      ap (numbered_from make at) (drop_next xs at x within)
      ∙ ap (λ (y : X). make at y ∷ numbered_from make (suc at) (drop (at + 1) xs)) (sym is)
      ∙ ap (λ (n : ℕ). make at x ∷ numbered_from make n (drop (at + 1) xs)) (sym (add-one at))

  pub number_more : (front : List Y) (x : X) (y : Y) → at < length xs → x ≡ get_or xs at x → y ≡ make at x →
      (front ++ y ∷ []) ++ numbered_from make (at + 1) (drop (at + 1) xs) ≡ front ++ numbered_from make at (drop at xs)
  number_more front x y within is made =
      append_assoc front (y ∷ []) (numbered_from make (at + 1) (drop (at + 1) xs))
      ∙ ap (λ (z : Y). front ++ z ∷ numbered_from make (at + 1) (drop (at + 1) xs)) made
      ∙ ap (λ (l : List Y). front ++ l) (sym (rest-next x within is))

  pub number_end : (front : List Y) → length xs ≤ at → front ++ numbered_from make at (drop at xs) ≡ front
  number_end front past = ap (λ (l : List X). front ++ numbered_from make at l) (drop_of_length-le xs past) ∙ append-nil front

pub ruleset number_steps = (number_more, number_end)

-- ---- the same without numbers

module _ {X Y : Type 0} (make : X → Y) (xs : List X) (at : ℕ) where
  pub map_more : (front : List Y) (x : X) (y : Y) → at < length xs → x ≡ get_or xs at x → y ≡ make x →
      (front ++ y ∷ []) ++ map make (drop (at + 1) xs) ≡ front ++ map make (drop at xs)
  map_more front x y within is made =
      append_assoc front (y ∷ []) (map make (drop (at + 1) xs))
      ∙ ap (λ (z : Y). front ++ z ∷ map make (drop (at + 1) xs)) made
      ∙ ap (λ (l : List Y). front ++ l) (sym (ap (map make) (drop_next xs at x within) ∙ ap (λ (z : X). make z ∷ map make (drop (at + 1) xs)) (sym is)))

  pub map_end : (front : List Y) → length xs ≤ at → front ++ map make (drop at xs) ≡ front
  map_end front past = ap (λ (l : List X). front ++ map make l) (drop_of_length-le xs past) ∙ append-nil front

pub ruleset map_steps = (map_more, map_end)

-- ---- those that pass

module _ {X : Type 0} (passes : X → Bool) (xs : List X) (at : ℕ) (front : List X) where
  abbrev passing : ℕ → List X
  passing from = filter passes (drop from xs)

  passing-next : (x : X) → at < length xs → x ≡ get_or xs at x → passing at ≡ cond (passes x) (x ∷ passing (at + 1)) (passing (at + 1))
  passing-next x within is =
      ap (filter passes) (drop_next xs at x within)
      ∙ ap (λ (y : X). cond (passes y) (y ∷ passing (at + 1)) (passing (at + 1))) (sym is)

  pub filter_kept : (x y : X) → at < length xs → x ≡ get_or xs at x → y ≡ x → passes x ≡ true → (front ++ y ∷ []) ++ passing (at + 1) ≡ front ++ passing at
  filter_kept x y within is same passed =
      append_assoc front (y ∷ []) (passing (at + 1))
      ∙ ap (λ (z : X). front ++ z ∷ passing (at + 1)) same
      ∙ ap (λ (l : List X). front ++ l) (sym (passing-next x within is ∙ ap (λ (b : Bool). cond b (x ∷ passing (at + 1)) (passing (at + 1))) passed))

  pub filter_left : (x : X) → at < length xs → x ≡ get_or xs at x → passes x ≡ false → front ++ passing (at + 1) ≡ front ++ passing at
  filter_left x within is failed =
      ap (λ (l : List X). front ++ l) (sym (passing-next x within is ∙ ap (λ (b : Bool). cond b (x ∷ passing (at + 1)) (passing (at + 1))) failed))

  pub filter_end : length xs ≤ at → front ++ passing at ≡ front
  filter_end past = ap (λ (l : List X). front ++ filter passes l) (drop_of_length-le xs past) ∙ append-nil front

pub ruleset filter_steps = (filter_kept, filter_left, filter_end)
