-- What a function finds of each of a list's items, one by one.
use Rattle.std.proofs.Common.{◌≡◌, ℕ, ◌+◌, ◌<◌, ◌≤◌, List, ◌++◌, length, get_or, drop, refl, sym, ap, ◌∙◌, append_assoc}
use Rattle.std.specs.Prelude.{Option, Some, None, filter_map, option_to_list}
use Rattle.std.specs.List.{cons_option}
use Rattle.std.proofs.Math.ListN.{drop_of_length-le}
use Rattle.std.proofs.lemmas.List.{append-nil}
use Rattle.resolve_expressions.proofs.Gathering.{drop_next}

module _ {X Y : Type 0} (find : X → Option Y) (xs : List X) (at : ℕ) where
  abbrev picked : ℕ → List Y
  picked from = filter_map find (drop from xs)

  before_rest : (found : Option Y) (rest : List Y) → cons_option found rest ≡ option_to_list found ++ rest
  before_rest None rest = refl
  before_rest (Some y) rest = refl

  picked-next : (x : X) → at < length xs → x ≡ get_or xs at x → picked at ≡ option_to_list (find x) ++ picked (at + 1)
  picked-next x within is =
      ap (filter_map find) (drop_next xs at x within)
      ∙ ap (λ (y : X). cons_option (find y) (picked (at + 1))) (sym is)
      ∙ before_rest (find x) (picked (at + 1))

  pub pick_more : (front more : List Y) (x : X) → at < length xs → x ≡ get_or xs at x → more ≡ front ++ option_to_list (find x) →
      more ++ picked (at + 1) ≡ front ++ picked at
  pick_more front more x within is made =
      ap (λ (l : List Y). l ++ picked (at + 1)) made
      ∙ append_assoc front (option_to_list (find x)) (picked (at + 1))
      ∙ ap (λ (l : List Y). front ++ l) (sym (picked-next x within is))

  pub pick_end : (front : List Y) → length xs ≤ at → front ++ picked at ≡ front
  pick_end front past = ap (λ (l : List X). front ++ filter_map find l) (drop_of_length-le xs past) ∙ append-nil front

pub ruleset pick_steps = (pick_more, pick_end)
