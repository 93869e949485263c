-- The first of a list that matches an earlier one, found by a walk.
use Rattle.std.proofs.Common.{◌≡◌, ℕ, ◌+◌, ◌<◌, ◌≤◌, List, [], ◌∷◌, ◌++◌, length, get_or, take, drop, sym, ap, ◌∙◌, refl}
use Rattle.std.specs.Prelude.{Bool, true, false, if◌then◌else◌, Option, Some, None}
use Rattle.std.specs.List.{list_any}
use Rattle.std.proofs.Math.ListN.{drop_of_length-le}
use Rattle.std.proofs.lemmas.List.{take_more}
use Rattle.resolve_expressions.proofs.Gathering.{drop_next}
use Rattle.resolve_relations.specs.Making.{later_twin}

module _ {X : Type 0} (matches : X → X → Bool) (items : List X) (at : ℕ) where
  abbrev rest : ℕ → Option X
  rest n = later_twin matches (take n items) (drop n items)

  abbrev behind_one : X → Bool → Option X
  behind_one x found = if found then Some x else later_twin matches (take at items ++ x ∷ []) (drop (at + 1) items)

  rest-next : (x : X) → at < length items → x ≡ get_or items at x → rest at ≡ behind_one x (list_any (matches x) (take at items))
  rest-next x within is =
      ap (later_twin matches (take at items)) (drop_next items at x within)
      ∙ ap (λ (y : X). later_twin matches (take at items) (y ∷ drop (at + 1) items)) (sym is)

  pub twin_found : (x : X) → at < length items → x ≡ get_or items at x → list_any (matches x) (take at items) ≡ true → rest at ≡ Some x
  twin_found x within is found = rest-next x within is ∙ ap (behind_one x) found

  pub twin_more : (x : X) → at < length items → x ≡ get_or items at x → list_any (matches x) (take at items) ≡ false → rest (at + 1) ≡ rest at
  twin_more x within is fails =
      ap (λ (l : List X). later_twin matches l (drop (at + 1) items)) (take_more items at x within ∙ ap (λ (y : X). take at items ++ y ∷ []) (sym is))
      ∙ sym (rest-next x within is ∙ ap (behind_one x) fails)

  pub twin_end : length items ≤ at → rest at ≡ None
  twin_end past = ap (later_twin matches (take at items)) (drop_of_length-le items past)

pub ruleset twin_steps = (twin_found, twin_more, twin_end)
