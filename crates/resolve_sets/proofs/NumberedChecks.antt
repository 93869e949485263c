-- Lists that are made item by item, each with its number, up to the first error.
use Rattle.std.proofs.Common.{◌≡◌, ℕ, suc, ◌+◌, ◌<◌, ◌≤◌, List, [], ◌∷◌, ◌++◌, length, get_or, drop, sym, ap, ◌∙◌, add-one}
use Rattle.std.specs.Prelude.{Ok, Err}
use Rattle.std.proofs.Math.ListN.{drop_of_length-le}
use Rattle.std.proofs.lemmas.List.{append-nil}
use Rattle.resolve_names.specs.declared.error.ResolveStop.{ResolveStop}
use Rattle.resolve_names.specs.Checks.{Checked, ◌>>=◌}
use Rattle.resolve_expressions.specs.Grouping.{all_checked}
use Rattle.resolve_expressions.proofs.Gathering.{behind, behind_more, behind_none, drop_next}
use Rattle.resolve_relations.specs.Columns.{numbered_from}

module _ {A X : Type 0} (f : ℕ → A → Checked X) (xs : List A) (at : ℕ) where
  abbrev rest : ℕ → Checked (List X)
  rest from = all_checked (numbered_from f from (drop from xs))

  rest-next : (x : A) → at < length xs → x ≡ get_or xs at x → rest at ≡ (f at x >>= λ y. rest (at + 1) >>= λ ys. Ok (y ∷ ys))
  rest-next x within is =
      ap (λ (l : List A). all_checked (numbered_from f at l)) (drop_next xs at x within)
      ∙ ap (λ (a : A). f at a >>= λ y. all_checked (numbered_from f (suc at) (drop (at + 1) xs)) >>= λ ys. Ok (y ∷ ys)) (sym is)
      ∙ ap (λ (n : ℕ). f at x >>= λ y. all_checked (numbered_from f n (drop (at + 1) xs)) >>= λ ys. Ok (y ∷ ys)) (sym (add-one at))

  pub number_gather_more : (front : List X) (x : A) (y : X) → at < length xs → x ≡ get_or xs at x → f at x ≡ Ok y →
      behind (front ++ y ∷ []) (rest (at + 1)) ≡ behind front (rest at)
  number_gather_more front x y within is found =
      behind_more front (y ∷ []) (rest (at + 1))
      ∙ ap (behind front)
      (sym (rest-next x within is ∙ ap (λ (o : Checked X). o >>= λ y. rest (at + 1) >>= λ ys. Ok (y ∷ ys)) found))

  pub number_gather_stop : (front : List X) (x : A) (stop : ResolveStop) → at < length xs → x ≡ get_or xs at x → f at x ≡ Err stop →
      behind front (rest at) ≡ Err stop
  number_gather_stop front x stop within is fails =
      ap (behind front) (rest-next x within is ∙ ap (λ (o : Checked X). o >>= λ y. rest (at + 1) >>= λ ys. Ok (y ∷ ys)) fails)

  pub number_gather_end : (front : List X) → length xs ≤ at → behind front (rest at) ≡ Ok front
  number_gather_end front past =
      ap (λ (l : List A). behind front (all_checked (numbered_from f at l))) (drop_of_length-le xs past) ∙ ap Ok (append-nil front)

pub ruleset number_gather_steps = (behind_none, number_gather_more, number_gather_stop, number_gather_end)
