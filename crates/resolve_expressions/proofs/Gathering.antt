-- Lists that are made item by item, up to the first error.
use Rattle.std.proofs.Common.{◌≡◌, ℕ, ◌+◌, ◌<◌, ◌≤◌, List, [], ◌∷◌, ◌++◌, map, length, get_or, drop, refl, sym, ap, ◌∙◌, append_assoc, drop-cons, add-one, arith}
use Rattle.std.specs.Prelude.{Ok, Err}
use Rattle.std.proofs.Math.ListN.{drop_of_length-le}
use Rattle.std.proofs.lemmas.List.{append-nil}
use Rattle.std.specs.Prelude.{◌||◌, Bool, true, false}
use Rattle.std.specs.List.{list_any}
use Rattle.expression_messages.specs.declared.expression.Expr.{Expr}
use Rattle.resolve_names.specs.declared.error.ResolveStop.{ResolveStop}
use Rattle.resolve_names.specs.Checks.{Checked, ◌>>=◌}
use Rattle.resolve_expressions.specs.declared.item.Item.{Item}
use Rattle.resolve_expressions.specs.declared.names.Names.{Names}
use Rattle.resolve_expressions.specs.Grouping.{all_checked}
use Rattle.resolve_expressions.specs.Named.{projected_by_in, projected_in}
use Rattle.resolve_expressions.specs.Outputs.{projected, star_of}

pub drop_next : {X : Type 0} (xs : List X) (at : ℕ) (d : X) → at < length xs → drop at xs ≡ get_or xs at d ∷ drop (at + 1) xs
drop_next xs at d within = drop-cons xs at d within ∙ ap (λ (n : ℕ). get_or xs at d ∷ drop n xs) (sym (add-one at))

-- what was made stands before what the rest gives
abbrev pub behind : {X : Type 0} → List X → Checked (List X) → Checked (List X)
behind front (Ok rest) = Ok (front ++ rest)
behind front (Err stop) = Err stop

pub behind_none : {X : Type 0} (made : Checked (List X)) → behind [] made ≡ made
behind_none (Ok xs) = refl
behind_none (Err stop) = refl

pub behind_more : {X : Type 0} (front more : List X) (rest : Checked (List X)) →
    behind (front ++ more) rest ≡ behind front (rest >>= λ xs. Ok (more ++ xs))
behind_more front more (Ok xs) = ap Ok (append_assoc front more xs)
behind_more front more (Err stop) = refl

module _ {A X : Type 0} (f : A → Checked X) (xs : List A) (at : ℕ) where
  abbrev rest : ℕ → Checked (List X)
  rest from = all_checked (map f (drop from xs))

  rest-next : (x : A) → at < length xs → x ≡ get_or xs at x → rest at ≡ (f x >>= λ y. rest (at + 1) >>= λ ys. Ok (y ∷ ys))
  rest-next x within is =
      ap (λ (l : List A). all_checked (map f l)) (drop_next xs at x within)
      ∙ ap (λ (a : A). f a >>= λ y. rest (at + 1) >>= λ ys. Ok (y ∷ ys)) (sym is)

  pub gather_more : (front : List X) (x : A) (y : X) → at < length xs → x ≡ get_or xs at x → f x ≡ Ok y →
      behind (front ++ y ∷ []) (rest (at + 1)) ≡ behind front (rest at)
  gather_more front x y within is found =
      behind_more front (y ∷ []) (rest (at + 1))
      ∙ ap (behind front)
      (sym (rest-next x within is ∙ ap (λ (o : Checked X). o >>= λ y. rest (at + 1) >>= λ ys. Ok (y ∷ ys)) found))

  pub gather_stop : (front : List X) (x : A) (stop : ResolveStop) → at < length xs → x ≡ get_or xs at x → f x ≡ Err stop → behind front (rest at) ≡ Err stop
  gather_stop front x stop within is fails =
      ap (behind front) (rest-next x within is ∙ ap (λ (o : Checked X). o >>= λ y. rest (at + 1) >>= λ ys. Ok (y ∷ ys)) fails)

  pub gather_end : (front : List X) → length xs ≤ at → behind front (rest at) ≡ Ok front
  gather_end front past = ap (λ (l : List A). behind front (all_checked (map f l))) (drop_of_length-le xs past) ∙ ap Ok (append-nil front)

pub ruleset gather_steps = (behind_none, gather_more, gather_stop, gather_end)

-- ---- a projection

module _ (names : Names) (xs : List Expr) (at : ℕ) (front : List Item) where
  abbrev others : ℕ → Checked (List Item)
  others from = projected_in names (drop from xs)

  abbrev one : Expr → Checked (List Item)
  one x = projected_by_in names (star_of x) x

  abbrev then : Checked (List Item) → Checked (List Item)
  then found = found >>= λ first. others (at + 1) >>= λ rest. Ok (first ++ rest)

  others-next : (x : Expr) → at < length xs → x ≡ get_or xs at x → others at ≡ then (one x)
  unfolding projected
  others-next x within is = ap (projected_in names) (drop_next xs at x within) ∙ ap (λ (e : Expr). then (one e)) (sym is)

  pub project_more : (x : Expr) (more : List Item) → at < length xs → x ≡ get_or xs at x → one x ≡ Ok more →
      behind (front ++ more) (others (at + 1)) ≡ behind front (others at)
  project_more x more within is found =
      behind_more front more (others (at + 1)) ∙ ap (behind front) (sym (others-next x within is ∙ ap then found))

  pub project_stop : (x : Expr) (stop : ResolveStop) → at < length xs → x ≡ get_or xs at x → one x ≡ Err stop → behind front (others at) ≡ Err stop
  project_stop x stop within is fails = ap (behind front) (others-next x within is ∙ ap then fails)

  pub project_end : length xs ≤ at → behind front (others at) ≡ Ok front
  unfolding projected
  project_end past = ap (λ (l : List Expr). behind front (projected_in names l)) (drop_of_length-le xs past) ∙ ap Ok (append-nil front)

pub ruleset project_steps = (behind_none, project_more, project_stop, project_end)

-- ---- whether one of a list passes

module _ {X : Type 0} (passes : X → Bool) (xs : List X) (at : ℕ) (x : X) where
  any-next : at < length xs → x ≡ get_or xs at x → list_any passes (drop at xs) ≡ (passes x || list_any passes (drop (at + 1) xs))
  any-next within is =
      ap (list_any passes) (drop_next xs at x within) ∙ ap (λ (y : X). passes y || list_any passes (drop (at + 1) xs)) (sym is)

  pub any_more : at < length xs → x ≡ get_or xs at x → passes x ≡ false → list_any passes (drop (at + 1) xs) ≡ list_any passes (drop at xs)
  any_more within is fails = sym (any-next within is ∙ ap (λ (b : Bool). b || list_any passes (drop (at + 1) xs)) fails)

  pub any_found : at < length xs → x ≡ get_or xs at x → passes x ≡ true → list_any passes (drop at xs) ≡ true
  any_found within is holds = any-next within is ∙ ap (λ (b : Bool). b || list_any passes (drop (at + 1) xs)) holds

pub any_end : {X : Type 0} (passes : X → Bool) (xs : List X) (at : ℕ) → length xs ≤ at → list_any passes (drop at xs) ≡ false
any_end passes xs at past = ap (list_any passes) (drop_of_length-le xs past)

pub ruleset any_steps = (any_more, any_found, any_end)
