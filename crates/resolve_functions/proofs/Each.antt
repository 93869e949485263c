-- Arguments one at a time, and conditions and values two at a time.
use Rattle.std.proofs.Common.{◌≡◌, ℕ, ◌+◌, ◌-◌, ◌<◌, ◌≤◌, List, [], ◌∷◌, ◌++◌, Option, Some, None, length, get_or, drop, refl, sym, ap, ◌∙◌, arith, append_assoc, drop-cons, add-one}
use Rattle.std.specs.Prelude.{Ok, Err}
use Rattle.cn_types.specs.declared.value.DataType.{DataType}
use Rattle.plan_model.specs.declared.expression.TypedExpr.{TypedExpr}
use Rattle.resolve_names.specs.declared.error.ResolveStop.{ResolveStop}
use Rattle.resolve_names.specs.Checks.{Checked, ◌>>=◌}
use Rattle.resolve_functions.specs.declared.asked.Asked.{Asked}
use Rattle.resolve_functions.specs.Arguments.{conditions, each_meets, known, known_kinds, one_meets, values}

abbrev Typings : Type 0
Typings = List (Option TypedExpr)

pub drop_next : {X : Type 0} (xs : List X) (at : ℕ) (d : X) → at < length xs → drop at xs ≡ get_or xs at d ∷ drop (at + 1) xs
drop_next xs at d within = drop-cons xs at d within ∙ ap (λ (n : ℕ). get_or xs at d ∷ drop n xs) (sym (add-one at))

pub drop_two : {X : Type 0} (xs : List X) (at : ℕ) (d e : X) → 1 < length xs - at → drop at xs ≡ get_or xs at d ∷ get_or xs (at + 1) e ∷ drop (at + 2) xs
drop_two {X} xs at d e more =
    let one : at < length xs = omega arith in
    let next : at + 1 < length xs = omega arith in
    let same : at + 1 + 1 ≡ at + 2 = omega arith in
    drop_next xs at d one
    ∙ ap (λ (rest : List X). get_or xs at d ∷ rest)
    (drop_next xs (at + 1) e next ∙ ap (λ (n : ℕ). get_or xs (at + 1) e ∷ drop n xs) same)

known-cons : (x : Option TypedExpr) (xs : Typings) → known (x ∷ xs) ≡ known (x ∷ []) ++ known xs
known-cons None xs = refl
known-cons (Some expr) xs = refl

pub known_push : (xs : Typings) (x : Option TypedExpr) → known (xs ++ x ∷ []) ≡ known xs ++ known (x ∷ [])
known_push [] x = refl
known_push (y ∷ xs) x =
    known-cons y (xs ++ x ∷ []) ∙ ap (λ (rest : List TypedExpr). known (y ∷ []) ++ rest) (known_push xs x)
    ∙ sym (append_assoc (known (y ∷ [])) (known xs) (known (x ∷ [])))
    ∙ ap (λ (front : List TypedExpr). front ++ known (x ∷ [])) (sym (known-cons y xs))

kinds-cons : (x : Option TypedExpr) (xs : Typings) → known_kinds (x ∷ xs) ≡ known_kinds (x ∷ []) ++ known_kinds xs
kinds-cons None xs = refl
kinds-cons (Some expr) xs = refl

module _ (name : List ℕ) (first later : Asked) where
  then_step : (argument : Option TypedExpr) (rest : Typings) (answer : Checked (Unit {0})) → one_meets name first argument ≡ answer →
      each_meets name first later (argument ∷ rest) ≡ (answer >>= λ met. each_meets name later later rest)
  then_step argument rest answer is = ap (λ (o : Checked (Unit {0})). o >>= λ met. each_meets name later later rest) is

  pub each_fails : (xs : Typings) (at : ℕ) (x : Option TypedExpr) (stop : ResolveStop) → at < length xs → x ≡ get_or xs at x →
      one_meets name first x ≡ Err stop → each_meets name first later (drop at xs) ≡ Err stop
  each_fails xs at x stop within is fails =
      ap (each_meets name first later) (drop_next xs at x within)
      ∙ then_step (get_or xs at x) (drop (at + 1) xs) (Err stop) (ap (one_meets name first) (sym is) ∙ fails)

  pub each_goes_on : (xs : Typings) (at : ℕ) (x : Option TypedExpr) (met : Unit {0}) → at < length xs → x ≡ get_or xs at x →
      one_meets name first x ≡ Ok met → each_meets name first later (drop at xs) ≡ each_meets name later later (drop (at + 1) xs)
  each_goes_on xs at x met within is holds =
      ap (each_meets name first later) (drop_next xs at x within)
      ∙ then_step (get_or xs at x) (drop (at + 1) xs) (Ok met) (ap (one_meets name first) (sym is) ∙ holds)

module _ (name : List ℕ) (asked : Asked) (xs : Typings) (at : ℕ) (x : Option TypedExpr) where
  condition : 1 < length xs - at → conditions (drop at xs) ≡ get_or xs at x ∷ conditions (drop (at + 2) xs)
  condition more = ap conditions (drop_two xs at x x more)

  pub condition_fails : (stop : ResolveStop) → 1 < length xs - at → x ≡ get_or xs at x → one_meets name asked x ≡ Err stop →
      each_meets name asked asked (conditions (drop at xs)) ≡ Err stop
  condition_fails stop more is fails =
      ap (each_meets name asked asked) (condition more)
      ∙ then_step name asked asked (get_or xs at x) (conditions (drop (at + 2) xs)) (Err stop) (ap (one_meets name asked) (sym is) ∙ fails)

  pub condition_goes_on : (met : Unit {0}) → 1 < length xs - at → x ≡ get_or xs at x → one_meets name asked x ≡ Ok met →
      each_meets name asked asked (conditions (drop at xs)) ≡ each_meets name asked asked (conditions (drop (at + 2) xs))
  condition_goes_on met more is holds =
      ap (each_meets name asked asked) (condition more)
      ∙ then_step name asked asked (get_or xs at x) (conditions (drop (at + 2) xs)) (Ok met) (ap (one_meets name asked) (sym is) ∙ holds)

  pub value_more : (kinds more_kinds : List DataType) → 1 < length xs - at → x ≡ get_or xs (at + 1) x → more_kinds ≡ kinds ++ known_kinds (x ∷ []) →
      more_kinds ++ known_kinds (values (drop (at + 2) xs)) ≡ kinds ++ known_kinds (values (drop at xs))
  value_more kinds more_kinds more is made =
      ap (λ (k : List DataType). k ++ known_kinds (values (drop (at + 2) xs))) made
      ∙ append_assoc kinds (known_kinds (x ∷ [])) (known_kinds (values (drop (at + 2) xs)))
      ∙ ap (λ (k : List DataType). kinds ++ k)
      (sym (kinds-cons x (values (drop (at + 2) xs)))
      ∙ ap (λ (y : Option TypedExpr). known_kinds (y ∷ values (drop (at + 2) xs))) is
      ∙ sym (ap (λ (rest : Typings). known_kinds (values rest)) (drop_two xs at x x more)))

pub no_condition : (xs : Typings) → length xs ≤ 1 → conditions xs ≡ []
no_condition [] few = refl
no_condition (x ∷ []) few = refl
no_condition (x ∷ y ∷ xs) few = absurd (omega arith)
