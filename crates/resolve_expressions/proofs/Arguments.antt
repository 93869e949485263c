-- Arguments that are typed one by one, up to the first error.
use Rattle.std.proofs.Common.{◌≡◌, ℕ, ◌+◌, ◌<◌, ◌≤◌, Bool, List, [], ◌∷◌, ◌++◌, map, length, get_or, drop, refl, sym, ap, ◌∙◌, append_assoc, Option}
use Rattle.std.specs.Prelude.{Ok, Err}
use Rattle.std.proofs.Math.ListN.{drop_of_length-le}
use Rattle.std.proofs.lemmas.List.{append-nil}
use Rattle.expression_messages.specs.declared.expression.Expr.{Expr}
use Rattle.plan_model.specs.declared.expression.TypedExpr.{TypedExpr}
use Rattle.plan_model.specs.declared.node.AggregateCall.{AggregateCall}
use Rattle.resolve_names.specs.declared.error.ResolveStop.{ResolveStop}
use Rattle.resolve_names.specs.Checks.{Checked, ◌>>=◌}
use Rattle.resolve_expressions.specs.declared.names.Names.{Names}
use Rattle.resolve_expressions.specs.Named.{standing_in, standings_in, typed_in}
use Rattle.resolve_expressions.specs.Typings.{Arguments, Typing, arguments, arguments_typed, typing, typed_over}
use Rattle.resolve_expressions.proofs.Gathering.{drop_next}

-- what was typed stands before what the rest gives
abbrev pub with : List (Option TypedExpr) → Checked Arguments → Checked Arguments
with front (Ok rest) = Ok (arguments (front ++ rest.exprs) rest.calls)
with front (Err stop) = Err stop

pub with_none : (made : Checked Arguments) → with [] made ≡ made
with_none (Ok rest) = refl
with_none (Err stop) = refl

with_more : (front : List (Option TypedExpr)) (expr : Option TypedExpr) (rest : Checked Arguments) →
    with (front ++ expr ∷ []) rest ≡ with front (rest >>= λ r. Ok (arguments (expr ∷ r.exprs) r.calls))
with_more front expr (Ok r) = ap (λ (exprs : List (Option TypedExpr)). Ok (arguments exprs r.calls)) (append_assoc front (expr ∷ []) r.exprs)
with_more front expr (Err stop) = refl

module _ (names : Names) (allowed : Bool) (xs : List Expr) (at : ℕ) (front : List (Option TypedExpr)) (calls : List AggregateCall) where
  abbrev rest : ℕ → List AggregateCall → Checked Arguments
  rest from calls = arguments_typed allowed (standings_in names (drop from xs)) calls

  abbrev then : Checked Typing → Checked Arguments
  then found = found >>= λ first. rest (at + 1) first.calls >>= λ r. Ok (arguments (first.expr ∷ r.exprs) r.calls)

  rest-next : (x : Expr) → at < length xs → x ≡ get_or xs at x → rest at calls ≡ then (typed_in names x allowed calls)
  unfolding typed_over
  rest-next x within is =
      ap (λ (l : List Expr). arguments_typed allowed (standings_in names l) calls) (drop_next xs at x within)
      ∙ ap (λ (e : Expr). then ((standing_in names e).typed allowed calls)) (sym is)

  pub argument_more : (x : Expr) (expr : Option TypedExpr) (more : List AggregateCall) → at < length xs → x ≡ get_or xs at x →
      typed_in names x allowed calls ≡ Ok (typing expr more) → with (front ++ expr ∷ []) (rest (at + 1) more) ≡ with front (rest at calls)
  argument_more x expr more within is found =
      with_more front expr (rest (at + 1) more) ∙ ap (with front) (sym (rest-next x within is ∙ ap then found))

  pub argument_stop : (x : Expr) (stop : ResolveStop) → at < length xs → x ≡ get_or xs at x →
      typed_in names x allowed calls ≡ Err stop → with front (rest at calls) ≡ Err stop
  argument_stop x stop within is fails = ap (with front) (rest-next x within is ∙ ap then fails)

  pub argument_end : length xs ≤ at → with front (rest at calls) ≡ Ok (arguments front calls)
  argument_end past =
      ap (λ (l : List Expr). with front (arguments_typed allowed (standings_in names l) calls)) (drop_of_length-le xs past)
      ∙ ap (λ (exprs : List (Option TypedExpr)). Ok (arguments exprs calls)) (append-nil front)

pub ruleset argument_steps = (with_none, argument_more, argument_stop, argument_end)
