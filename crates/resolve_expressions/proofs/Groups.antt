-- Items of an aggregate, expression by expression, up to the first error.
use Rattle.std.proofs.Common.{◌≡◌, ℕ, ◌+◌, ◌<◌, ◌≤◌, Bool, List, [], ◌∷◌, ◌++◌, length, get_or, drop, refl, sym, ap, ◌∙◌, append_assoc}
use Rattle.std.specs.Prelude.{Ok, Err}
use Rattle.std.proofs.Math.ListN.{drop_of_length-le}
use Rattle.std.proofs.lemmas.List.{append-nil}
use Rattle.expression_messages.specs.declared.expression.Expr.{Expr}
use Rattle.plan_model.specs.declared.expression.TypedExpr.{TypedExpr}
use Rattle.plan_model.specs.declared.node.AggregateCall.{AggregateCall}
use Rattle.resolve_names.specs.declared.error.ResolveStop.{ResolveStop}
use Rattle.resolve_names.specs.Checks.{Checked, ◌>>=◌}
use Rattle.resolve_expressions.specs.declared.item.Item.{Item}
use Rattle.resolve_expressions.specs.declared.names.Names.{Names}
use Rattle.resolve_expressions.specs.Named.{grouped_by_in, grouped_in}
use Rattle.resolve_expressions.specs.Outputs.{Grouped, group, grouped, star_meant}
use Rattle.resolve_expressions.proofs.Gathering.{drop_next}

-- the items so far stand before what the rest gives
abbrev pub behind_group : List Item → Checked Grouped → Checked Grouped
behind_group front (Ok rest) = Ok (group (front ++ rest.items) rest.calls)
behind_group front (Err stop) = Err stop

pub group_begin : (made : Checked Grouped) → behind_group [] made ≡ made
group_begin (Ok rest) = refl
group_begin (Err stop) = refl

behind_more : (front more : List Item) (rest : Checked Grouped) →
    behind_group (front ++ more) rest ≡ behind_group front (rest >>= λ r. Ok (group (more ++ r.items) r.calls))
behind_more front more (Ok r) = ap (λ (items : List Item). Ok (group items r.calls)) (append_assoc front more r.items)
behind_more front more (Err stop) = refl

module _ (names : Names) (stars : Bool) (keys : List TypedExpr) (xs : List Expr) (at : ℕ) (front : List Item) (calls : List AggregateCall) where
  abbrev rest : ℕ → List AggregateCall → Checked Grouped
  rest from calls = grouped_in names stars keys (drop from xs) calls

  abbrev one : Expr → Checked Grouped
  one x = grouped_by_in names (star_meant stars x) keys x calls

  abbrev then : Checked Grouped → Checked Grouped
  then found = found >>= λ first. rest (at + 1) first.calls >>= λ r. Ok (group (first.items ++ r.items) r.calls)

  rest-next : (x : Expr) → at < length xs → x ≡ get_or xs at x → rest at calls ≡ then (one x)
  unfolding grouped
  rest-next x within is =
      ap (λ (l : List Expr). grouped_in names stars keys l calls) (drop_next xs at x within) ∙ ap (λ (e : Expr). then (one e)) (sym is)

  pub group_more : (x : Expr) (more : List Item) (after : List AggregateCall) → at < length xs → x ≡ get_or xs at x →
      one x ≡ Ok (group more after) → behind_group (front ++ more) (rest (at + 1) after) ≡ behind_group front (rest at calls)
  group_more x more after within is found =
      behind_more front more (rest (at + 1) after) ∙ ap (behind_group front) (sym (rest-next x within is ∙ ap then found))

  pub group_stop : (x : Expr) (stop : ResolveStop) → at < length xs → x ≡ get_or xs at x → one x ≡ Err stop → behind_group front (rest at calls) ≡ Err stop
  group_stop x stop within is fails = ap (behind_group front) (rest-next x within is ∙ ap then fails)

  pub group_end : length xs ≤ at → behind_group front (rest at calls) ≡ Ok (group front calls)
  unfolding grouped
  group_end past =
      ap (λ (l : List Expr). behind_group front (grouped_in names stars keys l calls)) (drop_of_length-le xs past)
      ∙ ap (λ (items : List Item). Ok (group items calls)) (append-nil front)

pub ruleset group_steps = (group_begin, group_more, group_stop, group_end)
