-- A condition that is made from its last key on.
use Rattle.std.proofs.Common.{◌≡◌, ℕ, suc, ◌-◌, ◌<◌, ◌≤◌, List, length, get_or, drop, sym, ap, ◌∙◌, arith, drop-cons}
use Rattle.std.specs.Prelude.{Option, Some, None}
use Rattle.std.proofs.Math.ListN.{drop_of_length-le}
use Rattle.plan_model.specs.declared.expression.TypedExpr.{TypedExpr}
use Rattle.resolve_joins.specs.declared.keys.KeyPair.{KeyPair}
use Rattle.resolve_joins.specs.Keys.{all_equal, are_equal, both}

module _ (width : ℕ) (keys : List KeyPair) where
  pub back_start : None ≡ all_equal width (drop (length keys) keys)
  unfolding all_equal
  back_start = sym (ap (all_equal width) (drop_of_length-le keys (omega arith)))

  pub back_more : (at : ℕ) (d : KeyPair) (test : TypedExpr) (rest : Option TypedExpr) → 0 < at → at ≤ length keys →
      rest ≡ all_equal width (drop at keys) → test ≡ both (are_equal width (get_or keys (at - 1) d)) rest →
      Some test ≡ all_equal width (drop (at - 1) keys)
  unfolding all_equal
  back_more at d test rest some within before made =
      let place : at - 1 < length keys = omega arith in
      let next : suc (at - 1) ≡ at = omega arith in
      let key = get_or keys (at - 1) d in
      let more : all_equal width (drop (at - 1) keys) ≡ Some (both (are_equal width key) (all_equal width (drop at keys)))
      = ap (all_equal width) (drop-cons keys (at - 1) d place)
      ∙ ap (λ (n : ℕ). Some (both (are_equal width key) (all_equal width (drop n keys)))) next in
      ap Some made ∙ ap (λ (o : Option TypedExpr). Some (both (are_equal width key) o)) before ∙ sym more

pub ruleset back_steps = (back_start, back_more)
