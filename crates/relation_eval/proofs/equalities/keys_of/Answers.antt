use Rattle.std.proofs.Common.{◌≡◌, true, List, [], sym, ◌∙◌, subst, arith}
use Rattle.std.specs.Prelude.{All, Some}
use Rattle.cn_types.specs.declared.row.Row.{Row}
use Rattle.plan_model.specs.Truth.{is_true}
use Rattle.plan_model.specs.Val.{val}
use Rattle.relation_eval.specs.declared.equalities.Equality.{Equality}
use Rattle.relation_eval.specs.declared.matches.Keys.{Keys}
use Rattle.relation_eval.specs.Equalities.{IsMet, CandidatesShare}
use Rattle.relation_eval.specs.Matches.{AreKeys}
use Rattle.relation_eval.proofs.EqualityFacts.{if_ok_more, shares_are_keys}
use Rattle.relation_eval.proofs.equalities.keys_of.Goals as goal

none : (P : Equality → Type 0) → All P []
none P i d h = absurd (omega arith)

pub returns : goal.returns
returns c =
    let met : (row : Row) → is_true (val c.args.condition.now row) ≡ true → All (IsMet c.args.left_width row) c.as_slice.result.now = λ row h.
    subst (λ (es : List Equality). All (IsMet c.args.left_width row) es) (sym c.as_slice.ensures.value) (c.in_ok-add_equalities.ensures row h (subst (λ (es : List Equality). All (IsMet c.args.left_width row) es) (sym c.new-equalities.ensures.items) (none (IsMet c.args.left_width row)))) in
    if_ok_more c.keys_among.result (λ (keys : Keys). AreKeys (Some c.args.condition.now) keys.left.items keys.right.items c.args.left.now c.args.right.now)
    (λ (keys : Keys). CandidatesShare c.as_slice.result.now keys.left.items keys.right.items c.args.left.now c.args.right.now)
    (λ keys shares. shares_are_keys c.args.condition.now c.args.left_width c.as_slice.result.now keys.left.items keys.right.items c.args.left.now c.args.right.now
    (sym c.have_width.ensures ∙ c.if-not-have_width.false) met shares) c.keys_among.ensures
