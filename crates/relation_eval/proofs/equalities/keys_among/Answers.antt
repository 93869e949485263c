use Rattle.std.proofs.Common.{◌++◌, ◌∷◌, [], ℕ, List, get_or, refl, sym, ◌∙◌, subst}
use Rattle.cn_types.specs.declared.value.DataType.{DataType}
use Rattle.relation_eval.specs.declared.equalities.Equality.{Equality}
use Rattle.relation_eval.specs.Equalities.{CandidatesShare}
use Rattle.relation_eval.proofs.EqualityFacts.{shares_more}
use Rattle.relation_eval.proofs.equalities.keys_among.Goals as goal

-- what the place of a list past its end is read as
unread : Equality
unread = record { left = 0; right = 0; kind = DataType.Boolean }

pub loop-equality-preserved : goal.loop-equality-preserved
unfolding unread
loop-equality-preserved c =
    let equalities = c.args.equalities.now in
    let a = c.args.left.now in
    let b = c.args.right.now in
    let equality : Equality = get_or equalities c.loop-equality.equality-index unread in
    subst (λ (lefts : List ℕ). CandidatesShare equalities lefts c.push-in-loop-equality.new.self.items a b) (sym c.in_ok-push.ensures.items)
    (subst (λ (rights : List ℕ). CandidatesShare equalities (c.loop-equality.lefts.items ++ equality.left ∷ []) rights a b) (sym c.in_ok-push-2.ensures.items)
    (shares_more equalities c.loop-equality.lefts.items c.loop-equality.rights.items a b c.loop-equality.equality-index equality unread c.loop-equality.invariant c.loop-equality-test.true refl
    (sym c.is_typed.ensures ∙ c.if-not-is_typed.false)))
