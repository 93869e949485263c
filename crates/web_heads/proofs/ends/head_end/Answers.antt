use Rattle.std.proofs.Common.{refl, arith, inl, inr, ◌≡◌, subst}
use Rattle.std.proofs.lemmas.Bool.{cases_lt}
use Rattle.std.proofs.lemmas.Bool.Decides.{not_from_Decides}
use Rattle.web_heads.specs.HeadEnds.{EndsLines}
use Rattle.web_heads.proofs.EndLemmas.{EndsLines-Decides, EndsLines-within}
use Rattle.web_heads.proofs.ends.head_end.Goals as goal

pub returns-then-eq-clause-found : goal.returns-then-eq-clause-found
returns-then-eq-clause-found c = record {
  at = c.loop-at.at;
  stop_is = refl;
  after = omega arith;
  ends = (EndsLines-Decides c.args.bytes.now c.loop-at.at c.as_slice.result.now c.eq.result c.eq.ensures c.as_slice.ensures).0 c.if-eq.true;
  first = λ other from ends. elim (cases_lt other c.loop-at.at) [
    | inl before ↦ absurd (c.loop-at.invariant other from before ends)
    | inr after ↦ after
  ];
}

pub loop-at-preserved : goal.loop-at-preserved
loop-at-preserved c k from before ends = elim (cases_lt k c.loop-at.at) [
  | inl earlier ↦ c.loop-at.invariant k from earlier ends
  | inr here ↦
      let same : k ≡ c.loop-at.at = omega arith in
      not_from_Decides c.eq.result (EndsLines-Decides c.args.bytes.now c.loop-at.at c.as_slice.result.now c.eq.result c.eq.ensures c.as_slice.ensures)
      c.if-eq.false (subst (EndsLines c.args.bytes.now) same ends)
]

pub returns-clause-none : goal.returns-clause-none
returns-clause-none c k from ends = elim (cases_lt k c.loop-at.at) [
  | inl earlier ↦ c.loop-at.invariant k from earlier ends
  | inr later ↦ let within = EndsLines-within c.args.bytes.now k ends in omega arith
]
