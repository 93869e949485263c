use Rattle.std.proofs.Common.{ap, sym, ◌∙◌}
use Rattle.plan_tokens.specs.Tokens.{tokens_of}
use Rattle.plan_grammar.specs.Derivation.{only_tokens}
use Rattle.plan_text.specs.Drafts.{plan_of_deeds}
use Rattle.plan_text.proofs.parse.a_text_is_one_plan.Goals as goal

pub returns : goal.returns
returns c = λ text one other a b.
    a.built ∙ ap plan_of_deeds (c.a_text_has_one_derivation.ensures (only_tokens (tokens_of text)) a.deeds b.deeds a.derived b.derived) ∙ sym b.built
