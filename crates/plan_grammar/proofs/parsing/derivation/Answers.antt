use Rattle.std.proofs.Common.{◌≡◌, List, length, sym, ap, subst, ◌∙◌}
use Rattle.plan_tokens.specs.Tokens.{tokens_of}
use Rattle.plan_grammar.specs.declared.reader.Turn.TheVariants as turn
use Rattle.plan_grammar.specs.declared.symbol.Deed.{Deed}
use Rattle.plan_grammar.specs.Derivation.{IsPipeline, only_tokens, place_of, step_of, said}
use Rattle.plan_grammar.proofs.Places.{is_refused}
use Rattle.plan_grammar.proofs.Steps.{has_begun, has_stepped, is_over, same_place}
use Rattle.plan_grammar.proofs.Weighed.{has_lost}
use Rattle.plan_grammar.proofs.parsing.derivation.Goals as goal

two_turns : turn.Over ≡ turn.More → ⊥
two_turns e = cc

other_turns : turn.Refused ≡ turn.More → ⊥
other_turns e = cc

pub loop-reader-init : goal.loop-reader-init
loop-reader-init c = has_begun c.args.text.now c.in_ok-reader.reader c.in_ok-reader.ensures

pub loop-reader-preserved : goal.loop-reader-preserved
loop-reader-preserved c =
    let stepped : said turn.More c.step.new.self ≡ step_of c.loop-reader.reader = subst (λ t. said t c.step.new.self ≡ step_of c.loop-reader.reader) c.in-More.is c.in_ok-step.ensures.step in
    has_stepped c.args.text.now c.loop-reader.reader c.step.new.self c.loop-reader.invariant stepped

pub loop-reader-smaller : goal.loop-reader-smaller
loop-reader-smaller c =
    let stepped : said turn.More c.step.new.self ≡ step_of c.loop-reader.reader = subst (λ t. said t c.step.new.self ≡ step_of c.loop-reader.reader) c.in-More.is c.in_ok-step.ensures.step in
    has_lost c.loop-reader.reader c.step.new.self stepped

pub returns-in-Over-clause-derived : goal.returns-in-Over-clause-derived
returns-in-Over-clause-derived c =
    let stepped : said turn.Over c.step.new.self ≡ step_of c.loop-reader.reader = subst (λ t. said t c.step.new.self ≡ step_of c.loop-reader.reader) c.in-Over.is c.in_ok-step.ensures.step in
    let deeds : c.into_deeds.result.items ≡ c.loop-reader.reader.deeds = c.into_deeds.ensures ∙ c.in_ok-step.ensures.deeds (λ more. two_turns (sym c.in-Over.is ∙ more)) in
    subst (λ (ds : List Deed). IsPipeline (only_tokens (tokens_of c.args.text.now)) ds) (sym deeds) (is_over c.args.text.now c.loop-reader.reader c.loop-reader.invariant stepped)

pub returns-in-Refused-clause-unexpected : goal.returns-in-Refused-clause-unexpected
returns-in-Refused-clause-unexpected c = λ at e.
    let stepped : said turn.Refused c.step.new.self ≡ step_of c.loop-reader.reader = subst (λ t. said t c.step.new.self ≡ step_of c.loop-reader.reader) c.in-Refused.is c.in_ok-step.ensures.step in
    let left = c.in_ok-step.ensures.left (λ more. other_turns (sym c.in-Refused.is ∙ more)) in
    let place : c.place.result ≡ place_of c.loop-reader.reader.left (length c.args.text.now) = c.place.ensures ∙ ap (λ l. place_of l (length c.args.text.now)) left in
    is_refused c.args.text.now c.loop-reader.reader at c.loop-reader.invariant stepped (sym (same_place e) ∙ place)
