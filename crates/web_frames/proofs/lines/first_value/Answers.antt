use Rattle.std.proofs.Common.{◌≡◌, ◌-◌, ◌∙◌, take, drop, sym, subst, List, ℕ}
use Rattle.std.proofs.lemmas.List.{take_rest}
use Rattle.web_frames.specs.Lines.{first_value}
use Rattle.web_frames.proofs.ValueLemmas.{first_value-named, first_value-other, first_value-last}
use Rattle.web_frames.proofs.lines.first_value.Goals as goal

pub returns-in-Some-value_of : goal.returns-in-Some-value_of
returns-in-Some-value_of c =
    let rest = c.loop-stop.rest.now in
    let stop = c.in-Some.stop in
    first_value-named c.args.name.now rest (take (stop - 2) rest) (drop stop rest) c.in-Some-value_of.value.now c.in-Some.ensures.2 c.in-Some-value_of.ensures
    ∙ c.loop-stop.invariant

pub loop-stop-preserved : goal.loop-stop-preserved
loop-stop-preserved c =
    let rest = c.loop-stop.rest.now in
    let stop = c.in-Some.stop in
    subst (λ (more : List ℕ). first_value c.args.name.now more ≡ first_value c.args.name.now c.args.text.now) (sym (take_rest rest stop))
    (first_value-other c.args.name.now rest (take (stop - 2) rest) (drop stop rest) c.in-Some.ensures.2 c.in_default-value_of.ensures
    ∙ c.loop-stop.invariant)

pub returns : goal.returns
returns c =
    c.value_of-2.ensures ∙ first_value-last c.args.name.now c.loop-stop.rest.now c.in_default.ensures ∙ c.loop-stop.invariant
