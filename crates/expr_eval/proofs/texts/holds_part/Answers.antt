use Rattle.std.proofs.Common.{◌≡◌, ◌∙◌}
use Rattle.expr_eval.proofs.Substrings.{found-has_part}
use Rattle.expr_eval.proofs.texts.holds_part.Goals as goal

pub returns : goal.returns
returns c =
    let text : c.as_bytes.result.now ≡ c.args.text.now = c.as_bytes.ensures.value ∙ c.as_str.ensures in
    let part : c.as_bytes-2.result.now ≡ c.args.part.now = c.as_bytes-2.ensures.value ∙ c.as_str-2.ensures in
    c.is_some.ensures ∙ rw (← text, ← part) (found-has_part c.as_bytes.result.now c.as_bytes-2.result.now c.find.result c.find.ensures)
