-- A text that the parser refuses is no id's, and the answer is the number whose own text this is, but for the case of its digits.
use Rattle.std.proofs.Common.{◌∙◌}
use Rattle.session_core.proofs.IdLemmas.{refused_answer, spelled_answer}
use Rattle.session_core.proofs.ids.parse_id.Goals as goal

pub returns-in_err-uuid : goal.returns-in_err-uuid
returns-in_err-uuid c = λ id.
    refused_answer c.args.text.now c.parse_str.result c.from_residual.result id c.from_residual.ensures c.in_err-uuid.ensures.value c.parse_str.ensures.ok

pub returns : goal.returns
returns c = λ id.
    spelled_answer c.args.text.now c.in_ok-uuid.uuid c.hyphenated.result c.encode_lower-spelled.result.now c.parse_str.result c.eq_ignore_ascii_case.result
    c.as_u128-id.result c.then_some.result id c.in_ok-uuid.ensures.value c.parse_str.ensures.bytes (c.hyphenated.ensures ∙ c.from_u128.ensures)
    c.encode_lower-spelled.ensures.text c.eq_ignore_ascii_case.ensures.test c.as_u128-id.ensures c.as_u128-id.type_inv c.then_some.ensures
