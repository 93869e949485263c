-- A text that the UUID parser refuses, or whose bits are no id's, is no id's text; and an id is given where its own text is this one.
use Rattle.std.proofs.Common.{◌∙◌, true≢false, ap, sym, subst}
use Rattle.std.proofs.lemmas.Slice.Eq.{slice_eq-Decides}
use Rattle.std.proofs.lemmas.Bool.Decides.{Decides-eqb}
use Rattle.uuid.specs.Text.{hyphenated_text, lower}
use Rattle.response_buffer.specs.Ids.{uuid_text, IsResponseId}
use Rattle.response_buffer.proofs.ParseLemmas.{Parses, Parses-none, Parses-then_some, refused-uuid_text, halves-uuid_text}
use Rattle.response_buffer.proofs.response_id.ResponseId.parse.Goals as goal

refused : (c : goal.After-from_residual) → Parses c.args.text.now c.from_residual.result
refused c = Parses-none _ _ c.from_residual.ensures (λ n same is_id.
    refused-uuid_text c.args.text.now c.parse_str.result n c.in_err-uuid.ensures.value c.parse_str.ensures.ok same)

pub returns-in_err-uuid-clause-form : goal.returns-in_err-uuid-clause-form
returns-in_err-uuid-clause-form c = (refused c).form

pub returns-in_err-uuid-clause-round_trip : goal.returns-in_err-uuid-clause-round_trip
returns-in_err-uuid-clause-round_trip c = (refused c).round_trip

unmarked : (c : goal.After-from_residual-in_err-id) → Parses c.args.text.now c.from_residual-in_err-id.result
unmarked c = Parses-none _ _ c.from_residual-in_err-id.ensures (λ n same is_id.
    let halves = halves-uuid_text c.args.text.now c.in_ok-uuid.uuid c.parse_str.result c.as_u64_pair-high.result.0 c.as_u64_pair-high.result.1 n
    c.in_ok-uuid.ensures.value c.parse_str.ensures.bytes c.as_u64_pair-high.ensures.high c.as_u64_pair-high.ensures.low same is_id in
    true≢false (sym (c.in_err-id.ensures.form.1 (subst IsResponseId (sym halves) is_id))))

pub returns-in_err-id-clause-form : goal.returns-in_err-id-clause-form
returns-in_err-id-clause-form c = (unmarked c).form

pub returns-in_err-id-clause-round_trip : goal.returns-in_err-id-clause-round_trip
returns-in_err-id-clause-round_trip c = (unmarked c).round_trip

pub returns : goal.returns
unfolding uuid_text
returns c =
    let parses =
    Parses-then_some c.args.text.now c.encode_lower-spelled.result.now c.eq.result c.in_ok-id.id c.then_some.result c.then_some.ensures
    (slice_eq-Decides Decides-eqb _ _ _ c.eq.ensures)
    (c.encode_lower-spelled.ensures.text ∙ ap (hyphenated_text lower) (c.hyphenated.ensures ∙ c.to_uuid.ensures))
    c.in_ok-id.ensures.fits.0 c.in_ok-id.ensures.fits.1
    (λ n same is_id. c.in_ok-id.ensures.number
    ∙ halves-uuid_text c.args.text.now c.in_ok-uuid.uuid c.parse_str.result c.as_u64_pair-high.result.0 c.as_u64_pair-high.result.1 n
    c.in_ok-uuid.ensures.value c.parse_str.ensures.bytes c.as_u64_pair-high.ensures.high c.as_u64_pair-high.ensures.low same is_id) in
    record { form = parses.form; fits = parses.fits; spelled = parses.spelled; round_trip = parses.round_trip }
