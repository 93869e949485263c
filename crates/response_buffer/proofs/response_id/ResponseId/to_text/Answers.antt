use Rattle.std.proofs.Common.{◌≡◌, ap, ◌∙◌}
use Rattle.uuid.specs.Text.{hyphenated_text, lower}
use Rattle.response_buffer.specs.Ids.{uuid_text, text_of}
use Rattle.response_buffer.proofs.response_id.ResponseId.to_text.Goals as goal

pub returns : goal.returns
unfolding uuid_text
returns c =
    let text : c.encode_lower-text.result.now ≡ text_of c.args.self.now =
    c.encode_lower-text.ensures.text ∙ ap (hyphenated_text lower) (c.hyphenated.ensures ∙ c.to_uuid.ensures) in
    rw text at c.of.ensures
