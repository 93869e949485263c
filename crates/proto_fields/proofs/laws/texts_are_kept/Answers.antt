use Rattle.proto_fields.proofs.TextReadings.{keeps_text, keeps_optional_text, keeps_texts}
use Rattle.proto_fields.proofs.laws.texts_are_kept.Goals as goal

pub returns : goal.returns
returns c = record { text = keeps_text; optional_text = keeps_optional_text; texts = keeps_texts }
