use Rattle.proto_fields.proofs.TextReadings.{int32_valid, int64_valid, optional_int32_valid, optional_int64_valid, text_valid, optional_text_valid, texts_valid}
use Rattle.proto_fields.proofs.laws.readings_are_valid.Goals as goal

pub returns : goal.returns
returns c = record {
  int32 = int32_valid;
  int64 = int64_valid;
  optional_int32 = optional_int32_valid;
  optional_int64 = optional_int64_valid;
  text = text_valid;
  optional_text = optional_text_valid;
  texts = texts_valid;
}
