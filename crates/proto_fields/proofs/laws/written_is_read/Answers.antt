use Rattle.proto_fields.proofs.ReturnLemmas.{int32_back, int64_back, bool_back, optional_int32_back, optional_int64_back, optional_bool_back, text_back, optional_text_back, optional_payload_back, message_back}
use Rattle.proto_fields.proofs.laws.written_is_read.Goals as goal

pub returns : goal.returns
returns c = record {
  int32 = int32_back;
  int64 = int64_back;
  boolean = bool_back;
  optional_int32 = optional_int32_back;
  optional_int64 = optional_int64_back;
  optional_bool = optional_bool_back;
  text = text_back;
  optional_text = optional_text_back;
  optional_bytes = optional_payload_back;
  message = message_back;
}
