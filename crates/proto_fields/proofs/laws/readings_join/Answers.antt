use Rattle.proto_fields.specs.Readings.{number_in, payload_in}
use Rattle.proto_fields.proofs.ReturnLemmas.{last_some-append, payloads-append}
use Rattle.proto_fields.proofs.laws.readings_join.Goals as goal

pub returns : goal.returns
returns c = record {
  number = λ number front back. last_some-append (number_in number) front back;
  payload = λ number front back. last_some-append (payload_in number) front back;
  repeated = payloads-append;
}
