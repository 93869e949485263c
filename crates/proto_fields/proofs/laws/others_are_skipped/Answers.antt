use Rattle.proto_fields.proofs.ReturnLemmas.{last_number-others, last_payload-others, payloads-others}
use Rattle.proto_fields.proofs.laws.others_are_skipped.Goals as goal

pub returns : goal.returns
returns c = record { number = last_number-others; payload = last_payload-others; repeated = payloads-others }
