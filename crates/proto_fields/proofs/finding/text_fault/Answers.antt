-- The call's answer is the test of UTF-8.
use Rattle.std.proofs.Common.{refl}
use Rattle.std.proofs.lemmas.Str.{is_utf8-from_IsUtf8}
use Rattle.proto_fields.proofs.TextLemmas.{is_utf8-false}
use Rattle.proto_fields.proofs.finding.text_fault.Goals as goal

pub returns-in-Ok : goal.returns-in-Ok
returns-in-Ok c = rw (is_utf8-from_IsUtf8 c.args.payload.now c.in-Ok.ensures.cases.1) refl

pub returns-in-Err : goal.returns-in-Err
returns-in-Err c = rw (is_utf8-false c.args.payload.now c.in-Err.ensures.cases.0) refl
