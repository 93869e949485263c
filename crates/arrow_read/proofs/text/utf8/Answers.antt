-- The call's answer is the test of UTF-8.
use Rattle.std.proofs.Common.{refl, ap, List, ℕ, Option, Some}
use Rattle.std.proofs.lemmas.Str.{is_utf8-from_IsUtf8}
use Rattle.arrow_read.specs.Tables.{utf8}
use Rattle.arrow_read.proofs.Texts.{is_utf8-false}
use Rattle.arrow_read.proofs.text.utf8.Goals as goal

pub returns-in-Ok : goal.returns-in-Ok
unfolding utf8
returns-in-Ok c = rw (is_utf8-from_IsUtf8 c.args.bytes.now c.in-Ok.ensures.cases.1) (ap (λ (b : List ℕ). let o : Option (List ℕ) = Some b in o) c.in-Ok.ensures.cases.0)

pub returns-in-Err : goal.returns-in-Err
unfolding utf8
returns-in-Err c = rw (is_utf8-false c.args.bytes.now c.in-Err.ensures.cases.0) refl
