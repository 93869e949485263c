use Rattle.std.proofs.Common.{◌≢◌, List, ◌++◌, ℕ, refl, ap, ◌∙◌, arith, append-nil}
use Rattle.std.specs.String.{string_bytes}
use lib.Utf8.{encode}
use Rattle.cn_types.specs.Printed.{escaped}
use Rattle.cn_types.proofs.Escapes.{escaped-encode}
use Rattle.cn_types.proofs.Unescapes.{escaped-append, stops_here}
use Rattle.cn_types.proofs.spelling.take_plain.Goals as goal

pub returns-in-9-clause-bad : goal.returns-in-9-clause-bad
unfolding encode
returns-in-9-clause-bad c = λ bad t rest. rw c.in-9.is (stops_here (string_bytes c.args.out.now) 9 rest t refl)

pub returns-in-10-clause-bad : goal.returns-in-10-clause-bad
unfolding encode
returns-in-10-clause-bad c = λ bad t rest. rw c.in-10.is (stops_here (string_bytes c.args.out.now) 10 rest t refl)

pub returns-in-13-clause-bad : goal.returns-in-13-clause-bad
unfolding encode
returns-in-13-clause-bad c = λ bad t rest. rw c.in-13.is (stops_here (string_bytes c.args.out.now) 13 rest t refl)

pub returns-in_ok-push-in_default-clause-ok : goal.returns-in_ok-push-in_default-clause-ok
returns-in_ok-push-in_default-clause-ok c =
    let character = c.args.character in
    let one : character ≢ 92 = λ e. omega arith in
    let two : character ≢ 9 = λ e. omega arith in
    let three : character ≢ 10 = λ e. omega arith in
    let four : character ≢ 13 = λ e. omega arith in
    append-nil _ ∙ ap escaped c.in_ok-push-in_default.ensures.bytes ∙ escaped-append (string_bytes c.args.out.now) (encode character)
    ∙ ap (λ (s : List ℕ). escaped (string_bytes c.args.out.now) ++ s) (escaped-encode character one two three four)
