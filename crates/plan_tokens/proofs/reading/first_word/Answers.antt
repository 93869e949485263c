use Rattle.std.proofs.Common.{◌≡◌, ℕ, arith, sym, subst}
use Rattle.std.specs.Prelude.{IsCharBoundary}
use Rattle.std.specs.List.{prefix_len}
use Rattle.plan_tokens.specs.Bytes.{is_word_byte}
use Rattle.plan_tokens.proofs.Boundaries.{after_word}
use Rattle.plan_tokens.proofs.reading.first_word.Goals as goal

pub range-word-requires-clause-end_boundary : goal.range-word-requires-clause-end_boundary
range-word-requires-clause-end_boundary c =
    let bytes = rw c.as_bytes.ensures.value at c.word_end-size.ensures.run in
    let run : c.word_end-size.result ≡ prefix_len is_word_byte c.args.text.now = omega (arith, bytes) in
    subst (λ (n : ℕ). IsCharBoundary c.args.text.now n) (sym run) (after_word c.args.text.now c.utf8.text)

pub returns-in-Some-clause-boundary : goal.returns-in-Some-clause-boundary
returns-in-Some-clause-boundary c =
    let bytes = rw c.as_bytes.ensures.value at c.word_end-size.ensures.run in
    let run : c.word_end-size.result ≡ prefix_len is_word_byte c.args.text.now = omega (arith, bytes) in
    subst (λ (n : ℕ). IsCharBoundary c.args.text.now n) (sym run) (after_word c.args.text.now c.utf8.text)

pub returns-in_ok-of-in-None-clause-boundary : goal.returns-in_ok-of-in-None-clause-boundary
returns-in_ok-of-in-None-clause-boundary c =
    let bytes = rw c.as_bytes.ensures.value at c.word_end-size.ensures.run in
    let run : c.word_end-size.result ≡ prefix_len is_word_byte c.args.text.now = omega (arith, bytes) in
    subst (λ (n : ℕ). IsCharBoundary c.args.text.now n) (sym run) (after_word c.args.text.now c.utf8.text)
