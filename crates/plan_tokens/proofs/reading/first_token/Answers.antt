use Rattle.std.proofs.Common.{rules, ◌≡◌, ℕ, get_or, arith, sym, subst}
use Rattle.std.specs.Prelude.{IsCharBoundary}
use Rattle.std.specs.List.{prefix_len}
use Rattle.plan_tokens.specs.Bytes.{is_digit}
use Rattle.plan_tokens.proofs.Boundaries.{after_digits, after_first}
use Rattle.plan_tokens.proofs.reading.first_token.Goals as goal

pub returns-then-is_digit-clause-boundary : goal.returns-then-is_digit-clause-boundary
returns-then-is_digit-clause-boundary c =
    let bytes = rw c.as_bytes-bytes.ensures.value at c.digits_end.ensures.run in
    let run : c.digits_end.result ≡ prefix_len is_digit c.args.text.now = omega (arith, bytes) in
    subst (λ (n : ℕ). IsCharBoundary c.args.text.now n) (sym run) (after_digits c.args.text.now c.utf8.text)

pub returns-then-first-eq45-clause-boundary : goal.returns-then-first-eq45-clause-boundary
returns-then-first-eq45-clause-boundary c =
    let minus : get_or c.args.text.now 0 0 ≡ 45 = search rules in
    after_first c.args.text.now c.utf8.text (omega (arith, minus)) (omega (arith, minus))
