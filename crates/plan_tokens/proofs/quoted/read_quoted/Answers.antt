use Rattle.std.proofs.Common.{rules, ◌≡◌, ◌≢◌, ◌<◌, ◌+◌, ◌-◌, ℕ, length, drop, take, get_or, eqb, not, arith, ap, subst, ◌∙◌, sym, ◌++◌, List}
use Rattle.std.specs.Prelude.{IsCharBoundary, Some, string_bytes}
use Rattle.std.specs.List.{prefix_len}
use Rattle.std.proofs.lemmas.Str.{IsCharBoundary-before_ascii, IsCharBoundary-after_ascii}
use Rattle.plan_tokens.proofs.QuotedFacts.{inside_from_byte, quote_stands, stays_open, closes, goes_on}
use Rattle.plan_tokens.proofs.quoted.read_quoted.Goals as goal

pub returns-then-end-bytes-clause-read : goal.returns-then-end-bytes-clause-read
returns-then-end-bytes-clause-read c =
    let run : c.next_quote-end.result ≡ c.loop-start.start + prefix_len (λ b. not (eqb b c.args.quote)) (drop c.loop-start.start c.args.text.now) = search rules in
    sym (stays_open c.args.quote c.args.text.now (string_bytes c.loop-start.out) c.args.from c.loop-start.start (c.loop-start.start - c.args.from) (omega (arith, run, c.if-end-bytes.true)) c.loop-start.invariant.2)

pub range-requires-clause-end_boundary : goal.range-requires-clause-end_boundary
range-requires-clause-end_boundary c =
    let run : c.next_quote-end.result ≡ c.loop-start.start + prefix_len (λ b. not (eqb b c.args.quote)) (drop c.loop-start.start c.args.text.now) = search rules in
    let within : c.next_quote-end.result < length c.args.text.now = search rules in
    let stands = quote_stands c.args.quote c.args.text.now c.loop-start.start c.next_quote-end.result run within in
    IsCharBoundary-before_ascii c.args.text.now c.next_quote-end.result within (omega (arith, stands, c.requires.ascii.1))

pub returns-then-byte_at-quote-clause-read : goal.returns-then-byte_at-quote-clause-read
returns-then-byte_at-quote-clause-read c =
    let run : c.next_quote-end.result ≡ c.loop-start.start + prefix_len (λ b. not (eqb b c.args.quote)) (drop c.loop-start.start c.args.text.now) = search rules in
    let within : c.next_quote-end.result < length c.args.text.now = search rules in
    let other : get_or c.args.text.now (c.next_quote-end.result + 1) 0 ≢ c.args.quote = search rules in
    let bytes : c.from_string.result ≡ string_bytes c.loop-start.out ++ take (c.next_quote-end.result - c.loop-start.start) (drop c.loop-start.start c.args.text.now) = search rules in
    let closed = closes c.args.quote c.args.text.now (string_bytes c.loop-start.out) c.args.from c.loop-start.start c.next_quote-end.result c.loop-start.invariant.1 run within other c.loop-start.invariant.2 in
    ap (λ (text : List ℕ). Some (text, c.next_quote-end.result + 1 - c.args.from)) bytes ∙ sym closed

pub loop-start-preserved : goal.loop-start-preserved
loop-start-preserved c =
    let run : c.next_quote-end.result ≡ c.loop-start.start + prefix_len (λ b. not (eqb b c.args.quote)) (drop c.loop-start.start c.args.text.now) = search rules in
    let within : c.next_quote-end.result < length c.args.text.now = search rules in
    let again : get_or c.args.text.now (c.next_quote-end.result + 1) 0 ≡ c.args.quote = search rules in
    let bytes : string_bytes c.push_str-in-loop-start.new.self ≡ string_bytes c.loop-start.out ++ take (c.next_quote-end.result + 1 - c.loop-start.start) (drop c.loop-start.start c.args.text.now) = search rules in
    let inside : c.next_quote-end.result + 1 < length c.args.text.now = inside_from_byte c.args.text.now (c.next_quote-end.result + 1) (omega (arith, again, c.requires.ascii.0)) in
    let boundary = IsCharBoundary-after_ascii c.args.text.now (c.next_quote-end.result + 1) c.utf8.text inside (omega (arith, again, c.requires.ascii.1)) in
    let more = goes_on c.args.quote c.args.text.now (string_bytes c.loop-start.out) c.args.from c.loop-start.start c.next_quote-end.result c.requires.ascii.0 c.loop-start.invariant.1 run within again c.loop-start.invariant.2 in
    let next : c.next_quote-end.result + 1 + 1 ≡ c.next_quote-end.result + 2 = omega arith in
    (subst (λ (n : ℕ). IsCharBoundary c.args.text.now n) next boundary, omega (arith, run, c.loop-start.invariant.1), rw bytes more)

pub returns-clause-read : goal.returns-clause-read
returns-clause-read c =
    sym (stays_open c.args.quote c.args.text.now (string_bytes c.loop-start.out) c.args.from c.loop-start.start (c.loop-start.start - c.args.from) (omega (arith, c.loop-start-test.false)) c.loop-start.invariant.2)

pub returns-then-byte_at-quote-clause-boundary : goal.returns-then-byte_at-quote-clause-boundary
returns-then-byte_at-quote-clause-boundary c =
    let run : c.next_quote-end.result ≡ c.loop-start.start + prefix_len (λ b. not (eqb b c.args.quote)) (drop c.loop-start.start c.args.text.now) = search rules in
    let within : c.next_quote-end.result < length c.args.text.now = search rules in
    let stands = quote_stands c.args.quote c.args.text.now c.loop-start.start c.next_quote-end.result run within in
    let boundary = IsCharBoundary-after_ascii c.args.text.now c.next_quote-end.result c.utf8.text within (omega (arith, stands, c.requires.ascii.1)) in
    let place : c.next_quote-end.result + 1 ≡ c.args.from + (c.next_quote-end.result + 1 - c.args.from) = omega (arith, run, c.loop-start.invariant.1) in
    subst (λ (n : ℕ). IsCharBoundary c.args.text.now n) place boundary
