use Rattle.std.proofs.Common.{◌≡◌, ◌≢◌, ◌+◌, ℕ, length, get_or, take, true, Some, refl, sym, ap, ◌∙◌, subst, arith}
use Rattle.std.specs.Char.{is_ascii_digit}
use Rattle.std.specs.Str.Parse.{digits_value}
use Rattle.std.proofs.lemmas.Bool.{eqb-true, eqb-false}
use Rattle.std.proofs.lemmas.List.{take_all}
use Rattle.std.proofs.lemmas.List.Elements.{All-more}
use Rattle.httparse.specs.Grammar.{AllPass}
use Rattle.web_heads.proofs.NumberLemmas.{decimal_of-Some, decimal_of-None, decimal_of-no_digit, decimal_of-great, digits_value-digit, decimal_found, decimal_none}
use Rattle.web_heads.proofs.number.decimal.Goals as goal

pub returns-then-is_empty : goal.returns-then-is_empty
returns-then-is_empty c =
    let empty = eqb-true (length c.args.text.now) 0 (sym c.is_empty.ensures ∙ c.if-is_empty.true) in
    let exact = decimal_of-None c.args.text.now c.args.most (λ some pass fits. omega arith) in
    record { exact = exact; found = tt; none = decimal_none c.args.text.now c.args.most exact }

pub returns-then-not-is_ascii_digit : goal.returns-then-not-is_ascii_digit
returns-then-not-is_ascii_digit c =
    let exact = decimal_of-no_digit c.args.text.now c.args.most c.loop-byte.byte-index (get_or c.args.text.now c.loop-byte.byte-index 0) c.loop-byte-test.true refl
    (sym c.is_ascii_digit.ensures.value ∙ c.if-not-is_ascii_digit.true) in
    record { exact = exact; found = tt; none = decimal_none c.args.text.now c.args.most exact }

pub returns-in_err-number : goal.returns-in_err-number
returns-in_err-number c =
    let next = digits_value-digit c.args.text.now c.loop-byte.byte-index (get_or c.args.text.now c.loop-byte.byte-index 0) c.loop-byte-test.true refl
    (sym c.is_ascii_digit.ensures.value ∙ c.if-not-is_ascii_digit.false) in
    let exact = decimal_of-great c.args.text.now c.args.most (c.loop-byte.byte-index + 1) (omega (arith, next, c.loop-byte.invariant.number, c.in_err-number.ensures)) in
    rw c.from_residual.ensures (record { exact = exact; found = tt; none = decimal_none c.args.text.now c.args.most exact })

pub loop-byte-preserved : goal.loop-byte-preserved
loop-byte-preserved c =
    let digit = sym c.is_ascii_digit.ensures.value ∙ c.if-not-is_ascii_digit.false in
    let next = digits_value-digit c.args.text.now c.loop-byte.byte-index (get_or c.args.text.now c.loop-byte.byte-index 0) c.loop-byte-test.true refl digit in
    record {
      number = omega (arith, next, c.loop-byte.invariant.number, c.in_ok-number.ensures.1);
      digits = All-more (λ v. is_ascii_digit v ≡ true) c.args.text.now c.loop-byte.byte-index 0 c.loop-byte-test.true c.loop-byte.invariant.digits digit;
      fits = omega (arith, c.in_ok-number.ensures.0, c.in_ok-number.ensures.1);
    }

pub returns : goal.returns
returns c =
    let text = c.args.text.now in
    let whole : take c.loop-byte.byte-index text ≡ text = take_all c.loop-byte.byte-index text c.loop-byte-test.false in
    let value : c.loop-byte.number ≡ digits_value 10 text = rw whole at c.loop-byte.invariant.number in
    let digits : AllPass is_ascii_digit text = subst (AllPass is_ascii_digit) whole c.loop-byte.invariant.digits in
    let some : length text ≢ 0 = eqb-false (length text) 0 (sym c.is_empty.ensures ∙ c.if-is_empty.false) in
    let exact = ap (λ (n : ℕ). Some n) value ∙ decimal_of-Some text c.args.most (omega arith) digits (omega arith) in
    record { exact = exact; found = decimal_found text c.args.most c.loop-byte.number exact; none = tt }
