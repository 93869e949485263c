-- The day whose date a text is.
use Rattle.std.proofs.Common.{◌≡◌, ◌≢◌, ℕ, zero, suc, ◌<◌, ◌≤◌, ◌⊎◌, inl, inr, ℤ, pos, negsuc, ◌+ℤ◌, ◌-ℤ◌, ◌≤ℤ◌, List, Bool, true, false, cond, refl, sym, ap, ◌∙◌, arith}
use Rattle.std.specs.Prelude.{Some, None, Result, Ok, Err, unsigned_abs, bytes_eq}
use Rattle.std.proofs.lemmas.Int.{ints}
use Rattle.std.proofs.lemmas.Bool.{false_from_ne_true}
use Rattle.std.proofs.lemmas.Slice.Eq.{bytes_eq-Decides}
use Rattle.cn_types.specs.declared.value.Value.{Value}
use Rattle.cn_types.specs.declared.value.Value.TheVariants.{Date}
use Rattle.cn_types.specs.declared.value.DataType.TheVariants.{Date as IsDate}
use Rattle.cn_types.specs.declared.fault.ValueFault.{ValueFault}
use Rattle.cn_types.specs.declared.fault.ValueFault.TheVariants.{OutOfMemory, BadValue}
use Rattle.cn_types.specs.Dates.{date_text}
use Rattle.cn_types.specs.Fit.{IsDay}
use Rattle.cn_types.specs.Spelled.{Spells}
use Rattle.cn_types.proofs.PrintedFacts.{one_spelled}
use Rattle.plan_tokens.specs.Tokens.{day_among, day_of}

abbrev day_at : ℕ → ℤ
day_at n = pos n -ℤ pos 719162

in_range : (n : ℕ) → n < 3652059 → IsDay (day_at n)
in_range n small = (omega (arith, ints), omega (arith, ints))

pos-unsigned_abs : (z : ℤ) → pos 0 ≤ℤ z → pos (unsigned_abs z) ≡ z
pos-unsigned_abs (pos n) h = refl
pos-unsigned_abs (negsuc n) h = absurd (omega (arith, ints, h))

-- a day's date is spelled by its text
pub spells_day : (text : List ℕ) (day : ℤ) → IsDay day → date_text day ≡ text → Spells IsDate text (Date day)
spells_day text day range e = record { type = range; bits = tt; spelling = e }

day_in : Value → ℤ
day_in (Date day) = day
day_in other = pos 0

same_day : (a b : ℤ) → Date a ≡ Date b → a ≡ b
unfolding day_in
same_day a b e = ap day_in e

one_day : (text : List ℕ) (a b : ℤ) → IsDay a → IsDay b → date_text a ≡ text → date_text b ≡ text → a ≡ b
one_day text a b in_a in_b e f = same_day a b (one_spelled IsDate text (Date a) (Date b) (spells_day text a in_a e) (spells_day text b in_b f))

same_place : (n k : ℕ) → day_at n ≡ day_at k → n ≡ k
same_place n k e = omega (arith, ints, e)

false_true : false ≡ true → ⊥
false_true e = cc

less : (n k : ℕ) → k < suc n → (n ≡ k → ⊥) → k < n
less n k below ne = omega arith

by_test : (n : ℕ) (text : List ℕ) (k : ℕ) (test : Bool) → bytes_eq (date_text (day_at n)) text ≡ test → suc n ≤ 3652059 → k < suc n → date_text (day_at k) ≡ text
    → (k < n → day_among n text ≡ Some (day_at k)) → cond test (Some (day_at n)) (day_among n text) ≡ Some (day_at k)
by_test n text k true t small below e rest =
    ap Some (one_day text (day_at n) (day_at k) (in_range n (omega arith)) (in_range k (omega arith)) ((bytes_eq-Decides (date_text (day_at n)) text).0 t) e)
by_test n text k false t small below e rest =
    let other : n ≡ k → ⊥ = λ same. false_true (sym t ∙ (bytes_eq-Decides (date_text (day_at n)) text).1 (ap (λ m. date_text (day_at m)) same ∙ e)) in
    rest (less n k below other)

found_among : (n : ℕ) (text : List ℕ) (k : ℕ) → n ≤ 3652059 → k < n → date_text (day_at k) ≡ text → day_among n text ≡ Some (day_at k)
unfolding day_among
found_among zero text k small below e = absurd (omega arith)
found_among (suc n) text k small below e = by_test n text k _ refl small below e (λ within. found_among n text k (omega arith) within e)

absent_among : (n : ℕ) (text : List ℕ) → n ≤ 3652059 → ((day : ℤ) → IsDay day → date_text day ≢ text) → day_among n text ≡ None
unfolding day_among
absent_among zero text small none = refl
absent_among (suc n) text small none =
    let differs : bytes_eq (date_text (day_at n)) text ≡ false = false_from_ne_true _ (λ same. none (day_at n) (in_range n (omega arith)) ((bytes_eq-Decides (date_text (day_at n)) text).0 same)) in
    rw differs (absent_among n text (omega arith) none)

at_place : (day : ℤ) → IsDay day → (k : ℕ) × (k < 3652059) × (day ≡ day_at k)
at_place day range =
    let place : pos (unsigned_abs (day +ℤ pos 719162)) ≡ day +ℤ pos 719162 = pos-unsigned_abs (day +ℤ pos 719162) (omega (arith, ints, range.0)) in
    (unsigned_abs (day +ℤ pos 719162), omega (arith, ints, place, range.1), omega (arith, ints, place))

pub a_day : (text : List ℕ) (day : ℤ) → IsDay day → date_text day ≡ text → day_of text ≡ Some day
unfolding day_of
a_day text day range e =
    let place = at_place day range in
    found_among 3652059 text place.0 (omega arith) place.1 (ap date_text (sym place.2) ∙ e) ∙ ap Some (sym place.2)

pub no_day : (text : List ℕ) → ((day : ℤ) → IsDay day → date_text day ≢ text) → day_of text ≡ None
unfolding day_of
no_day text none = absent_among 3652059 text (omega arith) none

not_both : {value : Value} {fault : ValueFault} → ◌≡◌ {A = Result Value ValueFault} (Ok value) (Err fault) → ⊥
not_both e = cc

value_in : Result Value ValueFault → Value
value_in (Ok value) = value
value_in (Err fault) = Date (pos 0)

same_ok : {a b : Value} → ◌≡◌ {A = Result Value ValueFault} (Ok a) (Ok b) → a ≡ b
unfolding value_in
same_ok e = ap value_in e

-- a text that was read as another value than a date
pub another_value : (text : List ℕ) (read : Result Value ValueFault) (value : Value)
    → ((v : Value) → Spells IsDate text v → (read ≡ Ok v) ⊎ (read ≡ Err OutOfMemory)) → read ≡ Ok value → ((day : ℤ) → value ≢ Date day) → day_of text ≡ None
another_value text read value back is other = no_day text (λ day range e. elim (back (Date day) (spells_day text day range e)) [ inl same ↦ other day (same_ok (sym is ∙ same)) | inr memory ↦ not_both (sym is ∙ memory) ])

-- a text that was refused
pub refused : (text : List ℕ) (read : Result Value ValueFault) → (read ≡ Err BadValue → (v : Value) → Spells IsDate text v → ⊥) → read ≡ Err BadValue → day_of text ≡ None
refused text read bad is = no_day text (λ day range e. bad is (Date day) (spells_day text day range e))
