-- What is read between quotes, from one quote to the next.
use Rattle.std.proofs.Common.{◌≡◌, ◌≢◌, ℕ, zero, suc, ◌+◌, ◌-◌, ◌<◌, ◌≤◌, List, [], ◌∷◌, ◌++◌, length, take, drop, get_or, Bool, true, false, cond, not, eqb, refl, sym, ap, ◌∙◌, arith, append_assoc, add_assoc}
use Rattle.std.specs.Prelude.{Option, Some, None}
use Rattle.std.specs.List.{prefix_len}
use Rattle.std.proofs.lemmas.Bool.{eqb-true, false_from_ne_true}
use Rattle.std.proofs.Common.{eq-eqb, length-drop, get_or-drop, drop-drop}
use Rattle.std.proofs.lemmas.List.Sums.{prefix_len_stops}
use Rattle.plan_tokens.specs.Tokens.{read_quoted, and_then_read}

abbrev plain : ℕ → List ℕ → ℕ
plain quote rest = prefix_len (λ b. not (eqb b quote)) rest

-- two pieces are read as one
pub and_then_both : (a b : List ℕ) (i j : ℕ) (rest : Option (List ℕ × ℕ)) → and_then_read a i (and_then_read b j rest) ≡ and_then_read (a ++ b) (i + j) rest
and_then_both a b i j None = refl
and_then_both a b i j (Some read) =
    ap (λ (text : List ℕ). Some (text, i + (j + read.1))) (sym (append_assoc a b read.0)) ∙ ap (λ (size : ℕ). Some ((a ++ b) ++ read.0, size)) (sym (add_assoc i j read.1))

never_by_test : (quote b : ℕ) (rest : List ℕ) (test : Bool) → eqb b quote ≡ test → length (b ∷ rest) ≤ cond (not test) (1 + plain quote rest) 0
    → (length rest ≤ plain quote rest → read_quoted quote false rest ≡ None)
    → cond test (and_then_read [] 1 (read_quoted quote true rest)) (and_then_read (b ∷ []) 1 (read_quoted quote false rest)) ≡ None
never_by_test quote b rest true t whole more = absurd (omega arith)
never_by_test quote b rest false t whole more = rw (more (omega arith)) refl

-- nothing comes behind a text without a quote
pub never_closed : (quote : ℕ) (rest : List ℕ) → length rest ≤ plain quote rest → read_quoted quote false rest ≡ None
unfolding read_quoted
never_closed quote [] whole = refl
never_closed quote (b ∷ rest) whole = never_by_test quote b rest _ refl whole (never_closed quote rest)

-- a quote that isn't doubled closes
closing_behind : (quote : ℕ) (rest : List ℕ) → get_or rest 0 0 ≢ quote → read_quoted quote true rest ≡ Some ([], 0)
unfolding read_quoted
closing_behind quote [] other = refl
closing_behind quote (b ∷ rest) other = let differs : eqb b quote ≡ false = false_from_ne_true _ (λ same. other (eqb-true b quote same)) in rw differs refl

closed_by_test : (quote b : ℕ) (rest : List ℕ) (test : Bool) → eqb b quote ≡ test → cond (not test) (1 + plain quote rest) 0 < length (b ∷ rest)
    → get_or (b ∷ rest) (cond (not test) (1 + plain quote rest) 0 + 1) 0 ≢ quote
    → (plain quote rest < length rest → get_or rest (plain quote rest + 1) 0 ≢ quote → read_quoted quote false rest ≡ Some (take (plain quote rest) rest, plain quote rest + 1))
    → cond test (and_then_read [] 1 (read_quoted quote true rest)) (and_then_read (b ∷ []) 1 (read_quoted quote false rest))
    ≡ Some (take (cond (not test) (1 + plain quote rest) 0) (b ∷ rest), cond (not test) (1 + plain quote rest) 0 + 1)
closed_by_test quote b rest true t within other more = rw (closing_behind quote rest other) refl
closed_by_test quote b rest false t within other more =
    let place : 1 + plain quote rest + 1 ≡ suc (plain quote rest + 1) = omega arith in
    let other_there = rw place at other in
    let one : 1 + plain quote rest ≡ suc (plain quote rest) = omega arith in
    rw (more (omega arith) other_there, one) (ap (λ (n : ℕ). Some (b ∷ take (plain quote rest) rest, n)) (omega arith))

pub closed : (quote : ℕ) (rest : List ℕ) → plain quote rest < length rest → get_or rest (plain quote rest + 1) 0 ≢ quote
    → read_quoted quote false rest ≡ Some (take (plain quote rest) rest, plain quote rest + 1)
unfolding read_quoted
closed quote [] within other = absurd (omega arith)
closed quote (b ∷ rest) within other = closed_by_test quote b rest _ refl within other (closed quote rest)

-- a doubled quote is one, and more follows
doubled_behind : (quote b : ℕ) (rest : List ℕ) → 0 < quote → b ≡ quote → get_or rest 0 0 ≡ quote
    → and_then_read [] 1 (read_quoted quote true rest) ≡ and_then_read (b ∷ []) 2 (read_quoted quote false (drop 1 rest))
unfolding read_quoted
doubled_behind quote b [] some here e = absurd (omega arith)
doubled_behind quote b (c ∷ rest) some here e =
    let same : eqb c quote ≡ true = eq-eqb c quote e in
    rw (same, here) (and_then_both [] (quote ∷ []) 1 1 (read_quoted quote false rest))

doubled_by_test : (quote b : ℕ) (rest : List ℕ) (test : Bool) → eqb b quote ≡ test → 0 < quote → cond (not test) (1 + plain quote rest) 0 < length (b ∷ rest)
    → get_or (b ∷ rest) (cond (not test) (1 + plain quote rest) 0 + 1) 0 ≡ quote
    → (plain quote rest < length rest → get_or rest (plain quote rest + 1) 0 ≡ quote
    → read_quoted quote false rest ≡ and_then_read (take (plain quote rest + 1) rest) (plain quote rest + 2) (read_quoted quote false (drop (plain quote rest + 2) rest)))
    → cond test (and_then_read [] 1 (read_quoted quote true rest)) (and_then_read (b ∷ []) 1 (read_quoted quote false rest))
    ≡ and_then_read (take (cond (not test) (1 + plain quote rest) 0 + 1) (b ∷ rest)) (cond (not test) (1 + plain quote rest) 0 + 2)
    (read_quoted quote false (drop (cond (not test) (1 + plain quote rest) 0 + 2) (b ∷ rest)))
doubled_by_test quote b rest true t some within again more = doubled_behind quote b rest some (eqb-true b quote t) again
doubled_by_test quote b rest false t some within again more =
    let place : 1 + plain quote rest + 1 ≡ suc (plain quote rest + 1) = omega arith in
    let size : 1 + plain quote rest + 2 ≡ suc (plain quote rest + 2) = omega arith in
    let again_there = rw place at again in
    rw (more (omega arith) again_there, place, size)
    (and_then_both (b ∷ []) (take (plain quote rest + 1) rest) 1 (plain quote rest + 2) (read_quoted quote false (drop (plain quote rest + 2) rest))
    ∙ ap (λ (n : ℕ). and_then_read (b ∷ take (plain quote rest + 1) rest) n (read_quoted quote false (drop (plain quote rest + 2) rest))) (omega arith))

pub doubled : (quote : ℕ) (rest : List ℕ) → 0 < quote → plain quote rest < length rest → get_or rest (plain quote rest + 1) 0 ≡ quote
    → read_quoted quote false rest ≡ and_then_read (take (plain quote rest + 1) rest) (plain quote rest + 2) (read_quoted quote false (drop (plain quote rest + 2) rest))
unfolding read_quoted
doubled quote [] some within again = absurd (omega arith)
doubled quote (b ∷ rest) some within again = doubled_by_test quote b rest _ refl some within again (doubled quote rest some)

-- ---- in a text

not_false : (b : Bool) → not b ≡ false → b ≡ true
not_false true e = refl
not_false false e = cc

-- the quote that is found stands there
pub quote_stands : (quote : ℕ) (text : List ℕ) (start end : ℕ) → end ≡ start + plain quote (drop start text) → end < length text → get_or text end 0 ≡ quote
quote_stands quote text start end e within =
    let stops = prefix_len_stops (λ b. not (eqb b quote)) (drop start text) 0 (let size : length (drop start text) ≡ length text - start = length-drop _ _ in omega (arith, size, e)) in
    let there : get_or text (start + plain quote (drop start text)) 0 ≡ quote = sym (get_or-drop start text (plain quote (drop start text)) 0) ∙ eqb-true _ _ (not_false _ stops) in
    rw e there

rest_length : (text : List ℕ) (start : ℕ) → length (drop start text) ≡ length text - start
rest_length text start = length-drop _ _

-- no quote closes
pub stays_open : (quote : ℕ) (text out : List ℕ) (from start size : ℕ) → length text ≤ start + plain quote (drop start text)
    → read_quoted quote false (drop from text) ≡ and_then_read out size (read_quoted quote false (drop start text)) → read_quoted quote false (drop from text) ≡ None
stays_open quote text out from start size far e =
    let whole : length (drop start text) ≤ plain quote (drop start text) = (let left = rest_length text start in omega (arith, left, far)) in
    e ∙ ap (and_then_read out size) (never_closed quote (drop start text) whole)

size_there : (from start found : ℕ) → from ≤ start → start - from + (found + 1) ≡ start + found + 1 - from
size_there from start found order = omega arith

size_behind : (from start found : ℕ) → from ≤ start → start - from + (found + 2) ≡ start + found + 2 - from
size_behind from start found order = omega arith

-- the quote that is found closes
found_closes : (quote : ℕ) (text out : List ℕ) (from start found : ℕ) → from ≤ start → found ≡ plain quote (drop start text) → start + found < length text
    → get_or text (start + found + 1) 0 ≢ quote → read_quoted quote false (drop from text) ≡ and_then_read out (start - from) (read_quoted quote false (drop start text))
    → read_quoted quote false (drop from text) ≡ Some (out ++ take found (drop start text), start + found + 1 - from)
found_closes quote text out from start found order is within other e =
    let inside : plain quote (drop start text) < length (drop start text) = (let left = rest_length text start in omega (arith, left, is, within)) in
    let place : start + (plain quote (drop start text) + 1) ≡ start + found + 1 = omega (arith, is) in
    let other_there : get_or (drop start text) (plain quote (drop start text) + 1) 0 ≢ quote = λ same. other (ap (λ (k : ℕ). get_or text k 0) (sym place) ∙ sym (get_or-drop start text _ 0) ∙ same) in
    let read = closed quote (drop start text) inside other_there in
    rw is (e ∙ rw read (ap (λ (n : ℕ). Some (out ++ take (plain quote (drop start text)) (drop start text), n)) (size_there from start _ order)))

-- the quote that is found is doubled
found_goes_on : (quote : ℕ) (text out : List ℕ) (from start found : ℕ) → 0 < quote → from ≤ start → found ≡ plain quote (drop start text) → start + found < length text
    → get_or text (start + found + 1) 0 ≡ quote → read_quoted quote false (drop from text) ≡ and_then_read out (start - from) (read_quoted quote false (drop start text))
    → read_quoted quote false (drop from text)
    ≡ and_then_read (out ++ take (found + 1) (drop start text)) (start + found + 2 - from) (read_quoted quote false (drop (start + found + 2) text))
found_goes_on quote text out from start found some order is within again e =
    let inside : plain quote (drop start text) < length (drop start text) = (let left = rest_length text start in omega (arith, left, is, within)) in
    let place : start + (plain quote (drop start text) + 1) ≡ start + found + 1 = omega (arith, is) in
    let again_there : get_or (drop start text) (plain quote (drop start text) + 1) 0 ≡ quote = get_or-drop start text _ 0 ∙ ap (λ (k : ℕ). get_or text k 0) place ∙ again in
    let read = doubled quote (drop start text) some inside again_there in
    let behind : drop (plain quote (drop start text) + 2) (drop start text) ≡ drop (start + plain quote (drop start text) + 2) text = (let size : start + (plain quote (drop start text) + 2) ≡ start + plain quote (drop start text) + 2 = omega arith in rw drop-drop (rw size refl)) in
    rw is (e ∙ rw (read, behind) (and_then_both out (take (plain quote (drop start text) + 1) (drop start text)) (start - from) (plain quote (drop start text) + 2) _
    ∙ ap (λ (n : ℕ). and_then_read (out ++ take (plain quote (drop start text) + 1) (drop start text)) n (read_quoted quote false (drop (start + plain quote (drop start text) + 2) text))) (size_behind from start _ order)))

sizes : (start found end : ℕ) → end ≡ start + found → end - start ≡ found
sizes start found end is = omega (arith, is)

pub closes : (quote : ℕ) (text out : List ℕ) (from start end : ℕ) → from ≤ start → end ≡ start + plain quote (drop start text) → end < length text
    → get_or text (end + 1) 0 ≢ quote → read_quoted quote false (drop from text) ≡ and_then_read out (start - from) (read_quoted quote false (drop start text))
    → read_quoted quote false (drop from text) ≡ Some (out ++ take (end - start) (drop start text), end + 1 - from)
closes quote text out from start end order is within other e =
    rw (sizes start _ end is, is) (found_closes quote text out from start _ order refl (rw (← is) within) (rw (← is) other) e)

pub goes_on : (quote : ℕ) (text out : List ℕ) (from start end : ℕ) → 0 < quote → from ≤ start → end ≡ start + plain quote (drop start text) → end < length text
    → get_or text (end + 1) 0 ≡ quote → read_quoted quote false (drop from text) ≡ and_then_read out (start - from) (read_quoted quote false (drop start text))
    → read_quoted quote false (drop from text)
    ≡ and_then_read (out ++ take (end + 1 - start) (drop start text)) (end + 2 - from) (read_quoted quote false (drop (end + 2) text))
goes_on quote text out from start end some order is within again e =
    let size : end + 1 - start ≡ plain quote (drop start text) + 1 = omega (arith, is) in
    rw (size, is) (found_goes_on quote text out from start _ some order refl (rw (← is) within) (rw (← is) again) e)

-- a byte that isn't 0 stands within the text
pub inside_from_byte : (text : List ℕ) (at : ℕ) → 0 < get_or text at 0 → at < length text
inside_from_byte [] at some = absurd (omega arith)
inside_from_byte (b ∷ text) zero some = omega arith
inside_from_byte (b ∷ text) (suc at) some = let within = inside_from_byte text at some in omega (arith, within)
