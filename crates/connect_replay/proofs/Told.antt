-- What the bytes that were read say of the bytes that a source tells.
use Rattle.std.proofs.Common.{◌≡◌, ◌≢◌, ⊎_elim, ℕ, ◌<◌, ◌≤◌, ◌^◌, ℤ, List, ◌∷◌, [], ◌++◌, length, Option, Some, None, true, false, refl, take, arith, subst, sym, ap, ◌∙◌, length-append}
use Rattle.std.proofs.lemmas.List.{append-nil, length-take-le}
use Rattle.std.proofs.lemmas.Bool.{false≢true}
use Rattle.std.proofs.lemmas.Bool.Decides.{nat_tests}
use Rattle.std.specs.Prelude.{IfSome, ◌==◌}
use Rattle.std.specs.Fmt.{signed_decimal}
use Rattle.std.specs.Io.KnownBytes.{Consumes, IsAtEnd}
use Rattle.std.proofs.lemmas.Fmt.{length_signed_le}
use lib.Signed.{mag}
use Rattle.connect_replay.specs.declared.ask.Ask.{Ask}
use Rattle.connect_replay.specs.Ask.{IsAsk, Spells, IsNoScript, spelled}
use Rattle.connect_replay.specs.Outcome.{PrintsSection}

-- what the test of emptiness says of a list
pub nonempty : {X : Type 0} (xs : List X) → (length xs == 0) ≡ false → xs ≢ []
nonempty [] test same = absurd (false≢true (sym test))
nonempty (x ∷ xs) test same = cc

pub empty : {X : Type 0} (xs : List X) → (length xs == 0) ≡ true → xs ≡ []
empty [] test = refl
empty (x ∷ xs) test = absurd (let none : length (x ∷ xs) ≡ 0 = grind (arith, nat_tests) in omega arith)

length-signed_decimal : (z : ℤ) → mag z < 2 ^ 63 → length (signed_decimal z) ≤ 20
length-signed_decimal z fits = length_signed_le 19 z (omega arith) fits

-- no ask's line is longer than 105 bytes
length-spelled : (ask : Ask) → IsAsk ask → length (spelled ask) ≤ 105
length-spelled ask valid =
    let one = length-signed_decimal ask.start valid.start_fits.sfits in
    let two = length-signed_decimal ask.end valid.end_fits.sfits in
    let three = length-signed_decimal ask.step valid.step_fits.sfits in
    let name = valid.name_is.short in
    simp length-append (omega arith)

-- nor its script than 106
pub length-script : (script : List ℕ) (ask : Ask) → Spells script ask → length script ≤ 106
length-script script ask spells =
    let line = length-spelled ask spells.valid in
    ⊎_elim
    (λ (bare : script ≡ spelled ask). omega (arith, ap (length {A = ℕ}) bare))
    (λ (ended : script ≡ spelled ask ++ 10 ∷ []). omega (arith, ap (length {A = ℕ}) ended, length-append (spelled ask) (10 ∷ [])))
    spells.line

-- fewer bytes were taken than there is room for, where they are fewer than that
pub fewer : (count : ℕ) (buffer : List ℕ) → count ≤ length buffer → length (take count buffer) < length buffer → count < length buffer
fewer count buffer within short = omega (arith, length-take-le count buffer within)

-- a source that is at its end told the bytes that it gave, if any
told_whole : (before after : Option (List ℕ)) (taken : List ℕ) → Consumes before after taken → IsAtEnd after → IfSome before (λ xs. xs ≡ taken)
told_whole None after taken gave over = tt
told_whole (Some xs) None taken gave over = absurd gave
told_whole (Some xs) (Some ys) taken gave over = gave ∙ ap (λ (rest : List ℕ). taken ++ rest) over ∙ append-nil taken

section_told : (before : Option (List ℕ)) (taken text : List ℕ) → IfSome before (λ xs. xs ≡ taken) → PrintsSection (Some taken) text → PrintsSection before text
section_told None taken text same prints =
    record { ask = prints.ask; read = tt; numbers = prints.numbers; rows = prints.rows; out_is = prints.out_is }
section_told (Some xs) taken text same prints =
    record {
      ask = prints.ask;
      read = subst (λ (bytes : List ℕ). Spells bytes prints.ask) (sym same) prints.read;
      numbers = prints.numbers;
      rows = prints.rows;
      out_is = prints.out_is;
    }

-- where an ask was read, all was read, and it is the told bytes' ask
pub section_read : (before after : Option (List ℕ)) (taken text : List ℕ) → Consumes before after taken → (length taken < 128 → IsAtEnd after) → PrintsSection (Some taken) text → IsAtEnd after × PrintsSection before text
section_read before after taken text gave end prints =
    let short = length-script taken prints.ask prints.read in
    let over = end (omega arith) in
    (over, section_told before taken text (told_whole before after taken gave over) prints)

-- where what was read is no ask's script, the told bytes are none
pub none_read : (before after : Option (List ℕ)) (taken : List ℕ) → Consumes before after taken → (length taken < 128 → IsAtEnd after) → IsNoScript taken → IfSome before IsNoScript
none_read None after taken gave end none = tt
none_read (Some xs) None taken gave end none = absurd gave
none_read (Some xs) (Some ys) taken gave end none = λ ask spells.
    let short = length-script xs ask spells in
    let taken_short : length taken < 128 = omega (arith, ap (length {A = ℕ}) gave, length-append taken ys) in
    none ask (subst (λ (bytes : List ℕ). Spells bytes ask) (gave ∙ ap (λ (rest : List ℕ). taken ++ rest) (end taken_short) ∙ append-nil taken) spells)
