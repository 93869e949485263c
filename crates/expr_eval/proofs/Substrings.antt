-- A search for a text within another.
use Rattle.std.proofs.Common.{◌≡◌, ◌+◌, ℕ, Bool, true, false, List, ◌++◌, length, get_or, take, drop, Option, None, Some, refl, sym, ap, ◌∙◌, arith, length-append}
use Rattle.std.specs.Option.{is_some}
use Rattle.std.proofs.lemmas.List.{take-append-drop, get_or-append-add, get_or_append_left}
use Rattle.memchr.specs.Find.{OccursAt, FindsNeedle}
use Rattle.memchr.proofs.lemmas.MatchLemmas.{OccursAt-split}
use Rattle.plan_model.specs.Texts.{has_part}
use Rattle.plan_model.proofs.Parts.{parts_within}

occurs : (text part before after : List ℕ) → text ≡ before ++ (part ++ after) → OccursAt text part (length before)
occurs text part before after e = record {
  fits = omega (arith, ap length e, length-append before (part ++ after), length-append part after);
  reads = λ j h. ap (λ (xs : List ℕ). get_or xs (length before + j) 0) e ∙ get_or-append-add before (part ++ after) j 0 ∙ get_or_append_left part after 0 j h;
}

absent : (text part : List ℕ) → FindsNeedle text part 0 None → (b : Bool) → has_part text part ≡ b → b ≡ false
absent text part h false e = refl
absent text part h true e =
    let w = (parts_within text part).0 e in
    let there = occurs text part w.0 w.1 w.2 in
    absurd (h (length w.0) (omega arith) (omega (arith, there.fits)) there)

-- whether a search finds a place is whether there is one
pub found-has_part : (text part : List ℕ) (r : Option ℕ) → FindsNeedle text part 0 r → is_some r ≡ has_part text part
found-has_part text part None h = sym (absent text part h (has_part text part) refl)
found-has_part text part (Some k) h =
    sym ((parts_within text part).1 (take k text, drop (k + length part) text, sym (take-append-drop k text) ∙ ap (λ (xs : List ℕ). take k text ++ xs) (OccursAt-split text part k h.1)))
