-- The machine over several bytes: pieces one after another, and the ends that stay.
use Rattle.std.proofs.Common.{◌≡◌, ℕ, List, [], ◌∷◌, ◌++◌, fold, refl, sym, ap, ◌∙◌}
use Rattle.std.specs.List.{concat}
use Rattle.std.proofs.lemmas.List.Sums.{fold-append}
use Rattle.web_head_reader.specs.declared.fault.HeadReadFault.{HeadReadFault}
use Rattle.web_head_reader.specs.declared.place.HeadPlace.{HeadPlace}
use Rattle.web_head_reader.specs.declared.place.HeadPlace.TheVariants.{Whole, Refused}
use Rattle.web_head_reader.specs.Steps.{HeadState, step_at, head_step, after}

pub after-append : (s : HeadState) (front back : List ℕ) → after s (front ++ back) ≡ after (after s front) back
unfolding after
after-append s front back = fold-append head_step s front back

pub after-nil : (s : HeadState) → after s [] ≡ s
unfolding after
after-nil s = refl

pub after-cons : (s : HeadState) (b : ℕ) (bytes : List ℕ) → after s (b ∷ bytes) ≡ after (head_step s b) bytes
unfolding after
after-cons s b bytes = refl

pub pieces_state : (s : HeadState) (pieces : List (List ℕ)) → fold after s pieces ≡ after s (concat pieces)
pieces_state s [] = sym (after-nil s)
pieces_state s (piece ∷ pieces) = pieces_state (after s piece) pieces ∙ sym (after-append s piece (concat pieces))

-- ---- ends that stay

-- a state at a place, by that place
at_place : (s : HeadState) (place : HeadPlace) → s.place ≡ place → s ≡ record { place = place; held = s.held }
at_place s place e = ap (λ (p : HeadPlace). record { place = p; held = s.held }) e

whole_stays : (held bytes : List ℕ) → let s : HeadState = record { place = Whole; held = held } in after s bytes ≡ s
unfolding after head_step step_at
whole_stays held [] = refl
whole_stays held (b ∷ bytes) = whole_stays held bytes

refused_stays : (fault : HeadReadFault) (held bytes : List ℕ) → let s : HeadState = record { place = Refused fault; held = held } in after s bytes ≡ s
unfolding after head_step step_at
refused_stays fault held [] = refl
refused_stays fault held (b ∷ bytes) = refused_stays fault held bytes

pub after-Whole : (s : HeadState) (bytes : List ℕ) → s.place ≡ Whole → after s bytes ≡ s
after-Whole s bytes e =
    let at = at_place s Whole e in
    ap (λ (t : HeadState). after t bytes) at ∙ whole_stays s.held bytes ∙ sym at

pub after-Refused : (s : HeadState) (bytes : List ℕ) (fault : HeadReadFault) → s.place ≡ Refused fault → after s bytes ≡ s
after-Refused s bytes fault e =
    let at = at_place s (Refused fault) e in
    ap (λ (t : HeadState). after t bytes) at ∙ refused_stays fault s.held bytes ∙ sym at
