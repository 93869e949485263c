-- The machine over the bytes of a trailer section.
use Rattle.std.proofs.Common.{◌≡◌, ℕ, ◌+◌, ◌<◌, true, false, ltb, List, [], ◌∷◌, ◌++◌, length, refl, sym, ap, ◌∙◌, subst, arith, append_assoc, append-nil, length-append, add-zero, inl, inr}
use Rattle.std.proofs.lemmas.Bool.{cond-true, cond-false, lt-ltb, le-ltb, cases_Bool}
use Rattle.httparse.specs.Ascii.{crlf_bytes}
use Rattle.web_heads.proofs.EndLemmas.{HasNone, HasNone-front}
use Rattle.web_heads.proofs.LastLemmas.{last_of}
use Rattle.web_bodies.specs.declared.fault.BodyFault.TheVariants.{HeadTooLong}
use Rattle.web_bodies.specs.declared.place.BodyPlace.{BodyPlace}
use Rattle.web_bodies.specs.declared.place.BodyPlace.TheVariants.{Trailers, Over, Refused}
use Rattle.web_bodies.specs.declared.place.TrailerPlace.{TrailerPlace}
use Rattle.web_bodies.specs.declared.place.TrailerPlace.TheVariants.{LineStart}
use Rattle.web_bodies.specs.Body.{Body}
use Rattle.web_bodies.specs.Steps.{is_empty_line, trailer_step, trailers_place, step_at, body_step, awaits_payload}
use Rattle.web_bodies.specs.Standard.{HasNoEmptyLine, IsTrailerSection}
use Rattle.web_bodies.proofs.Leads.{Leads, leads_none, leads_one, leads_after_framing}
use Rattle.web_bodies.proofs.TrailerEnds.{StandsAt, StandsAt-crlf, StandsAt-push, HasNone-push, HasNone-IsFirstEnd, IsFirstEnd-empty_line, is_empty_line-IsFirstEnd, is_empty_line-HasNone}

-- in a trailer section of which so many bytes have come
abbrev pub in_trailers : ℕ → TrailerPlace → ℕ → Body
in_trailers taken line count = record { place = Trailers taken line; count = count; line = [] }

framing : (taken : ℕ) (line : TrailerPlace) → awaits_payload (Trailers taken line) ≡ false
unfolding awaits_payload
framing taken line = refl

-- ---- one byte

step-more : (taken : ℕ) (line : TrailerPlace) (count b : ℕ) → is_empty_line line b ≡ false → taken + 1 < 16384
    → body_step (in_trailers taken line count) b ≡ in_trailers (taken + 1) (trailer_step line b) (count + 1)
unfolding body_step step_at trailers_place
step-more taken line count b goes_on short =
    ap (λ (place : BodyPlace). record { place = place; count = count + 1; line = [] })
    (cond-false (is_empty_line line b) Over _ goes_on
    ∙ cond-true (ltb (taken + 1) 16384) (Trailers (taken + 1) (trailer_step line b)) (Refused HeadTooLong) (lt-ltb (taken + 1) 16384 short))

step-over : (taken : ℕ) (line : TrailerPlace) (count b : ℕ) → is_empty_line line b ≡ true
    → body_step (in_trailers taken line count) b ≡ record { place = Over; count = count + 1; line = [] }
unfolding body_step step_at trailers_place
step-over taken line count b ended =
    ap (λ (place : BodyPlace). record { place = place; count = count + 1; line = [] }) (cond-true (is_empty_line line b) Over _ ended)

step-long : (taken : ℕ) (line : TrailerPlace) (count b : ℕ) → is_empty_line line b ≡ false → taken + 1 ≡ 16384
    → body_step (in_trailers taken line count) b ≡ record { place = Refused HeadTooLong; count = count + 1; line = [] }
unfolding body_step step_at trailers_place
step-long taken line count b goes_on full =
    ap (λ (place : BodyPlace). record { place = place; count = count + 1; line = [] })
    (cond-false (is_empty_line line b) Over _ goes_on
    ∙ cond-false (ltb (taken + 1) 16384) (Trailers (taken + 1) (trailer_step line b)) (Refused HeadTooLong) (le-ltb (taken + 1) 16384 (omega arith)))

-- ---- a beginning of a section

-- the machine is in the section, at the place that its last bytes say
pub record InSection (count : ℕ) (trailers : List ℕ) : Type 0 where
  pub line : TrailerPlace
  pub stands : StandsAt (crlf_bytes ++ trailers) line
  pub leads : Leads (in_trailers 0 LineStart count) trailers [] (in_trailers (length trailers) line (count + length trailers))

section_more : (count : ℕ) (front : List ℕ) (b : ℕ) → InSection count front → HasNone (crlf_bytes ++ (front ++ b ∷ [])) → length front + 1 < 16384
    → InSection count (front ++ b ∷ [])
section_more count front b x none short =
    let longer : length front + 1 ≡ length (front ++ b ∷ []) = sym (length-append front (b ∷ [])) in
    let counted : count + length front + 1 ≡ count + length (front ++ b ∷ []) = omega arith in
    let goes_on = is_empty_line-HasNone (crlf_bytes ++ front) x.line b x.stands none in
    record {
      line = trailer_step x.line b;
      stands = StandsAt-push (crlf_bytes ++ front) x.line b x.stands goes_on;
      leads = rw (longer, counted) at
          (leads_after_framing (in_trailers 0 LineStart count) (in_trailers (length front) x.line (count + length front))
          (in_trailers (length front + 1) (trailer_step x.line b) (count + length front + 1)) front (b ∷ []) [] x.leads
          (leads_one (in_trailers (length front) x.line (count + length front)) b
          (in_trailers (length front + 1) (trailer_step x.line b) (count + length front + 1)) (framing (length front) x.line)
          (step-more (length front) x.line (count + length front) b goes_on short)));
    }

section_on : (count : ℕ) (front back : List ℕ) → InSection count front → HasNone (crlf_bytes ++ (front ++ back)) → length (front ++ back) < 16384
    → InSection count (front ++ back)
section_on count front [] x none short = rw (append-nil front) x
section_on count front (b ∷ back) x none short =
    let moved : (front ++ b ∷ []) ++ back ≡ front ++ b ∷ back = append_assoc front (b ∷ []) back in
    let parts = length-append front (b ∷ back) in
    rw moved at (section_on count (front ++ b ∷ []) back
    (section_more count front b x
    (HasNone-front (crlf_bytes ++ (front ++ b ∷ [])) back (rw (← moved) at none))
    (omega arith))
    (rw (← moved) at none) (rw (← moved) at short))

section_none : (count : ℕ) → InSection count []
section_none count = record { line = LineStart; stands = StandsAt-crlf; leads = rw (add-zero count) (leads_none (in_trailers 0 LineStart count)) }

pub section_begun : (count : ℕ) (trailers : List ℕ) → HasNoEmptyLine trailers → length trailers < 16384 → InSection count trailers
section_begun count trailers none short = section_on count [] trailers (section_none count) none short

-- ---- the end of a section

ended_with : (count : ℕ) (front : List ℕ) (b : ℕ) → IsTrailerSection (front ++ b ∷ [])
    → Leads (in_trailers 0 LineStart count) (front ++ b ∷ []) [] (record { place = Over; count = count + length (front ++ b ∷ []); line = [] })
ended_with count front b x =
    let parts = length-append front (b ∷ []) in
    let limit = x.short in
    let short : length front < 16384 = omega arith in
    let counted : count + length front + 1 ≡ count + length (front ++ b ∷ []) = omega arith in
    let run = section_begun count front (HasNone-IsFirstEnd (crlf_bytes ++ front) b x.ends) short in
    rw counted at (leads_after_framing (in_trailers 0 LineStart count) (in_trailers (length front) run.line (count + length front))
    (record { place = Over; count = count + length front + 1; line = [] }) front (b ∷ []) [] run.leads
    (leads_one (in_trailers (length front) run.line (count + length front)) b (record { place = Over; count = count + length front + 1; line = [] })
    (framing (length front) run.line)
    (step-over (length front) run.line (count + length front) b (is_empty_line-IsFirstEnd (crlf_bytes ++ front) run.line b run.stands x.ends))))

pub section_ended : (count : ℕ) (trailers : List ℕ) → IsTrailerSection trailers
    → Leads (in_trailers 0 LineStart count) trailers [] (record { place = Over; count = count + length trailers; line = [] })
section_ended count trailers x =
    let stop = x.ends.stop_is in
    let parts = length-append crlf_bytes trailers in
    let last = last_of trailers (omega arith) in
    let P : List ℕ → Type 0 = λ all. Leads (in_trailers 0 LineStart count) all [] (record { place = Over; count = count + length all; line = [] }) in
    subst P (sym last.bytes_are) (ended_with count last.front last.last (subst IsTrailerSection last.bytes_are x))

-- 16 KiB without an empty line
long_with : (count : ℕ) (front : List ℕ) (b : ℕ) → HasNoEmptyLine (front ++ b ∷ []) → length (front ++ b ∷ []) ≡ 16384
    → Leads (in_trailers 0 LineStart count) (front ++ b ∷ []) []
    (record { place = Refused HeadTooLong; count = count + length (front ++ b ∷ []); line = [] })
long_with count front b none full =
    let parts = length-append front (b ∷ []) in
    let short : length front < 16384 = omega arith in
    let counted : count + length front + 1 ≡ count + length (front ++ b ∷ []) = omega arith in
    let run = section_begun count front (HasNone-front (crlf_bytes ++ front) (b ∷ []) none) short in
    rw counted at (leads_after_framing (in_trailers 0 LineStart count) (in_trailers (length front) run.line (count + length front))
    (record { place = Refused HeadTooLong; count = count + length front + 1; line = [] }) front (b ∷ []) [] run.leads
    (leads_one (in_trailers (length front) run.line (count + length front)) b
    (record { place = Refused HeadTooLong; count = count + length front + 1; line = [] }) (framing (length front) run.line)
    (step-long (length front) run.line (count + length front) b (is_empty_line-HasNone (crlf_bytes ++ front) run.line b run.stands none)
    (omega arith))))

pub section_too_long : (count : ℕ) (trailers : List ℕ) → HasNoEmptyLine trailers → length trailers ≡ 16384
    → Leads (in_trailers 0 LineStart count) trailers [] (record { place = Refused HeadTooLong; count = count + length trailers; line = [] })
section_too_long count trailers none full =
    let last = last_of trailers (omega arith) in
    let P : List ℕ → Type 0 = λ all.
    Leads (in_trailers 0 LineStart count) all [] (record { place = Refused HeadTooLong; count = count + length all; line = [] }) in
    subst P (sym last.bytes_are) (long_with count last.front last.last (subst HasNoEmptyLine last.bytes_are none) (sym (ap length last.bytes_are) ∙ full))

-- ---- whether one byte more ends the section

pub data SectionGoes (trailers : List ℕ) (b : ℕ) : Type 0 where
  goes_on : HasNoEmptyLine (trailers ++ b ∷ []) → SectionGoes trailers b
  ends : IsTrailerSection (trailers ++ b ∷ []) → SectionGoes trailers b

pub section_goes : (trailers : List ℕ) (b : ℕ) → HasNoEmptyLine trailers → length trailers < 16384 → SectionGoes trailers b
section_goes trailers b none short =
    let run = section_begun 0 trailers none short in
    elim (cases_Bool (is_empty_line run.line b)) [
      | inl ended ↦ ends (record {
        ends = IsFirstEnd-empty_line (crlf_bytes ++ trailers) run.line b run.stands ended none;
        short = omega (arith, length-append trailers (b ∷ []));
      })
      | inr not_ended ↦ goes_on (HasNone-push (crlf_bytes ++ trailers) run.line b run.stands not_ended none)
    ]
