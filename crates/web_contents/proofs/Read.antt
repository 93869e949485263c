-- The laws of contents, for all bytes.
use Rattle.std.proofs.Common.{◌≡◌, ℕ, ◌⊎◌, inl, inr, List, [], ◌∷◌, ◌++◌, refl, sym, ◌∙◌, subst, Option}
use Rattle.web_heads.specs.declared.body.BodyKind.{BodyKind}
use Rattle.web_frames.specs.declared.limits.Side.{Side}
use Rattle.web_frames.specs.declared.status.Trailers.{Trailers}
use Rattle.web_frames.specs.declared.event.FrameEvent.{FrameEvent}
use Rattle.web_frames.specs.Standard.{IsBytes, events}
use Rattle.web_frames.proofs.LawLemmas.{same_events}
use Rattle.web_contents.specs.declared.fault.WebFault.{WebFault}
use Rattle.web_contents.specs.declared.place.ContentPlace.{ContentPlace}
use Rattle.web_contents.specs.declared.place.ContentPlace.TheVariants.{Open, Over, Refused}
use Rattle.web_contents.specs.Contents.{place_of, after, events_of, begin}
use Rattle.web_contents.specs.Standard.{HasContent, BeginsContent, IsContentFault, HasContentFault}
use Rattle.web_contents.specs.Laws.{ContentsAreRead, ContentsAreOne, EndsAreFirst, PiecesJoin}
use Rattle.web_contents.proofs.Parts.{after-append, events_of-append, fold-after, events_of_pieces-concat}
use Rattle.web_contents.proofs.Places.{over-stays, refused-stays}
use Rattle.web_contents.proofs.Told.{Does, begun_told, whole_told, fault_told, refused_told}
use Rattle.web_contents.proofs.Given.{given_begun, given_whole, given_refused}
use Rattle.web_contents.proofs.Ends.{before_whole, before_fault}

pub pieces_join : PiecesJoin
pieces_join = record {
  state = fold-after;
  told = events_of_pieces-concat;
  two = λ c first second. (after-append c first second, events_of-append c first second);
  ended = over-stays;
  refused = refused-stays;
}

-- ---- one list of messages and trailers

-- what holds of the messages and trailers that are told, holds of those that are the same events
moved : (P : List (List ℕ) → Option Trailers → Type 0) (messages others : List (List ℕ)) (trailers other : Option Trailers) (told : List FrameEvent)
    → told ≡ events messages trailers → told ≡ events others other → P messages trailers → P others other
moved P messages others trailers other told e f x =
    let same = same_events messages others trailers other (sym e ∙ f) in
    subst (P others) same.1 (subst (λ (m : List (List ℕ)). P m trailers) same.0 x)

module _ (side : Side) (kind : BodyKind) (at : ℕ) (bytes : List ℕ) (messages : List (List ℕ)) (trailers : Option Trailers) (all : IsBytes bytes) where
  begun_given : Does side kind at bytes Open (events messages trailers) → BeginsContent side kind bytes messages trailers
  begun_given x =
      let y = given_begun side kind at bytes all x.0 in
      moved (BeginsContent side kind bytes) y.messages messages y.trailers trailers (events_of (begin side kind at) bytes)
      (begun_told side kind at bytes y.messages y.trailers y.is).1 x.1 y.is

  whole_given : Does side kind at bytes Over (events messages trailers) → HasContent side kind bytes messages trailers
  whole_given x =
      let y = given_whole side kind at bytes all x.0 in
      moved (HasContent side kind bytes) y.messages messages y.trailers trailers (events_of (begin side kind at) bytes)
      (whole_told side kind at bytes y.messages y.trailers y.is).1 x.1 y.is

  refused_given : (fault : WebFault) → Does side kind at bytes (Refused fault) (events messages trailers)
      → HasContentFault side kind at bytes messages trailers fault
  refused_given fault x =
      let y = given_refused side kind at bytes all fault x.0 in
      moved (λ m t. HasContentFault side kind at bytes m t fault) y.messages messages y.trailers trailers (events_of (begin side kind at) bytes)
      (refused_told side kind at bytes y.messages y.trailers fault y.is).1 x.1 y.is

pub contents_are_read : ContentsAreRead
contents_are_read = record {
  begun = λ side kind at bytes messages trailers all.
      (begun_told side kind at bytes messages trailers, begun_given side kind at bytes messages trailers all);
  whole = λ side kind at bytes messages trailers all.
      (whole_told side kind at bytes messages trailers, whole_given side kind at bytes messages trailers all);
  refused = λ side kind at bytes messages trailers fault all.
      (refused_told side kind at bytes messages trailers fault, refused_given side kind at bytes messages trailers all fault);
}

-- ---- one reading

some_by : (side : Side) (kind : BodyKind) (at : ℕ) (bytes : List ℕ) → IsBytes bytes → (place : ContentPlace)
    → place_of (after (begin side kind at) bytes) ≡ place →
    ((messages : List (List ℕ)) × (trailers : Option Trailers) × BeginsContent side kind bytes messages trailers)
    ⊎ (((messages : List (List ℕ)) × (trailers : Option Trailers) × HasContent side kind bytes messages trailers)
    ⊎ ((messages : List (List ℕ)) × (trailers : Option Trailers) × (fault : WebFault) × HasContentFault side kind at bytes messages trailers fault))
some_by side kind at bytes all Open e = let y = given_begun side kind at bytes all e in inl (y.messages, y.trailers, y.is)
some_by side kind at bytes all Over e = let y = given_whole side kind at bytes all e in inr (inl (y.messages, y.trailers, y.is))
some_by side kind at bytes all (Refused fault) e =
    let y = given_refused side kind at bytes all fault e in inr (inr (y.messages, y.trailers, fault, y.is))

-- two beginnings of the same bytes are one, or one is a beginning of the other
pub data Fronts (first second : List ℕ) : Type 0 where
  same : first ≡ second → Fronts first second
  shorter : (b : ℕ) (back : List ℕ) → second ≡ first ++ b ∷ back → Fronts first second
  longer : (b : ℕ) (back : List ℕ) → first ≡ second ++ b ∷ back → Fronts first second

fronts_more : (b c : ℕ) (first second : List ℕ) → b ≡ c → Fronts first second → Fronts (b ∷ first) (c ∷ second)
fronts_more b c first second e (same f) = same (cc)
fronts_more b c first second e (shorter d back f) = shorter d back (cc)
fronts_more b c first second e (longer d back f) = longer d back (cc)

pub fronts : (first rest second others : List ℕ) → first ++ rest ≡ second ++ others → Fronts first second
fronts [] rest [] others e = same refl
fronts [] rest (b ∷ second) others e = shorter b second refl
fronts (b ∷ first) rest [] others e = longer b first refl
fronts (b ∷ first) rest (c ∷ second) others e =
    let one : b ≡ c = cc in
    let tails : first ++ rest ≡ second ++ others = cc in
    fronts_more b c first second one (fronts first rest second others tails)

-- a proper beginning of what settles a fault settles none
no_earlier : (side : Side) (kind : BodyKind) (at : ℕ) (front : List ℕ) (b : ℕ) (back bytes : List ℕ) (messages others : List (List ℕ))
    (trailers other : Option Trailers) (fault wrong : WebFault) → bytes ≡ front ++ b ∷ back → IsContentFault side kind at front messages trailers fault
    → IsContentFault side kind at bytes others other wrong → ⊥
no_earlier side kind at front b back bytes messages others trailers other fault wrong e first second =
    let there : place_of (after (begin side kind at) front) ≡ Open =
    before_fault side kind at front b back others other wrong (subst (λ (s : List ℕ). IsContentFault side kind at s others other wrong) e second) in
    let refused = (fault_told side kind at front messages trailers fault first).0 in
    cc

same_settled : (side : Side) (kind : BodyKind) (at : ℕ) (first second : List ℕ) (messages others : List (List ℕ))
    (trailers other : Option Trailers) (fault wrong : WebFault) → IsContentFault side kind at first messages trailers fault
    → IsContentFault side kind at second others other wrong → Fronts first second → first ≡ second
same_settled side kind at first second messages others trailers other fault wrong x y (same e) = e
same_settled side kind at first second messages others trailers other fault wrong x y (shorter b back e) =
    absurd (no_earlier side kind at first b back second messages others trailers other fault wrong e x y)
same_settled side kind at first second messages others trailers other fault wrong x y (longer b back e) =
    absurd (no_earlier side kind at second b back first others messages other trailers wrong fault e y x)

pub open_not_over : (place : ContentPlace) → place ≡ Open → place ≡ Over → ⊥
open_not_over place e f = cc

pub open_not_refused : (place : ContentPlace) (fault : WebFault) → place ≡ Open → place ≡ Refused fault → ⊥
open_not_refused place fault e f = cc

pub over_not_refused : (place : ContentPlace) (fault : WebFault) → place ≡ Over → place ≡ Refused fault → ⊥
over_not_refused place fault e f = cc

pub one_refusal : (place : ContentPlace) (fault wrong : WebFault) → place ≡ Refused fault → place ≡ Refused wrong → fault ≡ wrong
one_refusal place fault wrong e f = cc

one_fault : (side : Side) (kind : BodyKind) (at : ℕ) (bytes : List ℕ) (messages others : List (List ℕ)) (trailers other : Option Trailers)
    (fault wrong : WebFault) (first : HasContentFault side kind at bytes messages trailers fault)
    (second : HasContentFault side kind at bytes others other wrong)
    → (messages ≡ others) × (trailers ≡ other) × (fault ≡ wrong) × (first.settled ≡ second.settled)
one_fault side kind at bytes messages others trailers other fault wrong first second =
    let x = refused_told side kind at bytes messages trailers fault first in
    let y = refused_told side kind at bytes others other wrong second in
    let told = same_events messages others trailers other (sym x.1 ∙ y.1) in (
      told.0,
      told.1,
      one_refusal (place_of (after (begin side kind at) bytes)) fault wrong x.0 y.0,
      same_settled side kind at first.settled second.settled messages others trailers other fault wrong first.is_fault second.is_fault
          (fronts first.settled first.rest second.settled second.rest (sym first.bytes_are ∙ second.bytes_are)),
    )

pub contents_are_one : ContentsAreOne
contents_are_one = record {
  some = λ side kind at bytes all. some_by side kind at bytes all (place_of (after (begin side kind at) bytes)) refl;
  begun_not_whole = λ side kind bytes messages others trailers other x y.
      open_not_over (place_of (after (begin side kind 0) bytes)) (begun_told side kind 0 bytes messages trailers x).0
      (whole_told side kind 0 bytes others other y).0;
  begun_not_refused = λ side kind at bytes messages others trailers other fault x y.
      open_not_refused (place_of (after (begin side kind at) bytes)) fault (begun_told side kind at bytes messages trailers x).0
      (refused_told side kind at bytes others other fault y).0;
  whole_not_refused = λ side kind at bytes messages others trailers other fault x y.
      over_not_refused (place_of (after (begin side kind at) bytes)) fault (whole_told side kind at bytes messages trailers x).0
      (refused_told side kind at bytes others other fault y).0;
  one_beginning = λ side kind bytes messages others trailers other x y.
      same_events messages others trailers other (sym (begun_told side kind 0 bytes messages trailers x).1 ∙ (begun_told side kind 0 bytes others other y).1);
  one_content = λ side kind bytes messages others trailers other x y.
      same_events messages others trailers other (sym (whole_told side kind 0 bytes messages trailers x).1 ∙ (whole_told side kind 0 bytes others other y).1);
  one_fault = one_fault;
}

-- ---- ends are first

whole_first : (side : Side) (kind : BodyKind) (bytes : List ℕ) (messages : List (List ℕ)) (trailers : Option Trailers)
    (found : HasContent side kind bytes messages trailers) (front : List ℕ) (b : ℕ) (back : List ℕ) → IsBytes front
    → found.body.body ≡ front ++ b ∷ back → (before : List (List ℕ)) × (earlier : Option Trailers) × BeginsContent side kind front before earlier
whole_first side kind bytes messages trailers found front b back all e =
    let y = given_begun side kind 0 front all (before_whole side kind 0 bytes messages trailers found front b back e) in (y.messages, y.trailers, y.is)

fault_first : (side : Side) (kind : BodyKind) (at : ℕ) (front : List ℕ) (b : ℕ) (back : List ℕ) (messages : List (List ℕ)) (trailers : Option Trailers)
    (fault : WebFault) → IsBytes front → IsContentFault side kind at (front ++ b ∷ back) messages trailers fault
    → (before : List (List ℕ)) × (earlier : Option Trailers) × BeginsContent side kind front before earlier
fault_first side kind at front b back messages trailers fault all x =
    let y = given_begun side kind at front all (before_fault side kind at front b back messages trailers fault x) in (y.messages, y.trailers, y.is)

pub ends_are_first : EndsAreFirst
ends_are_first = record { whole = whole_first; refused = fault_first }
