-- What the parts of a call take and leave.
use Rattle.std.proofs.Common.{◌≡◌, ℕ, zero, suc, ◌+◌, ◌<◌, ◌≤◌, inl, true, List, [], ◌∷◌, length, take, drop, refl, sym, ap, ◌∙◌, subst, arith, Option, Some, None, Ok, Err, length-take-le, take-append-drop}
use Rattle.std.proofs.lemmas.Bool.{false≢true, both_ways}
use Rattle.std.proofs.lemmas.List.{take-take}
use Rattle.web_heads.specs.declared.fault.HeadFault.{HeadFault}
use Rattle.web_heads.specs.declared.fault.HeadFault.TheVariants as head_fault
use Rattle.web_heads.specs.declared.request.RequestHead.{RequestHead}
use Rattle.web_heads.specs.Requests.{request_head}
use Rattle.web_heads.specs.Fields.{Gives}
use Rattle.web_head_reader.specs.Steps.{HeadState}
use Rattle.web_frames.specs.declared.limits.Side.TheVariants.{Request}
use Rattle.web_frames.specs.declared.status.Trailers.{Trailers}
use Rattle.web_frames.specs.declared.event.FrameEvent.{FrameEvent}
use Rattle.web_frames.specs.declared.event.FrameEvent.TheVariants as event
use Rattle.web_contents.specs.declared.fault.WebFault.{WebFault}
use Rattle.web_contents.specs.declared.fault.WebFault.TheVariants.{OutOfMemory}
use Rattle.web_contents.specs.declared.place.ContentPlace.{ContentPlace}
use Rattle.web_contents.specs.declared.place.ContentPlace.TheVariants as content
use Rattle.web_contents.specs.declared.event.ContentEvent.{ContentEvent}
use Rattle.web_contents.specs.declared.event.ContentEvent.TheVariants as content_event
use Rattle.web_contents.specs.Contents.{Content, place_of}
use Rattle.web_contents.specs.Contents as contents
use Rattle.web_contents.specs.Faults.{fault_of_head}
use Rattle.web_contents.specs.Calls as content_calls
use Rattle.web_contents.specs.Laws as content_laws
use Rattle.web_contents.proofs.Parts as content_parts
use Rattle.web_contents.proofs.Read as content_proofs
use Rattle.web_contents.proofs.Causes.{for_cause}
use Rattle.web_requests.specs.declared.stage.Stage.{Stage}
use Rattle.web_requests.specs.declared.stage.Stage.TheVariants as stage
use Rattle.web_requests.specs.Machine.{RequestState, heading, within, whole, refused, message_after, state_at, state_of, after_head, after}
use Rattle.web_requests.specs.Bounds.{IsBounded}
use Rattle.web_requests.specs.Calls.{IsFaulty, RunsOut, Refuses, is_open, is_within, TakesPart, BeginsBody, view_of, is_head, is_body, HoldsRequest}
use Rattle.web_requests.proofs.Course.{after-append, after-body, after-refused}
use Rattle.web_requests.proofs.Growing.{after-bounded, begin-bounded, few}

laws : content_laws.PiecesJoin
laws = content_proofs.pieces_join

-- ---- the parts of a state within a body

pub record IsInBody (at : Stage) (path message : List ℕ) (c : Content) (s : RequestState) : Type 0 where
  pub stage_is : at ≡ stage.Body
  pub is_open : place_of c ≡ content.Open
  pub state_is : s ≡ state_of path message c

by_place : (path message : List ℕ) (c : Content) (place : ContentPlace) → place_of c ≡ place → is_within (state_at place path message c) ≡ true
    → place_of c ≡ content.Open
by_place path message c content.Open e is = e
by_place path message c content.Over e is = absurd (false≢true is)
by_place path message c (content.Refused fault) e is = absurd (false≢true is)

pub in_body : (at : Stage) (h : HeadState) (path message : List ℕ) (c : Content) (s : RequestState) → view_of at h path message c ≡ s → is_within s ≡ true
    → IsInBody at path message c s
in_body stage.Head h path message c s e is = absurd (both_ways (is_within s) (ap is_within (sym e)) is)
in_body stage.Body h path message c s e is = record {
  stage_is = refl;
  is_open = by_place path message c (place_of c) refl (ap is_within e ∙ is);
  state_is = sym e;
}
in_body (stage.Refused fault) h path message c s e is = absurd (both_ways (is_within s) (ap is_within (sym e)) is)

pub holds_body : (at : Stage) (h : HeadState) (c : Content) → at ≡ stage.Body → IsBounded c → HoldsRequest at h c
holds_body at h c e x = record {
  heading = λ is. absurd (both_ways (is_head at) (ap is_head e) is);
  bounded = λ _. x;
}

-- what a reader in a body is seen as
pub TakesPart_at : (at : Stage) (h : HeadState) (path message : List ℕ) (c : Content) (s : RequestState) (piece : List ℕ) (count : ℕ) → at ≡ stage.Body
    → TakesPart s piece count (state_of path message c) → TakesPart s piece count (view_of at h path message c)
TakesPart_at at h path message c s piece count e x =
    subst (λ (now : Stage). TakesPart s piece count (view_of now h path message c)) (sym e) x

pub Refuses_at : (at : Stage) (h : HeadState) (path message : List ℕ) (c : Content) (s : RequestState) (piece : List ℕ) (fault : WebFault)
    → at ≡ stage.Body → Refuses s piece fault (state_of path message c) → Refuses s piece fault (view_of at h path message c)
Refuses_at at h path message c s piece fault e x =
    subst (λ (now : Stage). Refuses s piece fault (view_of now h path message c)) (sym e) x

-- ---- bytes of the body

-- so many bytes lead to these contents, and tell this
part_taken : (s : RequestState) (path message : List ℕ) (old new : Content) (piece : List ℕ) (most count : ℕ) (told : List FrameEvent)
    → s ≡ state_of path message old → most ≤ length piece → content_calls.Takes old (take most piece) count new → 0 < count
    → contents.events_of old (take count (take most piece)) ≡ told
    → TakesPart s piece count (state_of path (message_after message told) new)
part_taken s path message old new piece most count told s_is fits x some told_is =
    let all = length-take-le most piece fits in
    let within_part = x.within in
    let part = take count (take most piece) in
    let same : part ≡ take count piece = take-take count most piece (omega arith) in
    record {
      some = some;
      fits = omega arith;
      state =
          ap (λ (c : Content). state_of path (message_after message told) c) x.state
          ∙ ap (λ (events : List FrameEvent). state_of path (message_after message events) (contents.after old part)) (sym told_is)
          ∙ sym (after-body laws part path message old)
          ∙ ap (λ (r : RequestState). after r part) (sym s_is)
          ∙ ap (after s) same;
    }

some_told : (c : Content) (count : ℕ) (piece : List ℕ) (first : FrameEvent) → contents.events_of c (take count piece) ≡ first ∷ [] → 0 < count
some_told c zero piece first e = absurd (let none : first ∷ [] ≡ [] = sym e ∙ content_parts.events_of-nil c in cc)
some_told c (suc count) piece first e = omega arith

some_moved : (old new : Content) (count : ℕ) (piece : List ℕ) → new ≡ contents.after old (take count piece) → place_of old ≡ content.Open
    → place_of new ≡ content.Over → 0 < count
some_moved old new zero piece e before now =
    absurd (let other : content.Open ≡ content.Over = sym before ∙ ap place_of (sym (e ∙ content_parts.after-nil old)) ∙ now in cc)
some_moved old new (suc count) piece e before now = omega arith

pub message_taken : (s : RequestState) (path message : List ℕ) (old new : Content) (piece : List ℕ) (most count : ℕ) (payload : List ℕ)
    → s ≡ state_of path message old → most ≤ length piece
    → (told : Option ContentEvent) → told ≡ Some (content_event.Message payload) → content_calls.Gives old (take most piece) count told new
    → TakesPart s piece count (state_of path payload new)
message_taken s path message old new piece most count payload s_is fits told told_is gives =
    let x = subst (λ (o : Option ContentEvent). content_calls.Gives old (take most piece) count o new) told_is gives in
    part_taken s path message old new piece most count (event.Message payload ∷ []) s_is fits x.takes
    (some_told old count (take most piece) (event.Message payload) x.told) x.told

pub trailers_taken : (s : RequestState) (path message : List ℕ) (old new : Content) (piece : List ℕ) (most count : ℕ) (trailers : Trailers)
    → s ≡ state_of path message old → most ≤ length piece
    → (told : Option ContentEvent) → told ≡ Some (content_event.Trailers trailers) → content_calls.Gives old (take most piece) count told new
    → TakesPart s piece count (state_of path message new)
trailers_taken s path message old new piece most count trailers s_is fits told told_is gives =
    let x = subst (λ (o : Option ContentEvent). content_calls.Gives old (take most piece) count o new) told_is gives in
    part_taken s path message old new piece most count (event.Trailers trailers ∷ []) s_is fits x.takes
    (some_told old count (take most piece) (event.Trailers trailers) x.told) x.told

pub end_taken : (s : RequestState) (path message : List ℕ) (old new : Content) (piece : List ℕ) (most count : ℕ)
    → s ≡ state_of path message old → place_of old ≡ content.Open → most ≤ length piece
    → (told : Option ContentEvent) → told ≡ Some content_event.End → content_calls.Gives old (take most piece) count told new
    → TakesPart s piece count (state_of path message new)
end_taken s path message old new piece most count s_is before fits told told_is gives =
    let x = subst (λ (o : Option ContentEvent). content_calls.Gives old (take most piece) count o new) told_is gives in
    part_taken s path message old new piece most count [] s_is fits x.takes
    (some_moved old new count (take most piece) x.takes.state before x.place_is) x.silent

pub all_taken : (s : RequestState) (path message : List ℕ) (old new : Content) (piece : List ℕ) (most count : ℕ)
    → s ≡ state_of path message old → most ≤ length piece → 0 < most
    → (told : Option ContentEvent) → told ≡ None → content_calls.Gives old (take most piece) count told new
    → TakesPart s piece count (state_of path message new)
all_taken s path message old new piece most count s_is fits some told told_is gives =
    let x = subst (λ (o : Option ContentEvent). content_calls.Gives old (take most piece) count o new) told_is gives in
    let all = length-take-le most piece fits in
    let count_is = x.0 in
    part_taken s path message old new piece most count [] s_is fits x.1.takes (omega arith) x.1.silent

pub bounded_taken : (old new : Content) (piece : List ℕ) (count : ℕ) → content_calls.Takes old piece count new → IsBounded old → IsBounded new
bounded_taken old new piece count x bounded = subst IsBounded (sym x.state) (after-bounded laws (take count piece) old bounded)

gives_state : (old new : Content) (piece : List ℕ) (count : ℕ) (told : Option ContentEvent) → content_calls.Gives old piece count told new
    → content_calls.Takes old piece count new
gives_state old new piece count (Some (content_event.Message payload)) x = x.takes
gives_state old new piece count (Some (content_event.Trailers trailers)) x = x.takes
gives_state old new piece count (Some content_event.End) x = x.takes
gives_state old new piece count None x = x.1.takes

-- the invariant after a call that took bytes
pub holds_taken : (at : Stage) (h : HeadState) (path message : List ℕ) (s : RequestState) (old new : Content) (piece : List ℕ) (count : ℕ)
    (told : Option ContentEvent) → IsInBody at path message old s → HoldsRequest at h old → content_calls.Gives old piece count told new
    → HoldsRequest at h new
holds_taken at h path message s old new piece count told x holds gives =
    holds_body at h new x.stage_is
    (bounded_taken old new piece count (gives_state old new piece count told gives) (holds.bounded (ap is_body x.stage_is)))

-- the place in the connection is a number of 64 bits
pub few_taken : (at : Stage) (h : HeadState) (path message : List ℕ) (s : RequestState) (c : Content) (most : ℕ) (piece : List ℕ)
    → IsInBody at path message c s → HoldsRequest at h c → most ≤ length piece → most ≤ 4611686018427387904
    → c.body.count + length (take most piece) < 9223372036854775808
few_taken at h path message s c most piece x holds fits short =
    let count = few c ((holds.bounded (ap is_body x.stage_is)).while_open x.is_open) in
    omega (arith, length-take-le most piece fits)

-- ---- refusals

within_open : (s : RequestState) → is_within s ≡ true → is_open s ≡ true
within_open (heading held) e = refl
within_open (within path message c) e = refl
within_open (whole path message) e = e
within_open (refused fault) e = e

faulty_part : (s : RequestState) (path message : List ℕ) (old new : Content) (piece : List ℕ) (most : ℕ) (fault : WebFault)
    → s ≡ state_of path message old → content_calls.Settles old (take most piece) fault new
    → IsFaulty s piece fault (state_of path message new)
faulty_part s path message old new piece most fault s_is x =
    let part = take most piece in
    let rest = drop most piece in
    let now : state_of path message new ≡ refused fault = ap (λ (p : ContentPlace). state_at p path message new) x.refused in
    let there : after s part ≡ refused fault
    = ap (λ (r : RequestState). after r part) s_is ∙ after-body laws part path message old
    ∙ ap (λ (p : ContentPlace). state_at p path (message_after message (contents.events_of old part)) (contents.after old part)) x.settled in
    record {
      state =
          now ∙ sym (ap (after s) (sym (take-append-drop most piece)) ∙ after-append s part rest ∙ ap (λ (r : RequestState). after r rest) there
          ∙ after-refused fault rest);
      fault_is = now;
    }

pub refuses_part : (s : RequestState) (path message : List ℕ) (old new : Content) (piece : List ℕ) (most : ℕ) (fault : WebFault)
    → s ≡ state_of path message old → is_within s ≡ true → content_calls.Refuses old (take most piece) fault new
    → Refuses s piece fault (state_of path message new)
refuses_part s path message old new piece most fault e before x =
    for_cause (content_calls.Settles old (take most piece) fault new) (place_of new ≡ content.Refused OutOfMemory)
    (IsFaulty s piece fault (state_of path message new)) (RunsOut s (state_of path message new)) fault
    (λ y. faulty_part s path message old new piece most fault e y)
    (λ out y. record { refused_is = ap (λ (p : ContentPlace). state_at p path message new) y; was_open = inl (within_open s before) }) x

-- ---- the body begins

pub begins : (head : List ℕ) (said : RequestHead) (c : Content) → request_head head ≡ Ok said → c ≡ contents.begin Request said.body (length head)
    → length head ≤ 16384 → BeginsBody head (Ok (said.path, c))
begins head said c e is fits = (
  ap (after_head (length head)) e ∙ ap (λ (d : Content). state_of said.path [] d) (sym is),
  subst IsBounded (sym is) (begin-bounded said.body (length head) fits),
)

pub begins_bad : (head : List ℕ) (fault : HeadFault) → Gives {A = RequestHead} (Err fault) (request_head head) → BeginsBody head (Err (fault_of_head fault))
begins_bad head head_fault.TooManyHeaders e = ap (after_head (length head)) e
begins_bad head head_fault.BadHead e = ap (after_head (length head)) e
begins_bad head head_fault.BadMethod e = ap (after_head (length head)) e
begins_bad head head_fault.BadType e = ap (after_head (length head)) e
begins_bad head head_fault.BadLength e = ap (after_head (length head)) e
begins_bad head head_fault.OutOfMemory e = tt
