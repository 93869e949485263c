-- What the machine of answers does with bytes, the standard says of them.
use Rattle.std.proofs.Common.{◌≡◌, ℕ, ◌⊎◌, inl, inr, List, [], ◌∷◌, ◌++◌, length, refl, sym, ap, ◌∙◌, subst, append_assoc, Option, Some, None, Result, Ok, Err}
use Rattle.web_heads.specs.declared.body.BodyKind.{BodyKind}
use Rattle.web_heads.specs.declared.fault.HeadFault.{HeadFault}
use Rattle.web_heads.specs.declared.response.ResponseHead.{ResponseHead}
use Rattle.web_heads.specs.Responses.{response_head}
use Rattle.web_heads.specs.Standard.{ResponseSays}
use Rattle.web_heads.proofs.ResponsesSaid as responses
use Rattle.web_head_reader.specs.Standard.{IsHead, HasHead, HasTooLong}
use Rattle.web_head_reader.specs.Standard as heads
use Rattle.web_head_reader.proofs.Read as heads_read
use Rattle.web_bodies.specs.declared.fault.BodyFault.{BodyFault}
use Rattle.web_bodies.specs.Body.{Body}
use Rattle.web_bodies.specs.Steps as bodies
use Rattle.web_bodies.specs.Standard.{HasBody, HasFault}
use Rattle.web_bodies.specs.Standard as body_words
use Rattle.web_bodies.proofs.Read.{bodies_are_read, bodies_are_one}
use Rattle.web_frames.specs.declared.limits.Side.TheVariants.{Response}
use Rattle.web_frames.specs.declared.status.Trailers.{Trailers}
use Rattle.web_frames.specs.Standard.{IsBytes, ValuesSay}
use Rattle.web_frames.specs.Trailers.{trailers_of}
use Rattle.web_frames.proofs.ReadsLemmas.{All_back}
use Rattle.web_frames.proofs.TrailerLemmas.{trailers_of-ValuesSay, ValuesSay-trailers_of}
use Rattle.web_contents.specs.declared.fault.WebFault.{WebFault}
use Rattle.web_contents.specs.declared.fault.WebFault.TheVariants.{HeadTooLong, AfterTrailers, BadTrailer}
use Rattle.web_contents.specs.Faults.{fault_of_head, fault_of_body}
use Rattle.web_contents.specs.Standard.{HasContent, BeginsContent, HasContentFault}
use Rattle.web_contents.proofs.Given.{Split, split, GoesOn, awaits_open, step_place, after_last, payload_last, has_payload}
use Rattle.web_contents.proofs.Read.{contents_are_one}
use Rattle.web_responses.specs.declared.event.WebEvent.{WebEvent}
use Rattle.web_responses.specs.declared.event.WebEvent.TheVariants as event
use Rattle.web_responses.specs.Standard.{TrailersInHead, HasOpening, frame_events, IsWholeBody, IsBegunBody, IsBareFault, bad_payload, bad_framing, IsFaultyBody, HasAnswer, BeginsAnswer, within_head, within_body, IsAnswerFault, too_long, bad_trailers, faulty_body, HasAnswerFault}
use Rattle.web_responses.specs.Standard as standard

-- what bytes are as an answer
pub data Found (bytes : List ℕ) : Type 0 where
  begun : (told : List WebEvent) → BeginsAnswer bytes told → Found bytes
  whole : (told : List WebEvent) → HasAnswer bytes told → Found bytes
  refused : (told : List WebEvent) (fault : WebFault) → HasAnswerFault bytes told fault → Found bytes

-- ---- bodies

-- what the bytes behind a head are
data BodyFound (opens : Option Trailers) (kind : BodyKind) (at : ℕ) (bytes : List ℕ) : Type 0 where
  begun_body : (more : List WebEvent) → IsBegunBody opens kind bytes more → BodyFound opens kind at bytes
  whole_body : (more : List WebEvent) → IsWholeBody opens kind bytes more → BodyFound opens kind at bytes
  faulty : (settled rest : List ℕ) (more : List WebEvent) (fault : WebFault) → bytes ≡ settled ++ rest → IsFaultyBody opens kind at settled more fault
      → BodyFound opens kind at bytes

frames_found : (kind : BodyKind) (at : ℕ) (bytes : List ℕ)
    → ((messages : List (List ℕ)) × (trailers : Option Trailers) × BeginsContent Response kind bytes messages trailers)
    ⊎ (((messages : List (List ℕ)) × (trailers : Option Trailers) × HasContent Response kind bytes messages trailers)
    ⊎ ((messages : List (List ℕ)) × (trailers : Option Trailers) × (fault : WebFault) × HasContentFault Response kind at bytes messages trailers fault))
    → BodyFound None kind at bytes
frames_found kind at bytes (inl (messages, trailers, x)) = begun_body (frame_events messages trailers) (messages, trailers, x, refl)
frames_found kind at bytes (inr (inl (messages, trailers, x))) = whole_body (frame_events messages trailers) (messages, trailers, x, refl)
frames_found kind at bytes (inr (inr (messages, trailers, fault, x))) =
    faulty x.settled x.rest (frame_events messages trailers) fault x.bytes_are (messages, trailers, x.is_fault, refl)

-- a byte of payload is the fault of a body that may have none
payload_found : (trailers : Trailers) (kind : BodyKind) (at : ℕ) (bytes : List ℕ) (b : ℕ) → Split (bodies.begin kind at) bytes [] b
    → BodyFound (Some trailers) kind at bytes
payload_found trailers kind at bytes b x =
    let settled = x.before ++ b ∷ [] in
    let going = step_place (bodies.after (bodies.begin kind at) x.before) b x.awaits in
    faulty settled x.behind (event.Trailers trailers ∷ []) AfterTrailers (x.bytes_are ∙ sym (append_assoc x.before (b ∷ []) x.behind)) (
      bad_payload x.before b refl
          ((bodies_are_read.begun kind at x.before []).1 (awaits_open (bodies.after (bodies.begin kind at) x.before).place x.awaits, x.payload_is))
          (has_payload kind at settled (b ∷ []) (subst (λ (c : Body). GoesOn c.place) (sym (after_last (bodies.begin kind at) x.before b)) going)
          (payload_last (bodies.begin kind at) x.before b x.awaits ∙ ap (λ (p : List ℕ). p ++ b ∷ []) x.payload_is)) refl,
      refl,
    )

bare_begun : (trailers : Trailers) (kind : BodyKind) (at : ℕ) (bytes payload : List ℕ) → body_words.IsBegun kind bytes payload → BodyFound (Some trailers) kind at bytes
bare_begun trailers kind at bytes [] x = begun_body (event.Trailers trailers ∷ []) (x, refl)
bare_begun trailers kind at bytes (b ∷ payload) x =
    payload_found trailers kind at bytes b (split (bodies.begin kind at) bytes [] payload b ((bodies_are_read.begun kind at bytes (b ∷ payload)).0 x).1)

bare_whole : (trailers : Trailers) (kind : BodyKind) (at : ℕ) (bytes payload : List ℕ) → HasBody kind bytes payload → BodyFound (Some trailers) kind at bytes
bare_whole trailers kind at bytes [] x = whole_body (event.Trailers trailers ∷ []) (x, refl)
bare_whole trailers kind at bytes (b ∷ payload) x =
    payload_found trailers kind at bytes b (split (bodies.begin kind at) bytes [] payload b ((bodies_are_read.over kind at bytes (b ∷ payload)).0 x).1)

bare_fault : (trailers : Trailers) (kind : BodyKind) (at : ℕ) (bytes payload : List ℕ) (found : BodyFault) → HasFault kind at bytes payload found
    → BodyFound (Some trailers) kind at bytes
bare_fault trailers kind at bytes [] found x =
    faulty x.settled x.rest (event.Trailers trailers ∷ []) (fault_of_body found) x.bytes_are (bad_framing found x.is_fault refl, refl)
bare_fault trailers kind at bytes (b ∷ payload) found x =
    payload_found trailers kind at bytes b (split (bodies.begin kind at) bytes [] payload b ((bodies_are_read.refused kind at bytes (b ∷ payload) found).0 x).1)

bare_found : (trailers : Trailers) (kind : BodyKind) (at : ℕ) (bytes : List ℕ)
    → ((payload : List ℕ) × body_words.IsBegun kind bytes payload)
    ⊎ (((payload : List ℕ) × HasBody kind bytes payload) ⊎ ((payload : List ℕ) × (fault : BodyFault) × HasFault kind at bytes payload fault))
    → BodyFound (Some trailers) kind at bytes
bare_found trailers kind at bytes (inl (payload, x)) = bare_begun trailers kind at bytes payload x
bare_found trailers kind at bytes (inr (inl (payload, x))) = bare_whole trailers kind at bytes payload x
bare_found trailers kind at bytes (inr (inr (payload, fault, x))) = bare_fault trailers kind at bytes payload fault x

body_found : (opens : Option Trailers) (kind : BodyKind) (at : ℕ) (bytes : List ℕ) → IsBytes bytes → BodyFound opens kind at bytes
body_found None kind at bytes all = frames_found kind at bytes (contents_are_one.some Response kind at bytes all)
body_found (Some trailers) kind at bytes all = bare_found trailers kind at bytes (bodies_are_one.some kind at bytes)

-- ---- behind a right head

found_behind : (bytes head rest : List ℕ) (r : ResponseHead) (opens : Option Trailers) → HasOpening bytes head rest r opens
    → BodyFound opens r.body (length head) rest → Found bytes
found_behind bytes head rest r opens opening (begun_body more x) =
    begun (event.Head r.status ∷ more)
    (within_body (record { head = head; rest = rest; r = r; trailers = opens; more = more; opening = opening; body = x; told_is = refl }))
found_behind bytes head rest r opens opening (whole_body more x) =
    whole (event.Head r.status ∷ more ++ event.End ∷ [])
    (record { head = head; rest = rest; r = r; trailers = opens; more = more; opening = opening; body = x; told_is = refl })
found_behind bytes head rest r opens opening (faulty settled behind more fault e x) =
    refused (event.Head r.status ∷ more) fault (record {
      settled = head ++ settled;
      rest = behind;
      bytes_are = opening.bytes_are ∙ ap (λ (b : List ℕ). head ++ b) e ∙ sym (append_assoc head settled behind);
      is_fault = faulty_body (record {
        head = head;
        rest = settled;
        r = r;
        trailers = opens;
        more = more;
        opening = record { bytes_are = refl; is_head = opening.is_head; says = opening.says; in_head = opening.in_head };
        body = x;
        told_is = refl;
      });
    })

-- ---- heads

-- what a whole head is
refused_head : (bytes head rest : List ℕ) (fault : WebFault) → bytes ≡ head ++ rest → IsAnswerFault head [] fault → Found bytes
refused_head bytes head rest fault e x = refused [] fault (record { settled = head; rest = rest; bytes_are = e; is_fault = x })

no_trailers : (status : List ℕ) (message : Option (List ℕ)) → trailers_of status message ≡ None → (trailers : Trailers) → ¬ (ValuesSay status message trailers)
no_trailers status message none trailers says = let some = trailers_of-ValuesSay status message trailers says in absurd (cc)

found_status : (bytes head rest : List ℕ) (r : ResponseHead) (status : List ℕ) (read : Option Trailers) → IsBytes rest → bytes ≡ head ++ rest → IsHead head
    → ResponseSays head (Ok r) → r.grpc_status ≡ Some status → trailers_of status r.grpc_message ≡ read → Found bytes
found_status bytes head rest r status None all e is says stands none =
    refused_head bytes head rest BadTrailer e
    (bad_trailers (record {
      r = r;
      status = status;
      is_head = is;
      says = says;
      status_is = stands;
      wrong = no_trailers status r.grpc_message none;
    }) refl refl)
found_status bytes head rest r status (Some trailers) all e is says stands some =
    found_behind bytes head rest r (Some trailers)
    (record { bytes_are = e; is_head = is; says = says; in_head = (status, stands, ValuesSay-trailers_of status r.grpc_message trailers some) })
    (body_found (Some trailers) r.body (length head) rest all)

found_right : (bytes head rest : List ℕ) (r : ResponseHead) (status : Option (List ℕ)) → IsBytes rest → bytes ≡ head ++ rest → IsHead head
    → ResponseSays head (Ok r) → r.grpc_status ≡ status → Found bytes
found_right bytes head rest r None all e is says none =
    found_behind bytes head rest r None (record { bytes_are = e; is_head = is; says = says; in_head = none })
    (body_found None r.body (length head) rest all)
found_right bytes head rest r (Some status) all e is says stands =
    found_status bytes head rest r status (trailers_of status r.grpc_message) all e is says stands refl

found_head : (bytes head rest : List ℕ) (answer : Result ResponseHead HeadFault) → IsBytes rest → bytes ≡ head ++ rest → IsHead head
    → ResponseSays head answer → Found bytes
found_head bytes head rest (Ok r) all e is says = found_right bytes head rest r r.grpc_status all e is says refl
found_head bytes head rest (Err fault) all e is says =
    refused_head bytes head rest (fault_of_head fault) e (standard.bad_head fault is says refl refl)

found_by : (bytes : List ℕ) → IsBytes bytes → heads.IsBegun bytes ⊎ (((head : List ℕ) × HasHead bytes head) ⊎ HasTooLong bytes) → Found bytes
found_by bytes all (inl x) = begun [] (within_head x refl)
found_by bytes all (inr (inl (head, x))) =
    found_head bytes head x.rest (response_head head) (All_back head x.rest (subst IsBytes x.bytes_are all)) x.bytes_are x.is_head (responses.sound head)
found_by bytes all (inr (inr x)) =
    refused [] HeadTooLong (record { settled = x.settled; rest = x.rest; bytes_are = x.bytes_are; is_fault = too_long x.too_long refl refl })

pub found : (bytes : List ℕ) → IsBytes bytes → Found bytes
found bytes all = found_by bytes all (heads_read.heads_are_one.some bytes)
