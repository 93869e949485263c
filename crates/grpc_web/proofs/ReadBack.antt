-- An answer that is written is read back.
use Rattle.std.proofs.Common.{◌≡◌, ℕ, ◌<◌, List, [], ◌∷◌, ◌++◌, map, fold, refl, sym, ap, ◌∙◌, append_assoc, append-nil, Some, None}
use Rattle.std.specs.List.{All, concat}
use Rattle.std.proofs.lemmas.List.Elements.{All-nil, All-append}
use Rattle.web_frames.specs.declared.status.Trailers.{Trailers}
use Rattle.web_frames.specs.Standard.{IsBytes}
use Rattle.web_contents.specs.declared.place.ContentPlace.TheVariants.{Over}
use Rattle.web_responses.specs.declared.event.WebEvent.{WebEvent}
use Rattle.web_responses.specs.declared.event.WebEvent.TheVariants as event
use Rattle.web_responses.specs.Answers.{begin, after, events_of, standing, answer_in}
use Rattle.web_responses.specs.Standard.{HasAnswer, frame_events}
use Rattle.web_responses.specs.Laws.{events_of_pieces}
use Rattle.web_responses.proofs.Read as answers
use Rattle.web_writers.specs.Responses.{head_text, body_bytes, answer_bytes, MayBeWritten}
use Rattle.web_writers.proofs.Responses.{responses_are_said}
use Rattle.grpc_web.specs.Laws.{answer_events, AnswersAreReadBack}
use Rattle.grpc_web.proofs.Bytes.{answer_bytes-bytes}

events_joined : (messages : List (List ℕ)) (trailers : Trailers)
    → answer_events messages trailers ≡ event.Head 200 ∷ frame_events messages (Some trailers) ++ event.End ∷ []
events_joined messages trailers =
    ap (λ (rest : List WebEvent). event.Head 200 ∷ rest) (sym (append_assoc (map event.Message messages) (event.Trailers trailers ∷ []) (event.End ∷ [])))

said : (messages : List (List ℕ)) (trailers : Trailers) (rest : List ℕ) → MayBeWritten messages trailers
    → HasAnswer (answer_bytes messages trailers ++ rest) (answer_events messages trailers)
unfolding answer_bytes
said messages trailers rest x = record {
  head = head_text;
  rest = body_bytes messages trailers ++ rest;
  r = _;
  trailers = None;
  more = frame_events messages (Some trailers);
  opening = record {
    bytes_are = append_assoc head_text (body_bytes messages trailers) rest;
    is_head = responses_are_said.is_head;
    says = responses_are_said.head;
    in_head = refl;
  };
  body = (messages, Some trailers, responses_are_said.body messages trailers rest x, refl);
  told_is = events_joined messages trailers;
}

pub read_back : (messages : List (List ℕ)) (trailers : Trailers) (rest : List ℕ) → MayBeWritten messages trailers → All IsBytes messages → IsBytes rest
    → ((answer_in (answer_bytes messages trailers ++ rest)).place ≡ Over)
    × ((answer_in (answer_bytes messages trailers ++ rest)).told ≡ answer_events messages trailers)
read_back messages trailers rest x all others =
    (answers.answers_are_read.whole (answer_bytes messages trailers ++ rest) (answer_events messages trailers)
    (All-append (λ b. b < 256) (answer_bytes messages trailers) rest (answer_bytes-bytes messages trailers x all) others)).0
    (said messages trailers rest x)

-- what bytes say, as the machine
pub place_of : (bytes : List ℕ) → (answer_in bytes).place ≡ standing (after begin bytes)
unfolding answer_in
place_of bytes = refl

pub told_of : (bytes : List ℕ) → (answer_in bytes).told ≡ events_of begin bytes
unfolding answer_in
told_of bytes = refl

in_pieces : (messages : List (List ℕ)) (trailers : Trailers) (pieces : List (List ℕ)) → MayBeWritten messages trailers → All IsBytes messages
    → concat pieces ≡ answer_bytes messages trailers
    → (standing (fold after begin pieces) ≡ Over) × (events_of_pieces begin pieces ≡ answer_events messages trailers)
in_pieces messages trailers pieces x all e =
    let bytes = answer_bytes messages trailers in
    let found = read_back messages trailers [] x all (All-nil (λ b. b < 256)) in
    let whole = ap (λ (b : List ℕ). (answer_in b).place) (sym (append-nil bytes)) ∙ found.0 in
    let told = ap (λ (b : List ℕ). (answer_in b).told) (sym (append-nil bytes)) ∙ found.1 in (
      ap standing (answers.pieces_join.state begin pieces ∙ ap (after begin) e) ∙ sym (place_of bytes) ∙ whole,
      answers.pieces_join.told begin pieces ∙ ap (events_of begin) e ∙ sym (told_of bytes) ∙ told,
    )

pub answers_are_read_back : AnswersAreReadBack
answers_are_read_back = record { said = said; read_back = read_back; in_pieces = in_pieces }
