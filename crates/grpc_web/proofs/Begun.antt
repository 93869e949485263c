-- An answer that is still being written.
use Rattle.std.proofs.Common.{◌≡◌, ◌≢◌, ◌<◌, ◌≤◌, ℕ, List, [], ◌∷◌, ◌++◌, ◌⊎◌, inl, inr, length, map, fold, refl, sym, ap, ◌∙◌, subst, append-nil, None}
use Rattle.std.specs.List.{All, concat, flat_map}
use Rattle.std.proofs.lemmas.List.Elements.{All-nil, All-append}
use Rattle.web_head_reader.specs.Standard.{IsHead}
use Rattle.web_head_reader.proofs.Read as heads
use Rattle.web_frames.specs.declared.status.Trailers.{Trailers}
use Rattle.web_frames.specs.Standard.{IsBytes}
use Rattle.web_frames.proofs.ReadsLemmas.{All_front, All_back}
use Rattle.web_contents.specs.declared.place.ContentPlace.TheVariants.{Open}
use Rattle.web_responses.specs.declared.event.WebEvent.{WebEvent}
use Rattle.web_responses.specs.declared.event.WebEvent.TheVariants as event
use Rattle.web_responses.specs.Answers.{begin, after, events_of, standing, answer_in}
use Rattle.web_responses.specs.Standard.{BeginsAnswer, within_head, within_body, frame_events}
use Rattle.web_responses.specs.Laws.{events_of_pieces}
use Rattle.web_responses.proofs.Read as answers
use Rattle.web_responses.proofs.Runs.{events_of-append}
use Rattle.web_writers.specs.Responses.{head_text, message_bytes, body_bytes, answer_bytes, MayBeWritten}
use Rattle.web_writers.proofs.Responses.{responses_are_said}
use Rattle.grpc_web.specs.Laws.{answer_events, begun_events, AnswersAreBegun}
use Rattle.grpc_web.proofs.Bytes.{head_bytes, messages_bytes, answer_bytes-bytes}
use Rattle.grpc_web.proofs.ReadBack.{read_back, place_of, told_of}

-- ---- the head and some messages

events_begun : (messages : List (List ℕ)) → begun_events messages ≡ event.Head 200 ∷ frame_events messages None
events_begun messages = ap (λ (rest : List WebEvent). event.Head 200 ∷ rest) (sym (append-nil (map event.Message messages)))

said : (messages : List (List ℕ)) → All (λ message. length message ≤ 16777216) messages
    → BeginsAnswer (head_text ++ flat_map message_bytes messages) (begun_events messages)
said messages each = within_body (record {
  head = head_text;
  rest = flat_map message_bytes messages;
  r = _;
  trailers = None;
  more = frame_events messages None;
  opening = record {
    bytes_are = refl;
    is_head = responses_are_said.is_head;
    says = responses_are_said.head;
    in_head = refl;
  };
  body = (messages, None, responses_are_said.begun messages each, refl);
  told_is = events_begun messages;
})

begun_read : (messages : List (List ℕ)) → All (λ message. length message ≤ 16777216) messages → All IsBytes messages
    → ((answer_in (head_text ++ flat_map message_bytes messages)).place ≡ Open)
    × ((answer_in (head_text ++ flat_map message_bytes messages)).told ≡ begun_events messages)
begun_read messages each all =
    (answers.answers_are_read.begun (head_text ++ flat_map message_bytes messages) (begun_events messages)
    (All-append (λ b. b < 256) head_text (flat_map message_bytes messages) head_bytes (messages_bytes messages each all))).0 (said messages each)

in_pieces : (messages pieces : List (List ℕ)) → All (λ message. length message ≤ 16777216) messages → All IsBytes messages
    → concat pieces ≡ head_text ++ flat_map message_bytes messages
    → (standing (fold after begin pieces) ≡ Open) × (events_of_pieces begin pieces ≡ begun_events messages)
in_pieces messages pieces each all e =
    let bytes = head_text ++ flat_map message_bytes messages in
    let found = begun_read messages each all in (
      ap standing (answers.pieces_join.state begin pieces ∙ ap (after begin) e) ∙ sym (place_of bytes) ∙ found.0,
      answers.pieces_join.told begin pieces ∙ ap (events_of begin) e ∙ sym (told_of bytes) ∙ found.1,
    )

-- ---- a whole answer without some of its last bytes

-- the front of two texts reaches into the second, or ends within the first
split : (first front back second : List ℕ) → front ++ back ≡ first ++ second
    → ((more : List ℕ) × (front ≡ first ++ more) × (more ++ back ≡ second)) ⊎ ((b : ℕ) × (rest : List ℕ) × (first ≡ front ++ b ∷ rest))
split [] front back second e = inl (front, refl, e)
split (x ∷ first) [] back second e = inr (x, first, refl)
split (x ∷ first) (y ∷ front) back second e =
    let same : y ≡ x = cc in
    let rest : front ++ back ≡ first ++ second = cc in
    longer (split first front back second rest) same
  where
    longer : ((more : List ℕ) × (front ≡ first ++ more) × (more ++ back ≡ second)) ⊎ ((b : ℕ) × (rest : List ℕ) × (first ≡ front ++ b ∷ rest)) → y ≡ x
        → ((more : List ℕ) × (y ∷ front ≡ x ∷ first ++ more) × (more ++ back ≡ second))
        ⊎ ((b : ℕ) × (rest : List ℕ) × (x ∷ first ≡ y ∷ front ++ b ∷ rest))
    longer (inl (more, e, s)) same = inl (more, (let both : y ∷ front ≡ x ∷ first ++ more = cc in both), s)
    longer (inr (b, rest, e)) same = inr (b, rest, (let both : x ∷ first ≡ y ∷ front ++ b ∷ rest = cc in both))

-- such a front, in either part
begins_by : (messages : List (List ℕ)) (trailers : Trailers) (front back : List ℕ) → MayBeWritten messages trailers → IsBytes front → back ≢ []
    → ((more : List ℕ) × (front ≡ head_text ++ more) × (more ++ back ≡ body_bytes messages trailers))
    ⊎ ((b : ℕ) × (rest : List ℕ) × (head_text ≡ front ++ b ∷ rest))
    → (told : List WebEvent) × BeginsAnswer front told
begins_by messages trailers front back x all some (inl (more, e, joined)) =
    let found = responses_are_said.cut_off messages trailers more back x (later_bytes (subst IsBytes e all)) some joined in (
      event.Head 200 ∷ frame_events found.0 found.1,
      within_body (record {
        head = head_text;
        rest = more;
        r = _;
        trailers = None;
        more = frame_events found.0 found.1;
        opening = record { bytes_are = e; is_head = responses_are_said.is_head; says = responses_are_said.head; in_head = refl };
        body = (found.0, found.1, found.2, refl);
        told_is = refl;
      }),
    )
  where
    later_bytes : IsBytes (head_text ++ more) → IsBytes more
    later_bytes = All_back head_text more
begins_by messages trailers front back x all some (inr (b, rest, e)) =
    ([], within_head (heads.ends_are_first.whole front b rest (subst IsHead e responses_are_said.is_head)) refl)

front_bytes : (messages : List (List ℕ)) (trailers : Trailers) (front back : List ℕ) → MayBeWritten messages trailers → All IsBytes messages
    → front ++ back ≡ answer_bytes messages trailers → IsBytes front
front_bytes messages trailers front back x all e =
    All_front front back (subst IsBytes (sym e) (answer_bytes-bytes messages trailers x all))

begins : (messages : List (List ℕ)) (trailers : Trailers) (front back : List ℕ) → MayBeWritten messages trailers → All IsBytes messages
    → back ≢ [] → front ++ back ≡ answer_bytes messages trailers → (told : List WebEvent) × BeginsAnswer front told
unfolding answer_bytes
begins messages trailers front back x all some e =
    begins_by messages trailers front back x (front_bytes messages trailers front back x all e) some
    (split head_text front back (body_bytes messages trailers) e)

-- what the front tells is the first of what the whole tells
tells_first : (messages : List (List ℕ)) (trailers : Trailers) (front back : List ℕ) → MayBeWritten messages trailers → All IsBytes messages
    → front ++ back ≡ answer_bytes messages trailers
    → (answer_in front).told ++ events_of (after begin front) back ≡ answer_events messages trailers
tells_first messages trailers front back x all e =
    let found = read_back messages trailers [] x all (All-nil (λ b. b < 256)) in
    ap (λ (told : List WebEvent). told ++ events_of (after begin front) back) (told_of front) ∙ sym (events_of-append begin front back)
    ∙ ap (events_of begin) (e ∙ sym (append-nil (answer_bytes messages trailers))) ∙ sym (told_of (answer_bytes messages trailers ++ [])) ∙ found.1

cut_off_read : (messages : List (List ℕ)) (trailers : Trailers) (front back : List ℕ) → MayBeWritten messages trailers
    → All IsBytes messages → back ≢ [] → front ++ back ≡ answer_bytes messages trailers
    → ((answer_in front).place ≡ Open) × ((later : List WebEvent) × ((answer_in front).told ++ later ≡ answer_events messages trailers))
cut_off_read messages trailers front back x all some e =
    let found = begins messages trailers front back x all some e in
    let reads = (answers.answers_are_read.begun front found.0 (front_bytes messages trailers front back x all e)).0 found.1 in
    (reads.0, (events_of (after begin front) back, tells_first messages trailers front back x all e))

cut_off : (messages : List (List ℕ)) (trailers : Trailers) (front back : List ℕ) → MayBeWritten messages trailers → All IsBytes messages
    → back ≢ [] → front ++ back ≡ answer_bytes messages trailers
    → (told : List WebEvent) × (later : List WebEvent) × BeginsAnswer front told × (told ++ later ≡ answer_events messages trailers)
cut_off messages trailers front back x all some e =
    let found = begins messages trailers front back x all some e in
    let reads = (answers.answers_are_read.begun front found.0 (front_bytes messages trailers front back x all e)).0 found.1 in
    let later = events_of (after begin front) back in (
      found.0,
      later,
      found.1,
      ap (λ (told : List WebEvent). told ++ later) (sym reads.1) ∙ tells_first messages trailers front back x all e,
    )

pub answers_are_begun : AnswersAreBegun
answers_are_begun = record { said = said; read_back = begun_read; in_pieces = in_pieces; cut_off = cut_off; cut_off_read = cut_off_read }
