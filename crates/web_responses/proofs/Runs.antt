-- The machine of answers over several bytes: within a head, behind it, and the ends that stay.
use Rattle.std.proofs.Common.{◌≡◌, ℕ, List, [], ◌∷◌, ◌++◌, refl, sym, ap, ◌∙◌, subst, append_assoc, append-nil}
use Rattle.std.specs.Prelude.{fold, map}
use Rattle.std.specs.List.{concat}
use Rattle.std.proofs.lemmas.List.Sums.{fold-append}
use Rattle.std.proofs.lemmas.List.{map-append}
use Rattle.web_head_reader.specs.declared.place.HeadPlace.{HeadPlace}
use Rattle.web_head_reader.specs.declared.place.HeadPlace.TheVariants as head
use Rattle.web_head_reader.specs.Steps.{HeadState, head_step}
use Rattle.web_head_reader.specs.Steps as heads
use Rattle.web_head_reader.proofs.Machine as head_runs
use Rattle.web_frames.specs.declared.event.FrameEvent.{FrameEvent}
use Rattle.web_contents.specs.declared.fault.WebFault.{WebFault}
use Rattle.web_contents.specs.declared.place.ContentPlace.{ContentPlace}
use Rattle.web_contents.specs.declared.place.ContentPlace.TheVariants.{Open, Over, Refused}
use Rattle.web_contents.specs.Contents.{Content, place_of, content_step, content_events}
use Rattle.web_contents.specs.Contents as contents
use Rattle.web_contents.proofs.Parts as content_parts
use Rattle.web_contents.proofs.Places as places
use Rattle.web_responses.specs.declared.event.WebEvent.{WebEvent}
use Rattle.web_responses.specs.Answers.{AnswerState, in_head, in_body, bad_head, event_of, end_at, end_told, body_told, head_led, head_told, answer_step, answer_told, after, events_of, standing}
use Rattle.web_responses.specs.Laws.{events_of_pieces}

-- ---- bytes one after another

pub after-nil : (s : AnswerState) → after s [] ≡ s
unfolding after
after-nil s = refl

pub after-cons : (s : AnswerState) (b : ℕ) (bytes : List ℕ) → after s (b ∷ bytes) ≡ after (answer_step s b) bytes
unfolding after
after-cons s b bytes = refl

pub events_of-nil : (s : AnswerState) → events_of s [] ≡ []
unfolding events_of
events_of-nil s = refl

pub events_of-cons : (s : AnswerState) (b : ℕ) (bytes : List ℕ) → events_of s (b ∷ bytes) ≡ answer_told s b ++ events_of (answer_step s b) bytes
unfolding events_of
events_of-cons s b bytes = refl

pub after-append : (s : AnswerState) (front back : List ℕ) → after s (front ++ back) ≡ after (after s front) back
unfolding after
after-append s front back = fold-append answer_step s front back

pub events_of-append : (s : AnswerState) (front back : List ℕ) → events_of s (front ++ back) ≡ events_of s front ++ events_of (after s front) back
unfolding after events_of
events_of-append s [] back = refl
events_of-append s (b ∷ front) back =
    ap (λ (rest : List WebEvent). answer_told s b ++ rest) (events_of-append (answer_step s b) front back)
    ∙ sym (append_assoc (answer_told s b) (events_of (answer_step s b) front) (events_of (after (answer_step s b) front) back))

-- ---- pieces

pub fold-after : (s : AnswerState) (pieces : List (List ℕ)) → fold after s pieces ≡ after s (concat pieces)
fold-after s [] = sym (after-nil s)
fold-after s (piece ∷ pieces) = fold-after (after s piece) pieces ∙ sym (after-append s piece (concat pieces))

pub events_of_pieces-concat : (s : AnswerState) (pieces : List (List ℕ)) → events_of_pieces s pieces ≡ events_of s (concat pieces)
events_of_pieces-concat s [] = sym (events_of-nil s)
events_of_pieces-concat s (piece ∷ pieces) =
    ap (λ (rest : List WebEvent). events_of s piece ++ rest) (events_of_pieces-concat (after s piece) pieces)
    ∙ sym (events_of-append s piece (concat pieces))

-- ---- behind the head

step-in_body : (c : Content) (b : ℕ) → answer_step (in_body c) b ≡ in_body (content_step c b)
unfolding answer_step
step-in_body c b = refl

told-in_body : (c : Content) (b : ℕ) → answer_told (in_body c) b ≡ map event_of (content_events c b) ++ end_told (place_of c) (place_of (content_step c b))
unfolding answer_told body_told
told-in_body c b = refl

pub after-in_body : (c : Content) (bytes : List ℕ) → after (in_body c) bytes ≡ in_body (contents.after c bytes)
after-in_body c [] = after-nil (in_body c) ∙ ap in_body (sym (content_parts.after-nil c))
after-in_body c (b ∷ bytes) =
    after-cons (in_body c) b bytes ∙ ap (λ (s : AnswerState). after s bytes) (step-in_body c b)
    ∙ after-in_body (content_step c b) bytes ∙ ap in_body (sym (content_parts.after-cons c b bytes))

-- what a body that has ended tells, and where it stands: nothing, and there
abbrev pub Ended : ContentPlace → List FrameEvent → ContentPlace → Type 0
Ended Open told next = Unit {0}
Ended Over told next = (told ≡ []) × (next ≡ Over)
Ended (Refused fault) told next = (told ≡ []) × (next ≡ Refused fault)

pub ended_by : (c : Content) (bytes : List ℕ) (place : ContentPlace) → place_of c ≡ place → Ended place (contents.events_of c bytes) (place_of (contents.after c bytes))
ended_by c bytes Open e = tt
ended_by c bytes Over e = let stays = places.over-stays c bytes e in (stays.1, ap place_of stays.0 ∙ e)
ended_by c bytes (Refused fault) e = let stays = places.refused-stays c bytes fault e in (stays.1, stays.0)

ended_one : (c : Content) (b : ℕ) (place : ContentPlace) → place_of c ≡ place → Ended place (content_events c b) (place_of (content_step c b))
ended_one c b place e =
    subst (λ (told : List FrameEvent). Ended place told (place_of (content_step c b))) (content_parts.events_of-one c b)
    (subst (λ (d : Content). Ended place (contents.events_of c (b ∷ [])) (place_of d)) (content_parts.after-one c b) (ended_by c (b ∷ []) place e))

-- the events of a byte and of those after it
joined_open : (first last : ContentPlace) (told more : List FrameEvent) → Ended first more last
    → (map event_of told ++ end_at first) ++ (map event_of more ++ end_told first last) ≡ map event_of (told ++ more) ++ end_at last
joined_open Open last told more ended =
    ap (λ (front : List WebEvent). front ++ (map event_of more ++ end_at last)) (append-nil (map event_of told))
    ∙ sym (append_assoc (map event_of told) (map event_of more) (end_at last))
    ∙ ap (λ (front : List WebEvent). front ++ end_at last) (sym (map-append event_of told more))
joined_open Over last told more (none, there) =
    ap (λ (rest : List FrameEvent). (map event_of told ++ end_at Over) ++ (map event_of rest ++ [])) none
    ∙ append-nil (map event_of told ++ end_at Over)
    ∙ ap (λ (rest : List FrameEvent). map event_of rest ++ end_at Over) (sym (append-nil told) ∙ ap (λ (rest : List FrameEvent). told ++ rest) (sym none))
    ∙ ap (λ (p : ContentPlace). map event_of (told ++ more) ++ end_at p) (sym there)
joined_open (Refused fault) last told more (none, there) =
    ap (λ (rest : List FrameEvent). (map event_of told ++ []) ++ (map event_of rest ++ [])) none
    ∙ append-nil (map event_of told ++ [])
    ∙ ap (λ (rest : List FrameEvent). map event_of rest ++ []) (sym (append-nil told) ∙ ap (λ (rest : List FrameEvent). told ++ rest) (sym none))
    ∙ ap (λ (p : ContentPlace). map event_of (told ++ more) ++ end_at p) (sym there)

joined : (start first last : ContentPlace) (told more : List FrameEvent) → Ended start told first → Ended first more last
    → (map event_of told ++ end_told start first) ++ (map event_of more ++ end_told first last) ≡ map event_of (told ++ more) ++ end_told start last
joined Open first last told more begun ended = joined_open first last told more ended
joined Over first last told more (none, there) ended =
    let after_end : Ended Over more last = subst (λ (p : ContentPlace). Ended p more last) there ended in
    ap (λ (t : List FrameEvent). (map event_of t ++ []) ++ (map event_of more ++ end_told first last)) none
    ∙ ap (λ (p : ContentPlace). map event_of more ++ end_told p last) there
    ∙ ap (λ (t : List FrameEvent). map event_of (t ++ more) ++ []) (sym none)
joined (Refused fault) first last told more (none, there) ended =
    ap (λ (t : List FrameEvent). (map event_of t ++ []) ++ (map event_of more ++ end_told first last)) none
    ∙ ap (λ (p : ContentPlace). map event_of more ++ end_told p last) there
    ∙ ap (λ (t : List FrameEvent). map event_of (t ++ more) ++ []) (sym none)

nothing_told : (place : ContentPlace) → end_told place place ≡ []
nothing_told Open = refl
nothing_told Over = refl
nothing_told (Refused fault) = refl

pub events-in_body : (c : Content) (bytes : List ℕ)
    → events_of (in_body c) bytes ≡ map event_of (contents.events_of c bytes) ++ end_told (place_of c) (place_of (contents.after c bytes))
events-in_body c [] =
    events_of-nil (in_body c)
    ∙ sym (ap (λ (told : List FrameEvent). map event_of told ++ end_told (place_of c) (place_of (contents.after c []))) (content_parts.events_of-nil c)
    ∙ ap (λ (d : Content). end_told (place_of c) (place_of d)) (content_parts.after-nil c)
    ∙ nothing_told (place_of c))
events-in_body c (b ∷ bytes) =
    let next = content_step c b in
    events_of-cons (in_body c) b bytes
    ∙ ap (λ (told : List WebEvent). told ++ events_of (answer_step (in_body c) b) bytes) (told-in_body c b)
    ∙ ap (λ (s : AnswerState). (map event_of (content_events c b) ++ end_told (place_of c) (place_of next)) ++ events_of s bytes) (step-in_body c b)
    ∙ ap (λ (rest : List WebEvent). (map event_of (content_events c b) ++ end_told (place_of c) (place_of next)) ++ rest) (events-in_body next bytes)
    ∙ joined (place_of c) (place_of next) (place_of (contents.after next bytes)) (content_events c b) (contents.events_of next bytes)
    (ended_one c b (place_of c) refl) (ended_by next bytes (place_of next) refl)
    ∙ ap (λ (told : List FrameEvent). map event_of told ++ end_told (place_of c) (place_of (contents.after next bytes))) (sym (content_parts.events_of-cons c b bytes))
    ∙ ap (λ (d : Content). map event_of (contents.events_of c (b ∷ bytes)) ++ end_told (place_of c) (place_of d)) (sym (content_parts.after-cons c b bytes))

-- ---- within the head

pub step-in_head : (h : HeadState) (b : ℕ) → answer_step (in_head h) b ≡ head_led (head_step h b).place (head_step h b)
unfolding answer_step
step-in_head h b = refl

pub told-in_head : (h : HeadState) (b : ℕ) → answer_told (in_head h) b ≡ head_told (head_step h b).place (head_step h b)
unfolding answer_told
told-in_head h b = refl

-- what the machine leaves and tells
abbrev pub Does : AnswerState → List ℕ → AnswerState → List WebEvent → Type 0
Does s bytes next told = (after s bytes ≡ next) × (events_of s bytes ≡ told)

-- one byte that goes on within the head
head_more : (h : HeadState) (b : ℕ) (bytes : List ℕ) (place : HeadPlace) → (head_step h b).place ≡ place → (heads.after (head_step h b) bytes).place ≡ head.Open
    → Does (in_head (head_step h b)) bytes (in_head (heads.after (head_step h b) bytes)) []
    → Does (in_head h) (b ∷ bytes) (in_head (heads.after h (b ∷ bytes))) []
head_more h b bytes head.Open e going rest = (
  after-cons (in_head h) b bytes
      ∙ ap (λ (s : AnswerState). after s bytes) (step-in_head h b ∙ ap (λ (p : HeadPlace). head_led p (head_step h b)) e)
      ∙ rest.0 ∙ ap in_head (sym (head_runs.after-cons h b bytes)),
  events_of-cons (in_head h) b bytes
      ∙ ap (λ (told : List WebEvent). told ++ events_of (answer_step (in_head h) b) bytes) (told-in_head h b ∙ ap (λ (p : HeadPlace). head_told p (head_step h b)) e)
      ∙ ap (λ (s : AnswerState). events_of s bytes) (step-in_head h b ∙ ap (λ (p : HeadPlace). head_led p (head_step h b)) e)
      ∙ rest.1,
)
head_more h b bytes head.Whole e going rest =
    let there : (heads.after (head_step h b) bytes).place ≡ head.Whole = ap (λ (s : HeadState). s.place) (head_runs.after-Whole (head_step h b) bytes e) ∙ e in absurd (cc)
head_more h b bytes (head.Refused fault) e going rest =
    let there : (heads.after (head_step h b) bytes).place ≡ head.Refused fault =
    ap (λ (s : HeadState). s.place) (head_runs.after-Refused (head_step h b) bytes fault e) ∙ e in absurd (cc)

-- bytes that end within the head
pub head_open : (h : HeadState) (bytes : List ℕ) → (heads.after h bytes).place ≡ head.Open → Does (in_head h) bytes (in_head (heads.after h bytes)) []
head_open h [] going = (after-nil (in_head h) ∙ ap in_head (sym (head_runs.after-nil h)), events_of-nil (in_head h))
head_open h (b ∷ bytes) going =
    let rest : (heads.after (head_step h b) bytes).place ≡ head.Open = ap (λ (s : HeadState). s.place) (sym (head_runs.after-cons h b bytes)) ∙ going in
    head_more h b bytes (head_step h b).place refl rest (head_open (head_step h b) bytes rest)

-- the byte after them
pub head_last : (h : HeadState) (front : List ℕ) (b : ℕ) (next : HeadState) (place : HeadPlace) → (heads.after h front).place ≡ head.Open
    → heads.after h (front ++ b ∷ []) ≡ next → next.place ≡ place → Does (in_head h) (front ++ b ∷ []) (head_led place next) (head_told place next)
head_last h front b next place going is e =
    let first = head_open h front going in
    let last : head_step (heads.after h front) b ≡ next =
    sym (head_runs.after-append h front (b ∷ []) ∙ head_runs.after-cons (heads.after h front) b [] ∙ head_runs.after-nil (head_step (heads.after h front) b)) ∙ is in
    let step : answer_step (in_head (heads.after h front)) b ≡ head_led place next =
    step-in_head (heads.after h front) b ∙ ap (λ (n : HeadState). head_led n.place n) last ∙ ap (λ (p : HeadPlace). head_led p next) e in
    let told : answer_told (in_head (heads.after h front)) b ≡ head_told place next =
    told-in_head (heads.after h front) b ∙ ap (λ (n : HeadState). head_told n.place n) last ∙ ap (λ (p : HeadPlace). head_told p next) e in (
      after-append (in_head h) front (b ∷ []) ∙ ap (λ (s : AnswerState). after s (b ∷ [])) first.0
          ∙ after-cons (in_head (heads.after h front)) b [] ∙ after-nil (answer_step (in_head (heads.after h front)) b) ∙ step,
      events_of-append (in_head h) front (b ∷ [])
          ∙ ap (λ (t : List WebEvent). t ++ events_of (after (in_head h) front) (b ∷ [])) first.1
          ∙ ap (λ (s : AnswerState). events_of s (b ∷ [])) first.0
          ∙ events_of-cons (in_head (heads.after h front)) b []
          ∙ ap (λ (rest : List WebEvent). answer_told (in_head (heads.after h front)) b ++ rest) (events_of-nil (answer_step (in_head (heads.after h front)) b))
          ∙ append-nil (answer_told (in_head (heads.after h front)) b) ∙ told,
    )

-- ---- what stays

bad_head-stays : (fault : WebFault) (bytes : List ℕ) → Does (bad_head fault) bytes (bad_head fault) []
unfolding after events_of answer_step answer_told
bad_head-stays fault [] = (refl, refl)
bad_head-stays fault (b ∷ bytes) = bad_head-stays fault bytes

-- nothing more is told by a body that has ended
silent_after : (c : Content) (bytes : List ℕ) (place next : ContentPlace) → place_of c ≡ place → contents.events_of c bytes ≡ []
    → end_told place (place_of (contents.after c bytes)) ≡ [] → events_of (in_body c) bytes ≡ []
silent_after c bytes place next e none nothing =
    events-in_body c bytes
    ∙ ap (λ (told : List FrameEvent). map event_of told ++ end_told (place_of c) (place_of (contents.after c bytes))) none
    ∙ ap (λ (p : ContentPlace). end_told p (place_of (contents.after c bytes))) e ∙ nothing

pub over-stays : (s : AnswerState) (bytes : List ℕ) → standing s ≡ Over → (after s bytes ≡ s) × (events_of s bytes ≡ [])
over-stays (in_head h) bytes e = absurd (cc)
over-stays (in_body c) bytes e =
    let stays = places.over-stays c bytes e in
    (after-in_body c bytes ∙ ap in_body stays.0, silent_after c bytes Over Over e stays.1 refl)
over-stays (bad_head fault) bytes e = absurd (cc)

pub refused-stays : (s : AnswerState) (bytes : List ℕ) (fault : WebFault) → standing s ≡ Refused fault
    → (standing (after s bytes) ≡ Refused fault) × (events_of s bytes ≡ [])
refused-stays (in_head h) bytes fault e = absurd (cc)
refused-stays (in_body c) bytes fault e =
    let stays = places.refused-stays c bytes fault e in
    (ap standing (after-in_body c bytes) ∙ stays.0, silent_after c bytes (Refused fault) (Refused fault) e stays.1 refl)
refused-stays (bad_head other) bytes fault e =
    let stays = bad_head-stays other bytes in (ap standing stays.0 ∙ e, stays.1)
