-- What comes before a fault is a beginning.
use Rattle.std.proofs.Common.{◌≡◌, ℕ, true, List, [], ◌∷◌, ◌++◌, length, refl, sym, ap, ◌∙◌, subst, append-nil, Option, Some, None}
use Rattle.web_heads.specs.declared.body.BodyKind.{BodyKind}
use Rattle.web_heads.specs.declared.response.ResponseHead.{ResponseHead}
use Rattle.web_head_reader.specs.Steps as heads
use Rattle.web_head_reader.specs.Standard.{IsHead}
use Rattle.web_head_reader.specs.Standard as head_words
use Rattle.web_head_reader.proofs.Read as heads_read
use Rattle.web_bodies.specs.Body.{Body}
use Rattle.web_bodies.specs.Steps as bodies
use Rattle.web_bodies.specs.Laws.{is_open}
use Rattle.web_bodies.proofs.Runs as body_runs
use Rattle.web_bodies.proofs.Read as bodies_read
use Rattle.web_frames.specs.declared.limits.Side.TheVariants.{Response}
use Rattle.web_frames.specs.declared.status.Trailers.{Trailers}
use Rattle.web_frames.proofs.LawLemmas.{longer_front}
use Rattle.web_contents.specs.declared.fault.WebFault.{WebFault}
use Rattle.web_contents.specs.declared.place.ContentPlace.TheVariants.{Open}
use Rattle.web_contents.specs.Contents.{Content, place_of}
use Rattle.web_contents.specs.Contents as contents
use Rattle.web_contents.proofs.Parts.{after-parts}
use Rattle.web_contents.proofs.Places.{place-open}
use Rattle.web_contents.proofs.Ends.{open_before, body_open, before_fault}
use Rattle.web_contents.proofs.Read.{Fronts, same, shorter, longer, fronts}
use Rattle.web_responses.specs.declared.event.WebEvent.{WebEvent}
use Rattle.web_responses.specs.Answers.{begin_body, opened_body, begin, after, standing}
use Rattle.web_responses.specs.Standard.{HasOpening, IsBareFault, bad_payload, bad_framing, IsFaultyBody, HasFaultyBody, IsAnswerFault, too_long, bad_head, bad_trailers, faulty_body}
use Rattle.web_responses.proofs.Runs.{head_open}
use Rattle.web_responses.proofs.Told.{bare_at, empty_good, opening_is, right_opening, answer_reads}

-- ---- bodies that may have no payload

pub no_front : {A : Type 0} (front back : List A) → front ++ back ≡ [] → front ≡ []
no_front [] back e = refl
no_front (x ∷ front) back e = absurd (cc)

-- a body that goes on and has no payload
bare_open : (trailers : Trailers) (kind : BodyKind) (at : ℕ) (front : List ℕ) → bodies.payload_after (bodies.begin kind at) front ≡ []
    → is_open (bodies.after (bodies.begin kind at) front).place ≡ true → place_of (contents.after (begin_body (Some trailers) kind at) front) ≡ Open
bare_open trailers kind at front none going =
    ap place_of (after-parts (begin_body (Some trailers) kind at) front ∙ ap (bare_at kind at front) none)
    ∙ place-open (bare_at kind at front []) empty_good going

none_before : (body : Body) (front more : List ℕ) → bodies.payload_after body (front ++ more) ≡ [] → bodies.payload_after body front ≡ []
none_before body front more none =
    no_front (bodies.payload_after body front) (bodies.payload_after (bodies.after body front) more) (sym (body_runs.payload_after-append body front more) ∙ none)

before_bare : (trailers : Trailers) (kind : BodyKind) (at : ℕ) (front : List ℕ) (b : ℕ) (back : List ℕ) (fault : WebFault) → IsBareFault kind at (front ++ b ∷ back) fault
    → place_of (contents.after (begin_body (Some trailers) kind at) front) ≡ Open
before_bare trailers kind at front b back fault (bad_payload early last e begun has is) =
    let more = longer_front front back early b last e in
    let stands = (bodies_read.bodies_are_read.begun kind at early []).0 begun in
    let start = bodies.begin kind at in
    bare_open trailers kind at front
    (none_before start front more.0 (ap (bodies.payload_after start) (sym more.1) ∙ stands.1))
    (open_before (bodies.after start front) more.0
    (ap (λ (c : Body). is_open c.place) (sym (body_runs.after-append start front more.0) ∙ ap (bodies.after start) (sym more.1)) ∙ stands.0))
before_bare trailers kind at front b back fault (bad_framing found settled is) =
    let bytes = front ++ b ∷ back in
    let stands = (bodies_read.bodies_are_read.refused kind at bytes [] found).0
    (record { settled = bytes; rest = []; bytes_are = sym (append-nil bytes); is_fault = settled }) in
    bare_open trailers kind at front (none_before (bodies.begin kind at) front (b ∷ back) stands.1)
    (body_open kind at front (bodies_read.ends_are_first.refused kind at front b back [] found settled))

before_body : (opens : Option Trailers) (kind : BodyKind) (at : ℕ) (front : List ℕ) (b : ℕ) (back : List ℕ) (more : List WebEvent) (fault : WebFault)
    → IsFaultyBody opens kind at (front ++ b ∷ back) more fault → place_of (contents.after (begin_body opens kind at) front) ≡ Open
before_body None kind at front b back more fault (messages, trailers, x, is) = before_fault Response kind at front b back messages trailers fault x
before_body (Some trailers) kind at front b back more fault (x, is) = before_bare trailers kind at front b back fault x

-- ---- answers

within : (front : List ℕ) → head_words.IsBegun front → standing (after begin front) ≡ Open
within front begun = ap standing (head_open heads.begin front ((heads_read.heads_are_read.within front).0 begun)).0

-- bytes behind a right head
behind : (front head rest : List ℕ) (r : ResponseHead) (opens : Option Trailers) → HasOpening front head rest r opens
    → place_of (contents.after (begin_body opens r.body (length head)) rest) ≡ Open → standing (after begin front) ≡ Open
behind front head rest r opens opening place =
    let answer = answer_reads front head rest (opening_is r opens) Open (contents.events_of (opened_body (length head) (opening_is r opens)) rest)
    opening.bytes_are opening.is_head (right_opening head r opens opening.says opening.in_head) (record { place_is = place; told_is = refl }) in
    ap standing answer.state ∙ answer.place_is

-- the tails of two ways to part the same bytes
tail_of : (head front : List ℕ) (b : ℕ) (back rest middle : List ℕ) → front ++ b ∷ back ≡ head ++ rest → front ≡ head ++ middle → rest ≡ middle ++ b ∷ back
tail_of [] front b back rest middle e f = sym e ∙ ap (λ (first : List ℕ). first ++ b ∷ back) f
tail_of (h ∷ head) [] b back rest middle e f = absurd (cc)
tail_of (h ∷ head) (d ∷ front) b back rest middle e f =
    let tails : front ++ b ∷ back ≡ head ++ rest = cc in
    let parts : front ≡ head ++ middle = cc in tail_of head front b back rest middle tails parts

before_behind : (front : List ℕ) (b : ℕ) (back : List ℕ) (told : List WebEvent) (fault : WebFault) (x : HasFaultyBody (front ++ b ∷ back) told fault)
    (middle : List ℕ) → front ≡ x.head ++ middle → standing (after begin front) ≡ Open
before_behind front b back told fault x middle e =
    let opening = x.opening in
    let tail = tail_of x.head front b back x.rest middle opening.bytes_are e in
    behind front x.head middle x.r x.trailers (record { bytes_are = e; is_head = opening.is_head; says = opening.says; in_head = opening.in_head })
    (before_body x.trailers x.r.body (length x.head) middle b back x.more fault
    (subst (λ (rest : List ℕ). IsFaultyBody x.trailers x.r.body (length x.head) rest x.more fault) tail x.body))

before_by : (front : List ℕ) (b : ℕ) (back : List ℕ) (told : List WebEvent) (fault : WebFault) (x : HasFaultyBody (front ++ b ∷ back) told fault)
    → Fronts front x.head → standing (after begin front) ≡ Open
before_by front b back told fault x (same e) = before_behind front b back told fault x [] (e ∙ sym (append-nil x.head))
before_by front b back told fault x (shorter c more e) =
    within front (heads_read.ends_are_first.whole front c more (subst IsHead e x.opening.is_head))
before_by front b back told fault x (longer c more e) = before_behind front b back told fault x (c ∷ more) e

pub before : (front : List ℕ) (b : ℕ) (back : List ℕ) (told : List WebEvent) (fault : WebFault) → IsAnswerFault (front ++ b ∷ back) told fault
    → standing (after begin front) ≡ Open
before front b back told fault (too_long is none e) = within front (heads_read.ends_are_first.too_long front b back is)
before front b back told fault (bad_head found is says none e) = within front (heads_read.ends_are_first.whole front b back is)
before front b back told fault (bad_trailers x none e) = within front (heads_read.ends_are_first.whole front b back x.is_head)
before front b back told fault (faulty_body x) = before_by front b back told fault x (fronts front (b ∷ back) x.head x.rest x.opening.bytes_are)
