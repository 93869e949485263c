-- The machine over several bytes: pieces one after another, the ends that stay, a head, and a body.
use Rattle.std.proofs.Common.{◌≡◌, ℕ, List, [], ◌∷◌, ◌++◌, fold, refl, sym, ap, ◌∙◌}
use Rattle.std.specs.List.{concat}
use Rattle.std.proofs.lemmas.List.Sums.{fold-append}
use Rattle.web_head_reader.specs.declared.fault.HeadReadFault.{HeadReadFault}
use Rattle.web_head_reader.specs.declared.place.HeadPlace.{HeadPlace}
use Rattle.web_head_reader.specs.declared.place.HeadPlace.TheVariants as head
use Rattle.web_head_reader.specs.Steps.{HeadState, head_step}
use Rattle.web_head_reader.specs.Steps as heads
use Rattle.web_head_reader.proofs.Machine as heading
use Rattle.web_head_reader.proofs.Comes.{open_at}
use Rattle.web_frames.specs.declared.event.FrameEvent.{FrameEvent}
use Rattle.web_frames.specs.declared.event.FrameEvent.TheVariants as event
use Rattle.web_contents.specs.declared.fault.WebFault.{WebFault}
use Rattle.web_contents.specs.declared.place.ContentPlace.{ContentPlace}
use Rattle.web_contents.specs.declared.place.ContentPlace.TheVariants as content
use Rattle.web_contents.specs.Contents.{Content, place_of, content_step, content_events}
use Rattle.web_contents.specs.Contents as contents
use Rattle.web_contents.specs.Laws as content_laws
use Rattle.web_contents.proofs.Parts as content_parts
use Rattle.web_requests.specs.Machine.{RequestState, heading, within, whole, refused, fault_of_reading, message_after, state_at, state_of, heading_at, heading_of, request_step, after}

pub after-append : (s : RequestState) (front back : List ℕ) → after s (front ++ back) ≡ after (after s front) back
unfolding after
after-append s front back = fold-append request_step s front back

pub after-nil : (s : RequestState) → after s [] ≡ s
unfolding after
after-nil s = refl

pub after-cons : (s : RequestState) (b : ℕ) (bytes : List ℕ) → after s (b ∷ bytes) ≡ after (request_step s b) bytes
unfolding after
after-cons s b bytes = refl

pub pieces_state : (s : RequestState) (pieces : List (List ℕ)) → fold after s pieces ≡ after s (concat pieces)
pieces_state s [] = sym (after-nil s)
pieces_state s (piece ∷ pieces) = pieces_state (after s piece) pieces ∙ sym (after-append s piece (concat pieces))

pub after-whole : (path message bytes : List ℕ) → after (whole path message) bytes ≡ whole path message
unfolding after request_step
after-whole path message [] = refl
after-whole path message (b ∷ bytes) = after-whole path message bytes

pub after-refused : (fault : WebFault) (bytes : List ℕ) → after (refused fault) bytes ≡ refused fault
unfolding after request_step
after-refused fault [] = refl
after-refused fault (b ∷ bytes) = after-refused fault bytes

-- ---- the head

step-heading : (held : List ℕ) (b : ℕ) → request_step (heading held) b ≡ heading_of (head_step (open_at held) b)
unfolding request_step
step-heading held b = refl

-- a head by its place
at_open : (s : HeadState) → s.place ≡ head.Open → s ≡ open_at s.held
at_open s e = ap (λ (p : HeadPlace). record { place = p; held = s.held }) e

-- bytes within the head
abbrev GoesOn : List ℕ → List ℕ → Type 0
GoesOn bytes held = (heads.after (open_at held) bytes).place ≡ head.Open
    → after (heading held) bytes ≡ heading (heads.after (open_at held) bytes).held

tail : (held : List ℕ) (b : ℕ) (bytes : List ℕ) (s : HeadState) → head_step (open_at held) b ≡ s
    → heads.after (open_at held) (b ∷ bytes) ≡ heads.after s bytes
tail held b bytes s is = heading.after-cons (open_at held) b bytes ∙ ap (λ (t : HeadState). heads.after t bytes) is

goes_on : (held : List ℕ) (b : ℕ) (bytes : List ℕ) (s : HeadState) (place : HeadPlace) → head_step (open_at held) b ≡ s → s.place ≡ place
    → ((next : List ℕ) → GoesOn bytes next) → GoesOn (b ∷ bytes) held
goes_on held b bytes s head.Open is p more e =
    let here : head_step (open_at held) b ≡ open_at s.held = is ∙ at_open s p in
    let rest = tail held b bytes (open_at s.held) here in
    after-cons (heading held) b bytes
    ∙ ap (λ (r : RequestState). after r bytes) (step-heading held b ∙ ap heading_of here)
    ∙ more s.held (ap (λ (t : HeadState). t.place) (sym rest) ∙ e)
    ∙ ap (λ (t : HeadState). heading t.held) (sym rest)
goes_on held b bytes s head.Whole is p more e =
    absurd (let other : head.Whole ≡ head.Open
    = sym p ∙ ap (λ (t : HeadState). t.place) (sym (heading.after-Whole s bytes p) ∙ sym (tail held b bytes s is)) ∙ e in cc)
goes_on held b bytes s (head.Refused fault) is p more e =
    absurd (let other : head.Refused fault ≡ head.Open
    = sym p ∙ ap (λ (t : HeadState). t.place) (sym (heading.after-Refused s bytes fault p) ∙ sym (tail held b bytes s is)) ∙ e in cc)

pub after-heading : (bytes held : List ℕ) → GoesOn bytes held
after-heading [] held e = after-nil (heading held) ∙ ap (λ (s : HeadState). heading s.held) (sym (heading.after-nil (open_at held)))
after-heading (b ∷ bytes) held e =
    goes_on held b bytes (head_step (open_at held) b) (head_step (open_at held) b).place refl refl (after-heading bytes) e

-- bytes that make the head too long
abbrev EndsRefused : List ℕ → List ℕ → HeadReadFault → Type 0
EndsRefused bytes held fault = (heads.after (open_at held) bytes).place ≡ head.Refused fault
    → after (heading held) bytes ≡ refused (fault_of_reading fault)

ends_refused : (held : List ℕ) (b : ℕ) (bytes : List ℕ) (fault : HeadReadFault) (s : HeadState) (place : HeadPlace)
    → head_step (open_at held) b ≡ s → s.place ≡ place → ((next : List ℕ) → EndsRefused bytes next fault) → EndsRefused (b ∷ bytes) held fault
ends_refused held b bytes fault s head.Open is p rest e =
    let here : head_step (open_at held) b ≡ open_at s.held = is ∙ at_open s p in
    after-cons (heading held) b bytes
    ∙ ap (λ (r : RequestState). after r bytes) (step-heading held b ∙ ap heading_of here)
    ∙ rest s.held (ap (λ (t : HeadState). t.place) (sym (tail held b bytes (open_at s.held) here)) ∙ e)
ends_refused held b bytes fault s head.Whole is p rest e =
    absurd (let other : head.Whole ≡ head.Refused fault
    = sym p ∙ ap (λ (t : HeadState). t.place) (sym (heading.after-Whole s bytes p) ∙ sym (tail held b bytes s is)) ∙ e in cc)
ends_refused held b bytes fault s (head.Refused found) is p rest e =
    let same : head.Refused found ≡ head.Refused fault
    = sym p ∙ ap (λ (t : HeadState). t.place) (sym (heading.after-Refused s bytes found p) ∙ sym (tail held b bytes s is)) ∙ e in
    let fault_is : found ≡ fault = cc in
    after-cons (heading held) b bytes
    ∙ ap (λ (r : RequestState). after r bytes) (step-heading held b ∙ ap heading_of is ∙ ap (λ (q : HeadPlace). heading_at q s.held) p)
    ∙ after-refused (fault_of_reading found) bytes
    ∙ ap (λ (f : HeadReadFault). refused (fault_of_reading f)) fault_is

pub after-heading-refused : (bytes held : List ℕ) (fault : HeadReadFault) → EndsRefused bytes held fault
after-heading-refused [] held fault e =
    absurd (let other : head.Open ≡ head.Refused fault = ap (λ (s : HeadState). s.place) (sym (heading.after-nil (open_at held))) ∙ e in cc)
after-heading-refused (b ∷ bytes) held fault e =
    ends_refused held b bytes fault (head_step (open_at held) b) (head_step (open_at held) b).place refl refl
    (λ next. after-heading-refused bytes next fault) e

-- bytes of which the last one of the front ends the head or makes it too long, and then others
pub after-head : (held front : List ℕ) (b : ℕ) (back : List ℕ) (s : HeadState) → (heads.after (open_at held) front).place ≡ head.Open
    → heads.after (open_at held) (front ++ b ∷ []) ≡ s → after (heading held) (front ++ b ∷ back) ≡ after (heading_of s) back
after-head held front b back s e is =
    let before = heads.after (open_at held) front in
    let last : head_step (open_at before.held) b ≡ s
    = ap (λ (t : HeadState). head_step t b) (sym (at_open before e)) ∙ sym (heading.after-nil (head_step before b))
    ∙ sym (heading.after-cons before b []) ∙ sym (heading.after-append (open_at held) front (b ∷ [])) ∙ is in
    after-append (heading held) front (b ∷ back)
    ∙ ap (λ (r : RequestState). after r (b ∷ back)) (after-heading front held e)
    ∙ after-cons (heading before.held) b back
    ∙ ap (λ (r : RequestState). after r back) (step-heading before.held b ∙ ap heading_of last)

-- ---- the body

message_after-append : (message : List ℕ) (front back : List FrameEvent)
    → message_after message (front ++ back) ≡ message_after (message_after message front) back
message_after-append message [] back = refl
message_after-append message (event.Message payload ∷ front) back = message_after-append payload front back
message_after-append message (event.Trailers trailers ∷ front) back = message_after-append message front back

state_of_at : (path message : List ℕ) (c : Content) (place : ContentPlace) → place_of c ≡ place → state_of path message c ≡ state_at place path message c
state_of_at path message c place e = ap (λ (p : ContentPlace). state_at p path message c) e

step-within : (path message : List ℕ) (c : Content) (b : ℕ)
    → request_step (within path message c) b ≡ state_of path (message_after message (content_events c b)) (content_step c b)
unfolding request_step
step-within path message c b = refl

-- what a state that doesn't move any more is
stays_over : (laws : content_laws.PiecesJoin) (bytes path message : List ℕ) (c : Content) → place_of c ≡ content.Over
    → after (state_of path message c) bytes ≡ state_of path (message_after message (contents.events_of c bytes)) (contents.after c bytes)
stays_over laws bytes path message c e =
    let stays = laws.ended c bytes e in
    let here = state_of_at path message c content.Over e in
    let silent = ap (λ (told : List FrameEvent). state_of path (message_after message told) (contents.after c bytes)) stays.1 in
    let same = ap (λ (d : Content). state_of path message d) stays.0 in
    ap (λ (r : RequestState). after r bytes) here ∙ after-whole path message bytes ∙ sym (silent ∙ same ∙ here)

stays_refused : (laws : content_laws.PiecesJoin) (bytes path message : List ℕ) (c : Content) (fault : WebFault) → place_of c ≡ content.Refused fault
    → after (state_of path message c) bytes ≡ state_of path (message_after message (contents.events_of c bytes)) (contents.after c bytes)
stays_refused laws bytes path message c fault e =
    let stays = laws.refused c bytes fault e in
    ap (λ (r : RequestState). after r bytes) (state_of_at path message c (content.Refused fault) e) ∙ after-refused fault bytes
    ∙ sym (state_of_at path (message_after message (contents.events_of c bytes)) (contents.after c bytes) (content.Refused fault) stays.0)

-- bytes after the head are those of its body
abbrev AreBody : List ℕ → List ℕ → List ℕ → Content → Type 0
AreBody bytes path message c =
    after (state_of path message c) bytes ≡ state_of path (message_after message (contents.events_of c bytes)) (contents.after c bytes)

one_more : (laws : content_laws.PiecesJoin) (b : ℕ) (bytes path message : List ℕ) (c : Content) (place : ContentPlace) → place_of c ≡ place
    → AreBody bytes path (message_after message (content_events c b)) (content_step c b) → AreBody (b ∷ bytes) path message c
one_more laws b bytes path message c content.Open e more =
    let told = content_events c b in
    let next = content_step c b in
    let rest = contents.events_of next bytes in
    ap (λ (r : RequestState). after r (b ∷ bytes)) (state_of_at path message c content.Open e)
    ∙ after-cons (within path message c) b bytes
    ∙ ap (λ (r : RequestState). after r bytes) (step-within path message c b)
    ∙ more
    ∙ ap (λ (m : List ℕ). state_of path m (contents.after next bytes)) (sym (message_after-append message told rest))
    ∙ ap (λ (all : List FrameEvent). state_of path (message_after message all) (contents.after next bytes)) (sym (content_parts.events_of-cons c b bytes))
    ∙ ap (λ (d : Content). state_of path (message_after message (contents.events_of c (b ∷ bytes))) d) (sym (content_parts.after-cons c b bytes))
one_more laws b bytes path message c content.Over e more = stays_over laws (b ∷ bytes) path message c e
one_more laws b bytes path message c (content.Refused fault) e more = stays_refused laws (b ∷ bytes) path message c fault e

pub after-body : (laws : content_laws.PiecesJoin) (bytes path message : List ℕ) (c : Content) → AreBody bytes path message c
after-body laws [] path message c =
    after-nil (state_of path message c)
    ∙ sym (ap (λ (told : List FrameEvent). state_of path (message_after message told) (contents.after c [])) (content_parts.events_of-nil c)
    ∙ ap (λ (d : Content). state_of path message d) (content_parts.after-nil c))
after-body laws (b ∷ bytes) path message c =
    one_more laws b bytes path message c (place_of c) refl
    (after-body laws bytes path (message_after message (content_events c b)) (content_step c b))
