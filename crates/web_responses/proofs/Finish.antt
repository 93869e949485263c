-- What the end of the connection makes of an answer.
use Rattle.std.proofs.Common.{◌≡◌, ◌≢◌, ℕ, ◌⊎◌, inl, inr, true, false, List, [], length, refl, sym, ap, ◌∙◌, subst, Option, Some, None, Ok, Err, Result, Bool}
use Rattle.std.proofs.lemmas.Bool.{false≢true}
use Rattle.web_heads.specs.declared.body.BodyKind.{BodyKind}
use Rattle.web_heads.specs.declared.body.BodyKind.TheVariants.{Length, Chunks, ToEnd}
use Rattle.web_heads.specs.declared.response.ResponseHead.{ResponseHead}
use Rattle.web_head_reader.specs.Steps as heads
use Rattle.web_head_reader.specs.Standard as head_words
use Rattle.web_head_reader.proofs.Read as heads_read
use Rattle.web_bodies.specs.Body.{Body}
use Rattle.web_bodies.specs.Steps as bodies
use Rattle.web_bodies.specs.Standard as body_words
use Rattle.web_bodies.proofs.Read as bodies_read
use Rattle.web_frames.specs.declared.status.Trailers.{Trailers}
use Rattle.web_frames.specs.Standard.{IsBytes}
use Rattle.web_frames.proofs.ReadsLemmas.{All_back}
use Rattle.web_contents.specs.declared.fault.WebFault.{WebFault}
use Rattle.web_contents.specs.declared.fault.WebFault.TheVariants.{Truncated}
use Rattle.web_contents.specs.declared.place.ContentPlace.TheVariants.{Open, Over, Refused}
use Rattle.web_contents.specs.Contents.{Content, is_complete, place_of, ends_with_connection, finish_at}
use Rattle.web_contents.specs.Contents as contents
use Rattle.web_contents.proofs.Parts.{after-parts}
use Rattle.web_contents.proofs.Finish.{after_ends, first_to_end, first_else, finish_is, finish_true}
use Rattle.web_contents.proofs.Finish as content_ends
use Rattle.web_responses.specs.declared.event.WebEvent.{WebEvent}
use Rattle.web_responses.specs.Answers.{AnswerState, in_head, in_body, bad_head, begin_body, begin, after, standing, finish, answer_in}
use Rattle.web_responses.specs.Standard.{HasOpening, IsBegunBody, BeginsBody, BeginsAnswer, within_head, within_body, HasAnswerFault, IsWholePayload, EndsWithConnection, IsCutOff}
use Rattle.web_responses.specs.Laws.{ConnectionsEnd}
use Rattle.web_responses.proofs.Runs.{head_open}
use Rattle.web_responses.proofs.Told.{bare_at, empty_complete, bare_begun, opening_is, right_opening, answer_reads, begun_says, whole_says, refused_says}
use Rattle.web_responses.proofs.Given.{Found, begun, whole, refused, found}

-- ---- behind a right head

state_behind : (bytes head rest : List ℕ) (r : ResponseHead) (opens : Option Trailers) → HasOpening bytes head rest r opens
    → after begin bytes ≡ in_body (contents.after (begin_body opens r.body (length head)) rest)
state_behind bytes head rest r opens opening =
    let c = contents.after (begin_body opens r.body (length head)) rest in
    (answer_reads bytes head rest (opening_is r opens) (place_of c) (contents.events_of (begin_body opens r.body (length head)) rest)
    opening.bytes_are opening.is_head (right_opening head r opens opening.says opening.in_head) (record { place_is = refl; told_is = refl })).state

body_at : (opens : Option Trailers) (kind : BodyKind) (at : ℕ) (bytes : List ℕ)
    → (contents.after (begin_body opens kind at) bytes).body ≡ bodies.after (bodies.begin kind at) bytes
body_at None kind at bytes = ap (λ (c : Content). c.body) (after-parts (begin_body None kind at) bytes)
body_at (Some trailers) kind at bytes = ap (λ (c : Content). c.body) (after-parts (begin_body (Some trailers) kind at) bytes)

ends_at : (opens : Option Trailers) (kind : BodyKind) (at : ℕ) (bytes : List ℕ)
    → ends_with_connection (contents.after (begin_body opens kind at) bytes).body.place ≡ ends_with_connection (bodies.begin kind at).place
ends_at opens kind at bytes =
    ap (λ (b : Body). ends_with_connection b.place) (body_at opens kind at bytes) ∙ after_ends (bodies.begin kind at) bytes

kind_is : (kind : BodyKind) (at : ℕ) → ends_with_connection (bodies.begin kind at).place ≡ true → kind ≡ ToEnd
kind_is (Length count) at e = absurd (false≢true (sym (first_else (Length count) at (λ f. cc)) ∙ e))
kind_is Chunks at e = absurd (false≢true (sym (first_else Chunks at (λ f. cc)) ∙ e))
kind_is ToEnd at e = refl

-- ---- whole at the end of the connection

bare_end : (trailers : Trailers) (at : ℕ) → contents.finish (contents.after (begin_body (Some trailers) ToEnd at) []) ≡ Ok true
bare_end trailers at =
    let start = begin_body (Some trailers) ToEnd at in
    let c = contents.after start [] in
    let does = bare_begun trailers ToEnd at [] refl in
    let same : c ≡ bare_at ToEnd at [] [] = after-parts start [] ∙ ap (bare_at ToEnd at []) (((bodies_read.bodies_are_read.begun ToEnd at [] []).0 refl).1) in
    finish_is c Open true does.place_is (ends_at (Some trailers) ToEnd at [] ∙ first_to_end at)
    ∙ ap (λ (d : Content). finish_at Open true d.frames) same
    ∙ ap (λ (b : Bool). let result : Result Bool WebFault = Ok b in result) empty_complete

whole_payload : (opens : Option Trailers) (kind : BodyKind) (at : ℕ) (rest : List ℕ) → kind ≡ ToEnd → IsWholePayload opens rest
    → contents.finish (contents.after (begin_body opens kind at) rest) ≡ Ok true
whole_payload None kind at rest e (messages, trailers, frames) =
    ap (λ (k : BodyKind). contents.finish (contents.after (begin_body None k at) rest)) e ∙ content_ends.connections_end.whole rest at messages trailers frames
whole_payload (Some trailers) kind at rest e none =
    ap (λ (k : BodyKind). contents.finish (contents.after (begin_body (Some trailers) k at) rest)) e
    ∙ ap (λ (b : List ℕ). contents.finish (contents.after (begin_body (Some trailers) ToEnd at) b)) none ∙ bare_end trailers at

whole_at_end : (bytes : List ℕ) → EndsWithConnection bytes → finish (after begin bytes) ≡ Ok true
whole_at_end bytes x =
    ap finish (state_behind bytes x.head x.rest x.r x.trailers x.opening) ∙ whole_payload x.trailers x.r.body (length x.head) x.rest x.to_end x.frames

-- ---- nothing else is

over_at_end : (s : AnswerState) → standing s ≡ Over → finish s ≡ Ok false
over_at_end (in_head h) e = absurd (cc)
over_at_end (in_body c) e = finish_is c Over (ends_with_connection c.body.place) e refl
over_at_end (bad_head fault) e = absurd (cc)

refused_at_end : (s : AnswerState) (fault : WebFault) → standing s ≡ Refused fault → finish s ≡ Err fault
refused_at_end (in_head h) fault e = absurd (cc)
refused_at_end (in_body c) fault e = finish_is c (Refused fault) (ends_with_connection c.body.place) e refl
refused_at_end (bad_head other) fault e = let same : other ≡ fault = cc in ap (λ (f : WebFault). let result : Result Bool WebFault = Err f in result) same

fault_at_end : (bytes : List ℕ) (told : List WebEvent) (fault : WebFault) → HasAnswerFault bytes told fault → finish (after begin bytes) ≡ Err fault
fault_at_end bytes told fault x = refused_at_end (after begin bytes) fault (refused_says bytes told fault x).0

head_at_end : (bytes : List ℕ) → head_words.IsBegun bytes → finish (after begin bytes) ≡ Ok false
head_at_end bytes x = ap finish (head_open heads.begin bytes ((heads_read.heads_are_read.within bytes).0 x)).0

not_false : (result : Result Bool WebFault) → result ≡ Ok false → result ≡ Ok true → ⊥
not_false result e f = cc

not_err : (result : Result Bool WebFault) (fault : WebFault) → result ≡ Err fault → result ≡ Ok true → ⊥
not_err result fault e f = cc

payload_by : (opens : Option Trailers) (kind : BodyKind) (at : ℕ) (rest : List ℕ) (more : List WebEvent) → IsBytes rest → kind ≡ ToEnd
    → IsBegunBody opens kind rest more → contents.finish (contents.after (begin_body opens kind at) rest) ≡ Ok true → IsWholePayload opens rest
payload_by None kind at rest more all e x ends =
    content_ends.connections_end.only rest at all (ap (λ (k : BodyKind). contents.finish (contents.after (begin_body None k at) rest)) (sym e) ∙ ends)
payload_by (Some trailers) kind at rest more all e (x, told) ends =
    let begun : body_words.IsBegun ToEnd rest [] = subst (λ (k : BodyKind). body_words.IsBegun k rest []) e x in sym begun

only_body : (bytes : List ℕ) (told : List WebEvent) → IsBytes bytes → BeginsBody bytes told → finish (after begin bytes) ≡ Ok true → EndsWithConnection bytes
only_body bytes told all x ends =
    let c = contents.after (begin_body x.trailers x.r.body (length x.head)) x.rest in
    let finishes : contents.finish c ≡ Ok true = ap finish (sym (state_behind bytes x.head x.rest x.r x.trailers x.opening)) ∙ ends in
    let stands = finish_true c finishes in
    let kind = kind_is x.r.body (length x.head) (sym (ends_at x.trailers x.r.body (length x.head) x.rest) ∙ stands.2) in
    let opening = x.opening in
    record {
      head = x.head;
      rest = x.rest;
      r = x.r;
      trailers = x.trailers;
      opening = opening;
      to_end = kind;
      frames = payload_by x.trailers x.r.body (length x.head) x.rest x.more (All_back x.head x.rest (subst IsBytes opening.bytes_are all)) kind x.body finishes;
    }

only_begun : (bytes : List ℕ) (told : List WebEvent) → IsBytes bytes → BeginsAnswer bytes told → finish (after begin bytes) ≡ Ok true → EndsWithConnection bytes
only_begun bytes told all (within_head x none) ends =
    absurd (not_false (finish (after begin bytes)) (head_at_end bytes x) ends)
only_begun bytes told all (within_body x) ends = only_body bytes told all x ends

only_at_end : (bytes : List ℕ) → IsBytes bytes → Found bytes → finish (after begin bytes) ≡ Ok true → EndsWithConnection bytes
only_at_end bytes all (begun told x) ends = only_begun bytes told all x ends
only_at_end bytes all (whole told x) ends =
    absurd (not_false (finish (after begin bytes)) (over_at_end (after begin bytes) (whole_says bytes told x).0) ends)
only_at_end bytes all (refused told fault x) ends =
    absurd (not_err (finish (after begin bytes)) fault (fault_at_end bytes told fault x) ends)

-- ---- cut off within a body

body_stands : (bytes : List ℕ) (told : List WebEvent) (x : BeginsBody bytes told)
    → place_of (contents.after (begin_body x.trailers x.r.body (length x.head)) x.rest) ≡ Open
body_stands bytes told x =
    ap standing (sym (state_behind bytes x.head x.rest x.r x.trailers x.opening)) ∙ (begun_says bytes told (within_body x)).0

-- what the end of the connection makes of a body that has begun, by whether it ends with the connection
body_finish : (bytes : List ℕ) (told : List WebEvent) (x : BeginsBody bytes told) (to_end : Bool)
    → ends_with_connection (bodies.begin x.r.body (length x.head)).place ≡ to_end
    → finish (after begin bytes) ≡ finish_at Open to_end (contents.after (begin_body x.trailers x.r.body (length x.head)) x.rest).frames
body_finish bytes told x to_end e =
    ap finish (state_behind bytes x.head x.rest x.r x.trailers x.opening)
    ∙ finish_is (contents.after (begin_body x.trailers x.r.body (length x.head)) x.rest) Open to_end (body_stands bytes told x)
    (ends_at x.trailers x.r.body (length x.head) x.rest ∙ e)

cut_off_at_end : (bytes : List ℕ) → IsCutOff bytes → finish (after begin bytes) ≡ Err Truncated
cut_off_at_end bytes x = body_finish bytes x.told x.body false (first_else x.body.r.body (length x.body.head) x.framed)

cut_off_body : (bytes : List ℕ) (told : List WebEvent) (x : BeginsBody bytes told) → x.r.body ≢ ToEnd → IsCutOff bytes
cut_off_body bytes told x framed = record { told = told; body = x; framed = framed }

-- a body that has begun is cut off, or ends with the connection, whole or not
body_ends : (bytes : List ℕ) (told : List WebEvent) (x : BeginsBody bytes told) (kind : BodyKind) → x.r.body ≡ kind
    → IsCutOff bytes ⊎ ((complete : Bool) × (finish (after begin bytes) ≡ Ok complete))
body_ends bytes told x (Length count) e = inl (cut_off_body bytes told x (λ f. cc))
body_ends bytes told x Chunks e = inl (cut_off_body bytes told x (λ f. cc))
body_ends bytes told x ToEnd e =
    let to_end : ends_with_connection (bodies.begin x.r.body (length x.head)).place ≡ true =
    ap (λ (k : BodyKind). ends_with_connection (bodies.begin k (length x.head)).place) e ∙ first_to_end (length x.head) in
    inr (is_complete (contents.after (begin_body x.trailers x.r.body (length x.head)) x.rest).frames, body_finish bytes told x true to_end)

not_truncated : (result : Result Bool WebFault) (complete : Bool) → result ≡ Ok complete → result ≡ Err Truncated → ⊥
not_truncated result complete e f = cc

same_fault : (result : Result Bool WebFault) (fault wrong : WebFault) → result ≡ Err fault → result ≡ Err wrong → fault ≡ wrong
same_fault result fault wrong e f = cc

truncated_by : (bytes : List ℕ) → IsCutOff bytes ⊎ ((complete : Bool) × (finish (after begin bytes) ≡ Ok complete))
    → finish (after begin bytes) ≡ Err Truncated → IsCutOff bytes
truncated_by bytes (inl x) ends = x
truncated_by bytes (inr (complete, e)) ends = absurd (not_truncated (finish (after begin bytes)) complete e ends)

truncated_begun : (bytes : List ℕ) (told : List WebEvent) → BeginsAnswer bytes told → finish (after begin bytes) ≡ Err Truncated → IsCutOff bytes
truncated_begun bytes told (within_head x none) ends = absurd (not_truncated (finish (after begin bytes)) false (head_at_end bytes x) ends)
truncated_begun bytes told (within_body x) ends = truncated_by bytes (body_ends bytes told x x.r.body refl) ends

truncated_at_end : (bytes : List ℕ) → Found bytes → finish (after begin bytes) ≡ Err Truncated
    → IsCutOff bytes ⊎ ((told : List WebEvent) × HasAnswerFault bytes told Truncated)
truncated_at_end bytes (begun told x) ends = inl (truncated_begun bytes told x ends)
truncated_at_end bytes (whole told x) ends =
    absurd (not_truncated (finish (after begin bytes)) false (over_at_end (after begin bytes) (whole_says bytes told x).0) ends)
truncated_at_end bytes (refused told fault x) ends =
    let same = same_fault (finish (after begin bytes)) fault Truncated (fault_at_end bytes told fault x) ends in
    inr (told, subst (HasAnswerFault bytes told) same x)

cut_off_says : (bytes : List ℕ) → IsCutOff bytes ⊎ ((told : List WebEvent) × HasAnswerFault bytes told Truncated)
    → finish (after begin bytes) ≡ Err Truncated
cut_off_says bytes (inl x) = cut_off_at_end bytes x
cut_off_says bytes (inr (told, x)) = fault_at_end bytes told Truncated x

-- ---- nothing is said

false_by : (bytes : List ℕ) (told : List WebEvent) → IsBytes bytes → (x : BeginsBody bytes told) → ¬ (EndsWithConnection bytes) → ¬ (IsCutOff bytes)
    → IsCutOff bytes ⊎ ((complete : Bool) × (finish (after begin bytes) ≡ Ok complete)) → finish (after begin bytes) ≡ Ok false
false_by bytes told all x not_whole not_cut (inl y) = absurd (not_cut y)
false_by bytes told all x not_whole not_cut (inr (true, e)) = absurd (not_whole (only_body bytes told all x e))
false_by bytes told all x not_whole not_cut (inr (false, e)) = e

false_begun : (bytes : List ℕ) (told : List WebEvent) → IsBytes bytes → BeginsAnswer bytes told → ¬ (EndsWithConnection bytes) → ¬ (IsCutOff bytes)
    → finish (after begin bytes) ≡ Ok false
false_begun bytes told all (within_head x none) not_whole not_cut = head_at_end bytes x
false_begun bytes told all (within_body x) not_whole not_cut =
    false_by bytes told all x not_whole not_cut (body_ends bytes told x x.r.body refl)

otherwise_at_end : (bytes : List ℕ) → IsBytes bytes → Found bytes → ¬ (EndsWithConnection bytes) → ¬ (IsCutOff bytes)
    → ((told : List WebEvent) (fault : WebFault) → ¬ (HasAnswerFault bytes told fault)) → finish (after begin bytes) ≡ Ok false
otherwise_at_end bytes all (begun told x) not_whole not_cut right = false_begun bytes told all x not_whole not_cut
otherwise_at_end bytes all (whole told x) not_whole not_cut right = over_at_end (after begin bytes) (whole_says bytes told x).0
otherwise_at_end bytes all (refused told fault x) not_whole not_cut right = absurd (right told fault x)

pub connections_end : ConnectionsEnd
unfolding answer_in
connections_end = record {
  whole = λ bytes all. (whole_at_end bytes, λ ends. only_at_end bytes all (found bytes all) ends);
  cut_off = λ bytes all. (cut_off_says bytes, λ ends. truncated_at_end bytes (found bytes all) ends);
  refused = fault_at_end;
  otherwise = λ bytes all not_whole not_cut right. otherwise_at_end bytes all (found bytes all) not_whole not_cut right;
}
