-- What the machine reads is what the standard says of the bytes.
use Rattle.std.proofs.Common.{◌≡◌, ℕ, ◌<◌, ◌≤◌, ◌⊎◌, inl, inr, List, [], ◌∷◌, ◌++◌, length, fold, take, drop, refl, sym, ap, ◌∙◌, subst, append_assoc, append-nil, length-append, Option, Some, None, Result, Ok, Err, arith}
use Rattle.std.specs.List.{concat}
use Rattle.std.proofs.lemmas.Bool.{cases_lt}
use Rattle.std.proofs.lemmas.List.{take_at, drop_at, take-append-le, drop-append-le, take-append-drop}
use Rattle.web_heads.specs.declared.fault.HeadFault.{HeadFault}
use Rattle.web_heads.specs.declared.request.RequestHead.{RequestHead}
use Rattle.web_heads.specs.Requests.{request_head}
use Rattle.web_heads.specs.Standard.{RequestSays}
use Rattle.web_heads.proofs.RequestsSaid.{sound, only}
use Rattle.web_head_reader.specs.declared.fault.HeadReadFault.TheVariants as long
use Rattle.web_head_reader.specs.Steps.{HeadState}
use Rattle.web_head_reader.specs.Steps as heads
use Rattle.web_head_reader.specs.Standard.{IsHead, HasHead, IsTooLong, HasTooLong}
use Rattle.web_head_reader.specs.Standard as head_words
use Rattle.web_head_reader.proofs.Comes.{whole_at}
use Rattle.web_head_reader.proofs.Read.{heads_are_read, heads_are_one, ends_are_first}
use Rattle.web_heads.proofs.LastLemmas.{last_of}
use Rattle.web_frames.specs.declared.limits.Side.TheVariants.{Request}
use Rattle.web_frames.specs.declared.status.Trailers.{Trailers}
use Rattle.web_frames.specs.declared.event.FrameEvent.{FrameEvent}
use Rattle.web_frames.specs.Standard.{IsBytes, AreTrailers}
use Rattle.web_frames.proofs.ReadsLemmas.{All_back, All_front}
use Rattle.web_contents.specs.declared.fault.WebFault.{WebFault}
use Rattle.web_contents.specs.declared.fault.WebFault.TheVariants.{HeadTooLong}
use Rattle.web_contents.specs.declared.place.ContentPlace.{ContentPlace}
use Rattle.web_contents.specs.declared.place.ContentPlace.TheVariants as content
use Rattle.web_contents.specs.Faults.{fault_of_head}
use Rattle.web_contents.specs.Contents.{Content, place_of}
use Rattle.web_contents.specs.Contents as contents
use Rattle.web_contents.specs.Standard.{HasContent, IsContentFault, HasContentFault}
use Rattle.web_contents.specs.Laws as content_laws
use Rattle.web_requests.specs.Machine.{refused, more, read, faulty, message_after, state_at, state_of, after_head, heading_of, begin, after, reading_of, request_in}
use Rattle.web_requests.specs.Standard.{HasRequestHead, HasRequest, IsBegun, in_head, in_body, IsRequestFault, long_head, bad_head, bad_body, HasFault}
use Rattle.web_requests.specs.Laws.{RequestsAreRead, RequestsAreOne, FaultsAreFirst, PiecesJoin}
use Rattle.web_requests.proofs.Course.{after-heading, after-head, after-body, after-refused, after-whole, pieces_state}

-- what is known of contents
pub record Known : Type 0 where
  pub pieces : content_laws.PiecesJoin
  pub read : content_laws.ContentsAreRead
  pub one : content_laws.ContentsAreOne
  pub first : content_laws.EndsAreFirst

-- ---- lists

-- of two ways to cut bytes, one is at least as long
record Longer (front tail head rest : List ℕ) : Type 0 where
  between : List ℕ
  front_is : front ≡ head ++ between
  rest_is : rest ≡ between ++ tail

longer : (front tail head rest : List ℕ) → front ++ tail ≡ head ++ rest → length head ≤ length front → Longer front tail head rest
longer front tail head rest e fits =
    let same : take (length head) front ≡ head
    = sym (take-append-le (length head) front tail fits) ∙ ap (take (length head)) e ∙ take_at head rest (length head) refl in
    record {
      between = drop (length head) front;
      front_is = sym (take-append-drop (length head) front) ∙ ap (λ (part : List ℕ). part ++ drop (length head) front) same;
      rest_is = sym (drop_at head rest (length head) refl) ∙ ap (drop (length head)) (sym e) ∙ drop-append-le (length head) front tail fits;
    }

-- the front is a part of the head, of which a byte follows
record Shorter (front head : List ℕ) : Type 0 where
  next : ℕ
  others : List ℕ
  head_is : head ≡ front ++ next ∷ others

shorter : (front tail head rest : List ℕ) → front ++ tail ≡ head ++ rest → length front < length head → Shorter front head
shorter front tail head rest e fits =
    let x = longer head rest front tail (sym e) (omega arith) in
    let sum = ap length x.front_is ∙ length-append front x.between in
    go x.between x.front_is (omega arith)
  where
    go : (between : List ℕ) → head ≡ front ++ between → 0 < length between → Shorter front head
    go [] is some = absurd (omega arith)
    go (next ∷ others) is some = record { next = next; others = others; head_is = is }

-- ---- the head

-- a head ends with its last byte
settled_head : (front : List ℕ) (b : ℕ) (rest : List ℕ) (s : HeadState) → head_words.IsBegun front → heads.after heads.begin (front ++ b ∷ []) ≡ s
    → after begin ((front ++ b ∷ []) ++ rest) ≡ after (heading_of s) rest
settled_head front b rest s begun is =
    ap (after begin) (append_assoc front (b ∷ []) rest)
    ∙ after-head [] front b rest s ((heads_are_read.within front).0 begun) is

last_settles : (settled rest : List ℕ) (s : HeadState) → 0 < length settled
    → ((front : List ℕ) (b : ℕ) (back : List ℕ) → settled ≡ front ++ b ∷ back → head_words.IsBegun front) → heads.after heads.begin settled ≡ s
    → after begin (settled ++ rest) ≡ after (heading_of s) rest
last_settles settled rest s some begun is =
    let last = last_of settled some in
    ap (λ (all : List ℕ). after begin (all ++ rest)) last.bytes_are
    ∙ settled_head last.front last.last rest s (begun last.front last.last [] last.bytes_are) (ap (heads.after heads.begin) (sym last.bytes_are) ∙ is)

pub after_whole_head : (bytes rest : List ℕ) → IsHead bytes → after begin (bytes ++ rest) ≡ after (after_head (length bytes) (request_head bytes)) rest
after_whole_head bytes rest x =
    let stop = x.ends.stop_is in
    last_settles bytes rest (whole_at bytes) (omega arith)
    (λ front b back e. ends_are_first.whole front b back (subst IsHead e x))
    ((heads_are_read.whole bytes bytes).0 (record { rest = []; bytes_are = sym (append-nil bytes); is_head = x }))

after_long_head : (bytes rest : List ℕ) → IsTooLong bytes → after begin (bytes ++ rest) ≡ refused HeadTooLong
after_long_head bytes rest x =
    let full = x.full in
    last_settles bytes rest (heads.refused_at long.HeadTooLong) (omega arith)
    (λ front b back e. ends_are_first.too_long front b back (subst IsTooLong e x))
    ((heads_are_read.too_long bytes).0 (record { settled = bytes; rest = []; bytes_are = sym (append-nil bytes); too_long = x }))
    ∙ after-refused HeadTooLong rest

after_begun_head : (bytes : List ℕ) → head_words.IsBegun bytes → request_in bytes ≡ more
unfolding request_in
after_begun_head bytes x = ap reading_of (after-heading bytes [] ((heads_are_read.within bytes).0 x))

-- ---- the body

-- the contents of a body before its first byte
abbrev contents_from : RequestHead → List ℕ → Content
contents_from said head = contents.begin Request said.body (length head)

after_said : (known : Known) (bytes : List ℕ) (said : RequestHead) (rest : List ℕ) (x : HasRequestHead bytes said rest)
    → after begin bytes ≡ state_of said.path (message_after [] (contents.events_of (contents_from said x.head) rest))
    (contents.after (contents_from said x.head) rest)
after_said known bytes said rest x =
    ap (after begin) x.bytes_are ∙ after_whole_head x.head rest x.is_head
    ∙ ap (λ (r : Result RequestHead HeadFault). after (after_head (length x.head) r) rest) (only x.head (Ok said) x.says)
    ∙ after-body known.pieces rest said.path [] (contents_from said x.head)

at_place : (known : Known) (bytes : List ℕ) (said : RequestHead) (rest : List ℕ) (x : HasRequestHead bytes said rest) (place : ContentPlace)
    → place_of (contents.after (contents_from said x.head) rest) ≡ place
    → request_in bytes ≡ reading_of (state_at place said.path (message_after [] (contents.events_of (contents_from said x.head) rest))
    (contents.after (contents_from said x.head) rest))
unfolding request_in
at_place known bytes said rest x place e =
    let c = contents.after (contents_from said x.head) rest in
    let message = message_after [] (contents.events_of (contents_from said x.head) rest) in
    ap reading_of (after_said known bytes said rest x ∙ ap (λ (p : ContentPlace). state_at p said.path message c) e)

-- ---- from the standard to the machine

IsBytes-said : (bytes : List ℕ) (said : RequestHead) (rest : List ℕ) → HasRequestHead bytes said rest → IsBytes bytes → IsBytes rest
IsBytes-said bytes said rest x all = All_back x.head rest (subst IsBytes x.bytes_are all)

begun_read : (known : Known) (bytes : List ℕ) → IsBytes bytes → IsBegun bytes → request_in bytes ≡ more
begun_read known bytes all (in_head x) = after_begun_head bytes x
begun_read known bytes all (in_body said rest messages trailers x begins) =
    at_place known bytes said rest x content.Open
    ((known.read.begun Request said.body (length x.head) rest messages trailers (IsBytes-said bytes said rest x all)).0 begins).0

whole_read : (known : Known) (bytes path message : List ℕ) → IsBytes bytes → HasRequest bytes path message → request_in bytes ≡ read path message
whole_read known bytes path message all x =
    let found = (known.read.whole Request x.said.body (length x.head.head) x.rest (message ∷ []) None
    (IsBytes-said bytes x.said x.rest x.head all)).0 x.content in
    at_place known bytes x.said x.rest x.head content.Over found.0
    ∙ ap (λ (told : List FrameEvent). read x.said.path (message_after [] told)) found.1
    ∙ ap (λ (p : List ℕ). read p message) x.path_is

fault_settled : (known : Known) (bytes settled rest : List ℕ) (fault : WebFault) → IsBytes bytes → bytes ≡ settled ++ rest → IsRequestFault settled fault
    → request_in bytes ≡ faulty fault
unfolding request_in
fault_settled known bytes settled rest fault all e (long_head x is) =
    ap (λ (b : List ℕ). reading_of (after begin b)) e ∙ ap reading_of (after_long_head settled rest x) ∙ ap faulty (sym is)
fault_settled known bytes settled rest fault all e (bad_head wrong x says is) =
    ap (λ (b : List ℕ). reading_of (after begin b)) e
    ∙ ap reading_of (after_whole_head settled rest x
    ∙ ap (λ (r : Result RequestHead HeadFault). after (after_head (length settled) r) rest) (only settled (Err wrong) says)
    ∙ after-refused (fault_of_head wrong) rest)
    ∙ ap faulty (sym is)
fault_settled known bytes settled rest fault all e (bad_body said part messages trailers x faulty_part) =
    let parts : bytes ≡ x.head ++ (part ++ rest)
    = e ∙ ap (λ (b : List ℕ). b ++ rest) x.bytes_are ∙ append_assoc x.head part rest in
    let said_here : HasRequestHead bytes said (part ++ rest) = record { head = x.head; bytes_are = parts; is_head = x.is_head; says = x.says } in
    let has : HasContentFault Request said.body (length x.head) (part ++ rest) messages trailers fault
    = record { settled = part; rest = rest; bytes_are = refl; is_fault = faulty_part } in
    at_place known bytes said (part ++ rest) said_here (content.Refused fault)
    ((known.read.refused Request said.body (length x.head) (part ++ rest) messages trailers fault
    (All_back x.head (part ++ rest) (subst IsBytes parts all))).0 has).0

refused_read : (known : Known) (bytes : List ℕ) (fault : WebFault) → IsBytes bytes → HasFault bytes fault → request_in bytes ≡ faulty fault
refused_read known bytes fault all x = fault_settled known bytes x.settled x.after fault all x.bytes_are x.is_fault

-- ---- bytes are one of three

data Said (bytes : List ℕ) : Type 0 where
  is_begun : IsBegun bytes → Said bytes
  is_whole : (path message : List ℕ) → HasRequest bytes path message → Said bytes
  is_faulty : (fault : WebFault) → HasFault bytes fault → Said bytes

one_message : (messages : List (List ℕ)) → length messages ≡ 1 → (message : List ℕ) × (messages ≡ message ∷ [])
one_message [] e = absurd (omega arith)
one_message (message ∷ []) e = (message, refl)
one_message (message ∷ next ∷ messages) e = absurd (omega arith)

no_trailers : (bytes : List ℕ) (trailers : Option Trailers) → AreTrailers Request bytes trailers → trailers ≡ None
no_trailers bytes None x = refl
no_trailers bytes (Some trailers) x = absurd (x.1.frame.may_stand.1 x.1.marked)

said_whole : (bytes : List ℕ) (said : RequestHead) (rest : List ℕ) (messages : List (List ℕ)) (trailers : Option Trailers)
    → HasRequestHead bytes said rest → HasContent Request said.body rest messages trailers → Said bytes
said_whole bytes said rest messages trailers x found =
    let message = one_message messages found.enough in
    let none = no_trailers found.frames.back trailers found.frames.last in
    is_whole said.path message.0
    (record {
      said = said;
      rest = rest;
      head = x;
      path_is = refl;
      content = subst (λ (t : Option Trailers). HasContent Request said.body rest (message.0 ∷ []) t) none
          (subst (λ (all : List (List ℕ)). HasContent Request said.body rest all trailers) message.1 found);
    })

said_faulty : (bytes : List ℕ) (said : RequestHead) (rest : List ℕ) (messages : List (List ℕ)) (trailers : Option Trailers) (fault : WebFault)
    (x : HasRequestHead bytes said rest) → HasContentFault Request said.body (length x.head) rest messages trailers fault → Said bytes
said_faulty bytes said rest messages trailers fault x found = is_faulty fault (record {
  settled = x.head ++ found.settled;
  after = found.rest;
  bytes_are = x.bytes_are ∙ ap (λ (b : List ℕ). x.head ++ b) found.bytes_are ∙ sym (append_assoc x.head found.settled found.rest);
  is_fault = bad_body said found.settled messages trailers
      (record { head = x.head; bytes_are = refl; is_head = x.is_head; says = x.says }) found.is_fault;
})

said_body : (known : Known) (bytes : List ℕ) (said : RequestHead) (rest : List ℕ) → IsBytes bytes → HasRequestHead bytes said rest → Said bytes
said_body known bytes said rest all x =
    elim (known.one.some Request said.body (length x.head) rest (IsBytes-said bytes said rest x all)) [
      | inl begins ↦ is_begun (in_body said rest begins.0 begins.1 x begins.2)
      | inr (inl found) ↦ said_whole bytes said rest found.0 found.1 x found.2
      | inr (inr found) ↦ said_faulty bytes said rest found.0 found.1 found.2 x found.3
    ]

said_head : (known : Known) (bytes found : List ℕ) → IsBytes bytes → HasHead bytes found → (r : Result RequestHead HeadFault) → RequestSays found r
    → Said bytes
said_head known bytes found all x (Ok said) says =
    said_body known bytes said x.rest all (record { head = found; bytes_are = x.bytes_are; is_head = x.is_head; says = says })
said_head known bytes found all x (Err wrong) says = is_faulty (fault_of_head wrong) (record {
  settled = found;
  after = x.rest;
  bytes_are = x.bytes_are;
  is_fault = bad_head wrong x.is_head says refl;
})

said : (known : Known) (bytes : List ℕ) → IsBytes bytes → Said bytes
said known bytes all = elim (heads_are_one.some bytes) [
  | inl begun ↦ is_begun (in_head begun)
  | inr (inl found) ↦ said_head known bytes found.0 all found.1 (request_head found.0) (sound found.0)
  | inr (inr found) ↦ is_faulty HeadTooLong (record {
    settled = found.settled;
    after = found.rest;
    bytes_are = found.bytes_are;
    is_fault = long_head found.too_long refl;
  })
]

-- ---- from the machine to the standard

read_begun : (known : Known) (bytes : List ℕ) → IsBytes bytes → request_in bytes ≡ more → IsBegun bytes
read_begun known bytes all e = go (said known bytes all)
  where
    go : Said bytes → IsBegun bytes
    go (is_begun x) = x
    go (is_whole path message x) = absurd (let other : more ≡ read path message = sym e ∙ whole_read known bytes path message all x in cc)
    go (is_faulty fault x) = absurd (let other : more ≡ faulty fault = sym e ∙ refused_read known bytes fault all x in cc)

read_whole : (known : Known) (bytes path message : List ℕ) → IsBytes bytes → request_in bytes ≡ read path message → HasRequest bytes path message
read_whole known bytes path message all e = go (said known bytes all)
  where
    go : Said bytes → HasRequest bytes path message
    go (is_begun x) = absurd (let other : read path message ≡ more = sym e ∙ begun_read known bytes all x in cc)
    go (is_whole p m x) =
        let same : read p m ≡ read path message = sym (whole_read known bytes p m all x) ∙ e in
        let same_path : p ≡ path = cc in
        let same_message : m ≡ message = cc in
        subst (λ (n : List ℕ). HasRequest bytes n message) same_path (subst (λ (n : List ℕ). HasRequest bytes p n) same_message x)
    go (is_faulty fault x) = absurd (let other : read path message ≡ faulty fault = sym e ∙ refused_read known bytes fault all x in cc)

read_faulty : (known : Known) (bytes : List ℕ) (fault : WebFault) → IsBytes bytes → request_in bytes ≡ faulty fault → HasFault bytes fault
read_faulty known bytes fault all e = go (said known bytes all)
  where
    go : Said bytes → HasFault bytes fault
    go (is_begun x) = absurd (let other : faulty fault ≡ more = sym e ∙ begun_read known bytes all x in cc)
    go (is_whole path message x) = absurd (let other : faulty fault ≡ read path message = sym e ∙ whole_read known bytes path message all x in cc)
    go (is_faulty wrong x) =
        let same : faulty wrong ≡ faulty fault = sym (refused_read known bytes wrong all x) ∙ e in
        let same_fault : wrong ≡ fault = cc in
        subst (HasFault bytes) same_fault x

pub requests_are_read : Known → RequestsAreRead
requests_are_read known = record {
  begun = λ bytes all. (begun_read known bytes all, read_begun known bytes all);
  whole = λ bytes path message all. (whole_read known bytes path message all, read_whole known bytes path message all);
  refused = λ bytes fault all. (refused_read known bytes fault all, read_faulty known bytes fault all);
}

-- ---- each in one way

some_of : (known : Known) (bytes : List ℕ) → IsBytes bytes
    → IsBegun bytes ⊎ (((path : List ℕ) × (message : List ℕ) × HasRequest bytes path message) ⊎ ((fault : WebFault) × HasFault bytes fault))
some_of known bytes all = go (said known bytes all)
  where
    go : Said bytes
        → IsBegun bytes ⊎ (((path : List ℕ) × (message : List ℕ) × HasRequest bytes path message) ⊎ ((fault : WebFault) × HasFault bytes fault))
    go (is_begun x) = inl x
    go (is_whole path message x) = inr (inl (path, message, x))
    go (is_faulty fault x) = inr (inr (fault, x))

pub requests_are_one : Known → RequestsAreOne
requests_are_one known = record {
  some = some_of known;
  begun_not_whole = λ bytes path message all x y.
      let other : more ≡ read path message = sym (begun_read known bytes all x) ∙ whole_read known bytes path message all y in cc;
  begun_not_refused = λ bytes fault all x y.
      let other : more ≡ faulty fault = sym (begun_read known bytes all x) ∙ refused_read known bytes fault all y in cc;
  whole_not_refused = λ bytes path message fault all x y.
      let other : read path message ≡ faulty fault = sym (whole_read known bytes path message all x) ∙ refused_read known bytes fault all y in cc;
  one_request = λ bytes path message other_path other_message all x y.
      let same : read path message ≡ read other_path other_message
      = sym (whole_read known bytes path message all x) ∙ whole_read known bytes other_path other_message all y in
      let same_path : path ≡ other_path = cc in
      let same_message : message ≡ other_message = cc in
      (same_path, same_message);
  one_fault = λ bytes fault wrong all x y.
      let same : faulty fault ≡ faulty wrong = sym (refused_read known bytes fault all x) ∙ refused_read known bytes wrong all y in cc;
}

-- ---- the first byte that can

in_front : (front head : List ℕ) → IsHead head → Shorter front head → IsBegun front
in_front front head x part = in_head (ends_are_first.whole front part.next part.others (subst IsHead part.head_is x))

in_rest : (known : Known) (front : List ℕ) (b : ℕ) (back : List ℕ) (said : RequestHead) (rest : List ℕ) (messages : List (List ℕ))
    (trailers : Option Trailers) (fault : WebFault) (x : HasRequestHead (front ++ b ∷ back) said rest) → IsBytes (front ++ b ∷ back)
    → IsContentFault Request said.body (length x.head) rest messages trailers fault → Longer front (b ∷ back) x.head rest → IsBegun front
in_rest known front b back said rest messages trailers fault x all faulty_part part =
    let is_fault = subst (λ (r : List ℕ). IsContentFault Request said.body (length x.head) r messages trailers fault) part.rest_is faulty_part in
    let here = All_back x.head part.between (subst IsBytes part.front_is (All_front front (b ∷ back) all)) in
    let begins = known.first.refused Request said.body (length x.head) part.between b back messages trailers fault here is_fault in
    in_body said part.between begins.0 begins.1
    (record { head = x.head; bytes_are = part.front_is; is_head = x.is_head; says = x.says }) begins.2

pub faults_are_first : Known → FaultsAreFirst
faults_are_first known front b back fault all x = go x
  where
    go : IsRequestFault (front ++ b ∷ back) fault → IsBegun front
    go (long_head y is) = in_head (ends_are_first.too_long front b back y)
    go (bad_head wrong y says is) = in_head (ends_are_first.whole front b back y)
    go (bad_body said rest messages trailers y faulty_part) = elim (cases_lt (length front) (length y.head)) [
      | inl before ↦ in_front front y.head y.is_head (shorter front (b ∷ back) y.head rest y.bytes_are before)
      | inr later ↦ in_rest known front b back said rest messages trailers fault y all faulty_part
          (longer front (b ∷ back) y.head rest y.bytes_are later)
    ]

-- ---- pieces

pieces_said : (pieces : List (List ℕ)) → reading_of (fold after begin pieces) ≡ request_in (concat pieces)
unfolding request_in
pieces_said pieces = ap reading_of (pieces_state begin pieces)

pub pieces_join : PiecesJoin
pieces_join = record { state = pieces_state; said = pieces_said; ended = after-whole; stays = after-refused }
