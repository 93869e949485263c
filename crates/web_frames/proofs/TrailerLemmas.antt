-- What the payload of a trailers frame says, as a function and in the protocol's words.
use Rattle.std.proofs.Common.{◌≡◌, ℕ, List, codes, refl, sym, ap, ◌∙◌, subst, Option, Some, None, Result, Ok, Err, arith}
use Rattle.std.specs.Prelude.{option_map, option_and_then}
use Rattle.std.specs.Str.Parse.{digits_value}
use Rattle.web_heads.specs.Texts.{decimal_of}
use Rattle.web_heads.specs.Standard.{IsDecimal}
use Rattle.web_heads.proofs.NumberLemmas.{decimal_of-says, decimal_of-Some}
use Rattle.web_heads.proofs.StepLemmas.{found_after, found_map}
use Rattle.web_frames.specs.declared.status.Trailers.{Trailers}
use Rattle.web_frames.specs.declared.fault.FrameFault.{FrameFault}
use Rattle.web_frames.specs.declared.fault.FrameFault.TheVariants.{FrameTooLong, Compressed, AfterMessage, AfterTrailers, BadTrailer, NoMessage, OutOfMemory}
use Rattle.web_frames.specs.Lines.{lines_of, first_of, first_value}
use Rattle.web_frames.specs.Trailers.{most_status, message_of, trailers_of, trailers_in, GivesTrailers}
use Rattle.web_frames.specs.Standard.{IsFirst, SaysMessage, ValuesSay, TrailersSay, Answers}
use Rattle.web_frames.proofs.LineLemmas.{AreLines-lines_of, lines_of-AreLines}
use Rattle.web_frames.proofs.ValueLemmas.{IsFirstValue-first_of, first_of-IsFirstValue, first_of-LacksName, LacksName-first_of}

-- ---- the message

IsFirst-first_of : (name : List ℕ) (lines : List (List ℕ)) (o : Option (List ℕ)) → first_of name lines ≡ o → IsFirst name lines o
IsFirst-first_of name lines None e = LacksName-first_of name lines e
IsFirst-first_of name lines (Some value) e = IsFirstValue-first_of name lines value e

first_of-IsFirst : (name : List ℕ) (lines : List (List ℕ)) (o : Option (List ℕ)) → IsFirst name lines o → first_of name lines ≡ o
first_of-IsFirst name lines None lacks = first_of-LacksName name lines lacks
first_of-IsFirst name lines (Some value) first = first_of-IsFirstValue name lines value first

SaysMessage-message_of : (o : Option (List ℕ)) → SaysMessage o (message_of o)
unfolding message_of
SaysMessage-message_of None = refl
SaysMessage-message_of (Some value) = refl

message_of-SaysMessage : (o : Option (List ℕ)) (message : List ℕ) → SaysMessage o message → message_of o ≡ message
unfolding message_of
message_of-SaysMessage None message e = sym e
message_of-SaysMessage (Some value) message e = sym e

-- ---- two values

pub ValuesSay-trailers_of : (status : List ℕ) (message : Option (List ℕ)) (trailers : Trailers) → trailers_of status message ≡ Some trailers → ValuesSay status message trailers
unfolding trailers_of
ValuesSay-trailers_of status message trailers e =
    let p = found_map (decimal_of status most_status) (λ (number : ℕ). record { status = number; message = message_of message }) trailers e in
    let says = decimal_of-says status most_status p.0 p.1 in
    let number : p.0 ≡ trailers.status = ap (λ (t : Trailers). t.status) p.2 in
    record {
      number = subst (IsDecimal status) number says.0;
      fits = omega (arith, says.1);
      text = subst (SaysMessage message) (ap (λ (t : Trailers). t.message) p.2) (SaysMessage-message_of message);
    }

some_trailers : (number : ℕ) (message : List ℕ) (trailers : Trailers) → number ≡ trailers.status → message ≡ trailers.message
    → ◌≡◌ {A = Option Trailers} (Some (record { status = number; message = message })) (Some trailers)
some_trailers number message trailers status is =
    ap (λ (n : ℕ). let t : Trailers = record { status = n; message = message } in Some t) status
    ∙ ap (λ (m : List ℕ). let t : Trailers = record { status = trailers.status; message = m } in Some t) is

pub trailers_of-ValuesSay : (status : List ℕ) (message : Option (List ℕ)) (trailers : Trailers) → ValuesSay status message trailers → trailers_of status message ≡ Some trailers
unfolding trailers_of
trailers_of-ValuesSay status message trailers says =
    let number = says.number in
    let fits = says.fits in
    let value = number.value in
    let found = decimal_of-Some status most_status number.some number.digits (omega (arith, value)) in
    ap (option_map (λ (n : ℕ). record { status = n; message = message_of message })) (sym found)
    ∙ some_trailers (digits_value 10 status) (message_of message) trailers (sym value) (message_of-SaysMessage message trailers.message says.text)

-- ---- a payload

pub TrailersSay-trailers_in : (payload : List ℕ) (trailers : Trailers) → trailers_in payload ≡ Some trailers → TrailersSay payload trailers
unfolding trailers_in
TrailersSay-trailers_in payload trailers e =
    let lines = lines_of payload in
    let message = first_of (codes "grpc-message") lines in
    let p = found_after (first_of (codes "grpc-status") lines) (λ (status : List ℕ). trailers_of status message) trailers e in
    record {
      lines = lines;
      whole = AreLines-lines_of payload;
      status = p.0;
      status_is = IsFirstValue-first_of (codes "grpc-status") lines p.0 p.1;
      message = message;
      message_is = IsFirst-first_of (codes "grpc-message") lines message refl;
      values = ValuesSay-trailers_of p.0 message trailers p.2;
    }

pub trailers_in-TrailersSay : (payload : List ℕ) (trailers : Trailers) → TrailersSay payload trailers → trailers_in payload ≡ Some trailers
unfolding trailers_in
trailers_in-TrailersSay payload trailers says =
    let lines = lines_of-AreLines payload says.lines says.whole in
    let status = ap (first_of (codes "grpc-status")) lines ∙ first_of-IsFirstValue (codes "grpc-status") says.lines says.status says.status_is in
    let message = ap (first_of (codes "grpc-message")) lines ∙ first_of-IsFirst (codes "grpc-message") says.lines says.message says.message_is in
    ap (option_and_then (λ (s : List ℕ). trailers_of s (first_value (codes "grpc-message") payload))) status
    ∙ ap (trailers_of says.status) message
    ∙ trailers_of-ValuesSay says.status says.message trailers says.values

pub none_said : (payload : List ℕ) → trailers_in payload ≡ None → (trailers : Trailers) → ¬ TrailersSay payload trailers
none_said payload none trailers says = let found = trailers_in-TrailersSay payload trailers says in cc

-- ---- what is given is what is said

answers_by : (Says : Trailers → Type 0) (expected : Option Trailers) (result : Result Trailers FrameFault) → ((trailers : Trailers) → expected ≡ Some trailers → Says trailers)
    → ((trailers : Trailers) → Says trailers → expected ≡ Some trailers) → GivesTrailers result expected → Answers Says result
answers_by Says expected (Ok trailers) sound complete gives = sound trailers gives
answers_by Says expected (Err BadTrailer) sound complete gives = λ trailers says. let found = complete trailers says in cc
answers_by Says expected (Err OutOfMemory) sound complete gives = tt
answers_by Says expected (Err (FrameTooLong count)) sound complete gives = gives
answers_by Says expected (Err Compressed) sound complete gives = gives
answers_by Says expected (Err AfterMessage) sound complete gives = gives
answers_by Says expected (Err AfterTrailers) sound complete gives = gives
answers_by Says expected (Err NoMessage) sound complete gives = gives

pub Answers-payload : (payload : List ℕ) (result : Result Trailers FrameFault) → GivesTrailers result (trailers_in payload) → Answers (TrailersSay payload) result
Answers-payload payload result = answers_by (TrailersSay payload) (trailers_in payload) result (TrailersSay-trailers_in payload) (trailers_in-TrailersSay payload)

pub Answers-values : (status : List ℕ) (message : Option (List ℕ)) (result : Result Trailers FrameFault) → GivesTrailers result (trailers_of status message)
    → Answers (ValuesSay status message) result
Answers-values status message result =
    answers_by (ValuesSay status message) (trailers_of status message) result (ValuesSay-trailers_of status message) (trailers_of-ValuesSay status message)
