-- What the calls of a reader of requests answer and leave, and what it holds between them.
use Rattle.std.specs.Prelude.{◌≡◌, ◌≢◌, ℕ, ◌<◌, ◌≤◌, ◌⊎◌, Bool, true, false, List, [], length, take, Result, Ok, Err}
use Rattle.web_head_reader.specs.declared.place.HeadPlace.TheVariants as head
use Rattle.web_head_reader.specs.Steps.{HeadState}
use Rattle.web_heads.specs.Requests.{request_head}
use Rattle.web_head_reader.specs.Standard.{IsBegun}
use Rattle.web_contents.specs.declared.fault.WebFault.{WebFault}
use Rattle.web_contents.specs.declared.fault.WebFault.TheVariants.{OutOfMemory}
use Rattle.web_contents.specs.Faults.{ByCause}
use Rattle.web_contents.specs.Contents.{Content}
use Rattle.web_requests.specs.declared.stage.Stage.{Stage}
use Rattle.web_requests.specs.declared.stage.Stage.TheVariants as stage
use Rattle.web_requests.specs.Machine.{RequestState, heading, within, whole, refused, state_of, after_head, after, is_whole}
use Rattle.web_requests.specs.Bounds.{IsBounded}

-- a piece was taken, and the answer says whether the request is whole
pub record Takes (old : RequestState) (piece : List ℕ) (answer : Bool) (new : RequestState) : Type 0 where
  pub state : new ≡ after old piece
  pub answers : answer ≡ is_whole new
  pub not_refused : (fault : WebFault) → new ≢ refused fault

-- the bytes of a piece settle the fault, or it was settled before them
pub record IsFaulty (old : RequestState) (piece : List ℕ) (fault : WebFault) (new : RequestState) : Type 0 where
  pub state : new ≡ after old piece
  pub fault_is : new ≡ refused fault

-- more of the request has to come
abbrev pub is_open : RequestState → Bool
is_open (heading held) = true
is_open (within path message c) = true
is_open (whole path message) = false
is_open (refused fault) = false

-- memory ran out within the request, now or before; it is refused from now on
pub record RunsOut (old new : RequestState) : Type 0 where
  pub refused_is : new ≡ refused OutOfMemory
  pub was_open : (is_open old ≡ true) ⊎ (old ≡ refused OutOfMemory)

-- a piece was refused: for its bytes, or for want of memory, which says nothing of them
abbrev pub Refuses : RequestState → List ℕ → WebFault → RequestState → Type 0
Refuses old piece fault new = ByCause fault (IsFaulty old piece fault new) (RunsOut old new)

-- what one call over a piece answers and leaves
abbrev pub Feeds : RequestState → List ℕ → Result Bool WebFault → RequestState → Type 0
Feeds old piece (Ok answer) new = Takes old piece answer new
Feeds old piece (Err fault) new = Refuses old piece fault new

-- ---- parts of a call

-- what a state answers
abbrev pub answer_of : RequestState → Result Bool WebFault
answer_of (heading held) = Ok false
answer_of (within path message c) = Ok false
answer_of (whole path message) = Ok true
answer_of (refused fault) = Err fault

abbrev pub is_heading : RequestState → Bool
is_heading (heading held) = true
is_heading (within path message c) = false
is_heading (whole path message) = false
is_heading (refused fault) = false

abbrev pub is_within : RequestState → Bool
is_within (heading held) = false
is_within (within path message c) = true
is_within (whole path message) = false
is_within (refused fault) = false

-- so many bytes of a piece were taken, one at least
pub record TakesPart (old : RequestState) (piece : List ℕ) (count : ℕ) (new : RequestState) : Type 0 where
  pub some : 0 < count
  pub fits : count ≤ length piece
  pub state : new ≡ after old (take count piece)

abbrev pub TakesSome : RequestState → List ℕ → Result ℕ WebFault → RequestState → Type 0
TakesSome old piece (Ok count) new = TakesPart old piece count new
TakesSome old piece (Err fault) new = Refuses old piece fault new

-- what a whole head leads to, unless memory ran out
abbrev pub BeginsBodyWith : RequestState → Result (List ℕ × Content) WebFault → Type 0
BeginsBodyWith expected (Ok found) = (expected ≡ state_of found.0 [] found.1) × IsBounded found.1
BeginsBodyWith expected (Err fault) = ByCause fault (expected ≡ refused fault) (Unit {0})

abbrev pub BeginsBody : List ℕ → Result (List ℕ × Content) WebFault → Type 0
BeginsBody head result = BeginsBodyWith (after_head (length head) (request_head head)) result

-- ---- what a reader holds

-- what a reader holds at a stage
abbrev pub view_of : Stage → HeadState → List ℕ → List ℕ → Content → RequestState
view_of stage.Head h path message c = heading h.held
view_of stage.Body h path message c = state_of path message c
view_of (stage.Refused fault) h path message c = refused fault

abbrev pub is_head : Stage → Bool
is_head stage.Head = true
is_head stage.Body = false
is_head (stage.Refused fault) = false

abbrev pub is_body : Stage → Bool
is_body stage.Head = false
is_body stage.Body = true
is_body (stage.Refused fault) = false

-- within a head it isn't whole, and within a body the places are bounded
pub record HoldsRequest (at : Stage) (h : HeadState) (c : Content) : Type 0 where
  pub heading : is_head at ≡ true → (h.place ≡ head.Open) × IsBegun h.held
  pub bounded : is_body at ≡ true → IsBounded c
