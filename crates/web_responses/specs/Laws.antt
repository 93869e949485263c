-- Laws over the definitions, for all bytes.
use Rattle.std.specs.Prelude.{◌≡◌, ◌↔◌, ℕ, ◌⊎◌, true, false, List, [], ◌∷◌, ◌++◌, take, fold, Option, Ok, Err}
use Rattle.std.specs.Option.{option_to_list}
use Rattle.std.specs.List.{concat, flat_map}
use Rattle.web_frames.specs.Standard.{IsBytes}
use Rattle.web_contents.specs.declared.fault.WebFault.{WebFault}
use Rattle.web_contents.specs.declared.fault.WebFault.TheVariants.{Truncated}
use Rattle.web_contents.specs.declared.place.ContentPlace.TheVariants.{Open, Over, Refused}
use Rattle.web_responses.specs.declared.event.WebEvent.{WebEvent}
use Rattle.web_responses.specs.Answers.{AnswerState, after, events_of, standing, finish, answer_in}
use Rattle.web_responses.specs.Calls.{Reader, begin, Feeds, Settles}
use Rattle.web_responses.specs.Standard.{HasAnswer, BeginsAnswer, IsAnswerFault, HasAnswerFault, EndsWithConnection, IsCutOff}

-- an answer is open, over or refused exactly where the standard says that the bytes begin one, have one, or have the fault, with the events
-- that it tells
pub record AnswersAreRead : Type 0 where
  pub begun : (bytes : List ℕ) (told : List WebEvent) → IsBytes bytes
      → BeginsAnswer bytes told ↔ (((answer_in bytes).place ≡ Open) × ((answer_in bytes).told ≡ told))
  pub whole : (bytes : List ℕ) (told : List WebEvent) → IsBytes bytes
      → HasAnswer bytes told ↔ (((answer_in bytes).place ≡ Over) × ((answer_in bytes).told ≡ told))
  pub refused : (bytes : List ℕ) (told : List WebEvent) (fault : WebFault) → IsBytes bytes
      → HasAnswerFault bytes told fault ↔ (((answer_in bytes).place ≡ Refused fault) × ((answer_in bytes).told ≡ told))

-- bytes are exactly one of these: a beginning of an answer, an answer with bytes after it, or a fault with bytes after it; each with one list
-- of events, the fault with one end
pub record AnswersAreOne : Type 0 where
  pub some : (bytes : List ℕ) → IsBytes bytes →
      ((told : List WebEvent) × BeginsAnswer bytes told)
      ⊎ (((told : List WebEvent) × HasAnswer bytes told) ⊎ ((told : List WebEvent) × (fault : WebFault) × HasAnswerFault bytes told fault))
  pub begun_not_whole : (bytes : List ℕ) (told other : List WebEvent) → BeginsAnswer bytes told → ¬ (HasAnswer bytes other)
  pub begun_not_refused : (bytes : List ℕ) (told other : List WebEvent) (fault : WebFault)
      → BeginsAnswer bytes told → ¬ (HasAnswerFault bytes other fault)
  pub whole_not_refused : (bytes : List ℕ) (told other : List WebEvent) (fault : WebFault)
      → HasAnswer bytes told → ¬ (HasAnswerFault bytes other fault)
  pub one_beginning : (bytes : List ℕ) (told other : List WebEvent) → BeginsAnswer bytes told → BeginsAnswer bytes other → told ≡ other
  pub one_answer : (bytes : List ℕ) (told other : List WebEvent) → HasAnswer bytes told → HasAnswer bytes other → told ≡ other
  pub one_fault : (bytes : List ℕ) (told other : List WebEvent) (fault wrong : WebFault) (first : HasAnswerFault bytes told fault)
      (second : HasAnswerFault bytes other wrong) → (told ≡ other) × (fault ≡ wrong) × (first.settled ≡ second.settled)

-- a fault ends at the first byte where it can: fewer bytes are a beginning
pub record EndsAreFirst : Type 0 where
  pub refused : (front : List ℕ) (b : ℕ) (back : List ℕ) (told : List WebEvent) (fault : WebFault) → IsBytes front
      → IsAnswerFault (front ++ b ∷ back) told fault → (before : List WebEvent) × BeginsAnswer front before

-- where the connection ends: the answer is whole with it exactly where its body ends with the connection and its payload is whole; it is
-- truncated exactly where the connection ended within a body by length or in chunks, or where this is the fault that came before, of a body
-- that ended within a frame; any other fault is the one that came before; and else the end of the connection says nothing
pub record ConnectionsEnd : Type 0 where
  pub whole : (bytes : List ℕ) → IsBytes bytes → EndsWithConnection bytes ↔ ((answer_in bytes).ending ≡ Ok true)
  pub cut_off : (bytes : List ℕ) → IsBytes bytes
      → (IsCutOff bytes ⊎ ((told : List WebEvent) × HasAnswerFault bytes told Truncated)) ↔ ((answer_in bytes).ending ≡ Err Truncated)
  pub refused : (bytes : List ℕ) (told : List WebEvent) (fault : WebFault) → HasAnswerFault bytes told fault
      → (answer_in bytes).ending ≡ Err fault
  pub otherwise : (bytes : List ℕ) → IsBytes bytes → ¬ (EndsWithConnection bytes) → ¬ (IsCutOff bytes)
      → ((told : List WebEvent) (fault : WebFault) → ¬ (HasAnswerFault bytes told fault)) → (answer_in bytes).ending ≡ Ok false

-- the events of pieces one after another
abbrev pub events_of_pieces : AnswerState → List (List ℕ) → List WebEvent
events_of_pieces s [] = []
events_of_pieces s (piece ∷ pieces) = events_of s piece ++ events_of_pieces (after s piece) pieces

-- pieces one after another tell and leave what the joined bytes do; what is over or refused stays so, and tells nothing
pub record PiecesJoin : Type 0 where
  pub state : (s : AnswerState) (pieces : List (List ℕ)) → fold after s pieces ≡ after s (concat pieces)
  pub told : (s : AnswerState) (pieces : List (List ℕ)) → events_of_pieces s pieces ≡ events_of s (concat pieces)
  pub ended : (s : AnswerState) (bytes : List ℕ) → standing s ≡ Over → (after s bytes ≡ s) × (events_of s bytes ≡ [])
  pub refused : (s : AnswerState) (bytes : List ℕ) (fault : WebFault) → standing s ≡ Refused fault
      → (standing (after s bytes) ≡ Refused fault) × (events_of s bytes ≡ [])

-- ---- calls one after another

-- a call that told an event, or none: the piece, how many of its bytes were taken, and what was told
pub record Call : Type 0 where
  pub piece : List ℕ
  pub count : ℕ
  pub told : Option WebEvent

-- such calls lead a reader from one state to another
abbrev pub Lead : Reader → List Call → Reader → Type 0
Lead old [] new = new ≡ old
Lead old (call ∷ calls) new = (next : Reader) × Feeds old call.piece call.count call.told next × Lead next calls new

-- the bytes that calls took, and the events that they told
abbrev pub taken : List Call → List ℕ
taken calls = flat_map (λ call. take call.count call.piece) calls

abbrev pub told_by : List Call → List WebEvent
told_by calls = flat_map (λ call. option_to_list call.told) calls

-- whatever the pieces were, a reader has told what the bytes taken say as an answer, but for the events that are still to be told; and it
-- refuses exactly with the fault that these bytes and those of the piece say
pub record AnswersAreFed : Type 0 where
  pub told : (calls : List Call) (new : Reader) → Lead begin calls new
      → (told_by calls ++ new.due ≡ (answer_in (taken calls)).told) × (standing new.state ≡ (answer_in (taken calls)).place)
      × (finish new.state ≡ (answer_in (taken calls)).ending)
  pub refused : (calls : List Call) (now new : Reader) (piece : List ℕ) (fault : WebFault) → Lead begin calls now → Settles now piece fault new
      → ((answer_in (taken calls ++ piece)).place ≡ Refused fault) × ((answer_in (taken calls ++ piece)).told ≡ told_by calls)
