-- The laws of answers, for all bytes.
use Rattle.std.proofs.Common.{◌≡◌, ℕ, ◌⊎◌, inl, inr, List, ◌∷◌, ◌++◌, sym, ◌∙◌, subst}
use Rattle.web_contents.specs.declared.fault.WebFault.{WebFault}
use Rattle.web_contents.specs.declared.place.ContentPlace.TheVariants.{Open, Over, Refused}
use Rattle.web_contents.proofs.Read.{Fronts, same, shorter, longer, fronts, open_not_over, open_not_refused, over_not_refused, one_refusal}
use Rattle.web_responses.specs.declared.event.WebEvent.{WebEvent}
use Rattle.web_responses.specs.Answers.{begin, after, standing, answer_in}
use Rattle.web_responses.specs.Standard.{HasAnswer, BeginsAnswer, IsAnswerFault, HasAnswerFault}
use Rattle.web_responses.specs.Laws.{AnswersAreRead, AnswersAreOne, EndsAreFirst, PiecesJoin}
use Rattle.web_responses.proofs.Runs.{fold-after, events_of_pieces-concat, over-stays, refused-stays}
use Rattle.web_responses.proofs.Told.{Says, begun_says, whole_says, fault_says, refused_says}
use Rattle.web_responses.proofs.Given.{Found, begun, whole, refused, found}
use Rattle.web_responses.proofs.Ends.{before}

pub pieces_join : PiecesJoin
pieces_join = record { state = fold-after; told = events_of_pieces-concat; ended = over-stays; refused = refused-stays }

-- ---- what the machine does, the standard says

begun_by : (bytes : List ℕ) (told : List WebEvent) → Says bytes Open told → Found bytes → BeginsAnswer bytes told
begun_by bytes told says (begun other x) = subst (BeginsAnswer bytes) (sym (begun_says bytes other x).1 ∙ says.1) x
begun_by bytes told says (whole other x) = absurd (open_not_over (standing (after begin bytes)) says.0 (whole_says bytes other x).0)
begun_by bytes told says (refused other fault x) =
    absurd (open_not_refused (standing (after begin bytes)) fault says.0 (refused_says bytes other fault x).0)

whole_by : (bytes : List ℕ) (told : List WebEvent) → Says bytes Over told → Found bytes → HasAnswer bytes told
whole_by bytes told says (begun other x) = absurd (open_not_over (standing (after begin bytes)) (begun_says bytes other x).0 says.0)
whole_by bytes told says (whole other x) = subst (HasAnswer bytes) (sym (whole_says bytes other x).1 ∙ says.1) x
whole_by bytes told says (refused other fault x) =
    absurd (over_not_refused (standing (after begin bytes)) fault says.0 (refused_says bytes other fault x).0)

refused_by : (bytes : List ℕ) (told : List WebEvent) (fault : WebFault) → Says bytes (Refused fault) told → Found bytes → HasAnswerFault bytes told fault
refused_by bytes told fault says (begun other x) =
    absurd (open_not_refused (standing (after begin bytes)) fault (begun_says bytes other x).0 says.0)
refused_by bytes told fault says (whole other x) =
    absurd (over_not_refused (standing (after begin bytes)) fault (whole_says bytes other x).0 says.0)
refused_by bytes told fault says (refused other wrong x) =
    let also = refused_says bytes other wrong x in
    let one = one_refusal (standing (after begin bytes)) wrong fault also.0 says.0 in
    subst (λ (t : List WebEvent). HasAnswerFault bytes t fault) (sym also.1 ∙ says.1) (subst (HasAnswerFault bytes other) one x)

pub answers_are_read : AnswersAreRead
unfolding answer_in
answers_are_read = record {
  begun = λ bytes told all. (begun_says bytes told, λ says. begun_by bytes told says (found bytes all));
  whole = λ bytes told all. (whole_says bytes told, λ says. whole_by bytes told says (found bytes all));
  refused = λ bytes told fault all. (refused_says bytes told fault, λ says. refused_by bytes told fault says (found bytes all));
}

-- ---- one reading

some_of : (bytes : List ℕ) → Found bytes → ((told : List WebEvent) × BeginsAnswer bytes told)
    ⊎ (((told : List WebEvent) × HasAnswer bytes told) ⊎ ((told : List WebEvent) × (fault : WebFault) × HasAnswerFault bytes told fault))
some_of bytes (begun told x) = inl (told, x)
some_of bytes (whole told x) = inr (inl (told, x))
some_of bytes (refused told fault x) = inr (inr (told, fault, x))

-- a proper beginning of what settles a fault settles none
no_earlier : (front : List ℕ) (b : ℕ) (back bytes : List ℕ) (told other : List WebEvent) (fault wrong : WebFault) → bytes ≡ front ++ b ∷ back
    → IsAnswerFault front told fault → IsAnswerFault bytes other wrong → ⊥
no_earlier front b back bytes told other fault wrong e first second =
    open_not_refused (standing (after begin front)) fault
    (before front b back other wrong (subst (λ (s : List ℕ). IsAnswerFault s other wrong) e second)) (fault_says front told fault first).0

same_settled : (first second : List ℕ) (told other : List WebEvent) (fault wrong : WebFault) → IsAnswerFault first told fault → IsAnswerFault second other wrong
    → Fronts first second → first ≡ second
same_settled first second told other fault wrong x y (same e) = e
same_settled first second told other fault wrong x y (shorter b back e) = absurd (no_earlier first b back second told other fault wrong e x y)
same_settled first second told other fault wrong x y (longer b back e) = absurd (no_earlier second b back first other told wrong fault e y x)

one_fault : (bytes : List ℕ) (told other : List WebEvent) (fault wrong : WebFault) (first : HasAnswerFault bytes told fault)
    (second : HasAnswerFault bytes other wrong) → (told ≡ other) × (fault ≡ wrong) × (first.settled ≡ second.settled)
one_fault bytes told other fault wrong first second =
    let x = refused_says bytes told fault first in
    let y = refused_says bytes other wrong second in (
      sym x.1 ∙ y.1,
      one_refusal (standing (after begin bytes)) fault wrong x.0 y.0,
      same_settled first.settled second.settled told other fault wrong first.is_fault second.is_fault
          (fronts first.settled first.rest second.settled second.rest (sym first.bytes_are ∙ second.bytes_are)),
    )

pub answers_are_one : AnswersAreOne
answers_are_one = record {
  some = λ bytes all. some_of bytes (found bytes all);
  begun_not_whole = λ bytes told other x y. open_not_over (standing (after begin bytes)) (begun_says bytes told x).0 (whole_says bytes other y).0;
  begun_not_refused = λ bytes told other fault x y.
      open_not_refused (standing (after begin bytes)) fault (begun_says bytes told x).0 (refused_says bytes other fault y).0;
  whole_not_refused = λ bytes told other fault x y.
      over_not_refused (standing (after begin bytes)) fault (whole_says bytes told x).0 (refused_says bytes other fault y).0;
  one_beginning = λ bytes told other x y. sym (begun_says bytes told x).1 ∙ (begun_says bytes other y).1;
  one_answer = λ bytes told other x y. sym (whole_says bytes told x).1 ∙ (whole_says bytes other y).1;
  one_fault = one_fault;
}

-- ---- ends are first

begun_first : (front : List ℕ) → Found front → standing (after begin front) ≡ Open → (told : List WebEvent) × BeginsAnswer front told
begun_first front (begun told x) stands = (told, x)
begun_first front (whole told x) stands = absurd (open_not_over (standing (after begin front)) stands (whole_says front told x).0)
begun_first front (refused told fault x) stands =
    absurd (open_not_refused (standing (after begin front)) fault stands (refused_says front told fault x).0)

pub ends_are_first : EndsAreFirst
ends_are_first = record {
  refused = λ front b back told fault all x. begun_first front (found front all) (before front b back told fault x);
}
