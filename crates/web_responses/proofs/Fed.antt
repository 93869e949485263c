-- Calls one after another.
use Rattle.std.proofs.Common.{◌≡◌, ℕ, List, [], ◌∷◌, ◌++◌, take, sym, ap, ◌∙◌, append_assoc, append-nil}
use Rattle.std.specs.Option.{option_to_list}
use Rattle.web_contents.specs.declared.fault.WebFault.{WebFault}
use Rattle.web_contents.specs.declared.place.ContentPlace.TheVariants.{Refused}
use Rattle.web_responses.specs.declared.event.WebEvent.{WebEvent}
use Rattle.web_responses.specs.Answers.{AnswerState, after, events_of, standing, finish, answer_in}
use Rattle.web_responses.specs.Calls.{Reader, begin, Settles}
use Rattle.web_responses.specs.Laws.{Call, Lead, taken, told_by, AnswersAreFed}
use Rattle.web_responses.proofs.Ends.{no_front}
use Rattle.web_responses.proofs.Runs.{after-nil, events_of-nil, after-append, events_of-append}

-- what calls leave and tell
pub record Told (old : Reader) (calls : List Call) (new : Reader) : Type 0 where
  pub state : new.state ≡ after old.state (taken calls)
  pub events : old.due ++ events_of old.state (taken calls) ≡ told_by calls ++ new.due

tells : (old : Reader) (calls : List Call) (new : Reader) → Lead old calls new → Told old calls new
tells old [] new e = record {
  state = ap (λ (r : Reader). r.state) e ∙ sym (after-nil old.state);
  events = ap (λ (t : List WebEvent). old.due ++ t) (events_of-nil old.state) ∙ append-nil old.due ∙ ap (λ (r : Reader). r.due) (sym e);
}
tells old (call ∷ calls) new (next, feeds, leads) =
    let first = take call.count call.piece in
    let told = option_to_list call.told in
    let rest = tells next calls new leads in
    record {
      state = rest.state ∙ ap (λ (s : AnswerState). after s (taken calls)) feeds.state ∙ sym (after-append old.state first (taken calls));
      events =
          ap (λ (t : List WebEvent). old.due ++ t) (events_of-append old.state first (taken calls))
          ∙ sym (append_assoc old.due (events_of old.state first) (events_of (after old.state first) (taken calls)))
          ∙ ap (λ (t : List WebEvent). t ++ events_of (after old.state first) (taken calls)) feeds.events
          ∙ ap (λ (s : AnswerState). (told ++ next.due) ++ events_of s (taken calls)) (sym feeds.state)
          ∙ append_assoc told next.due (events_of next.state (taken calls))
          ∙ ap (λ (t : List WebEvent). told ++ t) rest.events
          ∙ sym (append_assoc told (told_by calls) new.due);
    }

fed_told : (calls : List Call) (new : Reader) → Lead begin calls new
    → (told_by calls ++ new.due ≡ (answer_in (taken calls)).told) × (standing new.state ≡ (answer_in (taken calls)).place)
    × (finish new.state ≡ (answer_in (taken calls)).ending)
unfolding answer_in
fed_told calls new leads = let x = tells begin calls new leads in (sym x.events, ap standing x.state, ap finish x.state)

nothing_told : (due told : List WebEvent) → due ++ told ≡ [] → told ≡ []
nothing_told [] told e = e
nothing_told (x ∷ due) told e = absurd (cc)

fed_refused : (calls : List Call) (now new : Reader) (piece : List ℕ) (fault : WebFault) → Lead begin calls now → Settles now piece fault new
    → ((answer_in (taken calls ++ piece)).place ≡ Refused fault) × ((answer_in (taken calls ++ piece)).told ≡ told_by calls)
unfolding answer_in
fed_refused calls now new piece fault leads settles =
    let x = tells begin calls now leads in
    let none = no_front now.due (events_of now.state piece) settles.silent in
    let silent = nothing_told now.due (events_of now.state piece) settles.silent in (
      ap standing (after-append begin.state (taken calls) piece ∙ ap (λ (s : AnswerState). after s piece) (sym x.state)) ∙ settles.settled,
      events_of-append begin.state (taken calls) piece
          ∙ ap (λ (s : AnswerState). events_of begin.state (taken calls) ++ events_of s piece) (sym x.state)
          ∙ ap (λ (t : List WebEvent). events_of begin.state (taken calls) ++ t) silent
          ∙ append-nil (events_of begin.state (taken calls))
          ∙ x.events ∙ ap (λ (d : List WebEvent). told_by calls ++ d) none ∙ append-nil (told_by calls),
    )

pub answers_are_fed : AnswersAreFed
answers_are_fed = record { told = fed_told; refused = fed_refused }
