-- Bytes that lead from one body to another with a payload, and how they join.
use Rattle.std.proofs.Common.{◌≡◌, ℕ, false, List, [], ◌∷◌, ◌++◌, refl, sym, ap, ◌∙◌, append-nil}
use Rattle.std.proofs.lemmas.Bool.{cond-false}
use Rattle.web_bodies.specs.Body.{Body}
use Rattle.web_bodies.specs.Steps.{body_step, awaits_payload, emitted, after, payload_after}
use Rattle.web_bodies.specs.Calls.{TakesPayload}
use Rattle.web_bodies.proofs.Runs.{after-append, payload_after-append}

pub record Leads (old : Body) (bytes payload : List ℕ) (new : Body) : Type 0 where
  pub state : after old bytes ≡ new
  pub payload_is : payload_after old bytes ≡ payload

pub leads_none : (old : Body) → Leads old [] [] old
unfolding after payload_after
leads_none old = record { state = refl; payload_is = refl }

pub leads_payload : (old : Body) (bytes : List ℕ) (new : Body) → TakesPayload old bytes new → Leads old bytes bytes new
leads_payload old bytes new x = record { state = sym x.state; payload_is = x.payload }

pub leads_append : (old middle new : Body) (front back first second : List ℕ) → Leads old front first middle → Leads middle back second new
    → Leads old (front ++ back) (first ++ second) new
leads_append old middle new front back first second x y = record {
  state = after-append old front back ∙ ap (λ (b : Body). after b back) x.state ∙ y.state;
  payload_is =
      payload_after-append old front back ∙ ap (λ (p : List ℕ). p ++ payload_after (after old front) back) x.payload_is
      ∙ ap (λ (b : Body). first ++ payload_after b back) x.state ∙ ap (λ (p : List ℕ). first ++ p) y.payload_is;
}

-- bytes of the framing before others
pub leads_after_framing : (old middle new : Body) (front back payload : List ℕ) → Leads old front [] middle → Leads middle back payload new
    → Leads old (front ++ back) payload new
leads_after_framing old middle new front back payload x y = leads_append old middle new front back [] payload x y

-- bytes of the framing after others
pub leads_before_framing : (old middle new : Body) (front back payload : List ℕ) → Leads old front payload middle → Leads middle back [] new
    → Leads old (front ++ back) payload new
leads_before_framing old middle new front back payload x y =
    let both = leads_append old middle new front back payload [] x y in
    record { state = both.state; payload_is = both.payload_is ∙ append-nil payload }

-- one byte of the framing
pub leads_one : (old : Body) (b : ℕ) (new : Body) → awaits_payload old.place ≡ false → body_step old b ≡ new → Leads old (b ∷ []) [] new
unfolding after payload_after emitted
leads_one old b new framing step = record {
  state = step;
  payload_is = append-nil (emitted old b) ∙ cond-false (awaits_payload old.place) (b ∷ []) [] framing;
}
