-- A piece that begins in the head.
use Rattle.std.proofs.Common.{◌≡◌, ◌≢◌, ℕ, zero, suc, ◌<◌, ◌≤◌, ◌⊎◌, inl, inr, true, false, List, [], ◌∷◌, ◌++◌, length, take, drop, refl, sym, ap, ◌∙◌, subst, arith, Err, append_assoc, length-append, length-take-le, take-append-drop}
use Rattle.std.proofs.lemmas.Bool.{both_ways}
use Rattle.std.proofs.lemmas.List.{take_all, take_at, take-append-le}
use Rattle.web_heads.specs.Requests.{request_head}
use Rattle.web_head_reader.specs.declared.fault.HeadReadFault.{HeadReadFault}
use Rattle.web_head_reader.specs.declared.fault.HeadReadFault.TheVariants as long
use Rattle.web_head_reader.specs.declared.place.HeadPlace.{HeadPlace}
use Rattle.web_head_reader.specs.declared.place.HeadPlace.TheVariants as head
use Rattle.web_head_reader.specs.Steps.{HeadState}
use Rattle.web_head_reader.specs.Steps as heads
use Rattle.web_head_reader.specs.Standard as head_words
use Rattle.web_head_reader.specs.Calls as head_calls
use Rattle.web_head_reader.proofs.Comes.{open_at, Comes, goes_on, ends, is_long, comes}
use Rattle.web_head_reader.proofs.Machine as head_machine
use Rattle.web_heads.proofs.LastLemmas.{last_of}
use Rattle.web_contents.specs.declared.fault.WebFault.{WebFault}
use Rattle.web_contents.specs.Contents.{Content, place_of}
use Rattle.web_requests.specs.declared.stage.Stage.{Stage}
use Rattle.web_requests.specs.declared.stage.Stage.TheVariants as stage
use Rattle.web_requests.specs.Machine.{RequestState, heading, refused, fault_of_reading, after_head, heading_at, after}
use Rattle.web_requests.specs.Calls.{Takes, is_open, IsFaulty, RunsOut, Refuses, is_heading, BeginsBodyWith, view_of, is_body, HoldsRequest}
use Rattle.web_requests.proofs.Course.{after-refused, after-heading, after-heading-refused, after-head}
use Rattle.web_requests.proofs.Pieces.{state_at-past}
use Rattle.web_contents.proofs.Causes.{for_cause}

-- a reader within the head
pub record IsInHead (at : Stage) (h : HeadState) (s : RequestState) : Type 0 where
  pub stage_is : at ≡ stage.Head
  pub head_is : h ≡ open_at h.held
  pub begun : head_words.IsBegun h.held
  pub state_is : s ≡ heading h.held

pub in_head : (at : Stage) (h : HeadState) (path message : List ℕ) (c : Content) (s : RequestState) → view_of at h path message c ≡ s
    → is_heading s ≡ true → HoldsRequest at h c → IsInHead at h s
in_head stage.Head h path message c s e is holds =
    let x = holds.heading refl in
    record {
      stage_is = refl;
      head_is = ap (λ (p : HeadPlace). record { place = p; held = h.held }) x.0;
      begun = x.1;
      state_is = sym e;
    }
in_head stage.Body h path message c s e is holds =
    absurd (both_ways (is_heading s) (ap is_heading (sym e) ∙ state_at-past (place_of c) path message c) is)
in_head (stage.Refused fault) h path message c s e is holds = absurd (both_ways (is_heading s) (ap is_heading (sym e)) is)

pub still_open : (at : Stage) (h : HeadState) (s : RequestState) → IsInHead at h s → is_open s ≡ true
still_open at h s x = ap is_open x.state_is

-- ---- the head goes on

pub record GoesOn (piece : List ℕ) (new : HeadState) (taken : ℕ) : Type 0 where
  pub place_is : new.place ≡ head.Open
  pub begun : head_words.IsBegun new.held
  pub all : taken ≡ length piece

-- after bytes, by what they lead to
reached : (h new : HeadState) (bytes : List ℕ) (next : HeadState) → h ≡ open_at h.held → new ≡ heads.after h bytes
    → heads.after (open_at h.held) bytes ≡ next → new ≡ next
reached h new bytes next e is leads = is ∙ ap (λ (s : HeadState). heads.after s bytes) e ∙ leads

pub goes_on_in_head : (at : Stage) (h new : HeadState) (s : RequestState) (piece : List ℕ) (taken : ℕ) → IsInHead at h s
    → head_calls.Takes h piece new taken → new.place ≢ head.Whole → GoesOn piece new taken
goes_on_in_head at h new s piece taken x takes not_whole = go (comes h.held (take taken piece) x.begun) takes.ends
  where
    go : Comes h.held (take taken piece) → (taken ≡ length piece) ⊎ (new.place ≡ head.Whole) → GoesOn piece new taken
    go (goes_on begun leads) (inl all) =
        let is = reached h new (take taken piece) (open_at (h.held ++ take taken piece)) x.head_is takes.state leads in
        record {
          place_is = ap (λ (t : HeadState). t.place) is;
          begun = subst head_words.IsBegun (ap (λ (t : HeadState). t.held) (sym is)) begun;
          all = all;
        }
    go (goes_on begun leads) (inr ended) = absurd (not_whole ended)
    go (ends found has leads) stops =
        absurd (not_whole (ap (λ (t : HeadState). t.place)
        (reached h new (take taken piece) (record { place = head.Whole; held = found }) x.head_is takes.state leads)))
    go (is_long has leads) stops =
        absurd (takes.not_refused long.HeadTooLong (ap (λ (t : HeadState). t.place)
        (reached h new (take taken piece) (heads.refused_at long.HeadTooLong) x.head_is takes.state leads)))

pub holds_head : (at : Stage) (h new : HeadState) (s : RequestState) (c : Content) (piece : List ℕ) (taken : ℕ) → IsInHead at h s
    → GoesOn piece new taken → HoldsRequest at new c
holds_head at h new s c piece taken x goes = record {
  heading = λ _. (goes.place_is, goes.begun);
  bounded = λ is. absurd (both_ways (is_body at) (ap is_body x.stage_is) is);
}

pub takes_head : (at : Stage) (h new : HeadState) (path message : List ℕ) (c : Content) (s : RequestState) (piece : List ℕ) (taken : ℕ)
    → IsInHead at h s → head_calls.Takes h piece new taken → GoesOn piece new taken → Takes s piece false (view_of at new path message c)
takes_head at h new path message c s piece taken x takes goes =
    let all : take taken piece ≡ piece = ap (λ (n : ℕ). take n piece) goes.all ∙ take_all (length piece) piece (omega arith) in
    let is : new ≡ heads.after (open_at h.held) piece
    = takes.state ∙ ap (heads.after h) all ∙ ap (λ (t : HeadState). heads.after t piece) x.head_is in
    let state : heading new.held ≡ after s piece
    = ap (λ (t : HeadState). heading t.held) is
    ∙ sym (after-heading piece h.held (ap (λ (t : HeadState). t.place) (sym is) ∙ goes.place_is))
    ∙ ap (λ (r : RequestState). after r piece) (sym x.state_is) in
    let P : Stage → Type 0 = λ now. Takes s piece false (view_of now new path message c) in
    subst P (sym x.stage_is) (record { state = state; answers = refl; not_refused = λ fault e. cc })

-- ---- the head ends

pub whole_short : (at : Stage) (h new : HeadState) (s : RequestState) (piece : List ℕ) (taken : ℕ) → IsInHead at h s
    → head_calls.Takes h piece new taken → new.place ≡ head.Whole → length new.held ≤ 16384
whole_short at h new s piece taken x takes is_whole = go (comes h.held (take taken piece) x.begun)
  where
    go : Comes h.held (take taken piece) → length new.held ≤ 16384
    go (goes_on begun leads) =
        absurd (let other : head.Open ≡ head.Whole = sym (ap (λ (t : HeadState). t.place)
        (reached h new (take taken piece) (open_at (h.held ++ take taken piece)) x.head_is takes.state leads)) ∙ is_whole in cc)
    go (ends found has leads) =
        let is = reached h new (take taken piece) (record { place = head.Whole; held = found }) x.head_is takes.state leads in
        subst (λ (t : HeadState). length t.held ≤ 16384) (sym is) has.is_head.short
    go (is_long has leads) =
        absurd (let other : head.Refused long.HeadTooLong ≡ head.Whole = sym (ap (λ (t : HeadState). t.place)
        (reached h new (take taken piece) (heads.refused_at long.HeadTooLong) x.head_is takes.state leads)) ∙ is_whole in cc)

some_taken : (at : Stage) (h new : HeadState) (s : RequestState) (piece : List ℕ) (taken : ℕ) → IsInHead at h s
    → head_calls.Takes h piece new taken → new.place ≡ head.Whole → 0 < taken
some_taken at h new s piece zero x takes is_whole =
    absurd (let other : head.Open ≡ head.Whole = sym (ap (λ (t : HeadState). t.place) (takes.state ∙ head_machine.after-nil h ∙ x.head_is)) ∙ is_whole in cc)
some_taken at h new s piece (suc taken) x takes is_whole = omega arith

-- the first bytes of a part
front_of : (piece front : List ℕ) (b taken : ℕ) → taken ≤ length piece → take taken piece ≡ front ++ b ∷ [] → take (length front) piece ≡ front
front_of piece front b taken fits e =
    let all = length-take-le taken piece fits in
    let sum = ap length e ∙ length-append front (b ∷ []) in
    ap (take (length front)) (sym (take-append-drop taken piece))
    ∙ take-append-le (length front) (take taken piece) (drop taken piece) (omega arith)
    ∙ ap (take (length front)) e ∙ take_at front (b ∷ []) (length front) refl

pub body_joined : (at : Stage) (h new : HeadState) (s : RequestState) (piece : List ℕ) (taken : ℕ) → IsInHead at h s
    → head_calls.Takes h piece new taken → new.place ≡ head.Whole
    → after (after_head (length new.held) (request_head new.held)) (drop taken piece) ≡ after s piece
body_joined at h new s piece taken x takes is_whole =
    let fits = takes.within in
    let all = length-take-le taken piece fits in
    let some = some_taken at h new s piece taken x takes is_whole in
    let last = last_of (take taken piece) (omega arith) in
    let sum = ap length last.bytes_are ∙ length-append last.front (last.last ∷ []) in
    let first = front_of piece last.front last.last taken fits last.bytes_are in
    let before : (heads.after (open_at h.held) last.front).place ≡ head.Open
    = ap (λ (t : HeadState). (heads.after t last.front).place) (sym x.head_is)
    ∙ ap (λ (bytes : List ℕ). (heads.after h bytes).place) (sym first) ∙ takes.first (length last.front) (omega arith) in
    let there : heads.after (open_at h.held) (last.front ++ last.last ∷ []) ≡ new
    = ap (heads.after (open_at h.held)) (sym last.bytes_are)
    ∙ ap (λ (t : HeadState). heads.after t (take taken piece)) (sym x.head_is) ∙ sym takes.state in
    let parts : last.front ++ last.last ∷ drop taken piece ≡ piece
    = sym (append_assoc last.front (last.last ∷ []) (drop taken piece))
    ∙ ap (λ (bytes : List ℕ). bytes ++ drop taken piece) (sym last.bytes_are) ∙ take-append-drop taken piece in
    ap (λ (p : HeadPlace). after (heading_at p new.held) (drop taken piece)) (sym is_whole)
    ∙ sym (after-head h.held last.front last.last (drop taken piece) new before there)
    ∙ ap (after (heading h.held)) parts ∙ ap (λ (r : RequestState). after r piece) (sym x.state_is)

-- ---- refusals

faulty_at : (s : RequestState) (piece rest : List ℕ) (expected : RequestState) (fault : WebFault) → after expected rest ≡ after s piece
    → expected ≡ refused fault → IsFaulty s piece fault (refused fault)
faulty_at s piece rest expected fault joined e = record {
  state = sym (sym joined ∙ ap (λ (r : RequestState). after r rest) e ∙ after-refused fault rest);
  fault_is = refl;
}

pub bad_head_refuses : (s : RequestState) (piece rest : List ℕ) (expected : RequestState) (fault : WebFault) → after expected rest ≡ after s piece
    → is_open s ≡ true → BeginsBodyWith expected (Err fault) → Refuses s piece fault (refused fault)
bad_head_refuses s piece rest expected fault joined before x =
    for_cause (expected ≡ refused fault) (Unit {0}) (IsFaulty s piece fault (refused fault)) (RunsOut s (refused fault)) fault
    (λ e. faulty_at s piece rest expected fault joined e)
    (λ out y. record { refused_is = ap refused out; was_open = inl before }) x

pub long_head_refuses : (at : Stage) (h new : HeadState) (s : RequestState) (piece : List ℕ) (fault : HeadReadFault) → IsInHead at h s
    → head_calls.Refuses h piece new fault → Refuses s piece (fault_of_reading fault) (refused (fault_of_reading fault))
long_head_refuses at h new s piece long.HeadTooLong x refuses =
    let place : (heads.after (open_at h.held) piece).place ≡ head.Refused long.HeadTooLong
    = ap (λ (t : HeadState). (heads.after t piece).place) (sym x.head_is) ∙ ap (λ (t : HeadState). t.place) (sym refuses.state) ∙ refuses.refused in
    record {
      state = sym (ap (λ (r : RequestState). after r piece) x.state_is ∙ after-heading-refused piece h.held long.HeadTooLong place);
      fault_is = refl;
    }
long_head_refuses at h new s piece long.OutOfMemory x refuses = record { refused_is = refl; was_open = inl (still_open at h s x) }
