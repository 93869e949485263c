-- What one call over a piece takes and tells.
use Rattle.std.proofs.Common.{◌≡◌, ◌≢◌, ℕ, ◌+◌, ◌-◌, ◌<◌, ◌≤◌, Bool, true, false, cond, List, [], ◌∷◌, ◌++◌, length, get_or, take, drop, refl, sym, ap, ◌∙◌, subst, inl, inr, Option, Some, None, Result, Ok, Err, arith}
use Rattle.std.specs.Prelude.{IfNone, OnSome}
use Rattle.std.specs.Option.{option_to_list}
use Rattle.std.proofs.lemmas.Bool.{cond-true, cond-false}
use Rattle.std.proofs.lemmas.List.{take_all, take_at, take-append-le, drop-append-le, length-append, length-drop, length_push, drop_all, length-take-le, take-take, take-append-drop}
use Rattle.std.proofs.Math.Seq.{take-add}
use Rattle.web_heads.proofs.LastLemmas.{last_of}
use Rattle.web_frames.specs.declared.limits.Side.{Side}
use Rattle.web_frames.specs.declared.limits.Side.TheVariants.{Request, Response}
use Rattle.web_frames.specs.declared.fault.FrameFault.{FrameFault}
use Rattle.web_frames.specs.declared.fault.FrameFault.TheVariants.{FrameTooLong, Compressed, AfterMessage, AfterTrailers, BadTrailer, NoMessage, OutOfMemory}
use Rattle.web_frames.specs.declared.event.FrameEvent.{FrameEvent}
use Rattle.web_frames.specs.declared.event.FrameEvent.TheVariants as event_variants
use Rattle.web_frames.specs.declared.state.FramePlace.{FramePlace}
use Rattle.web_frames.specs.declared.state.FramePlace.TheVariants.{Open, Whole, Over, Refused}
use Rattle.web_frames.specs.Machine as machine
use Rattle.web_frames.specs.Machine.{frame_limit, FrameState, Settled, more, faulty, is_compressed, is_no_message, fault_of_flag, told_by, settled_by_length, settled_by_rest, settled_by, place_behind, refused_at, state_of, event_of, frame_step, frame_event, after, events_of, Took, Stopped, RanOut, Feeds}
use Rattle.web_frames.specs.Parts.{FeedsAll, TakesSome, EndsWith, Ends, length_in, lacking}
use Rattle.web_frames.proofs.MachineLemmas.{after-nil, after-cons, after-append, events_of-nil, events_of-cons, events_of-append, open_at, SettlesNothing, frame_step-open, frame_step-settled, frame_event-settled, frame_step-refused, after-held, events_of-held, after-settled, events_of-settled, frame_step-whole, frame_event-whole, frame_step-over, frame_event-over, after-refused, events_of-refused}
use Rattle.web_frames.proofs.SettledLemmas as settled
use Rattle.web_frames.proofs.SettledLemmas.{size_of}
use Rattle.web_frames.proofs.ReadingLemmas.{flag_stands, part_of}

-- ---- nothing, and a fault

-- a reader that is not refused takes no bytes
pub Took-nothing : (old : FrameState) → ((fault : FrameFault) → old.place ≢ Refused fault) → Took old [] 0 None old
Took-nothing old going = record {
  within = omega arith;
  state = sym (after-nil old);
  tells = events_of-nil old;
  all = refl;
  first = tt;
  goes_on = going;
}

-- bytes that refuse a reader
pub Feeds-Stopped : (old : FrameState) (piece : List ℕ) (fault : FrameFault) (new : FrameState) → (fault ≡ OutOfMemory → ⊥) → Stopped old piece fault new → Feeds old piece (Err fault) new
Feeds-Stopped old piece (FrameTooLong count) new other stopped = stopped
Feeds-Stopped old piece Compressed new other stopped = stopped
Feeds-Stopped old piece AfterMessage new other stopped = stopped
Feeds-Stopped old piece AfterTrailers new other stopped = stopped
Feeds-Stopped old piece BadTrailer new other stopped = stopped
Feeds-Stopped old piece NoMessage new other stopped = stopped
Feeds-Stopped old piece OutOfMemory new other stopped = absurd (other refl)

-- a reader that is refused stays so
refused_state : (old : FrameState) (fault : FrameFault) → old.place ≡ Refused fault → old ≡ record { side = old.side; place = Refused fault; held = old.held }
refused_state old fault e = ap (λ (place : FramePlace). let s : FrameState = record { side = old.side; place = place; held = old.held } in s) e

Stopped-refused : (old : FrameState) (piece : List ℕ) (fault : FrameFault) → old.place ≡ Refused fault → Stopped old piece fault old
Stopped-refused old piece fault e =
    let same = refused_state old fault e in
    record {
      state = sym (ap (λ (s : FrameState). after s piece) same ∙ after-refused old.side fault old.held piece ∙ sym same);
      refused = e;
      silent = ap (λ (s : FrameState). events_of s piece) same ∙ events_of-refused old.side fault old.held piece;
    }

pub Feeds-refused : (old : FrameState) (piece : List ℕ) (fault : FrameFault) → old.place ≡ Refused fault → old.held ≡ [] → Feeds old piece (Err fault) old
Feeds-refused old piece (FrameTooLong count) e none = Stopped-refused old piece (FrameTooLong count) e
Feeds-refused old piece Compressed e none = Stopped-refused old piece Compressed e
Feeds-refused old piece AfterMessage e none = Stopped-refused old piece AfterMessage e
Feeds-refused old piece AfterTrailers e none = Stopped-refused old piece AfterTrailers e
Feeds-refused old piece BadTrailer e none = Stopped-refused old piece BadTrailer e
Feeds-refused old piece NoMessage e none = Stopped-refused old piece NoMessage e
Feeds-refused old piece OutOfMemory e none = record {
  state = refused_state old OutOfMemory e ∙ ap (λ (held : List ℕ). let s : FrameState = record { side = old.side; place = Refused OutOfMemory; held = held } in s) none;
  was_open = inr e;
}

-- a byte where no byte may come
past_state : (side : Side) (place : FramePlace) (held : List ℕ) (fault : FrameFault) (b : ℕ) → EndsWith place fault
    → (frame_step (record { side = side; place = place; held = held }) b ≡ refused_at side fault) × (frame_event (record { side = side; place = place; held = held }) b ≡ None)
past_state side Open held fault b ends = absurd ends
past_state side Whole held fault b ends = (frame_step-whole side held b ∙ ap (refused_at side) (sym ends), frame_event-whole side held b)
past_state side Over held fault b ends = (frame_step-over side held b ∙ ap (refused_at side) (sym ends), frame_event-over side held b)
past_state side (Refused other) held fault b ends = absurd ends

past_no_memory : (place : FramePlace) (fault : FrameFault) → EndsWith place fault → fault ≡ OutOfMemory → ⊥
past_no_memory Open fault ends e = absurd ends
past_no_memory Whole fault ends e = let other : AfterMessage ≡ OutOfMemory = sym ends ∙ e in cc
past_no_memory Over fault ends e = let other : AfterTrailers ≡ OutOfMemory = sym ends ∙ e in cc
past_no_memory (Refused other) fault ends e = absurd ends

pub EndsWith-goes_on : (place : FramePlace) (fault : FrameFault) → EndsWith place fault → (other : FrameFault) → place ≢ Refused other
EndsWith-goes_on Open fault ends other e = absurd ends
EndsWith-goes_on Whole fault ends other e = cc
EndsWith-goes_on Over fault ends other e = cc
EndsWith-goes_on (Refused first) fault ends other e = absurd ends

pub Feeds-past : (old : FrameState) (piece : List ℕ) (fault : FrameFault) → EndsWith old.place fault → 0 < length piece → Feeds old piece (Err fault) (refused_at old.side fault)
Feeds-past old [] fault ends some = absurd (omega arith)
Feeds-past old (b ∷ piece) fault ends some =
    let past = past_state old.side old.place old.held fault b ends in
    Feeds-Stopped old (b ∷ piece) fault (refused_at old.side fault) (past_no_memory old.place fault ends) (record {
      state = sym (after-cons old b piece ∙ ap (λ (s : FrameState). after s piece) past.0 ∙ after-refused old.side fault [] piece);
      refused = refl;
      silent =
          events_of-cons old b piece
          ∙ ap (λ (e : Option FrameEvent). option_to_list e ++ events_of (frame_step old b) piece) past.1
          ∙ ap (λ (s : FrameState). events_of s piece) past.0
          ∙ events_of-refused old.side fault [] piece;
    })

-- ---- bytes of a frame

-- bytes that settle nothing
pub FeedsAll-held : (side : Side) (held bytes : List ℕ) → SettlesNothing side held bytes → FeedsAll (open_at side held) bytes (Ok None) (open_at side (held ++ bytes))
FeedsAll-held side held bytes all =
    let whole = take_all (length bytes) bytes (omega arith) in
    record {
      within = omega arith;
      state = sym (ap (after (open_at side held)) whole ∙ after-held side held bytes all);
      tells = ap (events_of (open_at side held)) whole ∙ events_of-held side held bytes all;
      all = refl;
      first = tt;
      goes_on = λ fault e. cc;
    }

place_behind-goes_on : (side : Side) (event : FrameEvent) (fault : FrameFault) → place_behind side event ≢ Refused fault
place_behind-goes_on Request (event_variants.Message message) fault e = cc
place_behind-goes_on Response (event_variants.Message message) fault e = cc
place_behind-goes_on side (event_variants.Trailers trailers) fault e = cc

-- bytes that settle nothing but with the last one, which settles a fault
FeedsAll-fault : (side : Side) (held front : List ℕ) (b : ℕ) (fault : FrameFault) → (fault ≡ OutOfMemory → ⊥) → SettlesNothing side held front
    → settled_by side (held ++ (front ++ b ∷ [])) ≡ faulty fault → FeedsAll (open_at side held) (front ++ b ∷ []) (Err fault) (refused_at side fault)
FeedsAll-fault side held front b fault other all e =
    Feeds-Stopped (open_at side held) (front ++ b ∷ []) fault (refused_at side fault) other (record {
      state = sym (after-settled side held front b all ∙ ap (state_of side (held ++ (front ++ b ∷ []))) e);
      refused = refl;
      silent = events_of-settled side held front b all ∙ ap (λ (s : Settled). option_to_list (event_of s)) e;
    })

-- bytes that settle nothing but with the last one, which ends a frame
FeedsAll-event : (side : Side) (held front : List ℕ) (b : ℕ) (event : FrameEvent) → SettlesNothing side held front
    → settled_by side (held ++ (front ++ b ∷ [])) ≡ machine.told event
    → FeedsAll (open_at side held) (front ++ b ∷ []) (Ok (Some event)) (record { side = side; place = place_behind side event; held = [] })
FeedsAll-event side held front b event all e =
    let bytes = front ++ b ∷ [] in
    let whole = take_all (length bytes) bytes (omega arith) in
    let before : take (length bytes - 1) bytes ≡ front = take_at front (b ∷ []) (length bytes - 1) (omega (arith, length_push front b)) in
    record {
      within = omega arith;
      state = sym (ap (after (open_at side held)) whole ∙ after-settled side held front b all ∙ ap (state_of side (held ++ bytes)) e);
      tells = ap (events_of (open_at side held)) whole ∙ events_of-settled side held front b all ∙ ap (λ (s : Settled). option_to_list (event_of s)) e;
      all = tt;
      first = ap (events_of (open_at side held)) before ∙ events_of-held side held front all;
      goes_on = place_behind-goes_on side event;
    }

pub FeedsAll-Ends : (side : Side) (held front : List ℕ) (b : ℕ) (settled_is : Settled) (result : Result (Option FrameEvent) FrameFault) (new : FrameState) → SettlesNothing side held front
    → settled_by side (held ++ (front ++ b ∷ [])) ≡ settled_is → Ends side settled_is result new → FeedsAll (open_at side held) (front ++ b ∷ []) result new
FeedsAll-Ends side held front b settled_is (Ok None) new all e ends = absurd ends
FeedsAll-Ends side held front b settled_is (Ok (Some event)) new all e ends =
    subst (λ (s : FrameState). FeedsAll (open_at side held) (front ++ b ∷ []) (Ok (Some event)) s) (sym ends.1) (FeedsAll-event side held front b event all (e ∙ ends.0))
FeedsAll-Ends side held front b settled_is (Err BadTrailer) new all e ends =
    subst (λ (s : FrameState). FeedsAll (open_at side held) (front ++ b ∷ []) (Err BadTrailer) s) (sym ends.1)
    (FeedsAll-fault side held front b BadTrailer (λ same. cc) all (e ∙ ends.0))
FeedsAll-Ends side held front b settled_is (Err OutOfMemory) new all e ends = record { state = ends; was_open = inl refl }
FeedsAll-Ends side held front b settled_is (Err (FrameTooLong count)) new all e ends = absurd ends
FeedsAll-Ends side held front b settled_is (Err Compressed) new all e ends = absurd ends
FeedsAll-Ends side held front b settled_is (Err AfterMessage) new all e ends = absurd ends
FeedsAll-Ends side held front b settled_is (Err AfterTrailers) new all e ends = absurd ends
FeedsAll-Ends side held front b settled_is (Err NoMessage) new all e ends = absurd ends

-- ---- one byte of a head

nothing_before : (side : Side) (held : List ℕ) → SettlesNothing side held []
nothing_before side held [] back e some = absurd (some refl)
nothing_before side held (b ∷ front) back e some = absurd (cc)

nothing_by_one : (side : Side) (held : List ℕ) (b : ℕ) → settled_by side (held ++ b ∷ []) ≡ more → SettlesNothing side held (b ∷ [])
nothing_by_one side held b is [] back e some = absurd (some refl)
nothing_by_one side held b is (c ∷ []) back e some = let same : b ≡ c = cc in ap (λ (d : ℕ). settled_by side (held ++ d ∷ [])) (sym same) ∙ is
nothing_by_one side held b is (c ∷ d ∷ front) back e some = absurd (cc)

pub FeedsAll-byte_held : (side : Side) (held : List ℕ) (b : ℕ) → settled_by side (held ++ b ∷ []) ≡ more → FeedsAll (open_at side held) (b ∷ []) (Ok None) (open_at side (held ++ b ∷ []))
FeedsAll-byte_held side held b is = FeedsAll-held side held (b ∷ []) (nothing_by_one side held b is)

pub FeedsAll-byte_fault : (side : Side) (held : List ℕ) (b : ℕ) (fault : FrameFault) → (fault ≡ OutOfMemory → ⊥) → settled_by side (held ++ b ∷ []) ≡ faulty fault
    → FeedsAll (open_at side held) (b ∷ []) (Err fault) (refused_at side fault)
FeedsAll-byte_fault side held b fault other is = FeedsAll-fault side held [] b fault other (nothing_before side held) is

pub FeedsAll-byte_ends : (side : Side) (held : List ℕ) (b : ℕ) (settled_is : Settled) (result : Result (Option FrameEvent) FrameFault) (new : FrameState)
    → settled_by side (held ++ b ∷ []) ≡ settled_is → Ends side settled_is result new → FeedsAll (open_at side held) (b ∷ []) result new
FeedsAll-byte_ends side held b settled_is result new is ends = FeedsAll-Ends side held [] b settled_is result new (nothing_before side held) is ends

-- a flag
abbrev pub flag_settled : Option FrameFault → Settled
flag_settled None = more
flag_settled (Some fault) = faulty fault

flag_settles : (side : Side) (b : ℕ) (compressed no_message : Bool) → is_compressed b ≡ compressed → is_no_message side b ≡ no_message → (o : Option FrameFault)
    → fault_of_flag side b ≡ o → settled_by side (b ∷ []) ≡ flag_settled o
flag_settles side b true no_message c n None e = let found = sym (cond-true (is_compressed b) (Some Compressed) (cond (is_no_message side b) (Some NoMessage) None) c) ∙ e in absurd (cc)
flag_settles side b true no_message c n (Some fault) e =
    let found = sym (cond-true (is_compressed b) (Some Compressed) (cond (is_no_message side b) (Some NoMessage) None) c) ∙ e in
    let same : Compressed ≡ fault = cc in
    settled.settled_by-compressed side b [] c ∙ ap faulty same
flag_settles side b false true c n None e =
    let found = sym (cond-false (is_compressed b) (Some Compressed) (cond (is_no_message side b) (Some NoMessage) None) c ∙ cond-true (is_no_message side b) (Some NoMessage) None n) ∙ e in absurd (cc)
flag_settles side b false true c n (Some fault) e =
    let found = sym (cond-false (is_compressed b) (Some Compressed) (cond (is_no_message side b) (Some NoMessage) None) c ∙ cond-true (is_no_message side b) (Some NoMessage) None n) ∙ e in
    let same : NoMessage ≡ fault = cc in
    settled.settled_by-no_message side b [] c n ∙ ap faulty same
flag_settles side b false false c n None e = settled.settled_by-plain side b [] c n ∙ settled.settled_by_rest-short side b [] (omega arith)
flag_settles side b false false c n (Some fault) e =
    let found = sym (cond-false (is_compressed b) (Some Compressed) (cond (is_no_message side b) (Some NoMessage) None) c ∙ cond-false (is_no_message side b) (Some NoMessage) None n) ∙ e in absurd (cc)

pub settled_by-flag : (side : Side) (b : ℕ) (o : Option FrameFault) → o ≡ fault_of_flag side b → settled_by side (b ∷ []) ≡ flag_settled o
settled_by-flag side b o e = flag_settles side b (is_compressed b) (is_no_message side b) refl refl o (sym e)

flag_no_memory_by : (side : Side) (b : ℕ) (compressed no_message : Bool) → cond compressed (Some Compressed) (cond no_message (Some NoMessage) None) ≢ Some OutOfMemory
flag_no_memory_by side b true no_message e = cc
flag_no_memory_by side b false true e = cc
flag_no_memory_by side b false false e = cc

pub flag_no_memory : (side : Side) (b : ℕ) (fault : FrameFault) → Some fault ≡ fault_of_flag side b → fault ≡ OutOfMemory → ⊥
flag_no_memory side b fault e same = flag_no_memory_by side b (is_compressed b) (is_no_message side b) (sym e ∙ ap (λ (f : FrameFault). Some f) same)

-- the second to the fourth byte
pub settled_by-early : (side : Side) (held : List ℕ) (b : ℕ) → settled_by side held ≡ more → 0 < length held → length held < 4 → settled_by side (held ++ b ∷ []) ≡ more
settled_by-early side [] b before some few = absurd (omega arith)
settled_by-early side (flag ∷ rest) b before some few =
    let stands = flag_stands side flag rest (is_compressed flag) (is_no_message side flag) refl refl before in
    settled.settled_by-MayStand side flag (rest ++ b ∷ []) stands.0 ∙ settled.settled_by_rest-short side flag (rest ++ b ∷ []) (omega (arith, length_push rest b))

-- the fifth byte
pub settled_by-fifth : (side : Side) (held : List ℕ) (b : ℕ) → settled_by side held ≡ more → length held ≡ 4
    → settled_by side (held ++ b ∷ []) ≡ settled_by_length side (get_or held 0 0) (size_of (drop 1 held ++ b ∷ [])) []
settled_by-fifth side [] b before four = absurd (omega arith)
settled_by-fifth side (flag ∷ rest) b before four =
    let stands = flag_stands side flag rest (is_compressed flag) (is_no_message side flag) refl refl before in
    let full = rest ++ b ∷ [] in
    let count = length_push rest b in
    settled.settled_by-MayStand side flag full stands.0
    ∙ settled.settled_by_rest-long side flag full (omega arith)
    ∙ ap (λ (bytes : List ℕ). settled_by_length side flag (size_of bytes) (drop 4 full)) (take_all 4 full (omega arith))
    ∙ ap (settled_by_length side flag (size_of full)) (drop_all 4 full (omega arith))

-- ---- a payload

-- what a whole head says
pub record IsHeaded (side : Side) (held : List ℕ) : Type 0 where
  pub later : (bytes : List ℕ) → settled_by side (held ++ bytes) ≡ settled_by_length side (get_or held 0 0) (length_in held) (drop 5 held ++ bytes)
  pub fits : length_in held ≤ frame_limit side
  pub part : length (drop 5 held) < length_in held

pub IsHeaded-more : (side : Side) (held : List ℕ) → settled_by side held ≡ more → 5 ≤ length held → IsHeaded side held
unfolding size_of
IsHeaded-more side [] before many = absurd (omega arith)
IsHeaded-more side (flag ∷ rest) before many =
    let stands = flag_stands side flag rest (is_compressed flag) (is_no_message side flag) refl refl before in
    let long : 4 ≤ length rest = omega arith in
    let part = part_of side flag (size_of (take 4 rest)) (drop 4 rest) (sym (settled.settled_by_rest-long side flag rest long) ∙ stands.1) in
    record {
      later = λ bytes.
          let longer : 4 ≤ length (rest ++ bytes) = omega (arith, length-append rest bytes) in
          settled.settled_by-MayStand side flag (rest ++ bytes) stands.0
          ∙ settled.settled_by_rest-long side flag (rest ++ bytes) longer
          ∙ ap (λ (front : List ℕ). settled_by_length side flag (size_of front) (drop 4 (rest ++ bytes))) (take-append-le 4 rest bytes long)
          ∙ ap (settled_by_length side flag (size_of (take 4 rest))) (drop-append-le 4 rest bytes long);
      fits = part.0;
      part = part.1;
    }

nothing_ahead : (side : Side) (held bytes : List ℕ) → IsHeaded side held → length bytes < lacking held → SettlesNothing side held bytes
nothing_ahead side held bytes headed few front back e some =
    let sum : length bytes ≡ length front + length back = ap length e ∙ length-append front back in
    let payload = length-append (drop 5 held) front in
    headed.later front ∙ settled.settled_by_length-part side (get_or held 0 0) (length_in held) (drop 5 held ++ front) headed.fits (omega arith)

settled_by-last : (side : Side) (held bytes : List ℕ) → IsHeaded side held → length bytes ≡ lacking held → settled_by side (held ++ bytes) ≡ told_by (get_or held 0 0) (drop 5 held ++ bytes)
settled_by-last side held bytes headed all =
    let part = headed.part in
    let payload = length-append (drop 5 held) bytes in
    headed.later bytes ∙ settled.settled_by_length-whole side (get_or held 0 0) (length_in held) (drop 5 held ++ bytes) headed.fits (omega arith)

-- bytes of a payload that is not whole with them
pub FeedsAll-part : (side : Side) (held bytes : List ℕ) → settled_by side held ≡ more → 5 ≤ length held → length bytes < lacking held
    → FeedsAll (open_at side held) bytes (Ok None) (open_at side (held ++ bytes))
FeedsAll-part side held bytes before many few =
    FeedsAll-held side held bytes (nothing_ahead side held bytes (IsHeaded-more side held before many) few)

pub unsettled-part : (side : Side) (held bytes : List ℕ) → settled_by side held ≡ more → 5 ≤ length held → length bytes < lacking held → settled_by side (held ++ bytes) ≡ more
unsettled-part side held bytes before many few =
    let headed = IsHeaded-more side held before many in
    let payload = length-append (drop 5 held) bytes in
    headed.later bytes ∙ settled.settled_by_length-part side (get_or held 0 0) (length_in held) (drop 5 held ++ bytes) headed.fits (omega arith)

-- the last bytes of a payload
pub FeedsAll-last : (side : Side) (held bytes : List ℕ) (result : Result (Option FrameEvent) FrameFault) (new : FrameState) → settled_by side held ≡ more → 5 ≤ length held
    → 0 < length bytes → length bytes ≡ lacking held → Ends side (told_by (get_or held 0 0) (drop 5 held ++ bytes)) result new → FeedsAll (open_at side held) bytes result new
FeedsAll-last side held bytes result new before many some all ends =
    let headed = IsHeaded-more side held before many in
    let split = last_of bytes some in
    let size = ap length split.bytes_are in
    let few : length split.front < lacking held = omega (arith, length_push split.front split.last) in
    subst (λ (b : List ℕ). FeedsAll (open_at side held) b result new) (sym split.bytes_are)
    (FeedsAll-Ends side held split.front split.last (told_by (get_or held 0 0) (drop 5 held ++ bytes)) result new
    (nothing_ahead side held split.front headed few)
    (ap (λ (b : List ℕ). settled_by side (held ++ b)) (sym split.bytes_are) ∙ settled_by-last side held bytes headed all)
    ends)

-- ---- pieces in parts

Stopped-more : (old : FrameState) (front back : List ℕ) (fault : FrameFault) (new : FrameState) → Stopped old front fault new → Stopped old (front ++ back) fault new
Stopped-more old front back fault new stopped =
    let same = refused_state new fault stopped.refused in
    let stays : after new back ≡ new = ap (λ (s : FrameState). after s back) same ∙ after-refused new.side fault new.held back ∙ sym same in
    let silent : events_of new back ≡ [] = ap (λ (s : FrameState). events_of s back) same ∙ events_of-refused new.side fault new.held back in
    record {
      state = sym (after-append old front back ∙ ap (λ (s : FrameState). after s back) (sym stopped.state) ∙ stays);
      refused = stopped.refused;
      silent =
          events_of-append old front back
          ∙ ap (λ (e : List FrameEvent). e ++ events_of (after old front) back) stopped.silent
          ∙ ap (λ (s : FrameState). events_of s back) (sym stopped.state)
          ∙ silent;
    }

pub Feeds-more : (old : FrameState) (front back : List ℕ) (fault : FrameFault) (new : FrameState) → Feeds old front (Err fault) new → Feeds old (front ++ back) (Err fault) new
Feeds-more old front back (FrameTooLong count) new feeds = Stopped-more old front back (FrameTooLong count) new feeds
Feeds-more old front back Compressed new feeds = Stopped-more old front back Compressed new feeds
Feeds-more old front back AfterMessage new feeds = Stopped-more old front back AfterMessage new feeds
Feeds-more old front back AfterTrailers new feeds = Stopped-more old front back AfterTrailers new feeds
Feeds-more old front back BadTrailer new feeds = Stopped-more old front back BadTrailer new feeds
Feeds-more old front back NoMessage new feeds = Stopped-more old front back NoMessage new feeds
Feeds-more old front back OutOfMemory new feeds = feeds

-- the side stays
state_side : (side : Side) (held : List ℕ) (settled_is : Settled) → (state_of side held settled_is).side ≡ side
state_side side held more = refl
state_side side held (machine.told event) = refl
state_side side held (faulty fault) = refl

step_side : (side : Side) (place : FramePlace) (held : List ℕ) (b : ℕ) → (frame_step (record { side = side; place = place; held = held }) b).side ≡ side
step_side side Open held b = ap (λ (s : FrameState). s.side) (frame_step-open side held b) ∙ state_side side (held ++ b ∷ []) (settled_by side (held ++ b ∷ []))
step_side side Whole held b = ap (λ (s : FrameState). s.side) (frame_step-whole side held b)
step_side side Over held b = ap (λ (s : FrameState). s.side) (frame_step-over side held b)
step_side side (Refused fault) held b = ap (λ (s : FrameState). s.side) (frame_step-refused side fault held b)

pub after-side : (old : FrameState) (bytes : List ℕ) → (after old bytes).side ≡ old.side
after-side old [] = ap (λ (s : FrameState). s.side) (after-nil old)
after-side old (b ∷ bytes) = ap (λ (s : FrameState). s.side) (after-cons old b bytes) ∙ after-side (frame_step old b) bytes ∙ step_side old.side old.place old.held b

-- a reader goes on with a frame where no event and no fault came
open_by : (side : Side) (held bytes : List ℕ) (b : ℕ) (settled_is : Settled) → settled_by side (held ++ b ∷ []) ≡ settled_is → events_of (open_at side held) (b ∷ bytes) ≡ []
    → ((fault : FrameFault) → (after (open_at side held) (b ∷ bytes)).place ≢ Refused fault)
    → ((held : List ℕ) → events_of (open_at side held) bytes ≡ [] → ((fault : FrameFault) → (after (open_at side held) bytes).place ≢ Refused fault) → (after (open_at side held) bytes).place ≡ Open)
    → (after (open_at side held) (b ∷ bytes)).place ≡ Open
open_by side held bytes b more e silent going rest =
    let step = frame_step-settled side held b more e in
    let next = after-cons (open_at side held) b bytes ∙ ap (λ (s : FrameState). after s bytes) step in
    let told = sym (events_of-cons (open_at side held) b bytes
    ∙ ap (λ (o : Option FrameEvent). option_to_list o ++ events_of (frame_step (open_at side held) b) bytes) (frame_event-settled side held b more e)
    ∙ ap (λ (s : FrameState). events_of s bytes) step) ∙ silent in
    ap (λ (s : FrameState). s.place) next ∙ rest (held ++ b ∷ []) told (λ fault is. going fault (ap (λ (s : FrameState). s.place) next ∙ is))
open_by side held bytes b (machine.told event) e silent going rest =
    let told = sym (events_of-cons (open_at side held) b bytes
    ∙ ap (λ (o : Option FrameEvent). option_to_list o ++ events_of (frame_step (open_at side held) b) bytes) (frame_event-settled side held b (machine.told event) e)) ∙ silent in
    absurd (cc)
open_by side held bytes b (faulty fault) e silent going rest =
    let step = frame_step-settled side held b (faulty fault) e in
    let next = after-cons (open_at side held) b bytes ∙ ap (λ (s : FrameState). after s bytes) step ∙ after-refused side fault [] bytes in
    absurd (going fault (ap (λ (s : FrameState). s.place) next))

open_silent : (side : Side) (bytes held : List ℕ) → events_of (open_at side held) bytes ≡ [] → ((fault : FrameFault) → (after (open_at side held) bytes).place ≢ Refused fault)
    → (after (open_at side held) bytes).place ≡ Open
open_silent side [] held silent going = ap (λ (s : FrameState). s.place) (after-nil (open_at side held))
open_silent side (b ∷ bytes) held silent going = open_by side held bytes b (settled_by side (held ++ b ∷ [])) refl silent going (open_silent side bytes)

-- ---- a piece, taken from front to back

pub Feeds-front : (old : FrameState) (piece front back : List ℕ) (fault : FrameFault) (new : FrameState) → front ++ back ≡ piece → Feeds old front (Err fault) new
    → Feeds old piece (Err fault) new
Feeds-front old piece front back fault new whole feeds =
    subst (λ (bytes : List ℕ). Feeds old bytes (Err fault) new) whole (Feeds-more old front back fault new feeds)

pub first_byte : (piece : List ℕ) → 0 < length piece → (get_or piece 0 0 ∷ []) ++ drop 1 piece ≡ piece
first_byte [] some = absurd (omega arith)
first_byte (b ∷ piece) some = refl

-- so many bytes of the piece were taken, without an event or a fault
pub record TakenSoFar (old : FrameState) (piece : List ℕ) (taken : ℕ) (now : FrameState) : Type 0 where
  pub within : taken ≤ length piece
  pub state : now ≡ after old (take taken piece)
  pub silent : events_of old (take taken piece) ≡ []
  pub place : now.place ≡ Open

pub TakenSoFar-none : (old : FrameState) (piece : List ℕ) → old.place ≡ Open → TakenSoFar old piece 0 old
TakenSoFar-none old piece is_there = record { within = omega arith; state = sym (after-nil old); silent = events_of-nil old; place = is_there }

open_after : (old : FrameState) (bytes : List ℕ) → old.place ≡ Open → events_of old bytes ≡ [] → ((fault : FrameFault) → (after old bytes).place ≢ Refused fault) → (after old bytes).place ≡ Open
open_after old bytes is_there silent going =
    let same : old ≡ open_at old.side old.held = ap (λ (place : FramePlace). let s : FrameState = record { side = old.side; place = place; held = old.held } in s) is_there in
    ap (λ (s : FrameState). (after s bytes).place) same
    ∙ open_silent old.side bytes old.held (ap (λ (s : FrameState). events_of s bytes) (sym same) ∙ silent)
    (λ fault e. going fault (ap (λ (s : FrameState). (after s bytes).place) same ∙ e))

-- what a part more makes of it
record Joined (old : FrameState) (piece : List ℕ) (taken : ℕ) (now : FrameState) (count : ℕ) (event : Option FrameEvent) (new : FrameState) : Type 0 where
  within : taken + count ≤ length piece
  some : 0 < count
  state : new ≡ after old (take (taken + count) piece)
  tells : events_of old (take (taken + count) piece) ≡ option_to_list event
  first : OnSome event (events_of old (take (taken + count - 1) piece) ≡ [])
  goes_on : (fault : FrameFault) → new.place ≢ Refused fault
  place : IfNone event (new.place ≡ Open)

first_of_parts : (event : Option FrameEvent) (told others : List FrameEvent) → others ≡ told → OnSome event (told ≡ []) → OnSome event (others ≡ [])
first_of_parts None told others e first = tt
first_of_parts (Some event) told others e first = e ∙ first

place_of_parts : (now : FrameState) (bytes : List ℕ) (event : Option FrameEvent) (new : FrameState) → now.place ≡ Open → new ≡ after now bytes → events_of now bytes ≡ option_to_list event
    → ((fault : FrameFault) → new.place ≢ Refused fault) → IfNone event (new.place ≡ Open)
place_of_parts now bytes None new is_there state tells going =
    ap (λ (s : FrameState). s.place) state ∙ open_after now bytes is_there tells (λ fault e. going fault (ap (λ (s : FrameState). s.place) state ∙ e))
place_of_parts now bytes (Some event) new is_there state tells going = tt

joined : (old : FrameState) (piece rest : List ℕ) (taken : ℕ) (now : FrameState) (count : ℕ) (event : Option FrameEvent) (new : FrameState) → TakenSoFar old piece taken now
    → rest ≡ drop taken piece → TakesSome now rest (Ok (count, event)) new → Joined old piece taken now count event new
joined old piece rest taken now count event new so_far rest_is takes =
    let took = takes.2 in
    let within = so_far.within in
    let bytes = take count rest in
    let size : length rest ≡ length piece - taken = ap length rest_is ∙ length-drop taken piece in
    let short = takes.1 in
    let some = takes.0 in
    let all : length bytes ≡ count = length-take-le count rest short in
    let whole : take (length bytes) bytes ≡ bytes = take_all (length bytes) bytes (omega arith) in
    let parts : take (taken + count) piece ≡ take taken piece ++ bytes = take-add taken count piece ∙ ap (λ (r : List ℕ). take taken piece ++ take count r) (sym rest_is) in
    let state : new ≡ after now bytes = took.state ∙ ap (after now) whole in
    let tells : events_of now bytes ≡ option_to_list event = ap (events_of now) (sym whole) ∙ took.tells in
    let less : taken + count - 1 ≡ taken + (count - 1) = omega arith in
    let before : take (taken + count - 1) piece ≡ take taken piece ++ take (length bytes - 1) bytes =
    ap (λ (n : ℕ). take n piece) less ∙ take-add taken (count - 1) piece
    ∙ ap (λ (r : List ℕ). take taken piece ++ take (count - 1) r) (sym rest_is)
    ∙ ap (λ (r : List ℕ). take taken piece ++ r) (sym (take-take (count - 1) count rest (omega arith)) ∙ ap (λ (n : ℕ). take (n - 1) bytes) (sym all)) in
    let early : events_of old (take (taken + count - 1) piece) ≡ events_of now (take (length bytes - 1) bytes) =
    ap (events_of old) before ∙ events_of-append old (take taken piece) (take (length bytes - 1) bytes)
    ∙ ap (λ (e : List FrameEvent). e ++ events_of (after old (take taken piece)) (take (length bytes - 1) bytes)) so_far.silent
    ∙ ap (λ (s : FrameState). events_of s (take (length bytes - 1) bytes)) (sym so_far.state) in
    record {
      within = omega arith;
      some = some;
      state = state ∙ ap (λ (s : FrameState). after s bytes) so_far.state ∙ sym (after-append old (take taken piece) bytes) ∙ ap (after old) (sym parts);
      tells =
          ap (events_of old) parts ∙ events_of-append old (take taken piece) bytes
          ∙ ap (λ (e : List FrameEvent). e ++ events_of (after old (take taken piece)) bytes) so_far.silent
          ∙ ap (λ (s : FrameState). events_of s bytes) (sym so_far.state)
          ∙ tells;
      first = first_of_parts event (events_of now (take (length bytes - 1) bytes)) (events_of old (take (taken + count - 1) piece)) early took.first;
      goes_on = took.goes_on;
      place = place_of_parts now bytes event new so_far.place state tells took.goes_on;
    }

pub TakenSoFar-more : (old : FrameState) (piece rest : List ℕ) (taken : ℕ) (now : FrameState) (count : ℕ) (new : FrameState) → TakenSoFar old piece taken now
    → rest ≡ drop taken piece → TakesSome now rest (Ok (count, None)) new → TakenSoFar old piece (taken + count) new
TakenSoFar-more old piece rest taken now count new so_far rest_is takes =
    let both = joined old piece rest taken now count None new so_far rest_is takes in
    record { within = both.within; state = both.state; silent = both.tells; place = both.place }

pub Took-event : (old : FrameState) (piece rest : List ℕ) (taken : ℕ) (now : FrameState) (count : ℕ) (event : FrameEvent) (new : FrameState) → TakenSoFar old piece taken now
    → rest ≡ drop taken piece → TakesSome now rest (Ok (count, Some event)) new → Took old piece (taken + count) (Some event) new
Took-event old piece rest taken now count event new so_far rest_is takes =
    let both = joined old piece rest taken now count (Some event) new so_far rest_is takes in
    record { within = both.within; state = both.state; tells = both.tells; all = tt; first = both.first; goes_on = both.goes_on }

-- a fault of the rest is one of the piece
stopped_behind : (old : FrameState) (piece rest : List ℕ) (taken : ℕ) (now : FrameState) (fault : FrameFault) (new : FrameState) → TakenSoFar old piece taken now
    → rest ≡ drop taken piece → Stopped now rest fault new → Stopped old piece fault new
stopped_behind old piece rest taken now fault new so_far rest_is stopped =
    let whole : piece ≡ take taken piece ++ rest = sym (take-append-drop taken piece) ∙ ap (λ (r : List ℕ). take taken piece ++ r) (sym rest_is) in
    record {
      state = stopped.state ∙ ap (λ (s : FrameState). after s rest) so_far.state ∙ sym (after-append old (take taken piece) rest) ∙ ap (after old) (sym whole);
      refused = stopped.refused;
      silent =
          ap (events_of old) whole ∙ events_of-append old (take taken piece) rest
          ∙ ap (λ (e : List FrameEvent). e ++ events_of (after old (take taken piece)) rest) so_far.silent
          ∙ ap (λ (s : FrameState). events_of s rest) (sym so_far.state)
          ∙ stopped.silent;
    }

pub Feeds-behind : (old : FrameState) (piece rest : List ℕ) (taken : ℕ) (now : FrameState) (fault : FrameFault) (new : FrameState) → old.place ≡ Open → TakenSoFar old piece taken now
    → rest ≡ drop taken piece → Feeds now rest (Err fault) new → Feeds old piece (Err fault) new
Feeds-behind old piece rest taken now (FrameTooLong count) new is_there so_far rest_is feeds = stopped_behind old piece rest taken now (FrameTooLong count) new so_far rest_is feeds
Feeds-behind old piece rest taken now Compressed new is_there so_far rest_is feeds = stopped_behind old piece rest taken now Compressed new so_far rest_is feeds
Feeds-behind old piece rest taken now AfterMessage new is_there so_far rest_is feeds = stopped_behind old piece rest taken now AfterMessage new so_far rest_is feeds
Feeds-behind old piece rest taken now AfterTrailers new is_there so_far rest_is feeds = stopped_behind old piece rest taken now AfterTrailers new so_far rest_is feeds
Feeds-behind old piece rest taken now BadTrailer new is_there so_far rest_is feeds = stopped_behind old piece rest taken now BadTrailer new so_far rest_is feeds
Feeds-behind old piece rest taken now NoMessage new is_there so_far rest_is feeds = stopped_behind old piece rest taken now NoMessage new so_far rest_is feeds
Feeds-behind old piece rest taken now OutOfMemory new is_there so_far rest_is feeds = record {
  state = feeds.state ∙ ap (λ (side : Side). refused_at side OutOfMemory) (ap (λ (s : FrameState). s.side) so_far.state ∙ after-side old (take taken piece));
  was_open = inl is_there;
}
