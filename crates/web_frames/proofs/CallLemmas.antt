-- The calls of a reader, by what its parts hold.
use Rattle.std.proofs.Common.{◌≡◌, ℕ, ◌+◌, ◌-◌, ◌*◌, ◌<◌, ◌≤◌, true, List, [], ◌∷◌, ◌++◌, length, get_or, take, drop, refl, sym, ap, ◌∙◌, subst, append-nil, append_assoc, Option, Some, None, Result, Ok, Err, inl, inr, arith}
use Rattle.std.proofs.lemmas.Bool.{true≢false, cases_lt}
use Rattle.std.proofs.lemmas.List.{length-append, length-take-le, length-drop, take_all, take_at, drop_at, drop-append-le, get_or-take, get_or_append_left}
use Rattle.web_frames.specs.declared.limits.Side.{Side}
use Rattle.web_frames.specs.declared.fault.FrameFault.{FrameFault}
use Rattle.web_frames.specs.declared.fault.FrameFault.TheVariants.{FrameTooLong, OutOfMemory}
use Rattle.web_frames.specs.declared.event.FrameEvent.{FrameEvent}
use Rattle.web_frames.specs.declared.state.FramePlace.{FramePlace}
use Rattle.web_frames.specs.declared.state.FramePlace.TheVariants.{Open, Refused}
use Rattle.web_frames.specs.Machine.{frame_limit, FrameState, Settled, more, told, faulty, fault_of_flag, told_by, settled_by_length, settled_by, refused_at, Took, Feeds}
use Rattle.web_frames.specs.Parts.{FeedsAll, EndsWith, Ends, length_in, lacking, is_more, is_open, HoldsFrame}
use Rattle.web_frames.proofs.MachineLemmas.{open_at}
use Rattle.web_frames.proofs.SettledLemmas.{size_of, settled_by-nil, settled_by_length-too_long, settled_by_length-part, settled_by_length-whole}
use Rattle.web_frames.proofs.ReadsLemmas.{state_at}
use Rattle.web_frames.proofs.ReaderLemmas.{Took-nothing, Feeds-refused, Feeds-past, EndsWith-goes_on, FeedsAll-byte_held, FeedsAll-byte_fault, FeedsAll-byte_ends, flag_settled, settled_by-flag, flag_no_memory, settled_by-early, settled_by-fifth, IsHeaded-more, FeedsAll-part, unsettled-part, FeedsAll-last}

-- ---- parts

is_more-true : (settled : Settled) → is_more settled ≡ true → settled ≡ more
is_more-true more e = refl
is_more-true (told event) e = absurd (cc)
is_more-true (faulty fault) e = absurd (cc)

-- the bytes that are held where a frame may come or has begun
pub unsettled_now : (side : Side) (place : FramePlace) (head : List ℕ) (count : ℕ) (payload : List ℕ) (old : FrameState)
    → ◌≡◌ {A = FrameState} (record { side = side; place = place; held = take count head ++ payload }) old → HoldsFrame side place head count payload → old.place ≡ Open
    → settled_by old.side old.held ≡ more
unsettled_now side place head count payload old view holds is_there =
    let side_is : side ≡ old.side = ap (λ (s : FrameState). s.side) view in
    let place_is : place ≡ Open = ap (λ (s : FrameState). s.place) view ∙ is_there in
    let held_is : take count head ++ payload ≡ old.held = ap (λ (s : FrameState). s.held) view in
    ap (λ (s : Side). settled_by s old.held) (sym side_is) ∙ ap (settled_by side) (sym held_is)
    ∙ is_more-true (settled_by side (take count head ++ payload)) (holds.unsettled (ap is_open place_is))

-- a reader that holds nothing
pub HoldsFrame-empty : (side : Side) (place : FramePlace) (head payload : List ℕ) → length head ≡ 5 → payload ≡ [] → HoldsFrame side place head 0 payload
HoldsFrame-empty side place head payload room none = record {
  room = room;
  few = omega arith;
  early = λ few. none;
  unsettled = λ is_there. ap (λ (held : List ℕ). is_more (settled_by side held)) none ∙ ap is_more (settled_by-nil side);
  empty = λ closed. (refl, none);
}

open_state : (old : FrameState) → old.place ≡ Open → old ≡ open_at old.side old.held
open_state old e = ap (λ (place : FramePlace). let s : FrameState = record { side = old.side; place = place; held = old.held } in s) e

-- ---- no byte may come

pub Feeds-none : (old : FrameState) (piece : List ℕ) (fault : FrameFault) → EndsWith old.place fault → length piece ≡ 0 → Took old piece 0 None old
Feeds-none old [] fault ends none = Took-nothing old (EndsWith-goes_on old.place fault ends)
Feeds-none old (b ∷ piece) fault ends none = absurd (omega arith)

pub Feeds-one_more : (old : FrameState) (piece : List ℕ) (fault answer : FrameFault) (new : FrameState) → EndsWith old.place fault → (length piece ≡ 0 → ⊥) → answer ≡ fault
    → new ≡ refused_at old.side fault → Feeds old piece (Err answer) new
Feeds-one_more old piece fault answer new ends some answer_is new_is =
    subst (λ (f : FrameFault). Feeds old piece (Err f) new) (sym answer_is)
    (subst (λ (s : FrameState). Feeds old piece (Err fault) s) (sym new_is) (Feeds-past old piece fault ends (omega arith)))

-- ---- bytes of a head

pub FeedsAll-kept : (old : FrameState) (b : ℕ) (new : FrameState) → old.place ≡ Open → settled_by old.side (old.held ++ b ∷ []) ≡ more
    → new ≡ record old { held = old.held ++ b ∷ [] } → FeedsAll old (b ∷ []) (Ok None) new
FeedsAll-kept old b new is_there settled new_is =
    let same = open_state old is_there in
    let next : open_at old.side (old.held ++ b ∷ []) ≡ new =
    sym (new_is ∙ ap (λ (place : FramePlace). let s : FrameState = record { side = old.side; place = place; held = old.held ++ b ∷ [] } in s) is_there) in
    subst (λ (s : FrameState). FeedsAll s (b ∷ []) (Ok None) new) (sym same)
    (subst (λ (s : FrameState). FeedsAll (open_at old.side old.held) (b ∷ []) (Ok None) s) next (FeedsAll-byte_held old.side old.held b settled))

pub FeedsAll-refused : (old : FrameState) (b : ℕ) (fault answer : FrameFault) (new : FrameState) → old.place ≡ Open → (fault ≡ OutOfMemory → ⊥)
    → settled_by old.side (old.held ++ b ∷ []) ≡ faulty fault → answer ≡ fault → new ≡ refused_at old.side fault → FeedsAll old (b ∷ []) (Err answer) new
FeedsAll-refused old b fault answer new is_there other settled answer_is new_is =
    subst (λ (s : FrameState). FeedsAll s (b ∷ []) (Err answer) new) (sym (open_state old is_there))
    (subst (λ (f : FrameFault). FeedsAll (open_at old.side old.held) (b ∷ []) (Err f) new) (sym answer_is)
    (subst (λ (s : FrameState). FeedsAll (open_at old.side old.held) (b ∷ []) (Err fault) s) (sym new_is) (FeedsAll-byte_fault old.side old.held b fault other settled)))

pub FeedsAll-ended : (old : FrameState) (b : ℕ) (settled_is : Settled) (result : Result (Option FrameEvent) FrameFault) (new : FrameState) → old.place ≡ Open
    → settled_by old.side (old.held ++ b ∷ []) ≡ settled_is → Ends old.side settled_is result new → FeedsAll old (b ∷ []) result new
FeedsAll-ended old b settled_is result new is_there settled ends =
    subst (λ (s : FrameState). FeedsAll s (b ∷ []) result new) (sym (open_state old is_there)) (FeedsAll-byte_ends old.side old.held b settled_is result new settled ends)

-- the flag
flag_at : (old : FrameState) (b : ℕ) (o : Option FrameFault) → old.held ≡ [] → o ≡ fault_of_flag old.side b → settled_by old.side (old.held ++ b ∷ []) ≡ flag_settled o
flag_at old b o first e = ap (λ (held : List ℕ). settled_by old.side (held ++ b ∷ [])) first ∙ settled_by-flag old.side b o e

pub flag_unsettled : (side : Side) (old : FrameState) (b : ℕ) → side ≡ old.side → old.held ≡ [] → None ≡ fault_of_flag side b → settled_by old.side (old.held ++ b ∷ []) ≡ more
flag_unsettled side old b side_is first e = flag_at old b None first (e ∙ ap (λ (s : Side). fault_of_flag s b) side_is)

pub FeedsAll-flag : (side : Side) (old : FrameState) (b : ℕ) (fault answer : FrameFault) (new : FrameState) → side ≡ old.side → old.place ≡ Open → old.held ≡ []
    → Some fault ≡ fault_of_flag side b → answer ≡ fault → new ≡ refused_at old.side fault → FeedsAll old (b ∷ []) (Err answer) new
FeedsAll-flag side old b fault answer new side_is is_there first e answer_is new_is =
    let is = e ∙ ap (λ (s : Side). fault_of_flag s b) side_is in
    FeedsAll-refused old b fault answer new is_there (flag_no_memory old.side b fault is) (flag_at old b (Some fault) first is) answer_is new_is

-- ---- what is held, by the parts

-- the number of four bytes, the highest first
abbrev pub four_of : ℕ → ℕ → ℕ → ℕ → ℕ
four_of a b c d = a * 16777216 + b * 65536 + c * 256 + d

size_of-four : (a b c d : ℕ) → size_of (a ∷ b ∷ c ∷ d ∷ []) ≡ four_of a b c d
unfolding size_of
size_of-four a b c d = refl

fifth_size : (head : List ℕ) (b : ℕ) → length head ≡ 5 → size_of (drop 1 (take 4 head) ++ b ∷ []) ≡ four_of (get_or head 1 0) (get_or head 2 0) (get_or head 3 0) b
fifth_size [] b five = absurd (omega arith)
fifth_size (h ∷ []) b five = absurd (omega arith)
fifth_size (h ∷ i ∷ []) b five = absurd (omega arith)
fifth_size (h ∷ i ∷ j ∷ []) b five = absurd (omega arith)
fifth_size (h ∷ i ∷ j ∷ k ∷ rest) b five = size_of-four i j k b

head_size : (head : List ℕ) → length head ≡ 5 → size_of (drop 1 head) ≡ four_of (get_or head 1 0) (get_or head 2 0) (get_or head 3 0) (get_or head 4 0)
head_size [] five = absurd (omega arith)
head_size (h ∷ []) five = absurd (omega arith)
head_size (h ∷ i ∷ []) five = absurd (omega arith)
head_size (h ∷ i ∷ j ∷ []) five = absurd (omega arith)
head_size (h ∷ i ∷ j ∷ k ∷ []) five = absurd (omega arith)
head_size (h ∷ i ∷ j ∷ k ∷ l ∷ []) five = size_of-four i j k l
head_size (h ∷ i ∷ j ∷ k ∷ l ∷ m ∷ rest) five = absurd (omega arith)

held_length : (side : Side) (place : FramePlace) (head : List ℕ) (count : ℕ) (payload : List ℕ) → HoldsFrame side place head count payload
    → length (take count head ++ payload) ≡ count + length payload
held_length side place head count payload holds =
    let room = holds.room in
    let few = holds.few in
    let short : length (take count head) ≡ count = length-take-le count head (omega arith) in
    omega (arith, length-append (take count head) payload)

-- fewer than five bytes are a part of the head
early_held : (side : Side) (place : FramePlace) (head : List ℕ) (count : ℕ) (payload held : List ℕ) → HoldsFrame side place head count payload → take count head ++ payload ≡ held
    → length held < 5 → (count ≡ length held) × (held ≡ take count head)
early_held side place head count payload held holds view few =
    let size = held_length side place head count payload holds in
    let same = ap length view in
    let less : count < 5 = omega arith in
    let none = holds.early less in
    let nothing = ap length none in
    (omega arith, sym view ∙ ap (λ (back : List ℕ). take count head ++ back) none ∙ append-nil (take count head))

-- five bytes or more are the whole head and a part of the payload
late_held : (side : Side) (place : FramePlace) (head : List ℕ) (count : ℕ) (payload held : List ℕ) → HoldsFrame side place head count payload → take count head ++ payload ≡ held
    → 5 ≤ length held → (count ≡ 5) × (held ≡ head ++ payload)
late_held side place head count payload held holds view many = elim (cases_lt count 5) [
  | inl less ↦
      let size = held_length side place head count payload holds in
      let same = ap length view in
      let none = holds.early less in
      let nothing = ap length none in
      absurd (omega arith)
  | inr all ↦
      let room = holds.room in
      let few = holds.few in
      (omega arith, sym view ∙ ap (λ (front : List ℕ). front ++ payload) (take_all count head (omega arith)))
]

-- ---- the fifth byte

pub settled-fifth : (side : Side) (place : FramePlace) (head : List ℕ) (count : ℕ) (payload : List ℕ) (old : FrameState) (b : ℕ)
    → ◌≡◌ {A = FrameState} (record { side = side; place = place; held = take count head ++ payload }) old → HoldsFrame side place head count payload → old.place ≡ Open
    → length old.held ≡ 4
    → settled_by old.side (old.held ++ b ∷ []) ≡ settled_by_length side (get_or head 0 0) (four_of (get_or head 1 0) (get_or head 2 0) (get_or head 3 0) b) []
settled-fifth side place head count payload old b view holds is_there four =
    let side_is : side ≡ old.side = ap (λ (s : FrameState). s.side) view in
    let parts = early_held side place head count payload old.held holds (ap (λ (s : FrameState). s.held) view) (omega arith) in
    let held : old.held ≡ take 4 head = parts.1 ∙ ap (λ (n : ℕ). take n head) (parts.0 ∙ four) in
    let flag : get_or old.held 0 0 ≡ get_or head 0 0 = ap (λ (h : List ℕ). get_or h 0 0) held ∙ get_or-take 4 head 0 0 (omega arith) in
    let size = ap (λ (h : List ℕ). size_of (drop 1 h ++ b ∷ [])) held ∙ fifth_size head b holds.room in
    settled_by-fifth old.side old.held b (unsettled_now side place head count payload old view holds is_there) four
    ∙ ap (λ (s : Side). settled_by_length s (get_or old.held 0 0) (size_of (drop 1 old.held ++ b ∷ [])) []) (sym side_is)
    ∙ ap (λ (f : ℕ). settled_by_length side f (size_of (drop 1 old.held ++ b ∷ [])) []) flag
    ∙ ap (λ (n : ℕ). settled_by_length side (get_or head 0 0) n []) size

-- ---- the payload

pub lacking-parts : (side : Side) (place : FramePlace) (head : List ℕ) (count : ℕ) (payload : List ℕ) (old : FrameState)
    → ◌≡◌ {A = FrameState} (record { side = side; place = place; held = take count head ++ payload }) old → HoldsFrame side place head count payload → old.place ≡ Open
    → 5 ≤ length old.held
    → (lacking old.held ≡ four_of (get_or head 1 0) (get_or head 2 0) (get_or head 3 0) (get_or head 4 0) - length payload)
    × (length payload < four_of (get_or head 1 0) (get_or head 2 0) (get_or head 3 0) (get_or head 4 0))
    × (drop 5 old.held ≡ payload) × (get_or old.held 0 0 ≡ get_or head 0 0) × (count ≡ 5)
unfolding size_of
lacking-parts side place head count payload old view holds is_there many =
    let room = holds.room in
    let parts = late_held side place head count payload old.held holds (ap (λ (s : FrameState). s.held) view) many in
    let headed = IsHeaded-more old.side old.held (unsettled_now side place head count payload old view holds is_there) many in
    let back : drop 5 old.held ≡ payload = ap (drop 5) parts.1 ∙ drop_at head payload 5 room in
    let rest : drop 1 old.held ≡ drop 1 head ++ payload = ap (drop 1) parts.1 ∙ drop-append-le 1 head payload (omega arith) in
    let front : take 4 (drop 1 old.held) ≡ drop 1 head = ap (take 4) rest ∙ take_at (drop 1 head) payload 4 (omega (arith, length-drop 1 head)) in
    let size : length_in old.held ≡ four_of (get_or head 1 0) (get_or head 2 0) (get_or head 3 0) (get_or head 4 0) = ap size_of front ∙ head_size head room in
    let part = headed.part in
    let few = ap length back in
    let flag : get_or old.held 0 0 ≡ get_or head 0 0 = ap (λ (h : List ℕ). get_or h 0 0) parts.1 ∙ get_or_append_left head payload 0 0 (omega arith) in (
      ap (λ (n : ℕ). n - length (drop 5 old.held)) size ∙ ap (λ (n : ℕ). four_of (get_or head 1 0) (get_or head 2 0) (get_or head 3 0) (get_or head 4 0) - n) few,
      omega arith,
      back,
      flag,
      parts.0,
    )

-- ---- one byte of a length

pub unsettled-early : (side : Side) (place : FramePlace) (head : List ℕ) (count : ℕ) (payload : List ℕ) (old : FrameState) (b : ℕ)
    → ◌≡◌ {A = FrameState} (record { side = side; place = place; held = take count head ++ payload }) old → HoldsFrame side place head count payload → old.place ≡ Open
    → length old.held < 5 → (count ≡ 0 → ⊥) → (count ≡ 4 → ⊥) → settled_by old.side (old.held ++ b ∷ []) ≡ more
unsettled-early side place head count payload old b view holds is_there few some other =
    let parts = early_held side place head count payload old.held holds (ap (λ (s : FrameState). s.held) view) few in
    settled_by-early old.side old.held b (unsettled_now side place head count payload old view holds is_there) (omega arith) (omega arith)

pub FeedsAll-too_long : (side : Side) (place : FramePlace) (head : List ℕ) (count : ℕ) (payload : List ℕ) (old : FrameState) (b size : ℕ) (answer : FrameFault) (new : FrameState)
    → ◌≡◌ {A = FrameState} (record { side = side; place = place; held = take count head ++ payload }) old → HoldsFrame side place head count payload → old.place ≡ Open
    → length old.held ≡ 4 → size ≡ four_of (get_or head 1 0) (get_or head 2 0) (get_or head 3 0) b → frame_limit side < size
    → answer ≡ FrameTooLong size → new ≡ refused_at old.side (FrameTooLong size) → FeedsAll old (b ∷ []) (Err answer) new
FeedsAll-too_long side place head count payload old b size answer new view holds is_there four size_is great answer_is new_is =
    FeedsAll-refused old b (FrameTooLong size) answer new is_there (λ same. cc)
    (settled-fifth side place head count payload old b view holds is_there four
    ∙ ap (λ (n : ℕ). settled_by_length side (get_or head 0 0) n []) (sym size_is)
    ∙ settled_by_length-too_long side (get_or head 0 0) size [] great)
    answer_is new_is

pub FeedsAll-empty_frame : (side : Side) (place : FramePlace) (head : List ℕ) (count : ℕ) (payload : List ℕ) (old : FrameState) (b size : ℕ)
    (result : Result (Option FrameEvent) FrameFault) (new : FrameState)
    → ◌≡◌ {A = FrameState} (record { side = side; place = place; held = take count head ++ payload }) old → HoldsFrame side place head count payload → old.place ≡ Open
    → length old.held ≡ 4 → size ≡ four_of (get_or head 1 0) (get_or head 2 0) (get_or head 3 0) b → size ≡ 0
    → Ends old.side (told_by (get_or head 0 0) []) result new → FeedsAll old (b ∷ []) result new
FeedsAll-empty_frame side place head count payload old b size result new view holds is_there four size_is none ends =
    FeedsAll-ended old b (told_by (get_or head 0 0) []) result new is_there
    (settled-fifth side place head count payload old b view holds is_there four
    ∙ ap (λ (n : ℕ). settled_by_length side (get_or head 0 0) n []) (sym size_is)
    ∙ settled_by_length-whole side (get_or head 0 0) size [] (omega arith) (omega arith))
    ends

pub unsettled-fifth : (side : Side) (place : FramePlace) (head : List ℕ) (count : ℕ) (payload : List ℕ) (old : FrameState) (b size : ℕ)
    → ◌≡◌ {A = FrameState} (record { side = side; place = place; held = take count head ++ payload }) old → HoldsFrame side place head count payload → old.place ≡ Open
    → length old.held ≡ 4 → size ≡ four_of (get_or head 1 0) (get_or head 2 0) (get_or head 3 0) b → (size ≡ 0 → ⊥) → size ≤ frame_limit side
    → settled_by old.side (old.held ++ b ∷ []) ≡ more
unsettled-fifth side place head count payload old b size view holds is_there four size_is some fits =
    settled-fifth side place head count payload old b view holds is_there four
    ∙ ap (λ (n : ℕ). settled_by_length side (get_or head 0 0) n []) (sym size_is)
    ∙ settled_by_length-part side (get_or head 0 0) size [] fits (omega arith)

-- ---- bytes of a payload

pub HoldsFrame-longer : (side : Side) (place : FramePlace) (head : List ℕ) (count : ℕ) (payload : List ℕ) (old : FrameState) (piece longer : List ℕ)
    → ◌≡◌ {A = FrameState} (record { side = side; place = place; held = take count head ++ payload }) old → HoldsFrame side place head count payload → old.place ≡ Open
    → 5 ≤ length old.held → length piece < lacking old.held → longer ≡ payload ++ piece → HoldsFrame side place head count longer
HoldsFrame-longer side place head count payload old piece longer view holds is_there many part longer_is =
    let parts = lacking-parts side place head count payload old view holds is_there many in
    let whole : count ≡ 5 = parts.4 in
    let place_is : place ≡ Open = ap (λ (s : FrameState). s.place) view ∙ is_there in
    let held : take count head ++ longer ≡ old.held ++ piece =
    ap (λ (back : List ℕ). take count head ++ back) longer_is ∙ sym (append_assoc (take count head) payload piece) ∙ ap (λ (s : FrameState). s.held ++ piece) view in
    record {
      room = holds.room;
      few = holds.few;
      early = λ less. absurd (omega arith);
      unsettled = λ _. ap (λ (bytes : List ℕ). is_more (settled_by side bytes)) held
          ∙ ap (λ (s : Side). is_more (settled_by s (old.held ++ piece))) (ap (λ (s : FrameState). s.side) view)
          ∙ ap is_more (unsettled-part old.side old.held piece (unsettled_now side place head count payload old view holds is_there) many part);
      empty = λ closed. absurd (true≢false (sym (ap is_open place_is) ∙ closed));
    }

pub FeedsAll-longer : (side : Side) (place : FramePlace) (head : List ℕ) (count : ℕ) (payload : List ℕ) (old : FrameState) (piece longer : List ℕ)
    → ◌≡◌ {A = FrameState} (record { side = side; place = place; held = take count head ++ payload }) old → HoldsFrame side place head count payload → old.place ≡ Open
    → 5 ≤ length old.held → length piece < lacking old.held → longer ≡ payload ++ piece
    → FeedsAll old piece (Ok None) (record { side = side; place = place; held = take count head ++ longer })
FeedsAll-longer side place head count payload old piece longer view holds is_there many part longer_is =
    let held : old.held ++ piece ≡ take count head ++ longer =
    sym (ap (λ (back : List ℕ). take count head ++ back) longer_is ∙ sym (append_assoc (take count head) payload piece) ∙ ap (λ (s : FrameState). s.held ++ piece) view) in
    let next : open_at old.side (old.held ++ piece) ≡ state_at side place (take count head ++ longer) =
    ap (open_at old.side) held ∙ ap (λ (s : Side). open_at s (take count head ++ longer)) (sym (ap (λ (s : FrameState). s.side) view))
    ∙ ap (λ (p : FramePlace). state_at side p (take count head ++ longer)) (sym (ap (λ (s : FrameState). s.place) view ∙ is_there)) in
    subst (λ (s : FrameState). FeedsAll s piece (Ok None) (state_at side place (take count head ++ longer))) (sym (open_state old is_there))
    (subst (λ (s : FrameState). FeedsAll (open_at old.side old.held) piece (Ok None) s) next
    (FeedsAll-part old.side old.held piece (unsettled_now side place head count payload old view holds is_there) many part))

pub FeedsAll-whole : (side : Side) (place : FramePlace) (head : List ℕ) (count : ℕ) (payload : List ℕ) (old : FrameState) (piece whole : List ℕ) (ended : Side)
    (result : Result (Option FrameEvent) FrameFault) (new : FrameState)
    → ◌≡◌ {A = FrameState} (record { side = side; place = place; held = take count head ++ payload }) old → HoldsFrame side place head count payload → old.place ≡ Open
    → 5 ≤ length old.held → 0 < length piece → length piece ≤ lacking old.held → lacking old.held ≤ length piece → whole ≡ payload ++ piece → ended ≡ side
    → Ends ended (told_by (get_or head 0 0) whole) result new → FeedsAll old piece result new
FeedsAll-whole side place head count payload old piece whole ended result new view holds is_there many some most least whole_is ended_is ends =
    let parts = lacking-parts side place head count payload old view holds is_there many in
    let bytes : whole ≡ drop 5 old.held ++ piece = whole_is ∙ ap (λ (front : List ℕ). front ++ piece) (sym parts.2) in
    let side_is : ended ≡ old.side = ended_is ∙ ap (λ (s : FrameState). s.side) view in
    subst (λ (s : FrameState). FeedsAll s piece result new) (sym (open_state old is_there))
    (FeedsAll-last old.side old.held piece result new (unsettled_now side place head count payload old view holds is_there) many some (omega arith)
    (subst (λ (s : Side). Ends s (told_by (get_or old.held 0 0) (drop 5 old.held ++ piece)) result new) side_is
    (subst (λ (f : ℕ). Ends ended (told_by f (drop 5 old.held ++ piece)) result new) (sym parts.3)
    (subst (λ (b : List ℕ). Ends ended (told_by (get_or head 0 0) b) result new) bytes ends))))

-- ---- a reader that is refused

pub Feeds-stays : (side : Side) (place : FramePlace) (head : List ℕ) (count : ℕ) (payload : List ℕ) (old : FrameState) (piece : List ℕ) (fault : FrameFault)
    → ◌≡◌ {A = FrameState} (record { side = side; place = place; held = take count head ++ payload }) old → HoldsFrame side place head count payload → place ≡ Refused fault
    → Feeds old piece (Err fault) old
Feeds-stays side place head count payload old piece fault view holds refused =
    let empty = holds.empty (ap is_open refused) in
    let held : old.held ≡ [] = sym (ap (λ (s : FrameState). s.held) view) ∙ ap (λ (n : ℕ). take n head ++ payload) empty.0 ∙ empty.1 in
    Feeds-refused old piece fault (sym (ap (λ (s : FrameState). s.place) view) ∙ refused) held
