-- What one byte more settles of a frame that has begun, in the protocol's words.
use Rattle.std.proofs.Common.{◌≡◌, ◌≢◌, ℕ, ◌-◌, ◌^◌, ◌<◌, ◌≤◌, ◌⊎◌, Bool, true, false, List, [], ◌∷◌, ◌++◌, length, take, drop, refl, sym, ap, ◌∙◌, subst, inl, inr, append_assoc, append-nil, Option, Some, None, arith}
use Rattle.std.specs.Prelude.{replicate}
use Rattle.std.proofs.lemmas.Bool.{false≢true, cond-true, cond-false, cond_both, cases_Bool, cases_lt}
use Rattle.std.proofs.lemmas.List.{take-append-le, drop-append-le, length-append, length-take-le, length-replicate, get_or-replicate, length_push, take-append-drop, drop_all}
use Rattle.std.proofs.lemmas.List.Elements.{All-nil, All-append, All-tail, All-take}
use Rattle.web_frames.specs.declared.limits.Side.{Side}
use Rattle.web_frames.specs.declared.limits.Side.TheVariants.{Request, Response}
use Rattle.web_frames.specs.declared.fault.FrameFault.TheVariants.{FrameTooLong, Compressed, AfterMessage, AfterTrailers, BadTrailer, NoMessage, OutOfMemory}
use Rattle.web_frames.specs.declared.status.Trailers.{Trailers}
use Rattle.web_frames.specs.declared.event.FrameEvent.TheVariants as event
use Rattle.web_frames.specs.Trailers.{trailers_in}
use Rattle.web_frames.specs.Machine.{frame_limit, frame_head, frame, Settled, more, told, faulty, is_compressed, is_trailers, is_no_message, told_trailers, told_by, settled_by_length, settled_by_rest, settled_by}
use Rattle.web_frames.specs.Standard.{TrailersSay, IsBytes, IsCompressed, IsTrailers, MayStand, IsFrame, IsMessage, IsTrailersFrame, IsBegun}
use Rattle.web_frames.proofs.TrailerLemmas.{TrailersSay-trailers_in, none_said}
use Rattle.web_frames.proofs.SettledLemmas as settled
use Rattle.web_frames.proofs.SettledLemmas.{size_bytes, size_of, length-size_bytes, size_bytes-size_of, size_of-small, frame_head-size_bytes, frame-size_bytes, frame_limit-small}

-- what bytes of a frame settle, in the protocol's words
abbrev pub SettlesAs : Side → List ℕ → Settled → Type 0
SettlesAs side bytes more = IsBegun side bytes
SettlesAs side bytes (told (event.Message message)) = IsMessage side bytes message
SettlesAs side bytes (told (event.Trailers trailers)) = (payload : List ℕ) × IsTrailersFrame side bytes payload × TrailersSay payload trailers
SettlesAs side bytes (faulty (FrameTooLong count)) =
    (flag : ℕ) × (bytes ≡ frame_head flag count) × MayStand side flag × (frame_limit side < count) × (count < 2 ^ 32)
SettlesAs side bytes (faulty Compressed) = (flag : ℕ) × (bytes ≡ flag ∷ []) × IsCompressed flag
SettlesAs side bytes (faulty NoMessage) = (flag : ℕ) × (bytes ≡ flag ∷ []) × (side ≡ Request) × ¬ IsCompressed flag × IsTrailers flag
SettlesAs side bytes (faulty BadTrailer) = (payload : List ℕ) × IsTrailersFrame side bytes payload × ((said : Trailers) → ¬ TrailersSay payload said)
SettlesAs side bytes (faulty AfterMessage) = ⊥
SettlesAs side bytes (faulty AfterTrailers) = ⊥
SettlesAs side bytes (faulty OutOfMemory) = ⊥

-- ---- frames that complete a beginning

zeros : ℕ → List ℕ
zeros count = replicate count 0

length-zeros : (count : ℕ) → length (zeros count) ≡ count
unfolding zeros
length-zeros count = length-replicate count 0

zeros-IsBytes : (count : ℕ) → IsBytes (zeros count)
unfolding zeros
zeros-IsBytes count = λ k d within. rw (get_or-replicate count k 0 d (omega (arith, length-replicate {A = ℕ} count 0))) (omega arith)

pub plain_flag : (side : Side) → MayStand side 0
plain_flag Request = (λ set. set refl, λ set. set refl)
plain_flag Response = λ set. set refl

pub IsBegun-nil : (side : Side) → IsBegun side []
IsBegun-nil side = record {
  more = frame 0 [];
  flag = 0;
  payload = [];
  lacks = λ e. let cons = frame-size_bytes 0 [] in cc;
  whole = refl;
  may_stand = plain_flag side;
  short = omega arith;
  fits = λ many. absurd (omega arith);
}

-- a flag and a part of a length
IsBegun-head : (side : Side) (flag : ℕ) (rest : List ℕ) → MayStand side flag → IsBytes rest → length rest < 4 → IsBegun side (flag ∷ rest)
IsBegun-head side flag rest may all few =
    let filled = rest ++ zeros (4 - length rest) in
    let four : length filled ≡ 4 = simp (length-append, length-zeros) (omega arith) in
    let every : IsBytes filled = All-append (λ b. b < 256) rest (zeros (4 - length rest)) all (zeros-IsBytes (4 - length rest)) in
    let count = size_of filled in
    let payload = zeros count in
    let size : size_bytes (length payload) ≡ filled = ap size_bytes (length-zeros count) ∙ size_bytes-size_of filled four every in
    record {
      more = zeros (4 - length rest) ++ payload;
      flag = flag;
      payload = payload;
      lacks = λ e. let none = ap length e in let some : 0 < length (zeros (4 - length rest) ++ payload) = simp (length-append, length-zeros) (omega arith) in absurd (omega arith);
      whole =
          ap (λ (bytes : List ℕ). flag ∷ bytes) (sym (append_assoc rest (zeros (4 - length rest)) payload) ∙ ap (λ (bytes : List ℕ). bytes ++ payload) (sym size))
          ∙ sym (frame-size_bytes flag payload);
      may_stand = may;
      short = subst (λ (n : ℕ). n < 2 ^ 32) (sym (length-zeros count)) (size_of-small filled every);
      fits = λ many. absurd (omega arith);
    }

-- a flag, a length and a part of a payload
IsBegun-payload : (side : Side) (flag count : ℕ) (payload : List ℕ) → MayStand side flag → count < 2 ^ 32 → count ≤ frame_limit side → length payload < count
    → IsBegun side (settled.headed flag count payload)
IsBegun-payload side flag count payload may short fits part =
    let lacking = zeros (count - length payload) in
    let all = payload ++ lacking in
    let size : length all ≡ count = simp (length-append, length-zeros) (omega arith) in
    record {
      more = lacking;
      flag = flag;
      payload = all;
      lacks = λ e. let none = ap length e in let some = length-zeros (count - length payload) in absurd (omega arith);
      whole =
          ap (λ (bytes : List ℕ). flag ∷ bytes) (append_assoc (size_bytes count) payload lacking ∙ ap (λ (n : ℕ). size_bytes n ++ all) (sym size))
          ∙ sym (frame-size_bytes flag all);
      may_stand = may;
      short = omega arith;
      fits = λ many. omega arith;
    }

-- ---- whole frames

IsFrame-headed : (side : Side) (flag : ℕ) (payload : List ℕ) → MayStand side flag → length payload ≤ frame_limit side
    → IsFrame side (settled.headed flag (length payload) payload) flag payload
IsFrame-headed side flag payload may fits = record { whole = sym (frame-size_bytes flag payload); may_stand = may; fits = fits }

told_as_trailers : (side : Side) (bytes payload : List ℕ) (found : Option Trailers) → IsTrailersFrame side bytes payload → trailers_in payload ≡ found
    → SettlesAs side bytes (told_trailers found)
told_as_trailers side bytes payload None is e = (payload, is, none_said payload e)
told_as_trailers side bytes payload (Some trailers) is e = (payload, is, TrailersSay-trailers_in payload trailers e)

told_as : (side : Side) (bytes : List ℕ) (flag : ℕ) (payload : List ℕ) → IsFrame side bytes flag payload → SettlesAs side bytes (told_by flag payload)
unfolding told_by
told_as side bytes flag payload is = elim (cases_Bool (is_trailers flag)) [
  | inl marked ↦
      subst (SettlesAs side bytes) (sym (cond-true (is_trailers flag) (told_trailers (trailers_in payload)) (told (event.Message payload)) marked))
      (told_as_trailers side bytes payload (trailers_in payload) (record { flag = flag; frame = is; marked = settled.IsTrailers-is flag marked }) refl)
  | inr plain ↦
      subst (SettlesAs side bytes) (sym (cond-false (is_trailers flag) (told_trailers (trailers_in payload)) (told (event.Message payload)) plain))
      (record { flag = flag; frame = is; plain = settled.not_trailers flag plain })
]

-- ---- a byte more

-- a payload that is no longer than the length says
payload_as : (side : Side) (flag count : ℕ) (payload : List ℕ) → MayStand side flag → count < 2 ^ 32 → count ≤ frame_limit side → length payload ≤ count
    → SettlesAs side (settled.headed flag count payload) (settled_by_length side flag count payload)
payload_as side flag count payload may short fits few = elim (cases_lt (length payload) count) [
  | inl part ↦
      subst (SettlesAs side (settled.headed flag count payload)) (sym (settled.settled_by_length-part side flag count payload fits part))
      (IsBegun-payload side flag count payload may short fits part)
  | inr all ↦
      let same : length payload ≡ count = omega arith in
      subst (SettlesAs side (settled.headed flag count payload)) (sym (settled.settled_by_length-whole side flag count payload fits all))
      (told_as side (settled.headed flag count payload) flag payload
      (subst (λ (n : ℕ). IsFrame side (settled.headed flag n payload) flag payload) same
      (IsFrame-headed side flag payload may (subst (λ (n : ℕ). n ≤ frame_limit side) (sym same) fits))))
]

-- a length that has just come
length_as : (side : Side) (flag count : ℕ) → MayStand side flag → count < 2 ^ 32
    → SettlesAs side (settled.headed flag count []) (settled_by_length side flag count [])
length_as side flag count may short = elim (cases_lt (frame_limit side) count) [
  | inl great ↦
      subst (SettlesAs side (settled.headed flag count [])) (sym (settled.settled_by_length-too_long side flag count [] great))
      (flag, ap (λ (bytes : List ℕ). flag ∷ bytes) (append-nil (size_bytes count)) ∙ sym (frame_head-size_bytes flag count), may, great, short)
  | inr fits ↦ payload_as side flag count [] may short fits (omega arith)
]

-- bytes from the fifth on are a flag, a length and a payload
whole_head : (flag : ℕ) (rest : List ℕ) → IsBytes rest → 4 ≤ length rest → flag ∷ rest ≡ settled.headed flag (size_of (take 4 rest)) (drop 4 rest)
whole_head flag rest all many =
    let four : length (take 4 rest) ≡ 4 = length-take-le 4 rest many in
    let size = size_bytes-size_of (take 4 rest) four (All-take (λ b. b < 256) 4 rest all) in
    ap (λ (bytes : List ℕ). flag ∷ bytes) (sym (take-append-drop 4 rest) ∙ ap (λ (bytes : List ℕ). bytes ++ drop 4 rest) (sym size))

size_short : (rest : List ℕ) → IsBytes rest → size_of (take 4 rest) < 2 ^ 32
size_short rest all = size_of-small (take 4 rest) (All-take (λ b. b < 256) 4 rest all)

told_trailers_not_more : (found : Option Trailers) → told_trailers found ≢ more
told_trailers_not_more None e = cc
told_trailers_not_more (Some trailers) e = cc

told_not_more : (flag : ℕ) (payload : List ℕ) → told_by flag payload ≢ more
unfolding told_by
told_not_more flag payload = cond_both (is_trailers flag) (told_trailers (trailers_in payload)) (told (event.Message payload)) (λ s. s ≢ more)
    (λ _. told_trailers_not_more (trailers_in payload)) (λ _ e. cc)

-- what a beginning with a whole head says of its length
pub part_of : (side : Side) (flag count : ℕ) (payload : List ℕ) → settled_by_length side flag count payload ≡ more → (count ≤ frame_limit side) × (length payload < count)
part_of side flag count payload e = elim (cases_lt (frame_limit side) count) [
  | inl great ↦ let other = settled.settled_by_length-too_long side flag count payload great in absurd (cc)
  | inr fits ↦ elim (cases_lt (length payload) count) [
    | inl part ↦ (fits, part)
    | inr all ↦ let other = settled.settled_by_length-whole side flag count payload fits all in absurd (told_not_more flag payload (sym other ∙ e))
  ]
]

rest_as : (side : Side) (flag : ℕ) (rest : List ℕ) (b : ℕ) → MayStand side flag → IsBytes (rest ++ b ∷ []) → settled_by_rest side flag rest ≡ more
    → SettlesAs side (flag ∷ (rest ++ b ∷ [])) (settled_by_rest side flag (rest ++ b ∷ []))
rest_as side flag rest b may all before = by_length (cases_lt (length full) 4)
  where
    full : List ℕ
    full = rest ++ b ∷ []

    by_place : 4 ≤ length full → (length rest < 4) ⊎ (4 ≤ length rest) → SettlesAs side (settled.headed flag (size_of (take 4 full)) (drop 4 full)) (settled_by_length side flag (size_of (take 4 full)) (drop 4 full))
    by_place many (inl head) =
        let none : drop 4 full ≡ [] = drop_all 4 full (omega (arith, length_push rest b)) in
        subst (λ (payload : List ℕ). SettlesAs side (settled.headed flag (size_of (take 4 full)) payload) (settled_by_length side flag (size_of (take 4 full)) payload)) (sym none)
        (length_as side flag (size_of (take 4 full)) may (size_short full all))
    by_place many (inr long) =
        let size : take 4 full ≡ take 4 rest = take-append-le 4 rest (b ∷ []) long in
        let back : drop 4 full ≡ drop 4 rest ++ b ∷ [] = drop-append-le 4 rest (b ∷ []) long in
        let part = part_of side flag (size_of (take 4 rest)) (drop 4 rest) (sym (settled.settled_by_rest-long side flag rest long) ∙ before) in
        let more_part : length (drop 4 rest ++ b ∷ []) ≤ size_of (take 4 rest) = omega (arith, length_push (drop 4 rest) b, part.1) in
        payload_as side flag (size_of (take 4 full)) (drop 4 full) may (size_short full all)
        (subst (λ (bytes : List ℕ). size_of bytes ≤ frame_limit side) (sym size) part.0)
        (subst (λ (bytes : List ℕ). length bytes ≤ size_of (take 4 full)) (sym back)
        (subst (λ (bytes : List ℕ). length (drop 4 rest ++ b ∷ []) ≤ size_of bytes) (sym size) more_part))

    by_length : (length full < 4) ⊎ (4 ≤ length full) → SettlesAs side (flag ∷ full) (settled_by_rest side flag full)
    by_length (inl few) =
        subst (SettlesAs side (flag ∷ full)) (sym (settled.settled_by_rest-short side flag full few)) (IsBegun-head side flag full may all few)
    by_length (inr many) =
        subst (SettlesAs side (flag ∷ full)) (sym (settled.settled_by_rest-long side flag full many))
        (subst (λ (bytes : List ℕ). SettlesAs side bytes (settled_by_length side flag (size_of (take 4 full)) (drop 4 full))) (sym (whole_head flag full all many))
        (by_place many (cases_lt (length rest) 4)))

flag_as : (side : Side) (flag : ℕ) (compressed no_message : Bool) → is_compressed flag ≡ compressed → is_no_message side flag ≡ no_message → SettlesAs side (flag ∷ []) (settled_by side (flag ∷ []))
flag_as side flag true no_message e n =
    subst (SettlesAs side (flag ∷ [])) (sym (settled.settled_by-compressed side flag [] e)) (flag, refl, settled.IsCompressed-is flag e)
flag_as Request flag false true e n =
    subst (SettlesAs Request (flag ∷ [])) (sym (settled.settled_by-no_message Request flag [] e n)) (flag, refl, refl, settled.not_compressed flag e, settled.IsTrailers-is flag n)
flag_as Response flag false true e n = absurd (false≢true n)
flag_as side flag false false e n =
    let may = settled.MayStand-is side flag e n in
    subst (SettlesAs side (flag ∷ [])) (sym (settled.settled_by-plain side flag [] e n ∙ settled.settled_by_rest-short side flag [] (omega arith)))
    (IsBegun-head side flag [] may (All-nil (λ b. b < 256)) (omega arith))

pub flag_stands : (side : Side) (flag : ℕ) (rest : List ℕ) (compressed no_message : Bool) → is_compressed flag ≡ compressed → is_no_message side flag ≡ no_message
    → settled_by side (flag ∷ rest) ≡ more → MayStand side flag × (settled_by_rest side flag rest ≡ more)
flag_stands side flag rest true no_message e n before = let other = settled.settled_by-compressed side flag rest e in absurd (cc)
flag_stands side flag rest false true e n before = let other = settled.settled_by-no_message side flag rest e n in absurd (cc)
flag_stands side flag rest false false e n before = (settled.MayStand-is side flag e n, sym (settled.settled_by-plain side flag rest e n) ∙ before)

-- what one byte more settles of the bytes so far of a frame
pub settles : (side : Side) (held : List ℕ) (b : ℕ) → IsBytes (held ++ b ∷ []) → settled_by side held ≡ more → SettlesAs side (held ++ b ∷ []) (settled_by side (held ++ b ∷ []))
settles side [] b all before = flag_as side b (is_compressed b) (is_no_message side b) refl refl
settles side (flag ∷ rest) b all before =
    let stands = flag_stands side flag rest (is_compressed flag) (is_no_message side flag) refl refl before in
    subst (SettlesAs side (flag ∷ (rest ++ b ∷ []))) (sym (settled.settled_by-MayStand side flag (rest ++ b ∷ []) stands.0))
    (rest_as side flag rest b stands.0 (All-tail (λ d. d < 256) flag (rest ++ b ∷ []) all) stands.1)
