-- The laws between the machine and the standard.
use Rattle.std.proofs.Common.{◌≡◌, ◌≢◌, ℕ, List, [], ◌∷◌, ◌++◌, length, take, refl, sym, ap, ◌∙◌, subst, arith, append_assoc, append-nil, length-append, ◌⊎◌, inl, inr}
use Rattle.std.specs.Prelude.{fold}
use Rattle.std.specs.List.{concat}
use Rattle.std.proofs.lemmas.Bool.{false≢true}
use Rattle.std.proofs.lemmas.List.{take_at}
use Rattle.web_heads.specs.declared.body.BodyKind.{BodyKind}
use Rattle.web_heads.specs.declared.body.BodyKind.TheVariants.{ToEnd}
use Rattle.web_bodies.specs.declared.fault.BodyFault.{BodyFault}
use Rattle.web_bodies.specs.declared.place.BodyPlace.{BodyPlace}
use Rattle.web_bodies.specs.Body.{Body}
use Rattle.web_bodies.specs.Steps.{begin, after, payload_after}
use Rattle.web_bodies.specs.Standard.{IsBody, HasBody, IsBegun, IsBodyFault, HasFault}
use Rattle.web_bodies.specs.Laws.{is_open, BodiesAreRead, PlacesAreCounted, BodiesAreOne, EndsAreFirst, payload_of_pieces, PiecesJoin}
use Rattle.web_bodies.proofs.Runs.{after-append, after-nil, payload_after-append, payload_after-nil, after-Over, after-Refused}
use Rattle.web_bodies.proofs.Framing.{count-after}
use Rattle.web_bodies.proofs.Complete.{IsOpen, IsOver, IsRefused, begun_settles, body_settles, fault_settles}
use Rattle.web_bodies.proofs.Growth.{Found, begun, over, refused, found_in}

-- ---- a place is open, over, or refused with one fault

open_not_over : (place : BodyPlace) → IsOpen place → IsOver place → ⊥
open_not_over place going_on is_over = false≢true (sym (ap is_open is_over) ∙ going_on)

open_not_refused : (place : BodyPlace) (fault : BodyFault) → IsOpen place → IsRefused fault place → ⊥
open_not_refused place fault going_on is_refused = false≢true (sym (ap is_open is_refused) ∙ going_on)

over_not_refused : (place : BodyPlace) (fault : BodyFault) → IsOver place → IsRefused fault place → ⊥
over_not_refused place fault is_over is_refused = cc

one_refusal : (place : BodyPlace) (fault other : BodyFault) → IsRefused fault place → IsRefused other place → fault ≡ other
one_refusal place fault other first second = cc

-- ---- the machine tells what the standard says

module _ (kind : BodyKind) (at : ℕ) (bytes payload : List ℕ) where
  begun_is : IsOpen (after (begin kind at) bytes).place → payload_after (begin kind at) bytes ≡ payload → Found kind at bytes
      → IsBegun kind bytes payload
  begun_is there is (begun other y) = subst (IsBegun kind bytes) (sym (begun_settles kind at bytes other y).payload_is ∙ is) y
  begun_is there is (over other y) = absurd (open_not_over (after (begin kind at) bytes).place there (body_settles kind at bytes other y).there)
  begun_is there is (refused other fault y) =
      absurd (open_not_refused (after (begin kind at) bytes).place fault there (fault_settles kind at bytes other fault y).there)

  over_is : IsOver (after (begin kind at) bytes).place → payload_after (begin kind at) bytes ≡ payload → Found kind at bytes
      → HasBody kind bytes payload
  over_is there is (begun other y) = absurd (open_not_over (after (begin kind at) bytes).place (begun_settles kind at bytes other y).there there)
  over_is there is (over other y) = subst (HasBody kind bytes) (sym (body_settles kind at bytes other y).payload_is ∙ is) y
  over_is there is (refused other fault y) =
      absurd (over_not_refused (after (begin kind at) bytes).place fault there (fault_settles kind at bytes other fault y).there)

  refused_is : (fault : BodyFault) → IsRefused fault (after (begin kind at) bytes).place → payload_after (begin kind at) bytes ≡ payload
      → Found kind at bytes → HasFault kind at bytes payload fault
  refused_is fault there is (begun other y) =
      absurd (open_not_refused (after (begin kind at) bytes).place fault (begun_settles kind at bytes other y).there there)
  refused_is fault there is (over other y) =
      absurd (over_not_refused (after (begin kind at) bytes).place fault (body_settles kind at bytes other y).there there)
  refused_is fault there is (refused other wrong y) =
      let x = fault_settles kind at bytes other wrong y in
      let same : wrong ≡ fault = one_refusal (after (begin kind at) bytes).place wrong fault x.there there in
      subst (λ (p : List ℕ). HasFault kind at bytes p fault) (sym x.payload_is ∙ is) (subst (HasFault kind at bytes other) same y)

pub bodies_are_read : BodiesAreRead
bodies_are_read = record {
  begun = λ kind at bytes payload. (
    (λ x. let y = begun_settles kind at bytes payload x in (y.there, y.payload_is)),
    (λ x. begun_is kind at bytes payload x.0 x.1 (found_in kind at bytes)),
  );
  over = λ kind at bytes payload. (
    (λ x. let y = body_settles kind at bytes payload x in (y.there, y.payload_is)),
    (λ x. over_is kind at bytes payload x.0 x.1 (found_in kind at bytes)),
  );
  refused = λ kind at bytes payload fault. (
    (λ x. let y = fault_settles kind at bytes payload fault x in (y.there, y.payload_is)),
    (λ x. refused_is kind at bytes payload fault x.0 x.1 (found_in kind at bytes)),
  );
}

-- ---- counts

pub places_are_counted : PlacesAreCounted
unfolding begin
places_are_counted = record {
  most = count-after;
  begun = λ kind at bytes payload x. (begun_settles kind at bytes payload x).counted;
  over = λ kind at bytes payload x. (body_settles kind at bytes payload x).counted;
  refused = λ kind at bytes payload fault x. (fault_settles kind at bytes payload fault x).counted;
}

-- ---- one reading

-- two beginnings of the same bytes with the same length are one
same_front : (bytes first rest second others : List ℕ) → bytes ≡ first ++ rest → bytes ≡ second ++ others → length first ≡ length second → first ≡ second
same_front bytes first rest second others e f same =
    sym (take_at first rest (length first) refl) ∙ ap (take (length first)) (sym e ∙ f) ∙ take_at second others (length first) (sym same)

module _ (kind : BodyKind) (at : ℕ) (bytes : List ℕ) where
  one_body : (payload other : List ℕ) (first : HasBody kind bytes payload) (second : HasBody kind bytes other)
      → (payload ≡ other) × (first.body ≡ second.body)
  one_body payload other first second =
      let x = body_settles kind at bytes payload first in
      let y = body_settles kind at bytes other second in
      let one = x.counted in
      let two = y.counted in (
        sym x.payload_is ∙ y.payload_is,
        same_front bytes first.body first.rest second.body second.rest first.bytes_are second.bytes_are (omega arith),
      )

  one_fault : (payload other : List ℕ) (fault wrong : BodyFault) (first : HasFault kind at bytes payload fault)
      (second : HasFault kind at bytes other wrong) → (payload ≡ other) × (fault ≡ wrong) × (first.settled ≡ second.settled)
  one_fault payload other fault wrong first second =
      let x = fault_settles kind at bytes payload fault first in
      let y = fault_settles kind at bytes other wrong second in
      let one = x.counted in
      let two = y.counted in (
        sym x.payload_is ∙ y.payload_is,
        one_refusal (after (begin kind at) bytes).place fault wrong x.there y.there,
        same_front bytes first.settled first.rest second.settled second.rest first.bytes_are second.bytes_are (omega arith),
      )

some_of : (kind : BodyKind) (at : ℕ) (bytes : List ℕ) → Found kind at bytes →
    ((payload : List ℕ) × IsBegun kind bytes payload)
    ⊎ (((payload : List ℕ) × HasBody kind bytes payload) ⊎ ((payload : List ℕ) × (fault : BodyFault) × HasFault kind at bytes payload fault))
some_of kind at bytes (begun payload x) = inl (payload, x)
some_of kind at bytes (over payload x) = inr (inl (payload, x))
some_of kind at bytes (refused payload fault x) = inr (inr (payload, fault, x))

pub bodies_are_one : BodiesAreOne
bodies_are_one = record {
  some = λ kind at bytes. some_of kind at bytes (found_in kind at bytes);
  begun_not_over = λ kind bytes payload other x y.
      open_not_over (after (begin kind 0) bytes).place (begun_settles kind 0 bytes payload x).there (body_settles kind 0 bytes other y).there;
  begun_not_refused = λ kind at bytes payload other fault x y.
      open_not_refused (after (begin kind at) bytes).place fault (begun_settles kind at bytes payload x).there
      (fault_settles kind at bytes other fault y).there;
  over_not_refused = λ kind at bytes payload other fault x y.
      over_not_refused (after (begin kind at) bytes).place fault (body_settles kind at bytes payload x).there
      (fault_settles kind at bytes other fault y).there;
  one_beginning = λ kind bytes payload other x y.
      sym (begun_settles kind 0 bytes payload x).payload_is ∙ (begun_settles kind 0 bytes other y).payload_is;
  one_body = λ kind bytes payload other first second. one_body kind 0 bytes payload other first second;
  one_fault = λ kind at bytes payload other fault wrong first second. one_fault kind at bytes payload other fault wrong first second;
}

-- ---- ends are first

-- what has an end has it with more bytes after it
abbrev longer_body : (kind : BodyKind) (front back payload : List ℕ) → HasBody kind front payload → HasBody kind (front ++ back) payload
longer_body kind front back payload x = record {
  framed = x.framed;
  body = x.body;
  rest = x.rest ++ back;
  bytes_are = ap (λ (all : List ℕ). all ++ back) x.bytes_are ∙ append_assoc x.body x.rest back;
  is_body = x.is_body;
}

abbrev longer_fault : (kind : BodyKind) (at : ℕ) (front back payload : List ℕ) (fault : BodyFault) → HasFault kind at front payload fault
    → HasFault kind at (front ++ back) payload fault
longer_fault kind at front back payload fault x = record {
  settled = x.settled;
  rest = x.rest ++ back;
  bytes_are = ap (λ (all : List ℕ). all ++ back) x.bytes_are ∙ append_assoc x.settled x.rest back;
  is_fault = x.is_fault;
}

-- a beginning isn't as long as the whole
too_short : (front : List ℕ) (b : ℕ) (back part rest : List ℕ) → front ≡ part ++ rest → part ≡ front ++ b ∷ back → ⊥
too_short front b back part rest e f =
    omega (arith, ap length e, ap length f, length-append part rest, length-append front (b ∷ back))

module _ (kind : BodyKind) (at : ℕ) (front : List ℕ) (b : ℕ) (back payload : List ℕ) where
  over_first : kind ≢ ToEnd → IsBody kind (front ++ b ∷ back) payload → Found kind at front → (part : List ℕ) × IsBegun kind front part
  over_first framed x (begun part y) = (part, y)
  over_first framed x (over other y) =
      let whole : HasBody kind (front ++ b ∷ back) payload =
      record { framed = framed; body = front ++ b ∷ back; rest = []; bytes_are = sym (append-nil (front ++ b ∷ back)); is_body = x } in
      let same = one_body kind at (front ++ b ∷ back) other payload (longer_body kind front (b ∷ back) other y) whole in
      absurd (too_short front b back y.body y.rest y.bytes_are same.1)
  over_first framed x (refused other fault y) =
      let whole : HasBody kind (front ++ b ∷ back) payload =
      record { framed = framed; body = front ++ b ∷ back; rest = []; bytes_are = sym (append-nil (front ++ b ∷ back)); is_body = x } in
      absurd (bodies_are_one.over_not_refused kind at (front ++ b ∷ back) payload other fault whole
      (longer_fault kind at front (b ∷ back) other fault y))

  refused_first : (fault : BodyFault) → IsBodyFault kind at (front ++ b ∷ back) payload fault → Found kind at front
      → (part : List ℕ) × IsBegun kind front part
  refused_first fault x (begun part y) = (part, y)
  refused_first fault x (over other y) =
      let whole : HasFault kind at (front ++ b ∷ back) payload fault =
      record { settled = front ++ b ∷ back; rest = []; bytes_are = sym (append-nil (front ++ b ∷ back)); is_fault = x } in
      absurd (bodies_are_one.over_not_refused kind at (front ++ b ∷ back) other payload fault (longer_body kind front (b ∷ back) other y) whole)
  refused_first fault x (refused other wrong y) =
      let whole : HasFault kind at (front ++ b ∷ back) payload fault =
      record { settled = front ++ b ∷ back; rest = []; bytes_are = sym (append-nil (front ++ b ∷ back)); is_fault = x } in
      let same = one_fault kind at (front ++ b ∷ back) other payload wrong fault (longer_fault kind at front (b ∷ back) other wrong y) whole in
      absurd (too_short front b back y.settled y.rest y.bytes_are same.2)

pub ends_are_first : EndsAreFirst
ends_are_first = record {
  over = λ kind front b back payload framed x. over_first kind 0 front b back payload framed x (found_in kind 0 front);
  refused = λ kind at front b back payload fault x. refused_first kind at front b back payload fault x (found_in kind at front);
}

-- ---- pieces

fold-after : (body : Body) (pieces : List (List ℕ)) → fold after body pieces ≡ after body (concat pieces)
fold-after body [] = sym (after-nil body)
fold-after body (piece ∷ pieces) = fold-after (after body piece) pieces ∙ sym (after-append body piece (concat pieces))

payload_of_pieces-concat : (body : Body) (pieces : List (List ℕ)) → payload_of_pieces body pieces ≡ payload_after body (concat pieces)
payload_of_pieces-concat body [] = sym (payload_after-nil body)
payload_of_pieces-concat body (piece ∷ pieces) =
    ap (λ (rest : List ℕ). payload_after body piece ++ rest) (payload_of_pieces-concat (after body piece) pieces)
    ∙ sym (payload_after-append body piece (concat pieces))

pub pieces_join : PiecesJoin
pieces_join = record {
  state = fold-after;
  payload = payload_of_pieces-concat;
  ended = λ body bytes e. (after-Over body bytes e).0;
  refused = λ body bytes fault e. (after-Refused body bytes fault e).0;
}
