-- What a search in one piece more finds.
use Rattle.std.proofs.Common.{◌≡◌, ℕ, ◌+◌, ◌-◌, ◌<◌, ◌≤◌, List, [], ◌∷◌, ◌++◌, length, take, drop, get_or, refl, sym, ap, ◌∙◌, subst, arith, append_assoc, append-nil, length-append, length-take-le, take-append-drop, inl, inr}
use Rattle.std.proofs.Math.Seq.{drop-cons}
use Rattle.std.proofs.lemmas.Bool.{cases_lt}
use Rattle.std.proofs.lemmas.List.{take_all, take-take}
use Rattle.std.proofs.Math.Seq.{take-append-add}
use Rattle.web_heads.specs.HeadEnds.{EndsLines, IsFirstEnd}
use Rattle.web_heads.proofs.EndLemmas.{EndsLines-within, EndsLines-before, HasNone-front, goes_on_found, goes_on_none}
use Rattle.web_head_reader.specs.declared.fault.HeadReadFault.{HeadReadFault}
use Rattle.web_head_reader.specs.declared.fault.HeadReadFault.TheVariants.{HeadTooLong, OutOfMemory}
use Rattle.web_head_reader.specs.declared.place.HeadPlace.TheVariants.{Open, Whole, Refused}
use Rattle.web_head_reader.specs.Steps.{HeadState, after, refused_at}
use Rattle.web_head_reader.specs.Standard.{HasNoEnd, IsHead, IsBegun, HasTooLong}
use Rattle.web_head_reader.specs.Calls.{Takes, IsFaulty, Refuses}
use Rattle.web_head_reader.proofs.Ends.{IsHead-front, IsFirstEnd-IsHead}
use Rattle.web_head_reader.proofs.Machine.{after-nil, after-Refused}
use Rattle.web_head_reader.proofs.Comes.{open_at, whole_at, after_begun, after_whole, after_long}

-- ---- beginnings of a piece

IsBegun-prefix : (front bytes : List ℕ) (fewer : ℕ) → IsBegun (front ++ bytes) → fewer ≤ length bytes → IsBegun (front ++ take fewer bytes)
IsBegun-prefix front bytes fewer x less =
    let parts : (front ++ take fewer bytes) ++ drop fewer bytes ≡ front ++ bytes
    = append_assoc front (take fewer bytes) (drop fewer bytes) ∙ ap (λ (rest : List ℕ). front ++ rest) (take-append-drop fewer bytes) in
    let longer = ap length parts in
    let sum = length-append (front ++ take fewer bytes) (drop fewer bytes) in
    let short = x.short in
    record { none = HasNone-front (front ++ take fewer bytes) (drop fewer bytes) (subst HasNoEnd (sym parts) x.none); short = omega arith }

IsHead-prefix : (front bytes : List ℕ) (fewer : ℕ) → IsHead (front ++ bytes) → fewer < length bytes → IsBegun (front ++ take fewer bytes)
IsHead-prefix front bytes fewer x less =
    let rest : drop fewer bytes ≡ get_or bytes fewer 0 ∷ drop (fewer + 1) bytes = grind (arith, drop-cons bytes fewer 0 less) in
    let parts : front ++ bytes ≡ (front ++ take fewer bytes) ++ get_or bytes fewer 0 ∷ drop (fewer + 1) bytes
    = ap (λ (all : List ℕ). front ++ all) (sym (take-append-drop fewer bytes))
    ∙ sym (append_assoc front (take fewer bytes) (drop fewer bytes))
    ∙ ap (λ (last : List ℕ). (front ++ take fewer bytes) ++ last) rest in
    IsHead-front (front ++ take fewer bytes) (get_or bytes fewer 0) (drop (fewer + 1) bytes) (subst IsHead parts x)

open_place : (front bytes : List ℕ) → IsBegun front → IsBegun (front ++ bytes) → (after (open_at front) bytes).place ≡ Open
open_place front bytes begun x = ap (λ (s : HeadState). s.place) (after_begun front bytes begun x)

-- ---- the head goes on

pub begun_more : (held piece items : List ℕ) → IsBegun held → items ≡ held ++ piece
    → ((at : ℕ) → length held - 3 ≤ at → ¬ (EndsLines items at)) → length items < 16384 → IsBegun items
begun_more held piece items begun items_are none short =
    record {
      none = subst HasNoEnd (sym items_are)
          (goes_on_none held piece begun.none (λ at from. subst (λ (all : List ℕ). ¬ (EndsLines all at)) items_are (none at from)));
      short = short;
    }

pub takes_all : (held piece items : List ℕ) → IsBegun held → items ≡ held ++ piece → IsBegun items
    → Takes (open_at held) piece (open_at items) (length piece)
takes_all held piece items begun items_are x =
    let whole : take (length piece) piece ≡ piece = take_all (length piece) piece (omega arith) in
    let joined : IsBegun (held ++ piece) = subst IsBegun items_are x in
    record {
      within = omega arith;
      state = ap open_at items_are ∙ sym (after_begun held piece begun joined) ∙ ap (after (open_at held)) (sym whole);
      ends = inl refl;
      first = λ fewer less. open_place held (take fewer piece) begun (IsBegun-prefix held piece fewer joined (omega arith));
      not_refused = λ fault e. cc;
    }

-- ---- the head ends

takes_head : (held piece head : List ℕ) (count : ℕ) → IsBegun held → head ≡ held ++ take count piece → count ≤ length piece
    → IsHead (held ++ take count piece) → Takes (open_at held) piece (whole_at head) count
takes_head held piece head count begun head_is within x =
    let part = take count piece in
    let taken = length-take-le count piece within in
    record {
      within = within;
      state = sym (after_whole held part head begun
          (record { rest = []; bytes_are = sym (append-nil head ∙ head_is); is_head = subst IsHead (sym head_is) x }));
      ends = inr refl;
      first = λ fewer less.
          rw (← take-take fewer count piece (omega arith))
          (open_place held (take fewer part) begun (IsHead-prefix held part fewer x (omega arith)));
      not_refused = λ fault e. cc;
    }

pub takes_end : (held piece items : List ℕ) (count stop : ℕ) → IsBegun held → items ≡ held ++ take count piece → count ≤ length piece
    → length items ≤ 16384 → IsFirstEnd items (length held - 3) stop
    → (length held ≤ stop) × Takes (open_at held) piece (whole_at (take stop items)) (stop - length held)
takes_end held piece items count stop begun items_are within short x =
    let first = goes_on_found held (take count piece) stop begun.none (subst (λ (all : List ℕ). IsFirstEnd all (length held - 3) stop) items_are x) in
    let found = EndsLines-within (held ++ take count piece) first.at first.ends in
    let stop_is = first.stop_is in
    let longer = length-append held (take count piece) in
    let same = ap length items_are in
    let taken = length-take-le count piece within in
    let later : length held < stop = elim (cases_lt (length held) stop) [
      | inl after ↦ after
      | inr before ↦ absurd (let n = first.at in begun.none n (EndsLines-before held (take count piece) n (omega arith) first.ends))
    ] in
    let some : stop - length held ≤ count = omega arith in
    let front : take stop items ≡ held ++ take (stop - length held) piece
    = ap (λ (all : List ℕ). take stop all) items_are
    ∙ ap (λ (n : ℕ). take n (held ++ take count piece)) (let n : stop ≡ length held + (stop - length held) = omega arith in n)
    ∙ take-append-add held (take count piece) (stop - length held)
    ∙ ap (λ (part : List ℕ). held ++ part) (take-take (stop - length held) count piece some) in
    let part = take (stop - length held) piece in
    let length_is : length (held ++ part) ≡ stop
    = length-append held part ∙ ap (λ (n : ℕ). length held + n) (length-take-le (stop - length held) piece (omega arith))
    ∙ (let n : length held + (stop - length held) ≡ stop = omega arith in n) in
    let rest = drop stop items in
    let parts : (held ++ part) ++ rest ≡ items = ap (λ (all : List ℕ). all ++ rest) (sym front) ∙ take-append-drop stop items in
    let head : IsHead (held ++ part) = IsFirstEnd-IsHead (held ++ part) rest
    (subst (λ (n : ℕ). IsFirstEnd ((held ++ part) ++ rest) 0 n) (sym length_is)
    (subst (λ (all : List ℕ). IsFirstEnd all 0 stop) (sym items_are ∙ sym parts) first)) (omega arith) in
    (omega arith, takes_head held piece (take stop items) (stop - length held) begun front (omega arith) head)

-- ---- the head is too long

pub refuses_long : (held piece items : List ℕ) (count : ℕ) (new : HeadState) → IsBegun held → items ≡ held ++ take count piece
    → ((at : ℕ) → length held - 3 ≤ at → ¬ (EndsLines items at)) → length items ≡ 16384 → new ≡ refused_at HeadTooLong
    → IsFaulty (open_at held) piece new
refuses_long held piece items count new begun items_are none full new_is =
    let settled = held ++ take count piece in
    let no_end : HasNoEnd settled
    = goes_on_none held (take count piece) begun.none (λ at from. subst (λ (all : List ℕ). ¬ (EndsLines all at)) items_are (none at from)) in
    let long : HasTooLong (held ++ piece) = record {
      settled = settled;
      rest = drop count piece;
      bytes_are =
          ap (λ (all : List ℕ). held ++ all) (sym (take-append-drop count piece)) ∙ sym (append_assoc held (take count piece) (drop count piece));
      too_long = record { none = no_end; full = ap length (sym items_are) ∙ full };
    } in
    record { state = new_is ∙ sym (after_long held piece begun long); refused = ap (λ (s : HeadState). s.place) new_is }

-- ---- a head that was whole or refused before

pub takes_nothing : (old : HeadState) (piece : List ℕ) → old.place ≡ Whole → Takes old piece old 0
takes_nothing old piece whole = record {
  within = omega arith;
  state = sym (after-nil old);
  ends = inr whole;
  first = λ fewer less. absurd (omega arith);
  not_refused = λ fault e. absurd (let other : Whole ≡ Refused fault = sym whole ∙ e in cc);
}

pub refuses_before : (old : HeadState) (piece : List ℕ) (fault : HeadReadFault) → old.place ≡ Refused fault → Refuses old piece old fault
refuses_before old piece HeadTooLong e = record { state = sym (after-Refused old piece HeadTooLong e); refused = e }
refuses_before old piece OutOfMemory e = record { refused = e; was_open = inr e }

-- ---- by the states before and after

pub Takes_at : (old new from to : HeadState) (piece : List ℕ) (count : ℕ) → old ≡ from → new ≡ to → Takes from piece to count → Takes old piece new count
Takes_at old new from to piece count e f x =
    subst (λ (s : HeadState). Takes s piece new count) (sym e) (subst (λ (s : HeadState). Takes from piece s count) (sym f) x)

pub takes_some : (held piece items : List ℕ) (count : ℕ) → IsBegun held → items ≡ held ++ take count piece → count ≡ length piece → IsBegun items
    → Takes (open_at held) piece (open_at items) count
takes_some held piece items count begun items_are all x =
    subst (Takes (open_at held) piece (open_at items)) (sym all)
    (takes_all held piece items begun (items_are ∙ ap (λ (part : List ℕ). held ++ part) (take_all count piece (omega arith))) x)

pub IsFaulty_at : (old from new : HeadState) (piece : List ℕ) → old ≡ from → IsFaulty from piece new → IsFaulty old piece new
IsFaulty_at old from new piece e x = subst (λ (s : HeadState). IsFaulty s piece new) (sym e) x
