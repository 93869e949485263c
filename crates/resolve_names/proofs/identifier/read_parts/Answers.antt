use Rattle.std.proofs.Common.{◌≡◌, ◌++◌, sym, subst, List, ℕ}
use Rattle.std.specs.String.{string_bytes}
use lib.Utf8.{encode}
use Rattle.resolve_names.proofs.Walking.{IsWalked, begins, ended, kept, refused, skipped}
use Rattle.resolve_names.proofs.identifier.read_parts.Goals as goal

pub loop-character-init : goal.loop-character-init
loop-character-init c = rw (c.new-done.ensures, c.new-part.ensures.bytes, c.into_iter-character-iterator.ensures.into_iter_gives, c.chars-character-items.ensures.rest) (begins c.args.text.now)

pub loop-character-preserved-in-Keep : goal.loop-character-preserved-in-Keep
loop-character-preserved-in-Keep c =
    let text = c.args.text.now in
    let done = c.loop-character.done in
    let part = string_bytes c.loop-character.part in
    let place = c.loop-character.place in
    let rest = c.next.new.self.rest.now in
    let walked : IsWalked text done part place (encode c.in-Some.character ++ rest)
    = subst (IsWalked text done part place) c.in-Some.ensures.steps.0 c.loop-character.invariant in
    let grown : string_bytes c.push.new.self ≡ part ++ encode c.in-Some.character = c.in_ok-push-in-Keep.ensures.bytes in
    subst (λ (bytes : List ℕ). IsWalked text done bytes c.in-Keep.next rest) (sym grown)
    (kept text done part place c.in-Some.character rest c.in-Keep.next walked c.in-Keep.ensures)

pub loop-character-preserved-in-Skip : goal.loop-character-preserved-in-Skip
loop-character-preserved-in-Skip c =
    let text = c.args.text.now in
    let done = c.loop-character.done in
    let part = string_bytes c.loop-character.part in
    let place = c.loop-character.place in
    let rest = c.next.new.self.rest.now in
    let walked : IsWalked text done part place (encode c.in-Some.character ++ rest)
    = subst (IsWalked text done part place) c.in-Some.ensures.steps.0 c.loop-character.invariant in
    skipped text done part place c.in-Some.character rest c.in-Skip.next walked c.in-Skip.ensures

pub loop-character-preserved : goal.loop-character-preserved
loop-character-preserved c =
    let text = c.args.text.now in
    let done = c.loop-character.done in
    let part = string_bytes c.loop-character.part in
    let place = c.loop-character.place in
    let rest = c.next.new.self.rest.now in
    let walked : IsWalked text done part place (encode c.in-Some.character ++ rest)
    = subst (IsWalked text done part place) c.in-Some.ensures.steps.0 c.loop-character.invariant in
    rw (c.in_ok-push-in-End.ensures.ok, c.from_string.ensures, c.new-part-in-End.ensures.bytes)
    (ended text done part place c.in-Some.character rest walked c.in-End.ensures)

pub returns-in-Refuse : goal.returns-in-Refuse
returns-in-Refuse c =
    let text = c.args.text.now in
    let done = c.loop-character.done in
    let part = string_bytes c.loop-character.part in
    let place = c.loop-character.place in
    let rest = c.next.new.self.rest.now in
    let walked : IsWalked text done part place (encode c.in-Some.character ++ rest)
    = subst (IsWalked text done part place) c.in-Some.ensures.steps.0 c.loop-character.invariant in
    sym (refused text done part place c.in-Some.character rest walked c.in-Refuse.ensures)
