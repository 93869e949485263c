-- A key without a place has no value, and one with a place has the value of the pair there.
use Rattle.std.proofs.Common.{Some, None, ◌∙◌, sym, ap}
use Rattle.session_core.proofs.PlaceLemmas.{value_of-at, value_of-none, place_in-held}
use Rattle.session_core.proofs.places.value_at.Goals as goal

pub returns-in_err-place : goal.returns-in_err-place
returns-in_err-place c =
    rw c.from_residual.ensures
    (sym (value_of-none c.args.settings.now c.args.key.now
    (place_in-held c.args.places.now c.args.settings.now c.args.key.now None c.requires c.in_err-place.ensures.value)))

pub returns-in_err-pair : goal.returns-in_err-pair
returns-in_err-pair c =
    rw c.from_residual-in_err-pair.ensures
    (value_of-at c.args.settings.now c.args.key.now c.in_ok-place.place.now None
    (place_in-held c.args.places.now c.args.settings.now c.args.key.now (Some c.in_ok-place.place.now) c.requires c.in_ok-place.ensures.value)
    c.in_err-pair.ensures)

pub returns-in-Some : goal.returns-in-Some
returns-in-Some c =
    ap Some c.as_str.ensures ∙ sym c.in-Some.is
    ∙ value_of-at c.args.settings.now c.args.key.now c.in_ok-place.place.now (Some c.in_ok-pair.pair.now)
    (place_in-held c.args.places.now c.args.settings.now c.args.key.now (Some c.in_ok-place.place.now) c.requires c.in_ok-place.ensures.value)
    c.in_ok-pair.ensures

pub returns-in-None : goal.returns-in-None
returns-in-None c =
    sym c.in-None.is
    ∙ value_of-at c.args.settings.now c.args.key.now c.in_ok-place.place.now (Some c.in_ok-pair.pair.now)
    (place_in-held c.args.places.now c.args.settings.now c.args.key.now (Some c.in_ok-place.place.now) c.requires c.in_ok-place.ensures.value)
    c.in_ok-pair.ensures
