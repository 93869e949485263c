-- A key with a place keeps it, and one without comes last.
use Rattle.std.proofs.Common.{Some, None, ◌∙◌, sym}
use Rattle.std.proofs.lemmas.Map.Text.{btree_map_updates_str}
use Rattle.session_core.proofs.PlaceLemmas.{OnOk-map, place_in-within, place_in-set, place_in-held_as, put-placed, put-new, AreFirst-put_new}
use Rattle.session_core.proofs.changes.put.Goals as goal

pub set-requires : goal.set-requires
set-requires c =
    place_in-within c.args.pairs.now c.args.pair.key c.in-Some.place.now
    (place_in-held_as c.args.places.now c.args.pairs.now c.args.key.now c.args.pair.key (Some c.in-Some.place.now) c.requires.places c.requires.key
    c.in-Some.ensures.value)

pub returns-in-Some-clause-pairs : goal.returns-in-Some-clause-pairs
returns-in-Some-clause-pairs c =
    c.set.ensures ∙ sym (put-placed c.args.pairs.now c.args.pair c.in-Some.place.now
    (place_in-held_as c.args.places.now c.args.pairs.now c.args.key.now c.args.pair.key (Some c.in-Some.place.now) c.requires.places c.requires.key
    c.in-Some.ensures.value))

pub returns-in-Some-clause-places : goal.returns-in-Some-clause-places
returns-in-Some-clause-places c = λ key. rw c.set.ensures
    (c.requires.places key ∙ sym (place_in-set c.args.pairs.now c.args.pair c.in-Some.place.now key
    (place_in-held_as c.args.places.now c.args.pairs.now c.args.key.now c.args.pair.key (Some c.in-Some.place.now) c.requires.places c.requires.key
    c.in-Some.ensures.value)))

pub returns-in_ok-insert-in-None-clause-pairs : goal.returns-in_ok-insert-in-None-clause-pairs
returns-in_ok-insert-in-None-clause-pairs c =
    OnOk-map c.push.result _ _ (λ e. e ∙ sym (put-new c.args.pairs.now c.args.pair
    (place_in-held_as c.args.places.now c.args.pairs.now c.args.key.now c.args.pair.key None c.requires.places c.requires.key c.in-None.ensures.value)))
    c.push.ensures.ok

pub returns-in_ok-insert-in-None-clause-places : goal.returns-in_ok-insert-in-None-clause-places
returns-in_ok-insert-in-None-clause-places c =
    OnOk-map c.push.result _ _ (λ e. rw e (AreFirst-put_new c.args.places.now c.insert.new.self c.args.pairs.now c.args.pair c.args.key.now c.len.result
    c.requires.places c.requires.key
    (place_in-held_as c.args.places.now c.args.pairs.now c.args.key.now c.args.pair.key None c.requires.places c.requires.key c.in-None.ensures.value)
    c.len.ensures
    (λ other. btree_map_updates_str c.args.key.now c.args.places.now c.insert.new.self _ c.in_ok-insert-in-None.ensures.updates other)))
    c.push.ensures.ok
