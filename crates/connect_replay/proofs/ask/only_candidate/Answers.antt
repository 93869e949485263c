use Rattle.std.proofs.Common.{ap, ◌∙◌, Some}
use Rattle.std.specs.Int.{w64}
use Rattle.std.proofs.lemmas.Int.{to_z-of_z}
use Rattle.connect_replay.specs.declared.ask.Ask.{Ask}
use Rattle.connect_replay.proofs.Lines.{name_plain, signed_plain, same_ask, same_triple}
use Rattle.connect_replay.proofs.ask.only_candidate.Goals as goal

pub returns-in_default : goal.returns-in_default
returns-in_default c = λ ask valid is.
    absurd (c.in_default.ensures ask.name _ _ _ (name_plain ask.name valid.name_is.word) (signed_plain ask.start valid.start_fits.sfits) (signed_plain ask.end valid.end_fits.sfits) (signed_plain ask.step valid.step_fits.sfits) is)

pub returns-in_default-numbers_of : goal.returns-in_default-numbers_of
returns-in_default-numbers_of c = λ ask valid is.
    let parts = c.in-Some.ensures ask.name _ _ _ (name_plain ask.name valid.name_is.word) (signed_plain ask.start valid.start_fits.sfits) (signed_plain ask.end valid.end_fits.sfits) (signed_plain ask.step valid.step_fits.sfits) is in
    let numbers = c.in_default-numbers_of.ensures ask.start ask.end ask.step valid.start_fits valid.end_fits valid.step_fits parts.1 parts.2 parts.3 in
    cc

pub returns : goal.returns
returns c = λ ask valid is.
    let parts = c.in-Some.ensures ask.name _ _ _ (name_plain ask.name valid.name_is.word) (signed_plain ask.start valid.start_fits.sfits) (signed_plain ask.end valid.end_fits.sfits) (signed_plain ask.step valid.step_fits.sfits) is in
    let numbers = c.in-Some-numbers_of.ensures ask.start ask.end ask.step valid.start_fits valid.end_fits valid.step_fits parts.1 parts.2 parts.3 in
    let same = same_triple _ _ _ _ _ _ numbers in
    let start_is = same.0 in
    let end_is = same.1 in
    let step_is = same.2 in
    let start_fits = valid.start_fits in
    let end_fits = valid.end_fits in
    let step_fits = valid.step_fits in
    ap (λ (a : Ask). Some a) (same_ask ask _ _ _ _ (c.in_ok-name.ensures ∙ parts.0) (rw start_is (to_z-of_z w64 ask.start start_fits)) (rw end_is (to_z-of_z w64 ask.end end_fits)) (rw step_is (to_z-of_z w64 ask.step step_fits)))
