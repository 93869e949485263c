use Rattle.std.proofs.Common.{◌≢◌, pos, rules, arith}
use Rattle.std.specs.Int.{w64}
use mir.Val.{SFits}
use Rattle.std.proofs.lemmas.Int.{ints, to_z-of_z}
use Rattle.connect_replay.specs.Ask.{IsName}
use Rattle.connect_replay.proofs.ask.is_valid.Goals as goal

pub returns : goal.returns
returns c =
    let ask = c.args.ask.now in
    let start_fits : SFits w64 ask.start = search rules in
    let end_fits : SFits w64 ask.end = search rules in
    let step_fits : SFits w64 ask.step = search rules in
    let few = simp to_z-of_z at c.is_few.ensures in
    let moves : ask.step ≢ pos 0 = grind (arith, ints) in
    let name_is : IsName ask.name = search rules in (
      (λ passed. record {
        name_is = name_is;
        start_fits = start_fits;
        end_fits = end_fits;
        step_fits = step_fits;
        moves = moves;
        few = few.0 passed;
      }),
      (λ valid. few.1 valid.few),
    )
