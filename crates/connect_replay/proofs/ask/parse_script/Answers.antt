use Rattle.std.proofs.Common.{List, ℕ, subst}
use Rattle.connect_replay.specs.Ask.{IsLineOf}
use Rattle.connect_replay.proofs.Lines.{Spells-utf8, script_from_line}
use Rattle.connect_replay.proofs.ask.parse_script.Goals as goal

pub returns-in-Err : goal.returns-in-Err
returns-in-Err c = λ ask spells. c.in-Err.ensures.cases.0 (Spells-utf8 _ ask spells)

pub returns-in-Ok : goal.returns-in-Ok
returns-in-Ok c =
    script_from_line c.args.script.now c.without_last_lf.result.now c.parse_ask.result
    (subst (λ (text : List ℕ). IsLineOf text c.without_last_lf.result.now) c.in-Ok.ensures.cases.0 c.without_last_lf.ensures)
    c.parse_ask.ensures
