use Rattle.std.proofs.Common.{ap, ◌∙◌}
use Rattle.std.specs.Int.{w64}
use Rattle.std.specs.Result.{result_ok}
use Rattle.std.proofs.lemmas.Fmt.{parse-signed_decimal}
use Rattle.connect_replay.proofs.ask.number_of.Goals as goal

pub returns : goal.returns
returns c = λ number fits is.
    c.ok.ensures.value ∙ ap result_ok (parse-signed_decimal w64 number c.args.word.now c.parse.result fits fits.sfits is c.parse.ensures.value.0)
