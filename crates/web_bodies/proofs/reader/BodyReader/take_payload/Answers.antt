use Rattle.web_bodies.proofs.Ahead.{takes_ahead, place_after-not_refused}
use Rattle.web_bodies.proofs.reader.BodyReader.take_payload.Goals as goal

pub returns-clause-taken : goal.returns-clause-taken
returns-clause-taken c bytes e =
    rw (← c.self.view_is, c.place_after-self-inside.ensures.place, ← e)
    (takes_ahead c.self.inside.place c.self.inside.count c.self.inside.line.items bytes (rw (← c.self.view_is, ← e) at c.requires.ahead)
    c.self.invariant.0)

pub returns-clause-not_refused : goal.returns-clause-not_refused
returns-clause-not_refused c some fault =
    rw c.place_after-self-inside.ensures.place
    (place_after-not_refused c.self.inside.place c.args.count (rw (← c.self.view_is) at c.requires.ahead) some fault)
