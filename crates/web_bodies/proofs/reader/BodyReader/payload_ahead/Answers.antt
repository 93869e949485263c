use Rattle.std.proofs.Common.{refl}
use Rattle.web_bodies.proofs.Ahead.{le-payload_ahead, payload_ahead-fewer, no_payload_ahead, payload_ahead-most, payload_ahead-all}
use Rattle.web_bodies.proofs.reader.BodyReader.payload_ahead.Goals as goal

pub returns : goal.returns
returns c =
    let place = c.self.inside.place in
    let count = c.self.inside.count in
    let line = c.self.inside.line.items in
    rw (← c.self.view_is, c.payload_ahead.ensures) (record {
      count = refl;
      within = le-payload_ahead place c.args.available;
      all = λ bytes fits. payload_ahead-all place c.args.available count line bytes c.self.invariant.0 fits;
      most = λ more bytes all. payload_ahead-most place c.args.available count line bytes c.self.invariant.0 more all;
      fewer = payload_ahead-fewer place c.args.available;
      none = λ none some. no_payload_ahead place c.args.available some none c.self.invariant.0;
    })
