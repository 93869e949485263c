use Rattle.std.proofs.Common.{List, ℕ, length, ap, arith}
use Rattle.web_frames.proofs.CallLemmas.{lacking-parts}
use Rattle.web_frames.proofs.reader.FrameReader.lacking.Goals as goal

pub overflow_sub-result : goal.overflow_sub-result
overflow_sub-result c =
    let i = c.self.inside in
    let parts = lacking-parts i.side i.place i.head i.count i.payload c.args.self.now c.self.view_is c.self.invariant c.requires.place c.requires.head in
    let few = ap (λ (bytes : List ℕ). length bytes) c.as_slice.ensures in
    let count = c.from_be_bytes-length.ensures in
    omega (arith, parts.1, few, count)

pub returns-clause-some : goal.returns-clause-some
returns-clause-some c =
    let i = c.self.inside in
    let parts = lacking-parts i.side i.place i.head i.count i.payload c.args.self.now c.self.view_is c.self.invariant c.requires.place c.requires.head in
    let few = ap (λ (bytes : List ℕ). length bytes) c.as_slice.ensures in
    let count = c.from_be_bytes-length.ensures in
    omega (arith, parts.1, few, count)
