use Rattle.std.proofs.Common.{map, ◌∙◌, ap}
use Rattle.relation_eval.specs.Grouped.{place_of}
use Rattle.relation_eval.proofs.BucketFacts.{stable_places}
use Rattle.relation_eval.proofs.buckets.Buckets.new.Goals as goal

pub returns-clause-grouped : goal.returns-clause-grouped
returns-clause-grouped c =
    let places = c.in_ok-places.ensures in
    let slice = c.as_slice.ensures.value in
    record {
      placed = places ∙ ap (λ es. map place_of es) slice;
      sorted = c.in_ok-entries.ensures.ordered;
      grouped = stable_places c.args.columns c.args.rows.now c.in_ok-placed.placed.items c.in_ok-entries.entries.items c.in_ok-placed.ensures.rows c.in_ok-placed.ensures.places c.in_ok-entries.ensures.permuted c.in_ok-entries.ensures.stable;
    }
