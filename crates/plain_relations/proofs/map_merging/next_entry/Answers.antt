-- The first entry of one map is taken, or of both.
use Rattle.std.proofs.Common.{sym, ◌∙◌, rules}
use Rattle.plain_relations.proofs.Merging.{less_taken, equal_taken, greater_taken}
use Rattle.plain_relations.proofs.map_merging.next_entry.Goals as goal

pub returns-in-Less : goal.returns-in-Less
returns-in-Less c =
    let early = c.args.early.now in
    let late = c.args.late.now in
    let pop = c.pop_front in
    let took = less_taken early.items late.items pop.new.self.items early.len pop.result c.requires.early c.requires.late (sym c.in-Less.is ∙ c.order_of_firsts.ensures)
    early.ok.0 pop.ensures.value pop.ensures.rest in
    record { early = took.early_rises; late = took.late_rises; next = took.next; fewer = search rules }

pub returns-in-Equal : goal.returns-in-Equal
returns-in-Equal c =
    let early = c.args.early.now in
    let late = c.args.late.now in
    let first = c.pop_front-in-Equal in
    let pop = c.pop_front-in-Equal-2 in
    let took = equal_taken early.items late.items first.new.self.items pop.new.self.items late.len pop.result c.requires.early c.requires.late (sym c.in-Equal.is ∙ c.order_of_firsts.ensures)
    late.ok.0 pop.ensures.value first.ensures.rest pop.ensures.rest in
    record { early = took.early_rises; late = took.late_rises; next = took.next; fewer = search rules }

pub returns-in-Greater : goal.returns-in-Greater
returns-in-Greater c =
    let early = c.args.early.now in
    let late = c.args.late.now in
    let pop = c.pop_front-in-Greater in
    let took = greater_taken early.items late.items pop.new.self.items late.len pop.new.self.len pop.result c.requires.early c.requires.late (sym c.in-Greater.is ∙ c.order_of_firsts.ensures)
    late.ok.0 pop.ensures.value pop.ensures.rest pop.ensures.cases in
    record { early = took.early_rises; late = took.late_rises; next = took.next; fewer = search rules }
