use Rattle.std.proofs.Common.{◌≡◌, ℕ, ◌≤◌, ◌-◌, min, List, sym, ap, ◌∙◌, subst, length, take, ◌++◌, arith, rules, length-append, length-take-le}
use Rattle.std.proofs.lemmas.Grind.{common_steps}
use Rattle.web_heads.specs.HeadEnds.{EndsLines, IsFirstEnd}
use Rattle.web_head_reader.specs.declared.place.HeadPlace.{HeadPlace}
use Rattle.web_head_reader.specs.declared.place.HeadPlace.TheVariants.{Open, Refused}
use Rattle.web_head_reader.specs.declared.fault.HeadReadFault.TheVariants.{HeadTooLong}
use Rattle.web_head_reader.specs.Steps.{HeadState}
use Rattle.web_head_reader.specs.Standard.{IsBegun}
use Rattle.web_head_reader.specs.Calls.{is_open}
use Rattle.web_head_reader.proofs.Searches.{begun_more, takes_some, takes_end, refuses_long, Takes_at, IsFaulty_at}
use Rattle.web_head_reader.proofs.Comes.{open_at, whole_at}
use Rattle.web_head_reader.proofs.reader.HeadReader.search.Goals as goal

pub invariant_of-self-then-before-count-lt-MOST_HEAD : goal.invariant_of-self-then-before-count-lt-MOST_HEAD
invariant_of-self-then-before-count-lt-MOST_HEAD c =
    let held = c.self.inside.held.items in
    let count = c.min-count.result in
    let place : c.self.inside.place ≡ Open = ap (λ (s : HeadState). s.place) c.self.view_is ∙ c.requires in
    let begun : IsBegun held = c.self.invariant.begun (ap is_open place) in
    let items_are : c.extend_from_slice.new.self.items ≡ held ++ take count c.args.piece.now = grind (arith, common_steps) in
    let before : c.len-before.result ≡ length held = search rules in
    let count_is : count ≡ min (length c.args.piece.now) (16384 - c.len-before.result) = search rules in
    let taken = length-take-le count c.args.piece.now (omega arith) in
    let longer = ap length items_are ∙ length-append held (take count c.args.piece.now) in
    let none : (at : ℕ) → length held - 3 ≤ at → ¬ (EndsLines c.extend_from_slice.new.self.items at)
    = λ at from. subst (λ (all : List ℕ). ¬ (EndsLines all at)) c.as_slice.ensures.value (c.in-None.ensures.none at (omega arith)) in
    record { begun = λ _. begun_more held (take count c.args.piece.now) c.extend_from_slice.new.self.items begun items_are none (omega arith) }

pub returns-then-before-count-lt-MOST_HEAD-clause-taken : goal.returns-then-before-count-lt-MOST_HEAD-clause-taken
returns-then-before-count-lt-MOST_HEAD-clause-taken c =
    let held = c.self.inside.held.items in
    let count = c.min-count.result in
    let items = c.extend_from_slice.new.self.items in
    let place : c.self.inside.place ≡ Open = ap (λ (s : HeadState). s.place) c.self.view_is ∙ c.requires in
    let begun : IsBegun held = c.self.invariant.begun (ap is_open place) in
    let items_are : items ≡ held ++ take count c.args.piece.now = grind (arith, common_steps) in
    let before : c.len-before.result ≡ length held = search rules in
    let count_is : count ≡ min (length c.args.piece.now) (16384 - c.len-before.result) = search rules in
    let taken = length-take-le count c.args.piece.now (omega arith) in
    let longer = ap length items_are ∙ length-append held (take count c.args.piece.now) in
    let none : (at : ℕ) → length held - 3 ≤ at → ¬ (EndsLines items at)
    = λ at from. subst (λ (all : List ℕ). ¬ (EndsLines all at)) c.as_slice.ensures.value (c.in-None.ensures.none at (omega arith)) in
    let more = begun_more held (take count c.args.piece.now) items begun items_are none (omega arith) in
    let old_is : c.args.self.now ≡ open_at held = sym c.self.view_is ∙ ap (λ (p : HeadPlace). record { place = p; held = held }) place in
    Takes_at c.args.self.now (record { place = c.self.inside.place; held = items }) (open_at held) (open_at items) c.args.piece.now count old_is
    (ap (λ (p : HeadPlace). record { place = p; held = items }) place)
    (takes_some held c.args.piece.now items count begun items_are (omega arith) more)

pub returns-in-Some-clause-taken : goal.returns-in-Some-clause-taken
returns-in-Some-clause-taken c =
    let held = c.self.inside.held.items in
    let count = c.min-count.result in
    let items = c.extend_from_slice.new.self.items in
    let place : c.self.inside.place ≡ Open = ap (λ (s : HeadState). s.place) c.self.view_is ∙ c.requires in
    let begun : IsBegun held = c.self.invariant.begun (ap is_open place) in
    let items_are : items ≡ held ++ take count c.args.piece.now = grind (arith, common_steps) in
    let before : c.len-before.result ≡ length held = search rules in
    let count_is : count ≡ min (length c.args.piece.now) (16384 - c.len-before.result) = search rules in
    let taken = length-take-le count c.args.piece.now (omega arith) in
    let longer = ap length items_are ∙ length-append held (take count c.args.piece.now) in
    let limit = begun.short in
    let found : IsFirstEnd items (length held - 3) c.in-Some.stop
    = subst (λ (n : ℕ). IsFirstEnd items n c.in-Some.stop) (c.saturating_sub.ensures ∙ ap (λ (n : ℕ). n - 3) before)
    (subst (λ (all : List ℕ). IsFirstEnd all c.saturating_sub.result c.in-Some.stop) c.as_slice.ensures.value c.in-Some.ensures.found) in
    let ended = takes_end held c.args.piece.now items count c.in-Some.stop begun items_are (omega arith) (omega arith) found in
    let old_is : c.args.self.now ≡ open_at held = sym c.self.view_is ∙ ap (λ (p : HeadPlace). record { place = p; held = held }) place in
    rw before
    (Takes_at c.args.self.now (whole_at c.truncate.new.self.items) (open_at held) (whole_at (take c.in-Some.stop items)) c.args.piece.now
    (c.in-Some.stop - length held) old_is (ap whole_at c.truncate.ensures.items) ended.1)

pub returns-else-before-count-lt-MOST_HEAD-clause-refused : goal.returns-else-before-count-lt-MOST_HEAD-clause-refused
returns-else-before-count-lt-MOST_HEAD-clause-refused c =
    let held = c.self.inside.held.items in
    let count = c.min-count.result in
    let items = c.extend_from_slice.new.self.items in
    let place : c.self.inside.place ≡ Open = ap (λ (s : HeadState). s.place) c.self.view_is ∙ c.requires in
    let begun : IsBegun held = c.self.invariant.begun (ap is_open place) in
    let items_are : items ≡ held ++ take count c.args.piece.now = grind (arith, common_steps) in
    let before : c.len-before.result ≡ length held = search rules in
    let count_is : count ≡ min (length c.args.piece.now) (16384 - c.len-before.result) = search rules in
    let taken = length-take-le count c.args.piece.now (omega arith) in
    let longer = ap length items_are ∙ length-append held (take count c.args.piece.now) in
    let limit = begun.short in
    let none : (at : ℕ) → length held - 3 ≤ at → ¬ (EndsLines items at)
    = λ at from. subst (λ (all : List ℕ). ¬ (EndsLines all at)) c.as_slice.ensures.value (c.in-None.ensures.none at (omega arith)) in
    let old_is : c.args.self.now ≡ open_at held = sym c.self.view_is ∙ ap (λ (p : HeadPlace). record { place = p; held = held }) place in
    IsFaulty_at c.args.self.now (open_at held) (record { place = Refused HeadTooLong; held = c.clear.new.self.items }) c.args.piece.now old_is
    (refuses_long held c.args.piece.now items count (record { place = Refused HeadTooLong; held = c.clear.new.self.items }) begun items_are none
    (omega arith) (ap (λ (left : List ℕ). record { place = Refused HeadTooLong; held = left }) c.clear.ensures.items))
