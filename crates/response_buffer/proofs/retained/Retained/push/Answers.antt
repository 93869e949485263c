use Rattle.std.proofs.Common.{◌≡◌, ◌+◌, ◌-◌, ◌<◌, ◌≤◌, ◌∷◌, [], ◌++◌, List, ℕ, true, is_ok, length, arith, ap, refl, sym, subst, ◌∙◌}
use Rattle.std.proofs.lemmas.List.{length_push, length-drop}
use Rattle.response_buffer.specs.Window.{Window, HasLengths, FitsBuffer, IsLeast, kept}
use Rattle.response_buffer.proofs.WindowLemmas.{kept-surplus, kept-IsLeast}
use Rattle.response_buffer.proofs.retained.Retained.push.Goals as goal

pub returns-clause-first : goal.returns-clause-first
returns-clause-first c = λ lengths has.
    let r = c.self.inside in
    let sent : List (List ℕ) = r.responses.items ++ c.args.response ∷ [] in
    let stored : is_ok c.push_back.result ≡ true = sym c.map_err.ensures.variant ∙ ap is_ok c.in_ok-map_err.was in
    let pushed : c.push_back.new.self.items ≡ sent = rw stored at c.push_back.ensures.items in
    let count = length_push r.responses.items c.args.response in
    let surplus = c.drop_surplus-dropped.ensures in
    let left = c.drop_surplus-dropped.new.responses.items in
    let dropped = c.drop_surplus-dropped.result.0 in
    kept-surplus lengths r.first (r.first + dropped + length left - 1) r.buffer dropped sent left c.self.invariant.place_low
    (omega (arith, count)) (omega (arith, surplus.within, ap length pushed))
    (subst (λ (w : Window). HasLengths lengths w.first (w.responses ++ c.args.response ∷ [])) (sym c.self.view_is) has)
    (rw pushed at surplus.responses) (rw pushed at surplus.least) (omega (arith, surplus.weight, surplus.below)) refl
    ∙ ap (λ (w : Window). kept lengths w.first (r.first + dropped + length left - 1) w.buffer) c.self.view_is

pub returns-clause-least : goal.returns-clause-least
returns-clause-least c = λ lengths has.
    let r = c.self.inside in
    let left = c.drop_surplus-dropped.new.responses.items in
    let dropped = c.drop_surplus-dropped.result.0 in
    let first = c.args.self.now.first in
    let high = r.first + dropped + length left - 1 in
    let buffer = c.args.self.now.buffer in
    let stored : is_ok c.push_back.result ≡ true = sym c.map_err.ensures.variant ∙ ap is_ok c.in_ok-map_err.was in
    let pushed : c.push_back.new.self.items ≡ r.responses.items ++ c.args.response ∷ [] = rw stored at c.push_back.ensures.items in
    let count : length left ≡ length r.responses.items + 1 - dropped =
    ap length c.drop_surplus-dropped.ensures.responses ∙ length-drop dropped c.push_back.new.self.items
    ∙ ap (λ (k : ℕ). k - dropped) (ap length pushed ∙ length_push r.responses.items c.args.response) in
    let order : first ≤ high = omega (arith, ap (λ (w : Window). w.first) c.self.view_is, c.drop_surplus-dropped.ensures.within, ap length pushed, length_push r.responses.items c.args.response) in
    let some : 0 < buffer = omega (arith, ap (λ (w : Window). w.buffer) c.self.view_is, c.self.invariant.buffer_low) in
    subst (IsLeast (FitsBuffer lengths first high buffer)) (sym (returns-clause-first c lengths has)) (kept-IsLeast lengths first high buffer order some)
