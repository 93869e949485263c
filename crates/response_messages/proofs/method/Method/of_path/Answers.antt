-- A path that is none of the six is no method's path.
use Rattle.response_messages.specs.declared.method.Method.TheVariants as methods
use Rattle.response_messages.proofs.method.Method.of_path.Goals as goal

pub returns-in_default : goal.returns-in_default
returns-in_default c methods.ExecutePlan = (λ e. absurd cc, λ is. absurd (c.in_default.not-text is))
returns-in_default c methods.AnalyzePlan = (λ e. absurd cc, λ is. absurd (c.in_default.not-text-2 is))
returns-in_default c methods.Config = (λ e. absurd cc, λ is. absurd (c.in_default.not-text-3 is))
returns-in_default c methods.Interrupt = (λ e. absurd cc, λ is. absurd (c.in_default.not-text-4 is))
returns-in_default c methods.ReattachExecute = (λ e. absurd cc, λ is. absurd (c.in_default.not-text-5 is))
returns-in_default c methods.ReleaseExecute = (λ e. absurd cc, λ is. absurd (c.in_default.not-text-6 is))
