use mathlib.Core.Path.{ap, sym, ◌∙◌}
use native.Mathlib.Omega.{arith}
use Rattle.std.specs.Prelude.{Result, ℕ}
use Rattle.checks.specs.declared.refusals.Refusal.{Refusal}
use Rattle.checks.specs.Answers.{count_says}
use Rattle.batch.specs.Batch.{used_entries}
use Rattle.batch.proofs.entries_used.Goals as goal

pub entries-requires : goal.entries-requires
entries-requires c = let few = rw c.in-Ok.is at c.requires in omega arith

pub returns-in-Ok : goal.returns-in-Ok
returns-in-Ok c = c.entries.ensures ∙ sym (ap (λ (a : Result ℕ Refusal). used_entries (count_says a)) c.in-Ok.is)
