-- THEOREM repetitions-listed: what the call of the runs gives is the list of all repetitions, each once and in order, and fewer than letters (request 107).
-- What is so is the list of the definition: the number (count-only) and the entries (entries-only).
use Rattle.std.specs.Prelude.{◌≡◌, List, ◌++◌, ℕ, ◌<◌, length}
use Rattle.std.proofs.Common.{ap, ◌∙◌}
use Rattle.words.specs.Runs.{Triple, separated_runs}
use Rattle.theory.specs.Stretches.SeparatedRuns.{separated-runs-rising}
use Rattle.theory.proofs.Stretches.SeparatedRuns.{separated-runs-sound, separated-runs-complete, separated-runs-unique, separated-runs-fewer}
use Rattle.buffers.specs.Buffers.{written}
use Rattle.checks.specs.Lines.{Line, tried, Passed}
use Rattle.checks.specs.Answers.{gives, Says}
use Rattle.checks.proofs.LineLaws.{both-passed}
use Rattle.inserting.specs.Entries.{entries_of_runs}
use Rattle.runs.specs.Runs.{runs_lines, RunsDone}
use Rattle.demands.specs.Requests.{RepetitionsListed}

pub repetitions-listed : (w : List ℕ) (door : List Line) → (tried door ≡ Passed → 0 < length w) → (out out' : List ℕ) (r : Says ℕ) → RunsDone door w out r out'
    → tried (door ++ runs_lines w (length out)) ≡ Passed → RepetitionsListed w out r out'
repetitions-listed w door some out out' r f none = record {
  listed = separated_runs w;
  sound = separated-runs-sound w;
  complete = separated-runs-complete w;
  in_order = separated-runs-rising w;
  fewer = separated-runs-fewer w (some (both-passed door (runs_lines w (length out)) none).0);
  count = rw none at f.answer;
  entries = rw none at f.result;
}

module _ {w out out' : List ℕ} {r : Says ℕ} (h : RepetitionsListed w out r out') where
  listed-only : h.listed ≡ separated_runs w
  listed-only = separated-runs-unique w h.listed h.in_order h.sound h.complete

  pub count-only : r ≡ gives (length (separated_runs w))
  count-only = h.count ∙ ap (λ (ts : List Triple). gives (length ts)) listed-only

  pub entries-only : out' ≡ written (entries_of_runs (separated_runs w)) out
  entries-only = h.entries ∙ ap (λ (ts : List Triple). written (entries_of_runs ts) out) listed-only
