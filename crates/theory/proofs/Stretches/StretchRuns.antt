-- A run of a record (SeparatedRun) is a run of its first stretch, or one of what follows the separator, in later places: first_run and run-first, later-run and
-- run-later; it does not go over a separator (run-side). In a word without separators the two kinds of runs are the same (unmarked-run, run-unmarked).
use Rattle.std.specs.Prelude.{◌≡◌, List, ℕ, ◌+◌, ◌-◌, ◌≤◌, ◌<◌, length, get_or}
use Rattle.std.proofs.Common.{arith}
use Rattle.std.proofs.Math.Decide.{dec_lt}
use Rattle.words.specs.Separated.{separator, Unmarked}
use Rattle.theory.specs.RunStatements.{Repeats, Run, SeparatedRun}
use Rattle.theory.specs.Stretches.Unmarked.{unmarked-at}
use Rattle.theory.specs.Stretches.StretchRuns.{First, first-whole}

module _ (v w : List ℕ) (f : First v w) where
  letter-unmarked : (t : ℕ) → t < length v → ¬ (get_or w t 0 ≡ separator)
  letter-unmarked t l e = unmarked-at v f.unmarked t (rw (f.letters t l) at e)

  repeats-of : {s e p : ℕ} → e ≤ length v → Repeats w s e p → Repeats v s e p
  repeats-of {p = p} l h = record { equal = λ t a b. rw (f.letters t (omega arith), f.letters (t + p) (omega arith)) at (h.equal t a b) }

  of-repeats : {s e p : ℕ} → e ≤ length v → Repeats v s e p → Repeats w s e p
  of-repeats {p = p} l h = record { equal = λ t a b. rw (f.letters t (omega arith), f.letters (t + p) (omega arith)) (h.equal t a b) }

  pub first_run : {s e p : ℕ} → Run v s e p → SeparatedRun w s e p
  first_run {s} {e} {p} r = record {
    inside = omega (arith, r.inside, f.inside);
    positive = r.positive;
    unmarked = λ t a b. letter-unmarked t (omega (arith, r.inside));
    repeats = of-repeats r.inside r.repeats;
    smallest = λ q o l h. r.smallest q o l (repeats-of r.inside h);
    twice = r.twice;
    left = λ o n h. r.left o (repeats-of r.inside h);
    right = λ l n h. ends l n h (dec_lt e (length v));
  }
    where
      ends : e < length w → ¬ (get_or w e 0 ≡ separator) → Repeats w s (e + 1) p → Dec (e < length v) → ⊥
      ends l n h (yes y) = r.right y (repeats-of (omega arith) h)
      ends l n h (no y) = let z : e ≡ length v = omega (arith, r.inside) in n (rw z (f.stops (omega arith)))

  pub run-first : {s e p : ℕ} → SeparatedRun w s e p → e ≤ length v → Run v s e p
  run-first {s} {e} {p} r i = record {
    inside = i;
    positive = r.positive;
    repeats = repeats-of i r.repeats;
    smallest = λ q o l h. r.smallest q o l (of-repeats i h);
    twice = r.twice;
    left = λ o h. r.left o (letter-unmarked (s - 1) (omega (arith, r.twice, r.positive))) (of-repeats i h);
    right = λ l h. r.right (omega (arith, f.inside)) (letter-unmarked e l) (of-repeats (omega arith) h);
  }

-- the record is one stretch
pub unmarked-run : (v : List ℕ) → Unmarked v → {s e p : ℕ} → Run v s e p → SeparatedRun v s e p
unmarked-run v u r = first_run v v (first-whole v u) r

pub run-unmarked : (v : List ℕ) → Unmarked v → {s e p : ℕ} → SeparatedRun v s e p → Run v s e p
run-unmarked v u r = run-first v v (first-whole v u) r r.inside
