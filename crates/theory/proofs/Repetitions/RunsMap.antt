-- THEOREM runs_map: a word and its image under a map that keeps its letters apart have the same runs, since they have the same periods (run-map, map-run).
use Rattle.std.specs.Prelude.{◌≡◌, List, map, ℕ, ◌+◌, ◌≤◌, length}
use Rattle.std.proofs.Common.{arith}
use Rattle.std.proofs.lemmas.List.{length-map}
use Rattle.words.specs.Runs.{runs}
use Rattle.theory.specs.RunStatements.{Repeats, Run}
use Rattle.theory.specs.Repetitions.RunsAre.{runs-sound, runs-rising}
use Rattle.theory.proofs.Repetitions.RunsAre.{runs-complete, runs-unique}
use Rattle.theory.specs.Repetitions.RunsMap.{KeepsApart, get_d_map, repeats-to-map}

module _ (f : ℕ → ℕ) (w : List ℕ) (apart : KeepsApart f w) where
  pub repeats-from-map : {s e p : ℕ} → e ≤ length w → Repeats (map f w) s e p → Repeats w s e p
  repeats-from-map {s} {e} {p} i h = record {
    equal = λ t a b. apart t (t + p) (omega arith) (omega arith) (rw (get_d_map f w t (omega arith), get_d_map f w (t + p) (omega arith)) at (h.equal t a b));
  }

  pub run-map : {s e p : ℕ} → Run w s e p → Run (map f w) s e p
  run-map {s} {e} {p} r = record {
    inside = rw length-map r.inside;
    positive = r.positive;
    repeats = repeats-to-map f w r.inside r.repeats;
    smallest = λ q a l h. r.smallest q a l (repeats-from-map r.inside h);
    twice = r.twice;
    left = λ z h. r.left z (repeats-from-map r.inside h);
    right = λ l h. r.right (rw length-map at l) (repeats-from-map (omega (arith, rw length-map at l)) h);
  }

  pub map-run : {s e p : ℕ} → Run (map f w) s e p → Run w s e p
  map-run {s} {e} {p} r =
      let i : e ≤ length w = rw length-map at r.inside in
      record {
        inside = i;
        positive = r.positive;
        repeats = repeats-from-map i r.repeats;
        smallest = λ q a l h. r.smallest q a l (repeats-to-map f w i h);
        twice = r.twice;
        left = λ z h. r.left z (repeats-to-map f w i h);
        right = λ l h. r.right (rw length-map l) (repeats-to-map f w (omega arith) h);
      }

  pub runs_map : runs (map f w) ≡ runs w
  runs_map =
      runs-unique w (runs (map f w)) (runs-rising (map f w)) (λ r m. map-run (runs-sound (map f w) r m)) (λ r h. runs-complete (map f w) r (run-map h))
