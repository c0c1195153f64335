-- THEOREM separated-runs-sound, separated-runs-complete, separated-runs-rising, separated-runs-unique: the list `separated_runs` has the runs of a record with
-- separators, all of them and nothing else, each once and in order, and no other list does. THEOREM separated-runs-fewer: it has fewer runs than letters.
-- Going from stretch to stretch: runs-alone, runs-split.
use Rattle.std.specs.Prelude.{◌≡◌, ◌⊎◌, List, [], ◌∷◌, ◌++◌, map, ℕ, ◌+◌, ◌-◌, ◌≤◌, ◌<◌, length}
use Rattle.std.proofs.Common.{sym, subst, inl, inr, arith, length-append}
use Rattle.std.proofs.lemmas.List.{length-map}
use mathlib.Core.List.Memᴰ
use mathlib.Core.List.{Memᴰ}
use Rattle.words.specs.Separated.{separator}
use Rattle.words.specs.Runs.{Triple, runs_from, runs, moved_run, separated_runs}
use Rattle.theory.specs.RunStatements.{Earlier, IsSeparatedRun, Rising}
use Rattle.theory.specs.Repetitions.RisingLaws.{rising-unique}
use Rattle.theory.specs.Repetitions.RunsAre.{earlier-irrefl, earlier-asym, runs-sound}
use Rattle.theory.proofs.Repetitions.RunsAre.{runs-complete}
use Rattle.theory.proofs.Repetitions.RunsFewer.{runs-fewer}
use Rattle.theory.specs.Stretches.Separation.{Separation, whole, split, separation}
use Rattle.theory.specs.Stretches.StretchRuns.{first-split, later-run, run-later, run-side}
use Rattle.theory.proofs.Stretches.StretchRuns.{first_run, run-first, unmarked-run, run-unmarked}
use Rattle.theory.specs.Stretches.SeparatedRuns.{runs-unmarked, separated-runs-rising, separated-runs-split}

-- ---- the list

sound : {w : List ℕ} → Separation w → (r : Triple) → Memᴰ r (separated_runs w) → IsSeparatedRun w r
sound (whole {v = v} u) r m = unmarked-run v u (runs-sound v r (rw (runs-unmarked v u) at m))
sound (split {v = v} {w = w} u s) r m = go (Memᴰ.append_cases (runs v) (rw (separated-runs-split v w u) at m)) (λ q x. sound s q x)
  where
    go : Memᴰ r (runs v) ⊎ Memᴰ r (map (moved_run (length v + 1)) (separated_runs w))
        → ((q : Triple) → Memᴰ q (separated_runs w) → IsSeparatedRun w q) → IsSeparatedRun (v ++ separator ∷ w) r
    go (inl x) next = first_run v (v ++ separator ∷ w) (first-split v w u) (runs-sound v r x)
    go (inr x) next =
        let q = Memᴰ.of_map (moved_run (length v + 1)) (separated_runs w) x in
        subst (λ (y : Triple). IsSeparatedRun (v ++ separator ∷ w) y) q.2 (later-run v w (next q.0 q.1))

complete : {w : List ℕ} → Separation w → (r : Triple) → IsSeparatedRun w r → Memᴰ r (separated_runs w)
complete (whole {v = v} u) r h = rw (runs-unmarked v u) (runs-complete v r (run-unmarked v u h))
complete (split {v = v} {w = w} u s) r h = rw (separated-runs-split v w u) (go (run-side v w h) (λ q x. complete s q x))
  where
    go : (r.1 ≤ length v) ⊎ (length v < r.0) → ((q : Triple) → IsSeparatedRun w q → Memᴰ q (separated_runs w))
        → Memᴰ r (runs v ++ map (moved_run (length v + 1)) (separated_runs w))
    go (inl l) next = Memᴰ.append_left _ (runs-complete v r (run-first v (v ++ separator ∷ w) (first-split v w u) h l))
    go (inr l) next =
        let q : Triple = (r.0 - (length v + 1), r.1 - (length v + 1), r.2) in
        let a : length v + 1 + (r.0 - (length v + 1)) ≡ r.0 = omega arith in
        let b : length v + 1 + (r.1 - (length v + 1)) ≡ r.1 = omega (arith, h.twice) in
        let z : ◌≡◌ {A = Triple} (length v + 1 + (r.0 - (length v + 1)), length v + 1 + (r.1 - (length v + 1)), r.2) (r.0, r.1, r.2) = cc (a, b) in
        let k : IsSeparatedRun (v ++ separator ∷ w) (moved_run (length v + 1) q) = subst (λ (y : Triple). IsSeparatedRun (v ++ separator ∷ w) y) (sym z) h in
        Memᴰ.append_right (runs v) (subst (λ (y : Triple). Memᴰ y (map (moved_run (length v + 1)) (separated_runs w))) z
        (Memᴰ.map (moved_run (length v + 1)) (next q (run-later v w k))))

pub separated-runs-sound : (w : List ℕ) (r : Triple) → Memᴰ r (separated_runs w) → IsSeparatedRun w r
separated-runs-sound w r m = sound (separation w) r m

pub separated-runs-complete : (w : List ℕ) (r : Triple) → IsSeparatedRun w r → Memᴰ r (separated_runs w)
separated-runs-complete w r h = complete (separation w) r h

pub separated-runs-unique : (w : List ℕ) (rs : List Triple) → Rising Earlier rs → ((r : Triple) → Memᴰ r rs → IsSeparatedRun w r)
    → ((r : Triple) → IsSeparatedRun w r → Memᴰ r rs) → rs ≡ separated_runs w
separated-runs-unique w rs rise in-rs to-rs =
    rising-unique earlier-irrefl earlier-asym rise (separated-runs-rising w) (λ r m. separated-runs-complete w r (in-rs r m))
    (λ r m. to-rs r (separated-runs-sound w r m))

-- ---- their number

stretch-few : (v : List ℕ) → length (runs v) ≤ length v
unfolding runs runs_from
stretch-few [] = omega arith
stretch-few (a ∷ v) = let l = runs-fewer (a ∷ v) (omega arith) in omega arith

few : {w : List ℕ} → Separation w → length (separated_runs w) ≤ length w
few (whole {v = v} u) = rw (runs-unmarked v u) (stretch-few v)
few (split {v = v} {w = w} u s) = rw (separated-runs-split v w u, length-append, length-append, length-map) (omega (arith, stretch-few v, few s))

fewer-split : {w : List ℕ} → Separation w → 0 < length w → length (separated_runs w) < length w
fewer-split (whole {v = v} u) l = rw (runs-unmarked v u) (runs-fewer v l)
fewer-split (split {v = v} {w = w} u s) l = rw (separated-runs-split v w u, length-append, length-append, length-map) (omega (arith, stretch-few v, few s))

pub separated-runs-few : (w : List ℕ) → length (separated_runs w) ≤ length w
separated-runs-few w = few (separation w)

pub separated-runs-fewer : (w : List ℕ) → 0 < length w → length (separated_runs w) < length w
separated-runs-fewer w l = fewer-split (separation w) l
