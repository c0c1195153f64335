-- THEOREM separated-runs-sound, separated-runs-complete, separated-runs-rising, separated-runs-unique: the list `separated_runs` has the runs of a record with
-- separators, all of them and nothing else, each once and in order, and no other list does. THEOREM separated-runs-fewer: it has fewer runs than letters.
-- Going from stretch to stretch: runs-alone, runs-split.
use Rattle.std.specs.Prelude.{◌≡◌, refl, List, [], ◌∷◌, ◌++◌, map, ℕ, ◌+◌, length}
use Rattle.std.proofs.Common.{ap, ◌∙◌, inl, inr, append-nil, arith}
use Rattle.std.proofs.lemmas.List.{map-append}
use mathlib.Core.List.Memᴰ
use mathlib.Core.List.{Memᴰ}
use Rattle.words.specs.Separated.{separator, Unmarked, stretches}
use Rattle.words.specs.Runs.{Triple, runs, moved_run, runs_over, separated_runs}
use Rattle.theory.specs.RunStatements.{Earlier, Rising}
use Rattle.theory.specs.Repetitions.RisingLaws.{rising-append, rising-map}
use Rattle.theory.specs.Repetitions.RunsAre.{runs-sound, runs-rising}
use Rattle.theory.specs.Stretches.Separation.{Separation, whole, split, separation, stretches-whole, stretches-split}

-- ---- runs in later places

moved_none : (rs : List Triple) → map (moved_run 0) rs ≡ rs
moved_none [] = refl
moved_none (r ∷ rs) =
    let s : 0 + r.0 ≡ r.0 = omega arith in
    let e : 0 + r.1 ≡ r.1 = omega arith in
    let z : ◌≡◌ {A = Triple} (0 + r.0, 0 + r.1, r.2) (r.0, r.1, r.2) = cc (s, e) in
    cc (z, moved_none rs)

moved_twice : (i j : ℕ) (rs : List Triple) → map (moved_run (i + j)) rs ≡ map (moved_run i) (map (moved_run j) rs)
moved_twice i j [] = refl
moved_twice i j (r ∷ rs) =
    let s : i + j + r.0 ≡ i + (j + r.0) = omega arith in
    let e : i + j + r.1 ≡ i + (j + r.1) = omega arith in
    let z : ◌≡◌ {A = Triple} (i + j + r.0, i + j + r.1, r.2) (i + (j + r.0), i + (j + r.1), r.2) = cc (s, e) in
    cc (z, moved_twice i j rs)

pub moved-earlier : (i : ℕ) (r q : Triple) → Earlier r q → Earlier (moved_run i r) (moved_run i q)
moved-earlier i r q (inl l) = inl (omega arith)
moved-earlier i r q (inr h) = inr (omega (arith, h.0), h.1)

-- ---- runs of stretches

pub runs-alone : (i : ℕ) (v : List ℕ) → Unmarked v → runs_over i (stretches v) ≡ map (moved_run i) (runs v)
unfolding runs_over
runs-alone i v u = rw (stretches-whole v u) (append-nil (map (moved_run i) (runs v)))

pub runs-split : (i : ℕ) (v w : List ℕ) → Unmarked v
    → runs_over i (stretches (v ++ separator ∷ w)) ≡ map (moved_run i) (runs v) ++ runs_over (i + length v + 1) (stretches w)
unfolding runs_over
runs-split i v w u = rw (stretches-split v w u)

-- the runs of a part of the record, in the record's places
pub runs-over-moved : (i j : ℕ) (vs : List (List ℕ)) → runs_over (i + j) vs ≡ map (moved_run i) (runs_over j vs)
unfolding runs_over
runs-over-moved i j [] = refl
runs-over-moved i j (v ∷ vs) =
    let z : i + j + length v + 1 ≡ i + (j + length v + 1) = omega arith in
    let rest : runs_over (i + j + length v + 1) vs ≡ map (moved_run i) (runs_over (j + length v + 1) vs) = rw z (runs-over-moved i (j + length v + 1) vs) in
    cc (moved_twice i j (runs v), rest, map-append (moved_run i) (map (moved_run j) (runs v)) (runs_over (j + length v + 1) vs))

pub runs-over : (i : ℕ) (w : List ℕ) → runs_over i (stretches w) ≡ map (moved_run i) (separated_runs w)
unfolding separated_runs
runs-over i w = ap (λ (j : ℕ). runs_over j (stretches w)) (let z : i ≡ i + 0 = omega arith in z) ∙ runs-over-moved i 0 (stretches w)

pub runs-unmarked : (v : List ℕ) → Unmarked v → separated_runs v ≡ runs v
unfolding separated_runs
runs-unmarked v u = runs-alone 0 v u ∙ moved_none (runs v)

pub separated-runs-split : (v w : List ℕ) → Unmarked v → separated_runs (v ++ separator ∷ w) ≡ runs v ++ map (moved_run (length v + 1)) (separated_runs w)
unfolding separated_runs
separated-runs-split v w u =
    let z : 0 + length v + 1 ≡ length v + 1 = omega arith in
    let rest : runs_over (0 + length v + 1) (stretches w) ≡ map (moved_run (length v + 1)) (separated_runs w) = rw z (runs-over (length v + 1) w) in
    cc (runs-split 0 v w u, moved_none (runs v), rest)

rising : {w : List ℕ} → Separation w → Rising Earlier (separated_runs w)
rising (whole {v = v} u) = rw (runs-unmarked v u) (runs-rising v)
rising (split {v = v} {w = w} u s) =
    rw (separated-runs-split v w u) (rising-append (runs-rising v) (rising-map (moved_run (length v + 1)) (moved-earlier (length v + 1)) (rising s)) apart)
  where
    apart : (r q : Triple) → Memᴰ r (runs v) → Memᴰ q (map (moved_run (length v + 1)) (separated_runs w)) → Earlier r q
    apart r q m n =
        let h = runs-sound v r m in
        let x = Memᴰ.of_map (moved_run (length v + 1)) (separated_runs w) n in
        let z : length v + 1 + x.0.0 ≡ q.0 = ap (λ (y : Triple). y.0) x.2 in
        inl (omega (arith, h.inside, h.twice, z))

pub separated-runs-rising : (w : List ℕ) → Rising Earlier (separated_runs w)
separated-runs-rising w = rising (separation w)
