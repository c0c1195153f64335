-- DEFINITIONS. Runs (request 107; the paper's word is repetition, the field's maximal repetition): "List every maximal repetition: first place, end and
-- period." What a run is, the list of all of them as a function that computes, and both for a record with separators.
use Rattle.std.specs.Prelude.{List, [], ◌∷◌, ◌++◌, map, Bool, true, false, not, ◌&&◌, ℕ, zero, suc, ◌+◌, ◌-◌, ◌*◌, length, drop, get_or, leb, eqb}
use Rattle.words.specs.Words.{common_length_of}
use Rattle.words.specs.Factorizations.{least}
use Rattle.words.specs.Separated.{stretches}

-- first place, end and period
abbrev pub Triple : Type 0
Triple = ℕ × ℕ × ℕ

-- ---- the list of all runs

-- where the letters that repeat from s on with the period p end
unfoldable pub repeats_to : List ℕ → ℕ → ℕ → ℕ
unfolding common_length_of
repeats_to w s p = s + p + common_length_of (drop s w) (drop (s + p) w)

-- "no byte can be added" on the left
unfoldable pub begins_at : List ℕ → ℕ → ℕ → Bool
begins_at w zero p = true
begins_at w (suc t) p = not (eqb (get_or w t 0) (get_or w (t + p) 0))

-- a run with the period p begins at s: what repeats from there fits twice, nothing can be added on the left, and p is its smallest period
unfoldable pub is_run : List ℕ → ℕ → ℕ → Bool
unfolding repeats_to begins_at least
is_run w s p =
    let e : ℕ = repeats_to w s p in
    leb (s + 2 * p) e && (begins_at w s p && eqb (least (λ q. leb e (repeats_to w s q)) p 1) p)

-- those of the k numbers i, i + 1, .. that pass the test
unfoldable pub select : (ℕ → Bool) → ℕ → ℕ → List ℕ
select test zero i = []
select test (suc k) i = elim (test i) [ true ↦ i ∷ select test k (suc i) | false ↦ select test k (suc i) ]

-- the runs that begin at the k places s, s + 1, ..
unfoldable pub runs_from : List ℕ → ℕ → ℕ → List Triple
unfolding repeats_to is_run select
runs_from w zero s = []
runs_from w (suc k) s = map (λ p. (s, repeats_to w s p, p)) (select (is_run w s) (length w - s) 1) ++ runs_from w k (suc s)

-- "Each is listed once, by first place and then by period."
unfoldable pub runs : List ℕ → List Triple
unfolding runs_from
runs w = runs_from w (length w) 0

-- ---- records with separators: "Marks belong to none and end their neighbours."

-- a run i places later
abbrev pub moved_run : ℕ → Triple → Triple
moved_run i r = (i + r.0, i + r.1, r.2)

-- the runs of stretches, the first of which begins at place i, in the record's places
unfoldable pub runs_over : ℕ → List (List ℕ) → List Triple
unfolding runs
runs_over i [] = []
runs_over i (v ∷ vs) = map (moved_run i) (runs v) ++ runs_over (i + length v + 1) vs

unfoldable pub separated_runs : List ℕ → List Triple
unfolding runs_over stretches
separated_runs w = runs_over 0 (stretches w)
