-- THEOREM runs-sound, runs-complete, runs-rising: the list `runs` has the runs of a word, all of them and nothing else, by first place and then by period, so
-- each once. THEOREM runs-unique: no other list has these properties.
use Rattle.std.specs.Prelude.{◌≡◌, ◌⊎◌, length}
use Rattle.std.proofs.Common.{sym, subst, ◌∙◌, inl, inr, arith}
use mathlib.Core.List.Memᴰ
use mathlib.Core.List.{List, ◌++◌, Memᴰ}
use Prim.Native.Nat.{ℕ, zero, suc, ◌+◌, ◌-◌, ◌≤◌, ◌<◌, zero-le, Ordering}
use Rattle.std.proofs.Math.Decide.{dec_lt}
use Rattle.theory.specs.Orders.Decisions.{true-decides, Ordered, lt, eq, gt, ordered}
use Rattle.words.specs.Runs.{Triple, is_run, runs_from, runs}
use Rattle.theory.specs.RunStatements.{Run, IsRun, Earlier, Rising}
use Rattle.theory.specs.Repetitions.RisingLaws.{rising-unique, in-select}
use Rattle.theory.specs.Repetitions.RepeatsTo.{run-test}
use Rattle.theory.proofs.Repetitions.RepeatsTo.{run_end}
use Rattle.theory.specs.Repetitions.RunsAre.{earlier-asym, earlier-irrefl, runs-rising, runs-sound, runs_at, triple}

-- two runs with one first place and period are the same
pub run-same : {w : List ℕ} {r q : Triple} → IsRun w r → IsRun w q → r.0 ≡ q.0 → r.2 ≡ q.2 → r ≡ q
run-same {w} {r} {q} a b s p =
    let e : r.1 ≡ q.1 = run_end a ∙ rw (s, p) (sym (run_end b)) in
    let z : ◌≡◌ {A = Triple} (r.0, r.1, r.2) (q.0, q.1, q.2) = cc (s, e, p) in
    z

pub runs-apart-keys : {w : List ℕ} {r q : Triple} → IsRun w r → IsRun w q → ¬ (r ≡ q) → Earlier r q ⊎ Earlier q r
runs-apart-keys {w} {r} {q} a b n = go (ordered r.0 q.0) (ordered r.2 q.2)
  where
    go : {o o' : Ordering} → Ordered r.0 q.0 o → Ordered r.2 q.2 o' → Earlier r q ⊎ Earlier q r
    go (lt l) d = inl (inl l)
    go (gt l) d = inr (inl l)
    go (eq s) (lt l) = inl (inr (s, l))
    go (eq s) (gt l) = inr (inr (sym s, l))
    go (eq s) (eq p) = absurd (n (run-same a b s p))

at-complete : (w : List ℕ) (r : Triple) → IsRun w r → Memᴰ r (runs_at w r.0)
at-complete w (s, e, p) r = rw (run_end r) (Memᴰ.map (triple w s) (in-select (is_run w s) (length w - s) 1 p (record {
  passes = true-decides (run-test w s p r.positive (omega (arith, r.inside, r.twice))) (subst (λ (n : ℕ). Run w s n p) (run_end r) r);
  from = r.positive;
  below = omega (arith, r.inside, r.twice, r.positive);
})))

from-complete : (w : List ℕ) (k i : ℕ) (r : Triple) → IsRun w r → i ≤ r.0 → r.0 < i + k → Memᴰ r (runs_from w k i)
unfolding runs_from
from-complete w zero i r h a b = absurd (omega arith)
from-complete w (suc k) i r h a b = go (dec_lt i r.0) (λ c. from-complete w k (suc i) r h c (omega arith))
  where
    go : Dec (i < r.0) → (i < r.0 → Memᴰ r (runs_from w k (suc i))) → Memᴰ r (runs_at w i ++ runs_from w k (suc i))
    go (yes c) next = Memᴰ.append_right (runs_at w i) (next c)
    go (no c) next = Memᴰ.append_left _ (subst (λ (n : ℕ). Memᴰ r (runs_at w n)) (let z : r.0 ≡ i = omega arith in z) (at-complete w r h))

pub runs-complete : (w : List ℕ) (r : Triple) → IsRun w r → Memᴰ r (runs w)
unfolding runs
runs-complete w r h = from-complete w (length w) 0 r h zero-le (omega (arith, h.inside, h.twice, h.positive))

pub runs-unique : (w : List ℕ) (xs : List Triple) → Rising Earlier xs → ((r : Triple) → Memᴰ r xs → IsRun w r)
    → ((r : Triple) → IsRun w r → Memᴰ r xs) → xs ≡ runs w
runs-unique w xs rise sound complete =
    rising-unique earlier-irrefl earlier-asym rise (runs-rising w) (λ r m. runs-complete w r (sound r m)) (λ r m. complete r (runs-sound w r m))
