-- Where a period stops: repeats_to w s p is the greatest end up to which p is a period from s on (repeats-to, repeats-to-most), and so the end of every run with
-- that first place and period (run_end). THEOREM run-test: is_run decides whether there is one.
use Rattle.std.specs.Prelude.{◌≡◌, List, length, drop, leb, eqb}
use Prim.Native.Nat.{ℕ, zero, suc, ◌+◌, ◌-◌, ◌*◌, ◌≤◌, ◌<◌}
use native.Mathlib.Omega.{arith}
use Rattle.std.proofs.Math.Decide.{dec_lt}
use Rattle.std.proofs.Math.ListN.{get_or, length-drop}
use Rattle.std.proofs.Math.Seq.{get_or-drop}
use Rattle.words.specs.Words.{common_length_of}
use Rattle.words.specs.Factorizations.{least}
use Rattle.theory.specs.Orders.Decisions.{Decides, holds, decides_not, decides_and, decides-map, neither-less, leb-test, eqb-test}
use Rattle.theory.specs.Orders.Decisions.{Least, found, never, least-is}
use Rattle.theory.specs.Orders.CommonLength.{common-agree}
use Rattle.words.specs.Runs.{repeats_to, begins_at, is_run}
use Rattle.theory.specs.RunStatements.{Repeats, Run}

-- ---- periods of parts

pub repeats-part : {w : List ℕ} {s e s' e' p : ℕ} → s ≤ s' → e' ≤ e → Repeats w s e p → Repeats w s' e' p
repeats-part a b h = record { equal = λ t l m. h.equal t (omega arith) (omega arith) }

-- ---- where a period stops

module _ (w : List ℕ) (s p : ℕ) where
  pub repeats-to-from : s + p ≤ repeats_to w s p
  unfolding repeats_to
  repeats-to-from = omega arith

  pub repeats-to-inside : s + p ≤ length w → repeats_to w s p ≤ length w
  unfolding repeats_to
  repeats-to-inside l = omega (arith, (common-agree (drop s w) (drop (s + p) w)).matched.right, length-drop (s + p) w)

  pub repeats-to : Repeats w s (repeats_to w s p) p
  unfolding repeats_to
  repeats-to = record { equal = equal-at }
    where
      equal-at : (t : ℕ) → s ≤ t → t + p < s + p + common_length_of (drop s w) (drop (s + p) w) → get_or w t 0 ≡ get_or w (t + p) 0
      equal-at t a b =
          let g = (common-agree (drop s w) (drop (s + p) w)).matched in
          let c : get_or (drop s w) (t - s) 0 ≡ get_or (drop (s + p) w) (t - s) 0 = g.equal (t - s) (omega arith) in
          rw (let z : s + (t - s) ≡ t = omega arith in z, let z : s + p + (t - s) ≡ t + p = omega arith in z) at (rw (get_or-drop s w, get_or-drop (s + p) w) at c)

  pub repeats-to-most : (e : ℕ) → e ≤ length w → Repeats w s e p → e ≤ repeats_to w s p
  unfolding repeats_to
  repeats-to-most e i h = go (dec_lt (s + p + common_length_of (drop s w) (drop (s + p) w)) e)
    where
      l : ℕ
      l = common_length_of (drop s w) (drop (s + p) w)

      go : Dec (s + p + l < e) → e ≤ s + p + l
      go (no n) = omega arith
      go (yes y) =
          let z : s + l + p ≡ s + p + l = omega arith in
          let e : get_or w (s + l) 0 ≡ get_or w (s + p + l) 0 = rw z at (h.equal (s + l) (omega arith) (omega arith)) in
          let g = common-agree (drop s w) (drop (s + p) w) in
          absurd (g.differ (rw length-drop (omega arith)) (rw length-drop (omega arith)) (rw (get_or-drop s w, get_or-drop (s + p) w) e))

-- ---- the tests of `is_run`

begins-test : (w : List ℕ) (s e p : ℕ) → Repeats w s e p → s + p ≤ e → Decides (0 < s → ¬ Repeats w (s - 1) e p) (begins_at w s p)
unfolding begins_at
begins-test w zero e p h l = holds (λ z. absurd (omega arith))
begins-test w (suc s) e p h l =
    decides-map (λ n z k. n (k.equal s (omega arith) (omega arith))) (λ n z. n (omega arith) (record { equal = longer z }))
    (decides_not (eqb-test (get_or w s 0) (get_or w (s + p) 0)))
  where
    longer : get_or w s 0 ≡ get_or w (s + p) 0 → (t : ℕ) → suc s - 1 ≤ t → t + p < e → get_or w t 0 ≡ get_or w (t + p) 0
    longer z t a b = near (dec_lt s t)
      where
        near : Dec (s < t) → get_or w t 0 ≡ get_or w (t + p) 0
        near (yes c) = h.equal t c b
        near (no c) = rw (let y : t ≡ s = omega arith in y) z

repeats-test : (w : List ℕ) (s e : ℕ) → e ≤ length w → (q : ℕ) → Decides (Repeats w s e q) (leb e (repeats_to w s q))
repeats-test w s e i q =
    decides-map (λ l. repeats-part {s = s} {e = repeats_to w s q} (omega arith) l (repeats-to w s q)) (repeats-to-most w s q e i) (leb-test e (repeats_to w s q))

smallest-test : (w : List ℕ) (s e p : ℕ) → e ≤ length w → 0 < p → Repeats w s e p
    → Decides ((q : ℕ) → 0 < q → q < p → ¬ Repeats w s e q) (eqb (least (λ q. leb e (repeats_to w s q)) p 1) p)
smallest-test w s e p i o h = go (least-is (Repeats w s e) (λ q. leb e (repeats_to w s q)) (repeats-test w s e i) p 1)
  where
    go : {n : ℕ} → Least (Repeats w s e) p 1 n → Decides ((q : ℕ) → 0 < q → q < p → ¬ Repeats w s e q) (eqb n p)
    go (never f) = absurd (f p o (omega arith) h)
    go {n} (found k a b f) = decides-map (λ z q c l. f q c (omega arith)) (λ g. neither-less (λ l. g n a l k) (λ l. omega arith)) (eqb-test n p)

pub run-test : (w : List ℕ) (s p : ℕ) → 0 < p → s + p ≤ length w → Decides (Run w s (repeats_to w s p) p) (is_run w s p)
unfolding is_run
run-test w s p o i =
    decides-map (λ h. make h.0 h.1.0 h.1.1) (λ r. (r.twice, (r.left, r.smallest))) (decides_and (leb-test (s + 2 * p) (repeats_to w s p))
    (decides_and (begins-test w s (repeats_to w s p) p (repeats-to w s p) (repeats-to-from w s p))
    (smallest-test w s (repeats_to w s p) p (repeats-to-inside w s p i) o (repeats-to w s p))))
  where
    make : s + 2 * p ≤ repeats_to w s p → (0 < s → ¬ Repeats w (s - 1) (repeats_to w s p) p) → ((q : ℕ) → 0 < q → q < p → ¬ Repeats w s (repeats_to w s p) q)
        → Run w s (repeats_to w s p) p
    make t l m = record {
      inside = repeats-to-inside w s p i;
      positive = o;
      repeats = repeats-to w s p;
      smallest = m;
      twice = t;
      left = l;
      right = λ b h. omega (arith, repeats-to-most w s p (repeats_to w s p + 1) (omega arith) h);
    }
