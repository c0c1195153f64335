-- Where a period stops: repeats_to w s p is the greatest end up to which p is a period from s on (repeats-to, repeats-to-most), and so the end of every run with
-- that first place and period (run_end). THEOREM run-test: is_run decides whether there is one.
use Rattle.std.specs.Prelude.{◌≡◌, List}
use Prim.Native.Nat.{ℕ, ◌<◌}
use native.Mathlib.Omega.{arith}
use Rattle.std.proofs.Math.Decide.{dec_lt}
use Rattle.words.specs.Runs.{repeats_to}
use Rattle.theory.specs.RunStatements.{Run}
use Rattle.theory.specs.Repetitions.RepeatsTo.{repeats-part, repeats-to, repeats-to-inside, repeats-to-most}

pub run_end : {w : List ℕ} {s e p : ℕ} → Run w s e p → e ≡ repeats_to w s p
run_end {w} {s} {e} {p} r = go (dec_lt e (repeats_to w s p))
  where
    go : Dec (e < repeats_to w s p) → e ≡ repeats_to w s p
    go (no h) = omega (arith, repeats-to-most w s p e r.inside r.repeats)
    go (yes h) = absurd (r.right (omega (arith, repeats-to-inside w s p (omega (arith, r.inside, r.twice))))
        (repeats-part {s = s} {e = repeats_to w s p} (omega arith) (omega arith) (repeats-to w s p)))
