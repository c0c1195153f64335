-- A step of the state is one letter more of the scan (stepped), so a loop that steps comes nearer to the word's end (nearer). The letters that are still to
-- be read (left-count, left-at).
use mathlib.Core.Path.{◌≡◌, refl}
use mathlib.Core.Bool.{Bool, true, false}
use mathlib.Core.List.{List}
use Prim.Native.Nat.{ℕ, suc, ◌+◌, ◌-◌, ◌≤◌, ◌<◌}
use native.Mathlib.Numerals.{add-one}
use native.Mathlib.Omega.{arith}
use lib.ListN.{length, get_or, length-drop}
use lib.Seq.{get_or-drop}
use Rattle.buffers.proofs.PartLaws.{rest, rest-is}
use Rattle.theory.specs.Orders.Decisions.{Decides, holds, fails, eqb-test}
use Rattle.theory.specs.Scan.Scanned.{Scanned}
use Rattle.theory.specs.Scan.Scanned.{scanned-same, scanned-less}
use Rattle.scan.specs.declared.Scan.{Scan}
use Rattle.scan.specs.State.{step_state}

pub record Stepped (w : List ℕ) (s t : Scan) : Type 0 where
  pub scanned : Scanned w t.length t.border
  pub longer : t.length ≡ s.length + 1

pub stepped : (w : List ℕ) (s t : Scan) → Scanned w s.length s.border → s.length < length w → get_or w s.length 0 ≤ get_or w s.border 0
    → t ≡ step_state s (get_or w s.length 0) (get_or w s.border 0) → Stepped w s t
unfolding step_state
stepped w s t h l m e = rw e (record { scanned = rw (add-one s.length) (go (eqb-test (get_or w s.length 0) (get_or w s.border 0))); longer = refl })
  where
    go : {x : Bool} → Decides (get_or w s.length 0 ≡ get_or w s.border 0) x → Scanned w (suc s.length) (elim x [ true ↦ s.border + 1 | false ↦ 0 ])
    go (holds z) = rw (add-one s.border) (scanned-same h l z)
    go (fails z) = scanned-less h l (omega arith)

pub nearer : (n : ℕ) (s t : Scan) (a b : ℕ) → s.length < n → t ≡ step_state s a b → n - t.length < n - s.length
unfolding step_state
nearer n s t a b l e = rw e (omega arith)

-- the letters from a place on: how many, and which
pub left-count : (w : List ℕ) (a : ℕ) → length (rest a w) ≡ length w - a
left-count w a = rw (rest-is a w) (length-drop a w)

pub left-at : (w : List ℕ) (a i k : ℕ) → k ≡ a + i → get_or (rest a w) i 0 ≡ get_or w k 0
left-at w a i k e = rw (rest-is a w, e) (get_or-drop a w i 0)
