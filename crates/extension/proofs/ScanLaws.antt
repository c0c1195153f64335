-- The scan's loop and the walk along its table, over plain lists; and the verdict that they come to.
use mathlib.Core.Path.{◌≡◌, refl, sym, subst, ◌∙◌}
use mathlib.Core.List.{List}
use Prim.Native.Nat.{ℕ, suc, ◌+◌, ◌-◌, ◌≤◌, ◌<◌}
use native.Mathlib.Numerals.{add-one}
use native.Mathlib.Omega.{arith}
use lib.ListN.{length, drop, get_or, set, length-set}
use lib.Seq.{drop-set-lt}
use Rattle.std.specs.Prelude.{None, Some}
use Rattle.words.specs.Words.{InverseLyndon}
use Rattle.theory.specs.Orders.Decisions.{true-decides, false-decides}
use Rattle.theory.specs.Lyndon.WordTests.{inverse-lyndon-test}
use Rattle.theory.specs.Icfl.Failing.{Failing, failing-unique, failing-not}
use Rattle.theory.specs.Icfl.BorderLength.{prefix-length}
use Rattle.theory.specs.Scan.Scanned.{Scanned, Stops}
use Rattle.theory.specs.Scan.Scanned.{scanned-one, scanned-whole, scanned-failing}
use Rattle.theory.specs.Scan.ScannedBorders.{Table, ShortestBorder}
use Rattle.theory.specs.Scan.ScannedBorders.{table-set, scanned-border, Walk, walk-on, walk-stops, walk_ends, shortest-border-length}
use Rattle.scan.specs.declared.Scan.{Scan}
use Rattle.scan.specs.State.{start_state, step_state}
use Rattle.scan.proofs.StateLaws.{stepped}
use Rattle.extension.specs.Extension.{verdict_of, TestRoom, Scanning, Ready}

-- ---- the scan

pub record Going (w work₀ work : List ℕ) (s : Scan) : Type 0 where
  pub scanned : Scanned w s.length s.border
  pub table : Table w work (s.length - 1)
  pub kept : drop (length w) work ≡ drop (length w) work₀
  pub long : length work ≡ length work₀

pub scan-starts : (w work : List ℕ) (s : Scan) → TestRoom w work → s ≡ start_state → Going w work work s
scan-starts w work s f e = rw e (record { scanned = scanned-one w f.nonempty; table = λ k l. absurd (omega arith); kept = refl; long = refl })

pub scan-goes-on : {w work₀ work : List ℕ} {s : Scan} (t : Scan) {n : ℕ} → Going w work₀ work s → s.length ≡ n → TestRoom w work₀ → n < length w
    → get_or w n 0 ≤ get_or w s.border 0 → t ≡ step_state s (get_or w n 0) (get_or w s.border 0)
    → Going w work₀ (set work (n - 1) s.border) t × (t.length ≡ n + 1)
scan-goes-on {w} {work₀} {work} {s} t {n} g here f l m e =
    let step = subst (λ (k : ℕ). t ≡ step_state s (get_or w k 0) (get_or w s.border 0)) (sym here) e in
    let a = stepped w s t g.scanned (rw here l) (rw here m) step in
    let b : t.length - 1 ≡ suc (n - 1) = omega (arith, g.scanned.shorter, a.longer, here) in
    let d : suc (n - 1) ≡ s.length = omega (arith, g.scanned.shorter, here) in
    let c : n - 1 ≡ s.length - 1 = omega (arith, here) in (
      record {
        scanned = a.scanned;
        table = rw b (table-set w work (n - 1) s.border (rw c g.table) (omega (arith, g.long, f.entries, l)) (rw d g.scanned));
        kept = drop-set-lt (length w) work (n - 1) s.border (omega (arith, l)) ∙ g.kept;
        long = length-set work (n - 1) s.border ∙ g.long;
      },
      rw (← here) a.longer,
    )

pub scan-stops : {w work₀ work : List ℕ} {s : Scan} → Going w work₀ work s → Stops w s.length s.border → Scanning w work₀ s work
scan-stops g h = record { rests = record { scanned = g.scanned; stops = h }; table = g.table; kept = g.kept }

-- ---- the walk

-- what the table has for the border k of the first n letters
pub table-entry : (w t : List ℕ) (n k : ℕ) → Table w t (n - 1) → 0 < k → k < n → Scanned w k (get_or t (k - 1) 0)
table-entry w t n k h p l = subst (λ (m : ℕ). Scanned w m (get_or t (k - 1) 0)) (let e : suc (k - 1) ≡ k = omega arith in e) (h (k - 1) (omega arith))

module _ (w t : List ℕ) (n b : ℕ) (r : Ready w t n b) where
  pub walk-starts : Walk w n b
  walk-starts = record { border = scanned-border r.scanned; below = r.above }

  module _ (k : ℕ) (x : Walk w n k) (p : 0 < k) where
    pub entry : Scanned w k (get_or t (k - 1) 0)
    entry = table-entry w t n k r.borders p x.border.shorter

    pub walk-further : get_or w (get_or t (k - 1) 0) 0 < get_or w n 0 → Walk w n (get_or t (k - 1) 0)
    walk-further h = walk-on r.scanned.inside x entry h

    pub walk-found : get_or w n 0 ≤ get_or w (get_or t (k - 1) 0) 0 → ShortestBorder w n k
    walk-found h = walk-stops r.scanned.inside r.scanned.word x entry h

  pub walk_none : (k : ℕ) → Walk w n k → k ≤ 0 → ShortestBorder w n k
  walk_none k x l = let e : k ≡ 0 = omega arith in rw e (walk_ends (rw e at x))

-- ---- the verdict

pub verdict-whole : (w : List ℕ) (n b : ℕ) → Scanned w n b → length w ≤ n → None ≡ verdict_of w
unfolding verdict_of
verdict-whole w n b s l =
    let k : InverseLyndon w = scanned-whole s (omega (arith, s.inside)) in
    rw (true-decides (inverse-lyndon-test w) k)

pub verdict-fails : (w : List ℕ) (n b r : ℕ) → Scanned w n b → n < length w → get_or w b 0 < get_or w n 0 → ShortestBorder w n r
    → Some (record { failing = n + 1; prefix = n - r; border = r }) ≡ verdict_of w
unfolding verdict_of
verdict-fails w n b r s l h y =
    let x : Failing w (suc n) = scanned-failing s l h in
    let z : suc n - r - 1 ≡ n - r = omega arith in
    rw (false-decides (inverse-lyndon-test w) (failing-not x), prefix-length w, failing-unique w (suc n) x, shortest-border-length w n r x y, z, add-one n)
