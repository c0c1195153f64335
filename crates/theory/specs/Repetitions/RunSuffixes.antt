-- A run and the Lyndon table. Where the period breaks off before the word ends, the letter there is larger or smaller than the one a period before; the
-- word's end counts as larger (EndsUp). Just then the suffix one period later comes before (suffix-before, suffix-ends-up), and a place of the run whose
-- first period is an anti-Lyndon word has the period as its entry (root-entry, entry-ends-up). There is at most one such place among the first ones
-- (one-root), and an entry that repeats is the smallest period (entry-smallest).
use Rattle.std.specs.Prelude.{◌≡◌, List, ℕ, ◌+◌, ◌-◌, ◌≤◌, ◌<◌, length, take, drop, get_or}
use Rattle.std.proofs.Common.{ap, sym, ◌∙◌, arith, length-drop, get_or-drop, get_or-take, length-take-le}
use Rattle.std.proofs.Math.Decide.{dec_lt}
use Rattle.words.specs.Words.{AntiLyndon}
use Rattle.words.specs.Factorizations.{lyndon_table}
use Rattle.theory.specs.Lyndon.AntiLyndonLaws.{longest-is, longest-positive}
use Rattle.theory.specs.Table.LyndonTableCflIn.{lyndon-table-at}
use Rattle.theory.specs.RunStatements.{Repeats}

-- the table's entry at i, and the p letters from there on
abbrev pub entry_at : List ℕ → ℕ → ℕ
entry_at w i = get_or (lyndon_table w) i 0

abbrev pub window : List ℕ → ℕ → ℕ → List ℕ
window w i p = take p (drop i w)

pub window-length : (w : List ℕ) (i p : ℕ) → i + p ≤ length w → length (window w i p) ≡ p
window-length w i p l = length-take-le p (drop i w) (rw length-drop (omega arith))

pub window-at : (w : List ℕ) (i p t : ℕ) → t < p → get_or (window w i p) t 0 ≡ get_or w (i + t) 0
window-at w i p t l = get_or-take p (drop i w) t 0 l ∙ get_or-drop i w t 0

-- the same place, written otherwise
pub same-letter : (w : List ℕ) {i j : ℕ} → i ≡ j → get_or w i 0 ≡ get_or w j 0
same-letter w e = ap (λ (k : ℕ). get_or w k 0) e

-- ---- the two ends of a run

pub repeats-at : {w : List ℕ} {s e p : ℕ} → Repeats w s e p → (i j : ℕ) → s ≤ i → j ≡ i + p → j < e → get_or w i 0 ≡ get_or w j 0
repeats-at {w} h i j a z b = h.equal i a (omega arith) ∙ same-letter w (sym z)

pub repeats-more : {w : List ℕ} {s e p : ℕ} → Repeats w s e p → p ≤ e → get_or w (e - p) 0 ≡ get_or w e 0 → Repeats w s (e + 1) p
repeats-more {w} {s} {e} {p} h l k = record { equal = λ t a b. go t a b (dec_lt (t + p) e) }
  where
    go : (t : ℕ) → s ≤ t → t + p < e + 1 → Dec (t + p < e) → get_or w t 0 ≡ get_or w (t + p) 0
    go t a b (yes c) = h.equal t a c
    go t a b (no c) = same-letter w (let z : t ≡ e - p = omega arith in z) ∙ (k ∙ same-letter w (let z : e ≡ t + p = omega arith in z))

pub repeats-before : {w : List ℕ} {s e p : ℕ} → Repeats w s e p → 0 < s → get_or w (s - 1) 0 ≡ get_or w (s - 1 + p) 0 → Repeats w (s - 1) e p
repeats-before {w} {s} {e} {p} h l k = record { equal = λ t a b. go t a b (dec_lt t s) }
  where
    go : (t : ℕ) → s - 1 ≤ t → t + p < e → Dec (t < s) → get_or w t 0 ≡ get_or w (t + p) 0
    go t a b (yes c) = let z : t ≡ s - 1 = omega arith in rw z k
    go t a b (no c) = h.equal t (omega arith) b

-- the letter after the run is larger than the one a period before it, or there is none
abbrev pub EndsUp : List ℕ → ℕ → ℕ → Type 0
EndsUp w e p = e < length w → get_or w (e - p) 0 < get_or w e 0

-- ---- entries of the table

pub entry-anti-lyndon : (w : List ℕ) (i : ℕ) → i < length w → AntiLyndon (window w i (entry_at w i))
entry-anti-lyndon w i l = rw (lyndon-table-at w i l) ((longest-is (drop i w)).word (longest-positive (drop i w) (rw length-drop (omega arith))))
