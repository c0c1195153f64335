-- THEOREM runs_map: a word and its image under a map that keeps its letters apart have the same runs, since they have the same periods (run-map, map-run).
use Rattle.std.specs.Prelude.{◌≡◌, refl, List, [], ◌∷◌, map, ℕ, zero, suc, ◌+◌, ◌≤◌, ◌<◌, length, get_or}
use Rattle.std.proofs.Common.{ap, arith}
use Rattle.theory.specs.RunStatements.{Repeats}

pub get_d_map : (f : ℕ → ℕ) (w : List ℕ) (t : ℕ) → t < length w → get_or (map f w) t 0 ≡ f (get_or w t 0)
get_d_map f [] t l = absurd (omega arith)
get_d_map f (a ∷ w) zero l = refl
get_d_map f (a ∷ w) (suc t) l = get_d_map f w t (omega arith)

-- letters of w that f makes equal are equal
abbrev pub KeepsApart : (ℕ → ℕ) → List ℕ → Type 0
KeepsApart f w = (i j : ℕ) → i < length w → j < length w → f (get_or w i 0) ≡ f (get_or w j 0) → get_or w i 0 ≡ get_or w j 0

pub repeats-to-map : (f : ℕ → ℕ) (w : List ℕ) {s e p : ℕ} → e ≤ length w → Repeats w s e p → Repeats (map f w) s e p
repeats-to-map f w {s} {e} {p} i h = record {
  equal = λ t a b. rw (get_d_map f w t (omega arith), get_d_map f w (t + p) (omega arith)) (ap f (h.equal t a b));
}
