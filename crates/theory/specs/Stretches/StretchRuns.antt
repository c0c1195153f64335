-- A run of a record (SeparatedRun) is a run of its first stretch, or one of what follows the separator, in later places: first_run and run-first, later-run and
-- run-later; it does not go over a separator (run-side). In a word without separators the two kinds of runs are the same (unmarked-run, run-unmarked).
use Rattle.std.specs.Prelude.{◌≡◌, refl, ◌⊎◌, List, ◌∷◌, ◌++◌, ℕ, suc, ◌+◌, ◌-◌, ◌≤◌, ◌<◌, length, get_or}
use Rattle.std.proofs.Common.{ap, ◌∙◌, inl, inr, arith, le_refl, length-append}
use Rattle.std.proofs.Math.Decide.{dec_lt}
use Rattle.std.proofs.Math.ListN.{get_or-append}
use Rattle.std.proofs.Math.Seq.{get_or-append_seam}
use Rattle.words.specs.Separated.{separator, Unmarked}
use Rattle.theory.specs.RunStatements.{Repeats, SeparatedRun}
use Rattle.theory.specs.Stretches.Places.{letter-after}

-- ---- the first stretch

-- w begins with v, and ends there or goes on with a separator
pub record First (v w : List ℕ) : Type 0 where
  pub unmarked : Unmarked v
  pub inside : length v ≤ length w
  pub letters : (t : ℕ) → t < length v → get_or w t 0 ≡ get_or v t 0
  pub stops : length v < length w → get_or w (length v) 0 ≡ separator

pub first-whole : (v : List ℕ) → Unmarked v → First v v
first-whole v u = record { unmarked = u; inside = le_refl _; letters = λ t l. refl; stops = λ l. absurd (omega arith) }

pub first-split : (v w : List ℕ) → Unmarked v → First v (v ++ separator ∷ w)
first-split v w u = record {
  unmarked = u;
  inside = rw length-append (omega arith);
  letters = λ t l. get_or-append v (separator ∷ w) 0 t l;
  stops = λ l. get_or-append_seam v separator w 0;
}

-- ---- past the first separator

module _ (v w : List ℕ) where
  at_after : (t : ℕ) → length v < t → get_or (v ++ separator ∷ w) t 0 ≡ get_or w (t - (length v + 1)) 0
  at_after t l =
      let z : t ≡ length v + suc (t - (length v + 1)) = omega arith in
      ap (λ (n : ℕ). get_or (v ++ separator ∷ w) n 0) z ∙ letter-after v w (t - (length v + 1))

  length-after : length (v ++ separator ∷ w) ≡ length v + 1 + length w
  length-after = rw length-append (omega arith)

  repeats-after : {s e p : ℕ} → Repeats w s e p → Repeats (v ++ separator ∷ w) (length v + 1 + s) (length v + 1 + e) p
  repeats-after {s} {e} {p} h = record { equal = equal-at }
    where
      equal-at : (t : ℕ) → length v + 1 + s ≤ t → t + p < length v + 1 + e → get_or (v ++ separator ∷ w) t 0 ≡ get_or (v ++ separator ∷ w) (t + p) 0
      equal-at t a b =
          let z : t + p - (length v + 1) ≡ t - (length v + 1) + p = omega arith in
          rw (at_after t (omega arith), at_after (t + p) (omega arith), z) (h.equal (t - (length v + 1)) (omega arith) (omega arith))

  after-repeats : {s e p : ℕ} → Repeats (v ++ separator ∷ w) (length v + 1 + s) (length v + 1 + e) p → Repeats w s e p
  after-repeats {s} {e} {p} h = record { equal = equal-at }
    where
      equal-at : (t : ℕ) → s ≤ t → t + p < e → get_or w t 0 ≡ get_or w (t + p) 0
      equal-at t a b =
          let y : length v + 1 + t - (length v + 1) ≡ t = omega arith in
          let z : length v + 1 + t + p - (length v + 1) ≡ t + p = omega arith in
          rw (at_after (length v + 1 + t) (omega arith), at_after (length v + 1 + t + p) (omega arith), y, z) at
          (h.equal (length v + 1 + t) (omega arith) (omega arith))

  pub later-run : {s e p : ℕ} → SeparatedRun w s e p → SeparatedRun (v ++ separator ∷ w) (length v + 1 + s) (length v + 1 + e) p
  later-run {s} {e} {p} r = record {
    inside = omega (arith, length-after, r.inside);
    positive = r.positive;
    unmarked = λ t a b k. r.unmarked (t - (length v + 1)) (omega arith) (omega arith) (rw (at_after t (omega arith)) at k);
    repeats = repeats-after r.repeats;
    smallest = λ q o l h. r.smallest q o l (after-repeats h);
    twice = omega (arith, r.twice);
    left = λ o n h. begins n h (dec_lt 0 s);
    right = λ l n h. ends (omega (arith, length-after, l)) n h;
  }
    where
      begins : ¬ (get_or (v ++ separator ∷ w) (length v + 1 + s - 1) 0 ≡ separator) → Repeats (v ++ separator ∷ w) (length v + 1 + s - 1) (length v + 1 + e) p
          → Dec (0 < s) → ⊥
      begins n h (yes y) =
          let z : length v + 1 + s - 1 ≡ length v + 1 + (s - 1) = omega arith in
          let k : length v + 1 + (s - 1) - (length v + 1) ≡ s - 1 = omega arith in
          r.left y (λ m. n (rw (z, at_after (length v + 1 + (s - 1)) (omega arith), k) m)) (after-repeats (rw z at h))
      begins n h (no y) = let z : length v + 1 + s - 1 ≡ length v = omega arith in n (rw z (get_or-append_seam v separator w 0))

      ends : e < length w → ¬ (get_or (v ++ separator ∷ w) (length v + 1 + e) 0 ≡ separator)
          → Repeats (v ++ separator ∷ w) (length v + 1 + s) (length v + 1 + e + 1) p → ⊥
      ends l n h =
          let z : length v + 1 + e + 1 ≡ length v + 1 + (e + 1) = omega arith in
          let k : length v + 1 + e - (length v + 1) ≡ e = omega arith in
          r.right l (λ m. n (rw (at_after (length v + 1 + e) (omega arith), k) m)) (after-repeats (rw z at h))

  pub run-later : {s e p : ℕ} → SeparatedRun (v ++ separator ∷ w) (length v + 1 + s) (length v + 1 + e) p → SeparatedRun w s e p
  run-later {s} {e} {p} r = record {
    inside = omega (arith, length-after, r.inside);
    positive = r.positive;
    unmarked = λ t a b k. r.unmarked (length v + 1 + t) (omega arith) (omega arith) (letter t ∙ k);
    repeats = after-repeats r.repeats;
    smallest = λ q o l h. r.smallest q o l (repeats-after h);
    twice = omega (arith, r.twice);
    left = λ o n h. begins o n h;
    right = λ l n h. ends l n h;
  }
    where
      letter : (t : ℕ) → get_or (v ++ separator ∷ w) (length v + 1 + t) 0 ≡ get_or w t 0
      letter t = at_after (length v + 1 + t) (omega arith) ∙ ap (λ (n : ℕ). get_or w n 0) (let z : length v + 1 + t - (length v + 1) ≡ t = omega arith in z)

      begins : 0 < s → ¬ (get_or w (s - 1) 0 ≡ separator) → Repeats w (s - 1) e p → ⊥
      begins o n h =
          let z : length v + 1 + s - 1 ≡ length v + 1 + (s - 1) = omega arith in
          r.left (omega arith) (λ m. n (rw (z, letter (s - 1)) at m)) (rw z (repeats-after h))

      ends : e < length w → ¬ (get_or w e 0 ≡ separator) → Repeats w s (e + 1) p → ⊥
      ends l n h =
          let z : length v + 1 + e + 1 ≡ length v + 1 + (e + 1) = omega arith in
          r.right (omega (arith, length-after)) (λ m. n (rw (letter e) at m)) (rw z (repeats-after h))

  pub run-side : {s e p : ℕ} → SeparatedRun (v ++ separator ∷ w) s e p → (e ≤ length v) ⊎ (length v < s)
  run-side {s} {e} r = go (dec_lt (length v) e) (dec_lt (length v) s)
    where
      go : Dec (length v < e) → Dec (length v < s) → (e ≤ length v) ⊎ (length v < s)
      go (no h) d = inl (omega arith)
      go (yes h) (yes k) = inr k
      go (yes h) (no k) = absurd (r.unmarked (length v) (omega arith) h (get_or-append_seam v separator w 0))
