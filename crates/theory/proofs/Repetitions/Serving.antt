-- THEOREM served, serves-one. Every run has a place that serves it, and no other does: the place after its first one if the period is 1; else the one among
-- its first places at which the longest Lyndon word of an order has the period as its length, the order being that in which the run breaks off (the inverse
-- one, if the run ends the word). What is found at a place is the run that the place serves (serves-found, found-serves): so a place serves one run at
-- most.
use Rattle.std.specs.Prelude.{◌≡◌, refl, ◌⊎◌, ℕ, ◌+◌, ◌-◌, ◌≤◌, ◌<◌, length, drop, get_or}
use Rattle.std.proofs.Common.{ap, sym, ◌∙◌, inl, inr, arith}
use mathlib.Core.List.Memᴰ
use mathlib.Core.List.{List, [], ◌∷◌, Memᴰ}
use Rattle.std.proofs.Math.Decide.{dec_lt, ℕ_discrete}
use Rattle.theory.specs.Orders.CommonLength.{agree-unique}
use Rattle.words.specs.Runs.{Triple, repeats_to}
use Rattle.theory.specs.RunStatements.{Repeats, Run, IsRun}
use Rattle.theory.specs.Repetitions.RepeatsTo.{repeats-part, repeats-to, repeats-to-from, repeats-to-inside, repeats-to-most}
use Rattle.theory.specs.Repetitions.RunsMap.{repeats-to-map}
use Rattle.theory.proofs.Repetitions.RunsMap.{run-map}
use Rattle.theory.specs.Repetitions.RunSuffixes.{entry_at, same-letter, repeats-at, EndsUp}
use Rattle.theory.proofs.Repetitions.RunSuffixes.{run-breaks, run-begins, run_agree, root-entry, entry-ends-up, one-root, entry-smallest}
use Rattle.theory.specs.Repetitions.Roots.{root}
use Rattle.theory.specs.Repetitions.TwoOrders.{UpTo, reversed, reversed-length, reversed-at, reversed-apart, longer_entry}
use Rattle.theory.proofs.Repetitions.TwoOrders.{entry-last, LongestIs, falls, rises, letter, longest-is-of, longest-inside}
use Rattle.theory.specs.Repetitions.Found.{AgreesLeft, agree-left-is, agree-left-unique, left_of, Candidate, candidate_run, found_with, FoundWith, one, none, found-with, found-one, found_period, period-same, period-other, found_at}
use Rattle.theory.specs.Repetitions.Serving.{Serves, by-inverse, by-letter, by-natural}

-- ---- how far a run goes from a place

module _ {w : List ℕ} {s e p i : ℕ} (r : Run w s e p) (a : s < i) (b : i ≤ s + p) where
  run-repeats-to : repeats_to w i p ≡ e
  unfolding repeats_to
  run-repeats-to = omega (arith, agree-unique (drop i w) (drop (i + p) w) (e - i - p) (run_agree r i (omega arith) (omega (arith, r.twice))), r.twice)

  run-left : left_of w i p ≡ i - s
  run-left = sym (agree-left-unique w p (p + 1) i (i - s) (record {
    equals = record { inside = omega arith; equal = λ t x y. repeats-at r.repeats t (t + p) (omega arith) refl (omega (arith, r.twice)) };
    near = omega arith;
    stops = λ x y z. run-begins r (omega arith) (same-letter w (let q : s - 1 ≡ i - (i - s) - 1 = omega arith in q)
        ∙ (z ∙ same-letter w (let q : i - (i - s) - 1 + p ≡ s - 1 + p = omega arith in q)));
  }))

  -- the letter before i is the last one of the word there
  run-before : get_or w (i - 1) 0 ≡ get_or w (i + p - 1) 0
  run-before = repeats-at r.repeats (i - 1) (i + p - 1) (omega arith) (omega arith) (omega (arith, r.twice, r.positive))

  found-run : (get_or w (i - 1) 0 ≤ get_or w i 0) ⊎ (e < length w) → found_with w i p ≡ (s, e, p) ∷ []
  found-run c = found-one w i p (record {
    some = omega (arith, run-left);
    near = omega (arith, run-left);
    twice = omega (arith, run-left, run-repeats-to, r.twice);
    counts = rw run-repeats-to c;
  }) ∙ ap (λ (q : Triple). q ∷ []) (three (omega (arith, run-left)) run-repeats-to)
    where
      three : {x y x' y' : ℕ} → x ≡ x' → y ≡ y' → ◌≡◌ {A = Triple} (x, y, p) (x', y', p)
      three h k = λ j. (h j, k j, p)

module _ (m : ℕ) (w : List ℕ) (b : UpTo m w) where
  reversed-run : {s e p : ℕ} → Run w s e p → Run (reversed m w) s e p
  reversed-run r = run-map (λ a. m - a) w (reversed-apart m w b) r

  -- ---- every run is served

  inverse-served : {s e p : ℕ} → Run w s e p → 1 < p → EndsUp w e p → (i : ℕ) × Serves m w (s, e, p) i
  inverse-served r h u = let q = root r in (q.0, by-inverse h q.1.after q.1.upto (root-entry r q.1.after q.1.upto u q.1.word))

  natural-served : {s e p : ℕ} → Run w s e p → 1 < p → e < length w → get_or w e 0 < get_or w (e - p) 0 → (i : ℕ) × Serves m w (s, e, p) i
  natural-served {s} {e} {p} r h l k =
      let x : Run (reversed m w) s e p = reversed-run r in
      let q = root x in
      let up : EndsUp (reversed m w) e p = λ n. omega (arith, reversed-at m w e l, reversed-at m w (e - p) (omega arith), b (e - p)) in
      (q.0, by-natural h q.1.after q.1.upto (root-entry x q.1.after q.1.upto up q.1.word) l)

  pub served : (r : Triple) → IsRun w r → (i : ℕ) × Serves m w r i
  served r x = go (ℕ_discrete r.2 1) (dec_lt r.1 (length w)) (dec_lt (get_or w (r.1 - r.2) 0) (get_or w r.1 0))
    where
      go : Dec (r.2 ≡ 1) → Dec (r.1 < length w) → Dec (get_or w (r.1 - r.2) 0 < get_or w r.1 0) → (i : ℕ) × Serves m w r i
      go (yes e) d k = (r.0 + 1, by-letter e refl)
      go (no e) (no l) k = inverse-served x (omega (arith, x.positive)) (λ h. absurd (l h))
      go (no e) (yes l) (yes k) = inverse-served x (omega (arith, x.positive)) (λ h. k)
      go (no e) (yes l) (no k) = let d = run-breaks x l in natural-served x (omega (arith, x.positive)) l (omega arith)

  -- ---- by one place only

  not-both-orders : {s e p i j : ℕ} → Run w s e p → s < i → i ≤ s + p → s < j → j ≤ s + p → entry_at w i ≡ p → entry_at (reversed m w) j ≡ p → e < length w → ⊥
  not-both-orders {s} {e} {p} {i} {j} r a k c d x y l =
      let up = entry-ends-up r a k x l in
      let down = entry-ends-up (reversed-run r) c d y (rw (reversed-length m w) l) in
      omega (arith, up, down, reversed-at m w e l, reversed-at m w (e - p) (omega arith))

  pub serves-one : (r : Triple) (i j : ℕ) → IsRun w r → Serves m w r i → Serves m w r j → i ≡ j
  serves-one r i j x (by-letter e z) (by-letter f y) = omega arith
  serves-one r i j x (by-letter e z) (by-inverse o a k n) = absurd (omega arith)
  serves-one r i j x (by-letter e z) (by-natural o a k n l) = absurd (omega arith)
  serves-one r i j x (by-inverse o a k n) (by-letter e z) = absurd (omega arith)
  serves-one r i j x (by-natural o a k n l) (by-letter e z) = absurd (omega arith)
  serves-one r i j x (by-inverse o a k n) (by-inverse p c d q) = one-root x i j a k c d n q
  serves-one r i j x (by-natural o a k n l) (by-natural p c d q h) = one-root (reversed-run x) i j a k c d n q
  serves-one r i j x (by-inverse o a k n) (by-natural p c d q h) = absurd (not-both-orders x a k c d n q h)
  serves-one r i j x (by-natural o a k n l) (by-inverse p c d q) = absurd (not-both-orders x c d a k q n l)

  pub serves-inside : (r : Triple) (i : ℕ) → IsRun w r → Serves m w r i → (0 < i) × (i < length w)
  serves-inside r i x (by-letter e z) = (omega arith, omega (arith, x.twice, x.inside))
  serves-inside r i x (by-inverse o a k n) = (omega arith, omega (arith, x.twice, x.inside))
  serves-inside r i x (by-natural o a k n l) = (omega arith, omega (arith, x.twice, x.inside))

  -- ---- what a place serves is found there

  longest-inverse : (i p : ℕ) → i < length w → 1 < p → entry_at w i ≡ p → longer_entry m w i ≡ p
  longest-inverse i p l o e = go (longest-is-of m w b i l)
    where
      go : LongestIs m w b i → longer_entry m w i ≡ p
      go (falls z h k) = z ∙ e
      go (rises z h k) = absurd (omega arith)
      go (letter z h k) = absurd (omega arith)

  longest-natural : (i p : ℕ) → i < length w → 1 < p → entry_at (reversed m w) i ≡ p → longer_entry m w i ≡ p
  longest-natural i p l o e = go (longest-is-of m w b i l)
    where
      go : LongestIs m w b i → longer_entry m w i ≡ p
      go (falls z h k) = absurd (omega arith)
      go (rises z h k) = z ∙ e
      go (letter z h k) = absurd (omega arith)

  pub serves-found : (r : Triple) (i : ℕ) → IsRun w r → Serves m w r i → found_at m w i ≡ r ∷ []
  serves-found r i x (by-letter e z) =
      let same : get_or w (i - 1) 0 ≡ get_or w i 0 = repeats-at x.repeats (i - 1) i (omega arith) (omega arith) (omega (arith, x.twice)) in
      let p : found_period m w i ≡ r.2 = period-same m w i same ∙ sym e in
      rw p (found-run x (omega arith) (omega arith) (inl (omega arith)))
  serves-found r i x (by-inverse o a k n) =
      let l : i < length w = omega (arith, x.twice, x.inside) in
      let last : get_or w (i + r.2 - 1) 0 < get_or w i 0 = rw n at (entry-last w i l (rw n o)) in
      let before : get_or w (i - 1) 0 ≡ get_or w (i + r.2 - 1) 0 = run-before x a k in
      let p : found_period m w i ≡ r.2 = period-other m w i (λ z. omega arith) ∙ longest-inverse i r.2 l o n in
      rw p (found-run x a k (inl (omega arith)))
  serves-found r i x (by-natural o a k n h) =
      let l : i < length w = omega (arith, x.twice, x.inside) in
      let v : i < length (reversed m w) = rw (reversed-length m w) l in
      let last : get_or (reversed m w) (i + r.2 - 1) 0 < get_or (reversed m w) i 0 = rw n at (entry-last (reversed m w) i v (rw n o)) in
      let before : get_or w (i - 1) 0 ≡ get_or w (i + r.2 - 1) 0 = run-before x a k in
      let differ : ¬ (get_or w (i - 1) 0 ≡ get_or w i 0)
      = λ z. omega (arith, reversed-at m w i l, reversed-at m w (i + r.2 - 1) (omega (arith, x.twice, x.inside))) in
      let p : found_period m w i ≡ r.2 = period-other m w i differ ∙ longest-natural i r.2 l o n in
      rw p (found-run x a k (inr h))

  -- ---- what is found at a place is a run that it serves

  module _ (i p : ℕ) (l : i < length w) (d : i + p ≤ length w) (c : Candidate w i p) where
    left : AgreesLeft w p (p + 1) i (left_of w i p)
    left = agree-left-is w p (p + 1) i

    candidate-before : get_or w (i - 1) 0 ≡ get_or w (i - 1 + p) 0
    candidate-before = left.equals.equal (i - 1) (omega (arith, c.some)) (omega (arith, c.some, left.equals.inside))

    candidate-repeats : Repeats w (i - left_of w i p) (repeats_to w i p) p
    candidate-repeats = record { equal = λ t x y. go t x y (dec_lt t i) }
      where
        go : (t : ℕ) → i - left_of w i p ≤ t → t + p < repeats_to w i p → Dec (t < i) → get_or w t 0 ≡ get_or w (t + p) 0
        go t x y (yes h) = left.equals.equal t x h
        go t x y (no h) = (repeats-to w i p).equal t (omega arith) y

    candidate-run : ((q : ℕ) → 0 < q → q < p → ¬ Repeats w (i - left_of w i p) (repeats_to w i p) q) → IsRun w (candidate_run w i p)
    candidate-run smallest = record {
      inside = repeats-to-inside w i p d;
      positive = omega (arith, c.some, c.near);
      repeats = candidate-repeats;
      smallest = smallest;
      twice = omega (arith, c.twice, left.equals.inside);
      left = λ h g.
          left.stops (omega arith) (omega (arith, c.near))
          (g.equal (i - left_of w i p - 1) (omega arith) (omega (arith, c.twice, left.equals.inside)));
      right = λ h g.
          let e : repeats_to w i p + 1 ≤ repeats_to w i p
          = repeats-to-most w i p (repeats_to w i p + 1) (omega arith) (repeats-part (omega arith) (omega arith) g) in
          omega arith;
    }

  -- after the same letter
  same-serves : (i : ℕ) → 0 < i → i < length w → Candidate w i 1 → IsRun w (candidate_run w i 1) × Serves m w (candidate_run w i 1) i
  same-serves i o l c = (
    candidate-run i 1 l (omega arith) c (λ q x y. absurd (omega arith)),
    by-letter refl (omega (arith, c.some, c.near, (agree-left-is w 1 2 i).equals.inside)),
  )

  -- after another letter
  other-serves : (i : ℕ) → i < length w → ¬ (get_or w (i - 1) 0 ≡ get_or w i 0) → Candidate w i (longer_entry m w i)
      → IsRun w (candidate_run w i (longer_entry m w i)) × Serves m w (candidate_run w i (longer_entry m w i)) i
  other-serves i l n c = go (longest-is-of m w b i l)
    where
      p : ℕ
      p = longer_entry m w i

      s : ℕ
      s = i - left_of w i p

      e : ℕ
      e = repeats_to w i p

      d : i + p ≤ length w
      d = (longest-inside m w b i l).1

      before : get_or w (i - 1) 0 ≡ get_or w (i + p - 1) 0
      before =
          let z : i - 1 + p ≡ i + p - 1 = omega (arith, c.some, (agree-left-is w p (p + 1) i).equals.inside) in
          candidate-before i p l d c ∙ same-letter w z

      after : s < i
      after = omega (arith, c.some, (agree-left-is w p (p + 1) i).equals.inside)

      upto : i ≤ s + p
      upto = omega (arith, c.near, (agree-left-is w p (p + 1) i).equals.inside)

      -- its last letter is not its first
      long : ¬ (get_or w (i + p - 1) 0 ≡ get_or w i 0) → 1 < p
      long h = near (dec_lt 1 p)
        where
          near : Dec (1 < p) → 1 < p
          near (yes k) = k
          near (no k) = absurd (h (same-letter w (omega (arith, (longest-inside m w b i l).0))))

      ends : (get_or w (i - 1) 0 ≤ get_or w i 0) ⊎ (e < length w) → get_or w i 0 < get_or w (i + p - 1) 0 → e < length w
      ends (inl h) k = absurd (omega (arith, before))
      ends (inr h) k = h

      go : LongestIs m w b i → IsRun w (candidate_run w i p) × Serves m w (candidate_run w i p) i
      go (letter z h k) = absurd (n (before ∙ same-letter w (omega arith)))
      go (falls z h k) =
          let smallest : (q : ℕ) → 0 < q → q < p → ¬ Repeats w s e q
          = λ q x y. entry-smallest w s e i l (omega (arith, after)) (omega (arith, repeats-to-from w i p)) q x (omega arith) in
          (candidate-run i p l d c smallest, by-inverse (long (λ y. omega arith)) after upto (sym z))
      go (rises z h k) =
          let v : i < length (reversed m w) = rw (reversed-length m w) l in
          let smallest : (q : ℕ) → 0 < q → q < p → ¬ Repeats w s e q
          = λ q x y g. entry-smallest (reversed m w) s e i v (omega (arith, after)) (omega (arith, repeats-to-from w i p)) q x (omega arith)
          (repeats-to-map (λ a. m - a) w (repeats-to-inside w i p d) g) in
          (candidate-run i p l d c smallest, by-natural (long (λ y. omega arith)) after upto (sym z) (ends c.counts k))

  pub found-serves : (r : Triple) (i : ℕ) → 0 < i → i < length w → Memᴰ r (found_at m w i) → IsRun w r × Serves m w r i
  found-serves r i o l h = go (ℕ_discrete (get_or w (i - 1) 0) (get_or w i 0))
    where
      is : (p : ℕ) → FoundWith w i p (found_with w i p) → Memᴰ r (found_with w i p)
          → (Candidate w i p → IsRun w (candidate_run w i p) × Serves m w (candidate_run w i p) i)
          → IsRun w r × Serves m w r i
      is p f x g = view f x
        where
          view : {rs : List Triple} → FoundWith w i p rs → Memᴰ r rs → IsRun w r × Serves m w r i
          view (one c) y = rw (Memᴰ.eq_of_singleton y) (g c)
          view (none n) y = absurd (Memᴰ.not-nil y)

      go : Dec (get_or w (i - 1) 0 ≡ get_or w i 0) → IsRun w r × Serves m w r i
      go (yes e) = is 1 (found-with w i 1) (rw (period-same m w i e) at h) (same-serves i o l)
      go (no n) = is (longer_entry m w i) (found-with w i (longer_entry m w i)) (rw (period-other m w i n) at h) (other-serves i l n)
