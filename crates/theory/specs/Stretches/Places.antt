-- Places of a record by its first stretch: a place lies in it, at its separator or after that (Spot), and so do the letters, the slices, the boundaries and the
-- parts of a list of words that is made stretch by stretch.
use Rattle.std.specs.Prelude.{◌≡◌, refl, ◌⊎◌, ℕ, suc, ◌+◌, ◌-◌, ◌≤◌, ◌<◌, length, take, drop, get_or}
use Rattle.std.proofs.Common.{ap, subst, ◌∙◌, inl, inr, arith, length-append, get_or-append-add, get_or-take, get_or-drop}
use mathlib.Core.List.{List, [], ◌∷◌, ◌++◌, flatten}
use Rattle.std.proofs.Math.Decide.{dec_lt}
use Rattle.std.proofs.Math.Seq.{slice, take-append-add, drop-append-add}
use Rattle.std.proofs.lemmas.List.{take-append-le, get_or_at}
use Rattle.words.specs.Factorizations.{ends_from}
use Rattle.theory.specs.Statements.{Adjacent, here, there, Part}
use Rattle.theory.specs.Places.FirstSuffixes.{Boundary, start, later, boundary-inside}
use Rattle.theory.specs.Places.Ends.{start-boundary, adjacent-cases, adjacent-one, adjacent-right}
use Rattle.words.specs.Separated.{separator, mark, Unmarked}
use Rattle.theory.specs.Stretches.Unmarked.{unmarked-at}

-- a place of v ++ b ∷ u, or past it
pub data Spot (v : List ℕ) (i : ℕ) : Type 0 where
  before : i < length v → Spot v i
  at : i ≡ length v → Spot v i
  after : (k : ℕ) → i ≡ length v + suc k → Spot v i

pub spot : (v : List ℕ) (i : ℕ) → Spot v i
spot v i = go (dec_lt i (length v)) (dec_lt (length v) i)
  where
    go : Dec (i < length v) → Dec (length v < i) → Spot v i
    go (yes h) d = before h
    go (no h) (yes k) = after (i - suc (length v)) (omega arith)
    go (no h) (no k) = at (omega arith)

pub letter-after : (v w : List ℕ) (k : ℕ) → get_or (v ++ separator ∷ w) (length v + suc k) 0 ≡ get_or w k 0
letter-after v w k = get_or-append-add v (separator ∷ w) (suc k) 0

-- ---- slices

pub slice-before : (v u : List ℕ) (i j : ℕ) → j ≤ length v → slice i j (v ++ u) ≡ slice i j v
slice-before v u i j l = ap (drop i) (take-append-le j v u l)

pub slice-after : (v w : List ℕ) (i j : ℕ) → slice (length v + suc i) (length v + suc j) (v ++ separator ∷ w) ≡ slice i j w
slice-after v w i j = ap (drop (length v + suc i)) (take-append-add v (separator ∷ w) (suc j)) ∙ drop-append-add v (separator ∷ take j w) (suc i)

-- a slice over the separator holds it
pub slice_over : (v w : List ℕ) (i k : ℕ) → i ≤ length v → ¬ Unmarked (slice i (length v + suc k) (v ++ separator ∷ w))
slice_over v w i k l u =
    let z : i + (length v - i) ≡ length v = omega arith in
    unmarked-at _ u (length v - i) (
    get_or-drop i (take (length v + suc k) (v ++ separator ∷ w)) (length v - i) 0
    ∙ (rw z (get_or-take (length v + suc k) (v ++ separator ∷ w) (length v) 0 (omega arith))
    ∙ get_or_at v separator w 0 (length v) refl))

-- ---- boundaries of xs, a separator and ns

pub boundary-split : (xs ns : List (List ℕ)) {e : ℕ} → Boundary e (xs ++ mark ∷ ns)
    → Boundary e xs ⊎ ((k : ℕ) × (e ≡ length (flatten xs) + suc k) × Boundary k ns)
unfolding flatten
boundary-split [] ns start = inl start
boundary-split [] ns (later {i = k} b) = inr (k, omega arith, b)
boundary-split (x ∷ xs) ns start = inl start
boundary-split (x ∷ xs) ns (later {i = e} b) = go (boundary-split xs ns b)
  where
    go : Boundary e xs ⊎ ((k : ℕ) × (e ≡ length (flatten xs) + suc k) × Boundary k ns)
        → Boundary (length x + e) (x ∷ xs) ⊎ ((k : ℕ) × (length x + e ≡ length (x ++ flatten xs) + suc k) × Boundary k ns)
    go (inl c) = inl (later c)
    go (inr q) = inr (q.0, rw length-append (omega (arith, q.1)), q.2)

pub boundary-before : (xs ns : List (List ℕ)) {e : ℕ} → Boundary e xs → Boundary e (xs ++ ns)
boundary-before xs ns start = start
boundary-before (x ∷ xs) ns (later b) = later (boundary-before xs ns b)

pub boundary-after : (xs ns : List (List ℕ)) (k : ℕ) → Boundary k ns → Boundary (length (flatten xs) + suc k) (xs ++ mark ∷ ns)
unfolding flatten
boundary-after [] ns k b = subst (λ (e : ℕ). Boundary e (mark ∷ ns)) (let z : length mark + k ≡ 0 + suc k = omega arith in z) (later b)
boundary-after (x ∷ xs) ns k b =
    let z : length (x ++ flatten xs) + suc k ≡ length x + (length (flatten xs) + suc k) = rw length-append (omega arith) in
    rw z (later (boundary-after xs ns k b))

-- ---- neighbouring ends, from b on

-- those of xs ++ ns are those of xs, and of ns from where xs ends
adjacent-split : (b : ℕ) (xs ns : List (List ℕ)) {i j : ℕ} → Adjacent i j (b ∷ ends_from b (xs ++ ns))
    → Adjacent i j (b ∷ ends_from b xs) ⊎ Adjacent i j ((b + length (flatten xs)) ∷ ends_from (b + length (flatten xs)) ns)
unfolding ends_from flatten
adjacent-split b [] ns x = inr (rw (let z : b + 0 ≡ b = omega arith in z) x)
adjacent-split b (m ∷ xs) ns {i} {j} x = go (adjacent-cases x) (λ y. adjacent-split (b + length m) xs ns y)
  where
    c : ℕ
    c = b + length m + length (flatten xs)

    same : b + length (m ++ flatten xs) ≡ c
    same = rw length-append (omega arith)

    near : Adjacent i j ((b + length m) ∷ ends_from (b + length m) xs) ⊎ Adjacent i j (c ∷ ends_from c ns)
        → Adjacent i j (b ∷ (b + length m) ∷ ends_from (b + length m) xs) ⊎ Adjacent i j ((b + length (m ++ flatten xs)) ∷ ends_from (b + length (m ++ flatten xs)) ns)
    near (inl p) = inl (there p)
    near (inr p) = inr (rw same p)

    go : ((i ≡ b) × (j ≡ b + length m)) ⊎ Adjacent i j ((b + length m) ∷ ends_from (b + length m) (xs ++ ns))
        → (Adjacent i j ((b + length m) ∷ ends_from (b + length m) (xs ++ ns)) → Adjacent i j ((b + length m) ∷ ends_from (b + length m) xs) ⊎ Adjacent i j (c ∷ ends_from c ns))
        → Adjacent i j (b ∷ (b + length m) ∷ ends_from (b + length m) xs) ⊎ Adjacent i j ((b + length (m ++ flatten xs)) ∷ ends_from (b + length (m ++ flatten xs)) ns)
    go (inl e) next = inl (rw (e.0, e.1) here)
    go (inr y) next = near (next y)

pub adjacent-past : (b : ℕ) (xs ns : List (List ℕ)) {i j : ℕ} → Adjacent i j ((b + length (flatten xs)) ∷ ends_from (b + length (flatten xs)) ns)
    → Adjacent i j (b ∷ ends_from b (xs ++ ns))
unfolding ends_from flatten
adjacent-past b [] ns x = rw (let z : b + 0 ≡ b = omega arith in z) at x
adjacent-past b (m ∷ xs) ns x =
    let z : b + length (m ++ flatten xs) ≡ b + length m + length (flatten xs) = rw length-append (omega arith) in
    there (adjacent-past (b + length m) xs ns (rw z at x))

-- the same c places later, and back
pub adjacent-later : (c b : ℕ) (ms : List (List ℕ)) {i j : ℕ} → Adjacent i j (b ∷ ends_from b ms) → Adjacent (c + i) (c + j) ((c + b) ∷ ends_from (c + b) ms)
unfolding ends_from
adjacent-later c b [] x = absurd (adjacent-one x)
adjacent-later c b (m ∷ ms) {i} {j} x = go (adjacent-cases x) (λ y. adjacent-later c (b + length m) ms y)
  where
    z : c + (b + length m) ≡ c + b + length m
    z = omega arith

    go : ((i ≡ b) × (j ≡ b + length m)) ⊎ Adjacent i j ((b + length m) ∷ ends_from (b + length m) ms)
        → (Adjacent i j ((b + length m) ∷ ends_from (b + length m) ms) → Adjacent (c + i) (c + j) ((c + (b + length m)) ∷ ends_from (c + (b + length m)) ms))
        → Adjacent (c + i) (c + j) ((c + b) ∷ (c + b + length m) ∷ ends_from (c + b + length m) ms)
    go (inl e) next = rw (e.0, e.1, z) here
    go (inr y) next = there (rw z at (next y))

adjacent-earlier : (c b : ℕ) (ms : List (List ℕ)) {i j : ℕ} → Adjacent i j ((c + b) ∷ ends_from (c + b) ms)
    → (i' : ℕ) × (j' : ℕ) × (i ≡ c + i') × (j ≡ c + j') × Adjacent i' j' (b ∷ ends_from b ms)
unfolding ends_from
adjacent-earlier c b [] x = absurd (adjacent-one x)
adjacent-earlier c b (m ∷ ms) {i} {j} x = go (adjacent-cases x) (λ y. adjacent-earlier c (b + length m) ms (rw z y))
  where
    z : c + (b + length m) ≡ c + b + length m
    z = omega arith

    go : ((i ≡ c + b) × (j ≡ c + b + length m)) ⊎ Adjacent i j ((c + b + length m) ∷ ends_from (c + b + length m) ms)
        → (Adjacent i j ((c + b + length m) ∷ ends_from (c + b + length m) ms)
        → (i' : ℕ) × (j' : ℕ) × (i ≡ c + i') × (j ≡ c + j') × Adjacent i' j' ((b + length m) ∷ ends_from (b + length m) ms))
        → (i' : ℕ) × (j' : ℕ) × (i ≡ c + i') × (j ≡ c + j') × Adjacent i' j' (b ∷ (b + length m) ∷ ends_from (b + length m) ms)
    go (inl e) next = (b, b + length m, e.0, omega (arith, e.1), here)
    go (inr y) next = let q = next y in (q.0, q.1, q.2, q.3, there q.4)

-- ---- parts of xs, a separator and ns, where xs has n letters

pub data PartAt (xs ns : List (List ℕ)) (n i j : ℕ) : Type 0 where
  inside : Part (ends_from 0 xs) i j → PartAt xs ns n i j
  between : i ≡ n → j ≡ n + 1 → PartAt xs ns n i j
  beyond : (i' j' : ℕ) → i ≡ n + suc i' → j ≡ n + suc j' → Part (ends_from 0 ns) i' j' → PartAt xs ns n i j

pub part-split : (xs ns : List (List ℕ)) (n : ℕ) {i j : ℕ} → length (flatten xs) ≡ n → Part (ends_from 0 (xs ++ mark ∷ ns)) i j → PartAt xs ns n i j
unfolding ends_from
part-split xs ns n {i} {j} size x = go (adjacent-split 0 xs (mark ∷ ns) x)
  where
    near : ((i ≡ n) × (j ≡ n + 1)) ⊎ Adjacent i j ((n + 1) ∷ ends_from (n + 1) ns) → PartAt xs ns n i j
    near (inl e) = between e.0 e.1
    near (inr y) =
        let q = adjacent-earlier (n + 1) 0 ns {i = i} {j = j} (rw (let z : n + 1 + 0 ≡ n + 1 = omega arith in z) y) in
        beyond q.0 q.1 (omega (arith, q.2)) (omega (arith, q.3)) q.4

    go : Adjacent i j (0 ∷ ends_from 0 xs) ⊎ Adjacent i j ((0 + length (flatten xs)) ∷ ends_from (0 + length (flatten xs)) (mark ∷ ns)) → PartAt xs ns n i j
    go (inl p) = inside p
    go (inr p) = near (adjacent-cases (rw (let z : 0 + length (flatten xs) ≡ n = omega arith in z) at p))

module _ (xs ns : List (List ℕ)) {n i j : ℕ} (size : length (flatten xs) ≡ n) where
  pub part-bound : Part (ends_from 0 xs) i j → j ≤ n
  part-bound x = omega (arith, boundary-inside (start-boundary xs (adjacent-right x)), size)

  -- a part that ends by n; one that begins past n
  pub part-inside : PartAt xs ns n i j → j ≤ n → Part (ends_from 0 xs) i j
  part-inside (inside x) l = x
  part-inside (between p q) l = absurd (omega arith)
  part-inside (beyond i' j' p q x) l = absurd (omega arith)

  pub part-beyond : PartAt xs ns n i j → n < i → i < j → (i' : ℕ) × (j' : ℕ) × (i ≡ n + suc i') × (j ≡ n + suc j') × Part (ends_from 0 ns) i' j'
  part-beyond (inside x) l h = absurd (omega (arith, part-bound x))
  part-beyond (between p q) l h = absurd (omega arith)
  part-beyond (beyond i' j' p q x) l h = (i', j', p, q, x)
