-- Suffixes of a product of two words, and two factorizations of one word.
--   begins m s j          the suffix of m ++ s at j begins in m or in s
--   overlap x y e         of two first factors x and y of one word, y is a prefix of x or reaches past it
--   dominated-at, dominated     domination by places, the suffixes being drop i m
use Rattle.std.specs.Prelude.{◌≡◌, refl, ◌⊎◌, ℕ, ◌+◌, ◌-◌, ◌≤◌, ◌<◌, length, take, drop}
use Rattle.std.proofs.Common.{ap, ◌∙◌, inl, inr, zero-le, arith, length-append, length-drop, take-append-drop, length-take-le}
use mathlib.Core.List.{List, [], ◌∷◌, ◌++◌, head-eq_of_cons-eq, tail-eq_of_cons-eq}
use Rattle.std.proofs.Math.Decide.{dec_lt}
use Rattle.std.proofs.Math.Seq.{drop-append-add, drop-append_seam}
use Rattle.std.proofs.lemmas.List.{drop-append-le}
use Rattle.words.specs.Words.{◌≪◌, ◌⊑◌, done, step, InverseLyndon}
use Rattle.theory.specs.Statements.{DominatedBy, Next, end, by, Linked}

pub data Begins (m s : List ℕ) (j : ℕ) : Type 0 where
  first : j < length m → drop j (m ++ s) ≡ drop j m ++ s → Begins m s j
  second : (k : ℕ) → j ≡ length m + k → drop j (m ++ s) ≡ drop k s → Begins m s j

pub begins : (m s : List ℕ) (j : ℕ) → Begins m s j
begins m s j = go (dec_lt j (length m))
  where
    go : Dec (j < length m) → Begins m s j
    go (yes h) = first h (drop-append-le j m s (omega arith))
    go (no h) =
        let e : j ≡ length m + (j - length m) = omega arith in
        second (j - length m) e (ap (λ (n : ℕ). drop n (m ++ s)) e ∙ drop-append-add m s (j - length m))

-- y reaches past x by a nonempty word
pub record Past (x u y v : List ℕ) : Type 0 where
  pub over : List ℕ
  pub nonempty : 0 < length over
  pub is : y ≡ x ++ over
  pub rest : u ≡ over ++ v

pub overlap : (x y : List ℕ) {u v : List ℕ} → x ++ u ≡ y ++ v → (y ⊑ x) ⊎ Past x u y v
overlap x [] e = inl done
overlap [] (b ∷ y) e = inr (record { over = b ∷ y; nonempty = omega arith; is = refl; rest = e })
overlap (a ∷ x) (b ∷ y) {u} {v} e = go (overlap x y (tail-eq_of_cons-eq e))
  where
    go : (y ⊑ x) ⊎ Past x u y v → ((b ∷ y) ⊑ (a ∷ x)) ⊎ Past (a ∷ x) u (b ∷ y) v
    go (inl p) = inl (rw (head-eq_of_cons-eq e) (step p))
    go (inr q) = inr (record { over = q.over; nonempty = q.nonempty; is = cc (head-eq_of_cons-eq e, q.is); rest = q.rest })

-- ---- a statement on the nonempty suffixes from place n on, by parts and by places

pub by_parts : (P : List ℕ → Type 0) (w : List ℕ) (n : ℕ) → ((i : ℕ) → n ≤ i → i < length w → P (drop i w))
    → (u s : List ℕ) → u ++ s ≡ w → n ≤ length u → 0 < length s → P s
by_parts P w n f u s e p q =
    let z : drop (length u) w ≡ s = rw (← e) (drop-append_seam u s) in
    rw z at (f (length u) p (omega (arith, simp length-append at (ap length e))))

pub by-places : (P : List ℕ → Type 0) (w : List ℕ) (n : ℕ) → ((u s : List ℕ) → u ++ s ≡ w → n ≤ length u → 0 < length s → P s)
    → (i : ℕ) → n ≤ i → i < length w → P (drop i w)
by-places P w n f i p l = f (take i w) (drop i w) (take-append-drop i w) (rw (length-take-le i w (omega arith)) p) (rw length-drop (omega arith))

-- ---- domination

abbrev pub Dominated : List (List ℕ) → Type 0
Dominated ms = Linked InverseLyndon DominatedBy ms

pub dominated-at : {m n : List ℕ} → DominatedBy m n → (i : ℕ) → i < length m → drop i m ≪ n
dominated-at {m} {n} d i l = by-places (λ s. s ≪ n) m 0 (λ u s e p. d u s e) i zero-le l

pub dominated : {m n : List ℕ} → ((i : ℕ) → i < length m → drop i m ≪ n) → DominatedBy m n
dominated {m} {n} f u s e l = by_parts (λ s. s ≪ n) m 0 (λ i p. f i) u s e zero-le l

-- a suffix of a dominated word is dominated
pub next-suffix : (s : List ℕ) {t : List ℕ} {ns : List (List ℕ)} → Next DominatedBy (s ++ t) ns → Next DominatedBy t ns
next-suffix s end = end
next-suffix s {t} (by {n = n} d) =
    by (dominated (λ i h. rw drop-append-add at (dominated-at {m = s ++ t} d (length s + i) (rw length-append (omega arith)))))
