-- Strict pieces inside a part of a record. THEOREM strict-inside: between two strict ends of a record stand as many strict pieces as that part has when it is
-- cut alone. Consecutive strict pieces are the strict pieces of their own product (separated-cfl-in-infix).
--   inside-split, inside-some, inside-all, inside-few     how many of rising ends lie after one place and not after another
use Rattle.std.specs.Prelude.{◌≡◌, refl, Bool, true, false, ◌⊎◌, ℕ, suc, ◌+◌, ◌-◌, ◌≤◌, ◌<◌, length}
use Rattle.std.proofs.Common.{ap, ◌∙◌, inl, inr, le_refl, arith, length-append}
use mathlib.Core.List.Memᴰ
use mathlib.Core.List.{List, [], ◌∷◌, ◌++◌, flatten, Memᴰ}
use Rattle.std.proofs.Math.Decide.{dec_le}
use Rattle.words.specs.Factorizations.{ends_from}
use Rattle.theory.specs.Statements.{Linked}
use Rattle.theory.specs.Orders.Decisions.{Decides, holds, fails, leb-test, decides_and}
use Rattle.theory.specs.Places.EndsRise.{Rises, done, more, ends-rise, rises-most}
use Rattle.theory.specs.Places.FirstSuffixes.{Boundary, start, later}
use Rattle.theory.specs.Places.LinkedLaws.{linked-before, linked-after}
use Rattle.words.specs.Pairs.{ends_inside}
use Rattle.theory.specs.Stretches.StretchEnds.{ends-append}

-- ---- how many ends lie after i and not after j

-- what one end more makes of n
data OneMore (i j s n : ℕ) : ℕ → Type 0 where
  counted : i < s → s ≤ j → OneMore i j s n (suc n)
  left_out : (i < s → s ≤ j → ⊥) → OneMore i j s n n

one_more : (i j s : ℕ) (ss : List ℕ) → OneMore i j s (ends_inside i j ss) (ends_inside i j (s ∷ ss))
unfolding ends_inside
one_more i j s ss = go (decides_and (leb-test (suc i) s) (leb-test s j))
  where
    n : ℕ
    n = ends_inside i j ss

    go : {t : Bool} → Decides ((i < s) × (s ≤ j)) t → OneMore i j s n (elim t [ true ↦ suc n | false ↦ n ])
    go (holds h) = counted h.0 h.1
    go (fails h) = left_out (λ p q. h (p, q))

pub inside-split : (i j k : ℕ) → i ≤ j → j ≤ k → (ss : List ℕ) → ends_inside i k ss ≡ ends_inside i j ss + ends_inside j k ss
unfolding ends_inside
inside-split i j k l h [] = refl
inside-split i j k l h (s ∷ ss) = go (one_more i k s ss) (one_more i j s ss) (one_more j k s ss) (inside-split i j k l h ss) (dec_le s j)
  where
    go : {a b c x y z : ℕ} → OneMore i k s a x → OneMore i j s b y → OneMore j k s c z → a ≡ b + c → Dec (s ≤ j) → x ≡ y + z
    go (counted p q) (counted r t) (counted u v) e d = absurd (omega arith)
    go (counted p q) (counted r t) (left_out u) e d = omega arith
    go (counted p q) (left_out r) (counted u v) e d = omega arith
    go (counted p q) (left_out r) (left_out u) e (yes m) = absurd (r p m)
    go (counted p q) (left_out r) (left_out u) e (no m) = absurd (u (omega arith) q)
    go (left_out p) (counted r t) z e d = absurd (p r (omega arith))
    go (left_out p) (left_out r) (counted u v) e d = absurd (p (omega arith) v)
    go (left_out p) (left_out r) (left_out u) e d = e

inside-append : (i j : ℕ) (ss ts : List ℕ) → ends_inside i j (ss ++ ts) ≡ ends_inside i j ss + ends_inside i j ts
unfolding ends_inside
inside-append i j [] ts = omega arith
inside-append i j (s ∷ ss) ts = go (one_more i j s (ss ++ ts)) (one_more i j s ss) (inside-append i j ss ts)
  where
    c : ℕ
    c = ends_inside i j ts

    go : {a b x y : ℕ} → OneMore i j s a x → OneMore i j s b y → a ≡ b + c → x ≡ y + c
    go (counted p q) (counted r t) e = omega arith
    go (counted p q) (left_out r) e = absurd (r p q)
    go (left_out p) (counted r t) e = absurd (p r t)
    go (left_out p) (left_out r) e = e

pub inside-none : (i : ℕ) (ss : List ℕ) → ends_inside i i ss ≡ 0
unfolding ends_inside
inside-none i [] = refl
inside-none i (s ∷ ss) = go (one_more i i s ss) (inside-none i ss)
  where
    go : {a x : ℕ} → OneMore i i s a x → a ≡ 0 → x ≡ 0
    go (counted p q) e = absurd (omega arith)
    go (left_out p) e = e

pub inside-some : (i j : ℕ) (ss : List ℕ) {e : ℕ} → Memᴰ e ss → i < e → e ≤ j → 0 < ends_inside i j ss
inside-some i j [] m l h = absurd (Memᴰ.not-nil m)
inside-some i j (s ∷ ss) {e} m l h = go (one_more i j s ss) (Memᴰ.cases_cons m) (λ x. inside-some i j ss x l h)
  where
    go : {a x : ℕ} → OneMore i j s a x → (e ≡ s) ⊎ Memᴰ e ss → (Memᴰ e ss → 0 < a) → 0 < x
    go (counted p q) d next = omega arith
    go (left_out p) (inl z) next = absurd (p (omega arith) (omega arith))
    go (left_out p) (inr y) next = next y

-- of ends that rise from b to n: all where they lie between i and j, none where they lie before or after, at most one for each place
pub inside-all : {n b : ℕ} {ss : List ℕ} → Rises n b ss → (i j : ℕ) → i ≤ b → n ≤ j → ends_inside i j ss ≡ length ss
unfolding ends_inside
inside-all (done z) i j l h = refl
inside-all {n} (more {b = b} {e = s} {es = ss} k r) i j l h = go (one_more i j s ss) (inside-all r i j (omega arith) h)
  where
    go : {a x : ℕ} → OneMore i j s a x → a ≡ length ss → x ≡ suc (length ss)
    go (counted p q) e = ap suc e
    go (left_out p) e = absurd (p (omega arith) (omega (arith, rises-most r)))

inside-before : {n b : ℕ} {ss : List ℕ} → Rises n b ss → (i j : ℕ) → n ≤ i → ends_inside i j ss ≡ 0
unfolding ends_inside
inside-before (done z) i j l = refl
inside-before {n} (more {b = b} {e = s} {es = ss} k r) i j l = go (one_more i j s ss) (inside-before r i j l)
  where
    go : {a x : ℕ} → OneMore i j s a x → a ≡ 0 → x ≡ 0
    go (counted p q) e = absurd (omega (arith, rises-most r))
    go (left_out p) e = e

inside-after : {n b : ℕ} {ss : List ℕ} → Rises n b ss → (i j : ℕ) → j ≤ b → ends_inside i j ss ≡ 0
unfolding ends_inside
inside-after (done z) i j l = refl
inside-after {n} (more {b = b} {e = s} {es = ss} k r) i j l = go (one_more i j s ss) (inside-after r i j (omega arith))
  where
    go : {a x : ℕ} → OneMore i j s a x → a ≡ 0 → x ≡ 0
    go (counted p q) e = absurd (omega arith)
    go (left_out p) e = e

inside-fewer : {n b : ℕ} {ss : List ℕ} → Rises n b ss → (i j m : ℕ) → (m ≤ i) ⊎ (m ≤ b) → ends_inside i j ss ≤ j - m
unfolding ends_inside
inside-fewer (done z) i j m l = omega arith
inside-fewer {n} (more {b = b} {e = s} {es = ss} k r) i j m l =
    go (one_more i j s ss) l (inside-fewer r i j s (inr (le_refl s))) (inside-fewer r i j i (inl (le_refl i)))
  where
    go : {a x : ℕ} → OneMore i j s a x → (m ≤ i) ⊎ (m ≤ b) → a ≤ j - s → a ≤ j - i → x ≤ j - m
    go (counted p q) (inl h) c d = omega arith
    go (counted p q) (inr h) c d = omega arith
    go (left_out p) (inl h) c d = omega arith
    go (left_out p) (inr h) c d = omega arith

pub inside-few : {n b : ℕ} {ss : List ℕ} → Rises n b ss → (i j : ℕ) → ends_inside i j ss ≤ j - i
inside-few r i j = inside-fewer r i j i (inl (le_refl i))

-- ---- a list of words, parted at two boundaries

pub record Parted (i : ℕ) (ls : List (List ℕ)) : Type 0 where
  pub before : List (List ℕ)
  pub after : List (List ℕ)
  pub whole : before ++ after ≡ ls
  pub size : length (flatten before) ≡ i

pub parted : {i : ℕ} {ls : List (List ℕ)} → Boundary i ls → Parted i ls
unfolding flatten
parted {ls = ls} start = record { before = []; after = ls; whole = refl; size = refl }
parted (later {m = m} b) =
    let q = parted b in
    record {
      before = m ∷ q.before;
      after = q.after;
      whole = ap (λ (t : List (List ℕ)). m ∷ t) q.whole;
      size = rw length-append (omega (arith, q.size));
    }

pub ends-number : (i : ℕ) (ms : List (List ℕ)) → length (ends_from i ms) ≡ length ms
unfolding ends_from
ends-number i [] = refl
ends-number i (m ∷ ms) = ap suc (ends-number (i + length m) ms)

module _ {P : List ℕ → Type 0} {R : List ℕ → List ℕ → Type 0} (nonempty : (m : List ℕ) → P m → 0 < length m) where
  pub infix-count : (xs ms ys : List (List ℕ)) → Linked P R (xs ++ (ms ++ ys)) → (i j : ℕ) → length (flatten xs) ≡ i → i + length (flatten ms) ≡ j
      → ends_inside i j (ends_from 0 (xs ++ (ms ++ ys))) ≡ length ms
  infix-count xs ms ys g i j p q =
      let first : Rises i 0 (ends_from 0 xs) = ends-rise nonempty (linked-before xs (ms ++ ys) g) 0 i (omega (arith, p)) in
      let rest : Linked P R (ms ++ ys) = linked-after xs g in
      let second : Rises j i (ends_from i ms) = ends-rise nonempty (linked-before ms ys rest) i j q in
      let third : Rises (j + length (flatten ys)) j (ends_from j ys) = ends-rise nonempty (linked-after ms rest) j _ refl in
      let ends : ends_from 0 (xs ++ (ms ++ ys)) ≡ ends_from 0 xs ++ (ends_from i ms ++ ends_from j ys)
      = ends-append 0 xs (ms ++ ys) ∙ rw (let z : 0 + length (flatten xs) ≡ i = omega (arith, p) in z, ends-append i ms ys, q) refl in
      rw (ends, inside-append i j (ends_from 0 xs) (ends_from i ms ++ ends_from j ys), inside-append i j (ends_from i ms) (ends_from j ys))
      (omega (arith, inside-before first i j (le_refl i), inside-all second i j (le_refl i) (le_refl j), inside-after third i j (le_refl j), ends-number i ms))
