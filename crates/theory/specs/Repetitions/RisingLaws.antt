-- Lists in which each element has a relation to all that come later, and the numbers that pass a test. Two such lists with the same members are equal
-- (rising-unique).
use Rattle.std.specs.Prelude.{◌≡◌, refl, ◌⊎◌, Bool, true, false, ℕ, zero, suc, ◌+◌, ◌≤◌, ◌<◌}
use Rattle.std.proofs.Common.{sym, subst, ◌∙◌, inl, inr, arith}
use mathlib.Core.List.Memᴰ
use mathlib.Core.List.{
  List,
  ◌∷◌,
  ◌++◌,
  map,
  Memᴰ,
}
use Rattle.std.proofs.lemmas.Bool.{false≢true}
use Rattle.std.proofs.Math.Decide.{dec_lt}
use Rattle.words.specs.Runs.{select}
use Rattle.theory.specs.RunStatements.{Rising, none, more}

-- ---- rising lists

pub rising-append : {A : Type 0} {R : A → A → Type 0} {xs ys : List A} → Rising R xs → Rising R ys → ((x y : A) → Memᴰ x xs → Memᴰ y ys → R x y)
    → Rising R (xs ++ ys)
rising-append none b h = b
rising-append {A} {R} {ys = ys} (more {x = x} {xs = xs} f a) b h =
    more (λ y m. go y (Memᴰ.append_cases xs m)) (rising-append a b (λ u v m n. h u v (Memᴰ.tail m) n))
  where
    go : (y : A) → Memᴰ y xs ⊎ Memᴰ y ys → R x y
    go y (inl m) = f y m
    go y (inr m) = h x y (Memᴰ.head refl) m

pub rising-map : {A B : Type 0} {R : A → A → Type 0} {S : B → B → Type 0} {xs : List A} (f : A → B) → ((x y : A) → R x y → S (f x) (f y)) → Rising R xs
    → Rising S (map f xs)
rising-map f k none = none
rising-map {S = S} f k (more {x = x} {xs = xs} h r) =
    more (λ y m. let q = Memᴰ.of_map f xs m in subst (λ z. S (f x) z) q.2 (k x q.0 (h q.0 q.1))) (rising-map f k r)

module _ {A : Type 0} {R : A → A → Type 0} (irreflexive : (x : A) → ¬ R x x) (asymmetric : (x y : A) → R x y → ¬ R y x) where
  pub rising-unique : {xs ys : List A} → Rising R xs → Rising R ys → ((x : A) → Memᴰ x xs → Memᴰ x ys)
      → ((x : A) → Memᴰ x ys → Memᴰ x xs) → xs ≡ ys
  rising-unique none none f g = refl
  rising-unique none (more {x = y} h s) f g = absurd (Memᴰ.not-nil (g y (Memᴰ.head refl)))
  rising-unique (more {x = x} h r) none f g = absurd (Memᴰ.not-nil (f x (Memᴰ.head refl)))
  rising-unique (more {x = x} {xs = xs} h r) (more {x = y} {xs = ys} k s) f g =
      let e : x ≡ y = first (Memᴰ.cases_cons (f x (Memᴰ.head refl))) (Memᴰ.cases_cons (g y (Memᴰ.head refl))) in
      let t : xs ≡ ys = rising-unique r s (λ z m. rest-f z m e (Memᴰ.cases_cons (f z (Memᴰ.tail m))))
      (λ z m. rest-g z m e (Memᴰ.cases_cons (g z (Memᴰ.tail m)))) in
      cc
    where
      first : (x ≡ y) ⊎ Memᴰ x ys → (y ≡ x) ⊎ Memᴰ y xs → x ≡ y
      first (inl e) n = e
      first (inr m) (inl e) = sym e
      first (inr m) (inr n) = absurd (asymmetric x y (h y n) (k x m))

      rest-f : (z : A) → Memᴰ z xs → x ≡ y → (z ≡ y) ⊎ Memᴰ z ys → Memᴰ z ys
      rest-f z m e (inl q) = absurd (irreflexive x (subst (λ (u : A). R x u) (q ∙ sym e) (h z m)))
      rest-f z m e (inr n) = n

      rest-g : (z : A) → Memᴰ z ys → x ≡ y → (z ≡ x) ⊎ Memᴰ z xs → Memᴰ z xs
      rest-g z m e (inl q) = absurd (irreflexive y (subst (λ (u : A). R y u) (q ∙ e) (k z m)))
      rest-g z m e (inr n) = n

-- ---- the numbers that pass a test

pub record Selected (test : ℕ → Bool) (k i j : ℕ) : Type 0 where
  pub passes : test j ≡ true
  pub from : i ≤ j
  pub below : j < i + k

pub select_in : (test : ℕ → Bool) (k i : ℕ) {j : ℕ} → Memᴰ j (select test k i) → Selected test k i j
unfolding select
select_in test zero i m = absurd (Memᴰ.not-nil m)
select_in test (suc k) i {j} m = go (test i) refl m (λ x. select_in test k (suc i) x)
  where
    up : Selected test k (suc i) j → Selected test (suc k) i j
    up s = record { passes = s.passes; from = omega (arith, s.from); below = omega (arith, s.below) }

    near : test i ≡ true → (j ≡ i) ⊎ Memᴰ j (select test k (suc i)) → (Memᴰ j (select test k (suc i)) → Selected test k (suc i) j)
        → Selected test (suc k) i j
    near e (inl z) next = record { passes = rw z e; from = omega arith; below = omega arith }
    near e (inr x) next = up (next x)

    go : (t : Bool) → test i ≡ t → Memᴰ j (elim t [ true ↦ i ∷ select test k (suc i) | false ↦ select test k (suc i) ])
        → (Memᴰ j (select test k (suc i)) → Selected test k (suc i) j) → Selected test (suc k) i j
    go true e x next = near e (Memᴰ.cases_cons x) next
    go false e x next = up (next x)

pub in-select : (test : ℕ → Bool) (k i j : ℕ) → Selected test k i j → Memᴰ j (select test k i)
unfolding select
in-select test zero i j s = absurd (omega (arith, s.from, s.below))
in-select test (suc k) i j s =
    go (test i) refl (dec_lt i j) (λ c. in-select test k (suc i) j (record { passes = s.passes; from = c; below = omega (arith, s.below) }))
  where
    go : (t : Bool) → test i ≡ t → Dec (i < j) → (i < j → Memᴰ j (select test k (suc i)))
        → Memᴰ j (elim t [ true ↦ i ∷ select test k (suc i) | false ↦ select test k (suc i) ])
    go true e (yes c) next = Memᴰ.tail (next c)
    go true e (no c) next = Memᴰ.head {x = i} (omega (arith, s.from))
    go false e (yes c) next = next c
    go false e (no c) next = absurd (false≢true (sym e ∙ (rw (let z : i ≡ j = omega (arith, s.from) in z) s.passes)))

pub select-rising : (test : ℕ → Bool) (k i : ℕ) → Rising (λ (x y : ℕ). x < y) (select test k i)
unfolding select
select-rising test zero i = none
select-rising test (suc k) i = go (test i) (select-rising test k (suc i))
  where
    go : (t : Bool) → Rising (λ (x y : ℕ). x < y) (select test k (suc i))
        → Rising (λ (x y : ℕ). x < y) (elim t [ true ↦ i ∷ select test k (suc i) | false ↦ select test k (suc i) ])
    go true r = more (λ y m. (select_in test k (suc i) m).from) r
    go false r = r
