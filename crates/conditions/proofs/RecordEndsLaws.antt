-- Line 10. A list of record ends that passes climbs from 0 to the number of bytes, with equal neighbours allowed (listed); and what the list's
-- length, order and last entry say of it (unlisted, too-many, unsorted, sorted).
use mathlib.Core.Path.{◌≡◌, refl, sym, ◌∙◌}
use mathlib.Core.Bool.{Bool, true, false, not, ◌||◌, true≢false}
use mathlib.Core.List.{List, [], ◌∷◌}
use Prim.Native.Nat.{ℕ, zero, suc, ◌+◌, ◌-◌, ◌≤◌, ◌<◌}
use native.Mathlib.Omega.{arith}
use lib.ListN.{length, get_or}
use lib.Dec.{eqb, ltb}
use borrow.Author.Tests.{ltb-false, le-ltb, lt-ltb, eqb-true, not-false}
use Rattle.std.specs.List.{IsAllAdjacentAnswer}
use Rattle.std.specs.Ordering.{is_le, is_some_and, nat_cmp}
use Rattle.std.specs.Prelude.{Some}
use Rattle.std.proofs.lemmas.List.Sorted.{non_decreasing_from_is_sorted}
use Rattle.conditions.specs.Conditions.{last_of, most_records, falls, are_faulty_record_ends}
use Rattle.conditions.proofs.ConditionLaws.{either-unmet}

-- ---- a list that passes

-- from b on the ends es climb to n
pub data Climbs (n : ℕ) : ℕ → List ℕ → Type 0 where
  done : {b : ℕ} → b ≡ n → Climbs n b []
  more : {b e : ℕ} {es : List ℕ} → b ≤ e → Climbs n e es → Climbs n b (e ∷ es)

pub climbs-head : {n b e : ℕ} {es : List ℕ} → Climbs n b (e ∷ es) → b ≤ e
climbs-head (more h r) = h

pub climbs-tail : {n b e : ℕ} {es : List ℕ} → Climbs n b (e ∷ es) → Climbs n e es
climbs-tail (more h r) = r

pub climbs-most : {n b : ℕ} {es : List ℕ} → Climbs n b es → b ≤ n
climbs-most (done z) = omega arith
climbs-most (more h r) = omega (arith, climbs-most r)

pub record RecordEnds (n : ℕ) (es : List ℕ) : Type 0 where
  pub some : 0 < length es
  pub few : length es ≤ most_records
  pub climbs : Climbs n 0 es

climbing : (n b : ℕ) (es : List ℕ) → falls (b ∷ es) ≡ false → last_of b es ≡ n → Climbs n b es
unfolding falls last_of
climbing n b [] f l = done l
climbing n b (e ∷ es) f l =
    let u = either-unmet (ltb e b) (falls (e ∷ es)) f in
    let h : b ≤ e = ltb-false e b u.0 in
    more h (climbing n e es u.1 l)

pub listed : (es : List ℕ) (n : ℕ) → are_faulty_record_ends es n ≡ false → RecordEnds n es
unfolding are_faulty_record_ends
listed [] n f = absurd (true≢false f)
listed (e ∷ es) n f =
    let u = either-unmet (ltb most_records (length (e ∷ es))) _ f in
    let v = either-unmet (falls (e ∷ es)) _ u.1 in
    record {
      some = omega arith;
      few = ltb-false most_records (length (e ∷ es)) u.0;
      climbs = let h : 0 ≤ e = omega arith in more h (climbing n e es v.0 (eqb-true (last_of e es) n (not-false _ v.1)));
    }

-- ---- what the library's answers on a list say of it

-- whether the ends are sorted, as `is_sorted` answers it
abbrev pub Sorted : List ℕ → Bool → Type 0
Sorted es r = IsAllAdjacentAnswer (λ x y b. is_some_and is_le (Some (nat_cmp x y)) ≡ b) es r

not-falling : (es : List ℕ) → ((k : ℕ) → k + 1 < length es → get_or es k 0 ≤ get_or es (k + 1) 0) → falls es ≡ false
unfolding falls
not-falling [] h = refl
not-falling (a ∷ []) h = refl
not-falling (a ∷ b ∷ es) h =
    rw (le-ltb b a (h 0 (omega arith))) (not-falling (b ∷ es) (λ k l. let z : suc k + 1 ≡ suc (k + 1) = omega arith in rw z at (h (suc k) (omega arith))))

falling : (es : List ℕ) (k : ℕ) → k + 1 < length es → get_or es (k + 1) 0 < get_or es k 0 → falls es ≡ true
unfolding falls
falling [] k l h = absurd (omega arith)
falling (a ∷ []) k l h = absurd (omega arith)
falling (a ∷ b ∷ es) zero l h = rw (lt-ltb b a h) refl
falling (a ∷ b ∷ es) (suc k) l h = either (ltb b a) (falling (b ∷ es) k (omega arith) (let z : suc k + 1 ≡ suc (k + 1) = omega arith in rw z at h))
  where
    either : (t : Bool) {u : Bool} → u ≡ true → (t || u) ≡ true
    either true e = refl
    either false e = e

last-at : (a : ℕ) (es : List ℕ) → last_of a es ≡ get_or (a ∷ es) (length es) 0
unfolding last_of
last-at a [] = refl
last-at a (b ∷ es) = last-at b es

pub unlisted : (es : List ℕ) (n : ℕ) → length es ≤ 0 → true ≡ are_faulty_record_ends es n
unfolding are_faulty_record_ends
unlisted [] n l = refl
unlisted (e ∷ es) n l = absurd (omega arith)

pub too-many : (es : List ℕ) (n : ℕ) → most_records < length es → true ≡ are_faulty_record_ends es n
unfolding are_faulty_record_ends
too-many [] n l = refl
too-many (e ∷ es) n l = rw (lt-ltb most_records (length (e ∷ es)) l) refl

pub unsorted : (es : List ℕ) (n : ℕ) (r : Bool) → length es ≤ most_records → Sorted es r → not r ≡ true → true ≡ are_faulty_record_ends es n
unfolding are_faulty_record_ends
unsorted es n true l s z = absurd (true≢false (sym z))
unsorted [] n false l s z = refl
unsorted (e ∷ es) n false l s z =
    let f = non_decreasing_from_is_sorted (e ∷ es) false s in
    rw (le-ltb most_records (length (e ∷ es)) l, falling (e ∷ es) f.0 f.1 (f.2 0)) refl

pub sorted : (es : List ℕ) (n last : ℕ) (r : Bool) → length es ≤ most_records → Sorted es r → not r ≡ false → 0 < length es
    → last ≡ get_or es (length es - 1) 0 → not (eqb last n) ≡ are_faulty_record_ends es n
unfolding are_faulty_record_ends
sorted es n last false l s z p e = absurd (true≢false z)
sorted [] n last true l s z p e = absurd (omega arith)
sorted (a ∷ es) n last true l s z p e =
    let f = non_decreasing_from_is_sorted (a ∷ es) true s in
    let y : suc (length es) - 1 ≡ length es = omega arith in
    let m : last ≡ last_of a es = e ∙ rw (y, last-at a es) refl in
    rw (le-ltb most_records (length (a ∷ es)) l, not-falling (a ∷ es) (λ k h. f k (k + 1) 0 (omega arith) h), m) refl
