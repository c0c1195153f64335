-- A reader reads what is printed (Reads): what it finds is good and was printed so, and of a good value it finds just that value, where what follows lets
-- it stop. So there is one text for each good value (reads-one). Here for numbers (number-reads), with what happens at each byte of one.
use mathlib.Core.Path.{◌≡◌, refl, ap, sym, ◌∙◌}
use mathlib.Core.List.{List, [], ◌∷◌, ◌++◌, append_assoc, append-nil}
use Prim.Native.Nat.{ℕ, ◌+◌, ◌-◌, ◌*◌, ◌/◌, ◌%◌, ◌≤◌, ◌<◌}
use native.Mathlib.Decide.{dec_lt, ℕ_discrete}
use native.Mathlib.Omega.{arith}
use borrow.Author.Tests.{lt-ltb, le-ltb, ne_eqb}
use Rattle.text.specs.Text.{decimal}
use Rattle.text.specs.Reading.{Read, nothing, found, Reader, most_number, digit_value, digits_on, number}
use Rattle.text.proofs.Decimals.{decimal-small, decimal-large, decimal-induct}

pub record Reads {A : Type 0} (r : Reader A) (print : A → List ℕ) (Good : A → Type 0) (Stop : List ℕ → Type 0) : Type 0 where
  pub sound : (x : List ℕ) (a : A) (y : List ℕ) → r x ≡ found a y → Good a × (x ≡ print a ++ y)
  pub whole : (a : A) (y : List ℕ) → Good a → Stop y → r (print a ++ y) ≡ found a y

-- whatever follows
abbrev pub Any : List ℕ → Type 0
Any y = Unit {0}

pub nothing-found : {A : Type 0} {a : A} {y : List ℕ} → ◌≡◌ {A = Read A} nothing (found a y) → ⊥
nothing-found e = let z : ◌≡◌ {A = ℕ} 0 1 = cc in absurd (omega arith)

-- one text, one value
pub reads-one : {A : Type 0} {r : Reader A} {print : A → List ℕ} {Good : A → Type 0} {Stop : List ℕ → Type 0} → Reads r print Good Stop
    → (a b : A) → Good a → Good b → Stop [] → print a ≡ print b → a ≡ b
reads-one {A} {r} {print} k a b g h s e =
    let p : r (print a) ≡ found a [] = rw append-nil at (k.whole a [] g s) in
    let q : r (print b) ≡ found b [] = rw append-nil at (k.whole b [] h s) in
    let z : found a [] ≡ found b [] = sym p ∙ ap r e ∙ q in
    cc

pub reads_as : {A : Type 0} {r : Reader A} {print print' : A → List ℕ} {Good : A → Type 0} {Stop : List ℕ → Type 0}
    → ((a : A) → print a ≡ print' a) → Reads r print Good Stop → Reads r print' Good Stop
reads_as {print = print} {print' = print'} same k = record {
  sound = λ x a y e. let s = k.sound x a y e in (s.0, s.1 ∙ ap (λ (t : List ℕ). t ++ y) (same a));
  whole = λ a y g s. rw (same a) at (k.whole a y g s);
}

-- ---- digits

-- no digit follows
abbrev pub NoDigit : List ℕ → Type 0
NoDigit [] = Unit {0}
NoDigit (c ∷ y) = 9 < digit_value c

pub digit-below : (c : ℕ) → c < 48 → 10 ≡ digit_value c
unfolding digit_value
digit-below c a = rw (lt-ltb c 48 a, digit_value)

pub digit-above : (c : ℕ) → 48 ≤ c → 57 < c → 10 ≡ digit_value c
unfolding digit_value
digit-above c a b = rw (le-ltb c 48 a, lt-ltb 57 c b, digit_value)

pub digit-inside : (c : ℕ) → 48 ≤ c → c ≤ 57 → c - 48 ≡ digit_value c
unfolding digit_value
digit-inside c a b = rw (le-ltb c 48 a, le-ltb 57 c b, digit_value)

pub digit-is : (d : ℕ) → d < 10 → digit_value (48 + d) ≡ d
unfolding digit_value
digit-is d h = rw (le-ltb (48 + d) 48 (omega arith), le-ltb 57 (48 + d) (omega arith), digit_value) (omega arith)

pub digit-byte : (c : ℕ) → digit_value c ≤ 9 → c ≡ 48 + digit_value c
unfolding digit_value
digit-byte c h = go (dec_lt c 48) (dec_lt 57 c)
  where
    go : Dec (c < 48) → Dec (57 < c) → c ≡ 48 + digit_value c
    go (yes a) b = let z : digit_value c ≡ 10 = rw (lt-ltb c 48 a, digit_value) in absurd (omega arith)
    go (no a) (yes b) = let z : digit_value c ≡ 10 = rw (le-ltb c 48 (omega arith), lt-ltb 57 c b, digit_value) in absurd (omega arith)
    go (no a) (no b) = let z : digit_value c ≡ c - 48 = rw (le-ltb c 48 (omega arith), le-ltb 57 c (omega arith), digit_value) in omega arith

pub newline-stops : 9 < digit_value 10
unfolding digit_value
newline-stops = omega arith

-- ---- numbers: the four things that can happen at a byte

pub digits-end : (v : ℕ) → digits_on v [] ≡ found v []
unfolding digits_on
digits-end v = refl

pub digits-stop : (v c : ℕ) (x : List ℕ) → 9 < digit_value c → digits_on v (c ∷ x) ≡ found v (c ∷ x)
unfolding digits_on
digits-stop v c x h = rw (lt-ltb 9 (digit_value c) h, digits_on)

pub digits-zero : (c : ℕ) (x : List ℕ) → digit_value c ≤ 9 → digits_on 0 (c ∷ x) ≡ nothing
unfolding digits_on
digits-zero c x h = rw (le-ltb 9 (digit_value c) h, digits_on)

pub digits-large : (v c : ℕ) (x : List ℕ) → digit_value c ≤ 9 → ¬ (v ≡ 0) → most_number < 10 * v + digit_value c → digits_on v (c ∷ x) ≡ nothing
unfolding digits_on
digits-large v c x h n l = rw (le-ltb 9 (digit_value c) h, ne_eqb v 0 n, lt-ltb most_number (10 * v + digit_value c) l, digits_on)

pub digits_more : (v c : ℕ) (x : List ℕ) → digit_value c ≤ 9 → ¬ (v ≡ 0) → 10 * v + digit_value c ≤ most_number
    → digits_on v (c ∷ x) ≡ digits_on (10 * v + digit_value c) x
unfolding digits_on
digits_more v c x h n l = rw (le-ltb 9 (digit_value c) h, ne_eqb v 0 n, le-ltb most_number (10 * v + digit_value c) l, digits_on)

pub number-none : number [] ≡ nothing
unfolding number
number-none = refl

pub number-other : (c : ℕ) (x : List ℕ) → 9 < digit_value c → number (c ∷ x) ≡ nothing
unfolding number
number-other c x h = rw (lt-ltb 9 (digit_value c) h, number)

pub number-first : (c : ℕ) (x : List ℕ) → digit_value c ≤ 9 → number (c ∷ x) ≡ digits_on (digit_value c) x
unfolding number
number-first c x h = rw (le-ltb 9 (digit_value c) h, number)

-- ---- numbers

digits-whole : (v : ℕ) (y : List ℕ) → NoDigit y → digits_on v y ≡ found v y
digits-whole v [] s = digits-end v
digits-whole v (c ∷ y) s = digits-stop v c y s

number-decimal : (n : ℕ) (y : List ℕ) → n ≤ most_number → number (decimal n ++ y) ≡ digits_on n y
number-decimal n y h = decimal-induct (λ m ds. (z : List ℕ) → m ≤ most_number → number (ds ++ z) ≡ digits_on m z) small large n y h
  where
    small : (m : ℕ) → m < 10 → (z : List ℕ) → m ≤ most_number → number ((48 + m) ∷ z) ≡ digits_on m z
    small m l z b = let d = digit-is m l in number-first (48 + m) z (omega (arith, d)) ∙ rw d

    large : (m : ℕ) (ds : List ℕ) → 10 ≤ m → ((z : List ℕ) → m / 10 ≤ most_number → number (ds ++ z) ≡ digits_on (m / 10) z)
        → (z : List ℕ) → m ≤ most_number → number ((ds ++ (48 + m % 10) ∷ []) ++ z) ≡ digits_on m z
    large m ds l next z b =
        let d : digit_value (48 + m % 10) ≡ m % 10 = digit-is (m % 10) (omega arith) in
        let e : 10 * (m / 10) + digit_value (48 + m % 10) ≡ m = omega arith in
        ap number (append_assoc ds ((48 + m % 10) ∷ []) z) ∙ next ((48 + m % 10) ∷ z) (omega arith)
        ∙ digits_more (m / 10) (48 + m % 10) z (omega arith) (λ q. omega arith) (omega arith) ∙ rw e

-- one digit more
decimal-more : (v d : ℕ) → ¬ (v ≡ 0) → d < 10 → decimal (10 * v + d) ≡ decimal v ++ (48 + d) ∷ []
decimal-more v d n h =
    let p : (10 * v + d) / 10 ≡ v = omega arith in
    let q : (10 * v + d) % 10 ≡ d = omega arith in
    decimal-large (10 * v + d) (omega arith) ∙ rw (p, q)

digits-sound : (v : ℕ) (x : List ℕ) (n : ℕ) (y : List ℕ) → v ≤ most_number → digits_on v x ≡ found n y
    → (n ≤ most_number) × (decimal v ++ x ≡ decimal n ++ y)
digits-sound v [] n y h e =
    let z : found v [] ≡ found n y = sym (digits-end v) ∙ e in
    let a : v ≡ n = cc in
    let b : [] ≡ y = cc in
    rw (← a, ← b) (h, refl)
digits-sound v (c ∷ x) n y h e =
    go (dec_lt 9 (digit_value c)) (ℕ_discrete v 0) (dec_lt most_number (10 * v + digit_value c)) (digits-sound (10 * v + digit_value c) x n y)
  where
    go : Dec (9 < digit_value c) → Dec (v ≡ 0) → Dec (most_number < 10 * v + digit_value c)
        → (10 * v + digit_value c ≤ most_number → digits_on (10 * v + digit_value c) x ≡ found n y
        → (n ≤ most_number) × (decimal (10 * v + digit_value c) ++ x ≡ decimal n ++ y))
        → (n ≤ most_number) × (decimal v ++ c ∷ x ≡ decimal n ++ y)
    go (yes a) b d next =
        let z : found v (c ∷ x) ≡ found n y = sym (digits-stop v c x a) ∙ e in
        let p : v ≡ n = cc in
        let q : c ∷ x ≡ y = cc in
        rw (← p, ← q) (h, refl)
    go (no a) (yes b) d next =
        let z : ◌≡◌ {A = Read ℕ} nothing (found n y) = sym (digits-zero c x (omega arith)) ∙ (rw b at e) in
        absurd (nothing-found z)
    go (no a) (no b) (yes d) next =
        let z : ◌≡◌ {A = Read ℕ} nothing (found n y) = sym (digits-large v c x (omega arith) b d) ∙ e in
        absurd (nothing-found z)
    go (no a) (no b) (no d) next =
        let l : digit_value c ≤ 9 = omega arith in
        let s = next (omega arith) (sym (digits_more v c x l b (omega arith)) ∙ e) in
        let k : decimal v ++ c ∷ x ≡ decimal (10 * v + digit_value c) ++ x
        = ap (λ (t : ℕ). decimal v ++ t ∷ x) (digit-byte c l)
        ∙ sym (ap (λ (t : List ℕ). t ++ x) (decimal-more v (digit_value c) b (omega arith)) ∙ append_assoc (decimal v) _ x) in
        (s.0, k ∙ s.1)

pub number-reads : Reads number decimal (λ n. n ≤ most_number) NoDigit
number-reads = record { sound = sound; whole = λ n y g s. number-decimal n y g ∙ digits-whole n y s }
  where
    sound : (x : List ℕ) (n : ℕ) (y : List ℕ) → number x ≡ found n y → (n ≤ most_number) × (x ≡ decimal n ++ y)
    sound [] n y e = absurd (nothing-found (sym number-none ∙ e))
    sound (c ∷ x) n y e = go (dec_lt 9 (digit_value c))
      where
        go : Dec (9 < digit_value c) → (n ≤ most_number) × (c ∷ x ≡ decimal n ++ y)
        go (yes a) = absurd (nothing-found (sym (number-other c x a) ∙ e))
        go (no a) =
            let l : digit_value c < 10 = omega arith in
            let s = digits-sound (digit_value c) x n y (omega arith) (sym (number-first c x (omega arith)) ∙ e) in
            let k : decimal (digit_value c) ++ x ≡ c ∷ x = rw (decimal-small (digit_value c) l) (ap (λ (t : ℕ). t ∷ x) (sym (digit-byte c (omega arith)))) in
            (s.0, sym k ∙ s.1)
