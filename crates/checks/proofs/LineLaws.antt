-- The lines of the table, whatever they are: an answer that is refused (refused) or passed up by `?` (passed-up), a check says one of the two (not-both), lines
-- that are tried in two parts (refused-first, passed_first), at a call's door and past it (refused-at-door, past-door, both-pass, both-passed), what it
-- tells that all pass (unmet, all_pass), what an answer says (reading, said, gave, count-given), which numbers can come (first-listed, zero-passes,
-- numbered_is, unless-but), and calls that fill a result buffer (filled-refused, filled-done; at a door filled-at-door, filled-past-door; and back:
-- filled-counted, filled-entries, filled-front, filled-number).
use mathlib.Core.Path.{◌≡◌, refl, ap, sym, ◌∙◌}
use mathlib.Core.Bool.{Bool, true, false, not, ◌||◌, ◌&&◌, true≢false}
use mathlib.Core.Logic.{◌⊎◌, inl, inr}
use mathlib.Core.List.{List, [], ◌∷◌, ◌++◌, Memᴰ}
use Prim.Native.Nat.{ℕ, zero, suc, ◌≤◌}
use native.Mathlib.Omega.{arith}
use lib.Dec.{eqb, ltb}
use lib.ListN.{length, take, drop, length-append}
use lib.Seq.{take_at}
use borrow.Author.Tests.{eqb-true, ltb-true, not-true}
use Rattle.std.specs.Prelude.{Result, Ok, Err, IsErrAnd}
use Rattle.std.proofs.lemmas.Result.{err_from_is_err_and}
use Rattle.buffers.specs.Buffers.{written}
use Rattle.checks.specs.declared.refusals.Refusal.{Refusal}
use Rattle.checks.specs.Lines.{Line, ◌when◌, Checked, Passed, Refused, tried, decided, ◌unless◌then◌}
use Rattle.checks.specs.Answers.{checked_number, numbered, Says, gives, refuses, checked, count_says, Filled}

-- ---- answers

-- a refusal is what it stands for, whatever the result would have been
pub refused : {A : Type 0} (lines : List Line) (result : A) (refusal : ℕ → A) {m : ℕ} → Refused m ≡ tried lines → refusal m ≡ result unless lines then refusal
refused lines result refusal e = ap (λ (t : Checked). decided t result refusal) e

-- what `?` answers is the refusal that it was given
pub passed-up : {T : Type 0} (r : Result T Refusal) {e : Refusal} → IsErrAnd r (λ d. d ≡ e) → r ≡ Err e
passed-up r x = let p = err_from_is_err_and r x in p.1 ∙ ap (λ (d : Refusal). Err d) p.2

-- a check says one of the two
pub not-both : {k : Checked} {e : ℕ} → k ≡ Refused e → ¬ (k ≡ Passed)
not-both x y = let b : ◌≡◌ {A = ℕ} 0 1 = cc in absurd (omega arith)

-- ---- lines that are tried in two parts

-- the first refusal of two
abbrev first_of : Checked → Checked → Checked
first_of k next = decided k next Refused

parts : (lines more : List Line) → first_of (tried lines) (tried more) ≡ tried (lines ++ more)
unfolding tried
parts [] more = refl
parts (number when true ∷ lines) more = refl
parts (number when false ∷ lines) more = parts lines more

pub refused-first : (lines more : List Line) {m : ℕ} → Refused m ≡ tried lines → Refused m ≡ tried (lines ++ more)
refused-first lines more e = ap (λ (k : Checked). first_of k (tried more)) e ∙ parts lines more

pub passed_first : (lines more : List Line) {k : Checked} → tried lines ≡ Passed → k ≡ tried more → k ≡ tried (lines ++ more)
passed_first lines more p e = e ∙ (rw p at (parts lines more))

-- past the lines at a call's door only its own lines are tried
pub past-door : {A : Type 0} (door own : List Line) (result : A) (refusal : ℕ → A) → tried door ≡ Passed
    → (result unless own then refusal) ≡ (result unless door ++ own then refusal)
past-door door own result refusal p = ap (λ (t : Checked). decided t result refusal) (passed_first door own p refl)

pub both-pass : (door own : List Line) → tried door ≡ Passed → tried own ≡ Passed → tried (door ++ own) ≡ Passed
both-pass door own p q = sym (passed_first door own p (sym q))

-- where all pass, those at the door do and so do the call's own
pub both-passed : (door own : List Line) → tried (door ++ own) ≡ Passed → (tried door ≡ Passed) × (tried own ≡ Passed)
both-passed door own e = go (tried door) (tried own) (parts door own ∙ e)
  where
    go : (k l : Checked) → first_of k l ≡ Passed → (k ≡ Passed) × (l ≡ Passed)
    go Passed l e = (refl, e)
    go (Refused number) l e = absurd (not-both refl e)

-- a call that is refused at its door
pub refused-at-door : {A : Type 0} (door own : List Line) (result : A) (refusal : ℕ → A) {m : ℕ} → Refused m ≡ tried door
    → refusal m ≡ result unless door ++ own then refusal
refused-at-door door own result refusal e = refused (door ++ own) result refusal (refused-first door own e)

-- more lines that pass where the others do change nothing
pub first_alone : (lines more : List Line) → (tried lines ≡ Passed → tried more ≡ Passed) → tried (lines ++ more) ≡ tried lines
first_alone lines more h = sym (parts lines more) ∙ go (tried lines) h
  where
    go : (k : Checked) → (k ≡ Passed → tried more ≡ Passed) → first_of k (tried more) ≡ k
    go Passed h = h refl
    go (Refused number) h = refl

-- ---- all lines pass just where no condition is met

abbrev pub Unmet : List Line → Type 0
Unmet [] = Unit {0}
Unmet (number when met ∷ lines) = (met ≡ false) × Unmet lines

pub unmet : (lines : List Line) → tried lines ≡ Passed → Unmet lines
unfolding tried
unmet [] e = search
unmet (number when true ∷ lines) e = cc
unmet (number when false ∷ lines) e = (refl, unmet lines e)

pub all_pass : (lines : List Line) → Unmet lines → tried lines ≡ Passed
unfolding tried
all_pass [] u = refl
all_pass (number when met ∷ lines) u = rw u.0 (all_pass lines u.1)

-- ---- which numbers can come

-- what is read off an answer
pub reading : {A B : Type 0} (f : A → B) (result : A) (refusal : ℕ → A) (k : Checked)
    → f (decided k result refusal) ≡ decided k (f result) (λ number. f (refusal number))
reading f result refusal Passed = refl
reading f result refusal (Refused number) = refl

-- an answer says what the check said
pub said : {A : Type 0} (values : A) (k : Checked) {s : Says A} → s ≡ decided k (gives values) refuses → checked s ≡ k
said values Passed e = ap checked e
said values (Refused number) e = ap checked e

-- and so it is a result with these values just where the check passed
pub gave : {A : Type 0} (values : A) (k : Checked) {s : Says A} → s ≡ decided k (gives values) refuses → checked s ≡ Passed → (k ≡ Passed) × (s ≡ gives values)
gave values Passed e p = (refl, e)
gave values (Refused number) e p = absurd (not-both (ap checked e) p)

-- a result is known by what it says
pub count-given : (r : Result ℕ Refusal) {n : ℕ} → count_says r ≡ gives n → r ≡ Ok n
count-given (Ok m) {n} e = let z : m ≡ n = cc in ap (λ (t : ℕ). Ok t) z
count-given (Err refusal) e = let z : ◌≡◌ {A = ℕ} 0 1 = cc in absurd (omega arith)

both_true : (a b : Bool) → (a && b) ≡ true → (a ≡ true) × (b ≡ true)
both_true true b e = (refl, e)
both_true false b e = absurd (true≢false (sym e))

-- a test holds for every line's number
abbrev pub every_number : (ℕ → Bool) → List Line → Bool
every_number test [] = true
every_number test (number when met ∷ lines) = test number && every_number test lines

pub every-joined : (test : ℕ → Bool) (lines more : List Line) → every_number test lines ≡ true → every_number test more ≡ true
    → every_number test (lines ++ more) ≡ true
every-joined test [] more e f = f
every-joined test (number when met ∷ lines) more e f =
    let u = both_true (test number) (every_number test lines) e in
    rw u.0 (every-joined test lines more u.1 f)

pub every-weaker : (test other : ℕ → Bool) → ((n : ℕ) → test n ≡ true → other n ≡ true) → (lines : List Line) → every_number test lines ≡ true
    → every_number other lines ≡ true
every-weaker test other h [] e = refl
every-weaker test other h (number when met ∷ lines) e =
    let u = both_true (test number) (every_number test lines) e in
    rw (h number u.0) (every-weaker test other h lines u.1)

-- so it holds for the number of the line that refuses
pub number-tested : (test : ℕ → Bool) (lines : List Line) → every_number test lines ≡ true
    → (tried lines ≡ Passed) ⊎ (test (checked_number (tried lines)) ≡ true)
unfolding tried
number-tested test [] e = inl refl
number-tested test (number when true ∷ lines) e = inr (both_true (test number) (every_number test lines) e).0
number-tested test (number when false ∷ lines) e = number-tested test lines (both_true (test number) (every_number test lines) e).1

pub refused-tested : (test : ℕ → Bool) (lines : List Line) {m : ℕ} → every_number test lines ≡ true → Refused m ≡ tried lines → test m ≡ true
refused-tested test lines {m} every e = go (number-tested test lines every)
  where
    go : (tried lines ≡ Passed) ⊎ (test (checked_number (tried lines)) ≡ true) → test m ≡ true
    go (inl p) = absurd (not-both (sym e) p)
    go (inr t) = ap (λ (k : Checked). test (checked_number k)) e ∙ t

abbrev pub among : List ℕ → ℕ → Bool
among [] n = false
among (m ∷ ms) n = eqb n m || among ms n

among-is : (ms : List ℕ) (n : ℕ) → among ms n ≡ true → Memᴰ n ms
among-is [] n e = absurd (true≢false (sym e))
among-is (m ∷ ms) n e = go (eqb n m) refl e (λ h. among-is ms n h)
  where
    go : (t : Bool) → eqb n m ≡ t → (t || among ms n) ≡ true → (among ms n ≡ true → Memᴰ n ms) → Memᴰ n (m ∷ ms)
    go true z e later = Memᴰ.head (eqb-true n m z)
    go false z e later = Memᴰ.tail (later e)

pub among_first : (ms ns : List ℕ) (n : ℕ) → among ms n ≡ true → among (ms ++ ns) n ≡ true
among_first [] ns n e = absurd (true≢false (sym e))
among_first (m ∷ ms) ns n e = go (eqb n m) e (among_first ms ns n)
  where
    go : (t : Bool) → (t || among ms n) ≡ true → (among ms n ≡ true → among (ms ++ ns) n ≡ true) → (t || among (ms ++ ns) n) ≡ true
    go true e later = refl
    go false e later = later e

pub among_second : (ms ns : List ℕ) (n : ℕ) → among ns n ≡ true → among (ms ++ ns) n ≡ true
among_second [] ns n e = e
among_second (m ∷ ms) ns n e = go (eqb n m) (among_second ms ns n e)
  where
    go : (t : Bool) → among (ms ++ ns) n ≡ true → (t || among (ms ++ ns) n) ≡ true
    go true h = refl
    go false h = h

-- the numbers of a call's lines are its refusals
pub first-listed : (lines : List Line) (ms : List ℕ) → every_number (among ms) lines ≡ true → (tried lines ≡ Passed) ⊎ Memᴰ (checked_number (tried lines)) ms
first-listed lines ms e = go (number-tested (among ms) lines e)
  where
    go : (tried lines ≡ Passed) ⊎ (among ms (checked_number (tried lines)) ≡ true) → (tried lines ≡ Passed) ⊎ Memᴰ (checked_number (tried lines)) ms
    go (inl p) = inl p
    go (inr h) = inr (among-is ms _ h)

-- no line has the number 0, so 0 says that all pass
pub zero-passes : (lines : List Line) → every_number (ltb 0) lines ≡ true → checked_number (tried lines) ≡ 0 → tried lines ≡ Passed
zero-passes lines e z = go (number-tested (ltb 0) lines e)
  where
    go : (tried lines ≡ Passed) ⊎ (ltb 0 (checked_number (tried lines)) ≡ true) → tried lines ≡ Passed
    go (inl p) = p
    go (inr h) = absurd (omega (arith, z, ltb-true 0 (checked_number (tried lines)) h))

-- so a number says as much as the check
pub numbered_is : (lines : List Line) → every_number (ltb 0) lines ≡ true → numbered (checked_number (tried lines)) ≡ tried lines
numbered_is lines e = go (tried lines) (zero-passes lines e)
  where
    go : (k : Checked) → (checked_number k ≡ 0 → k ≡ Passed) → numbered (checked_number k) ≡ k
    go Passed h = refl
    go (Refused zero) h = sym (h refl)
    go (Refused (suc number)) h = refl

-- more lines whose refusal stands for the result too, all of one number that no line before them has
pub unless-but : {A : Type 0} (result other : A) (lines more : List Line) (number : ℕ) → every_number (λ m. not (eqb m number)) lines ≡ true
    → every_number (λ m. eqb m number) more ≡ true
    → (result unless lines ++ more then (λ m. elim (eqb m number) [ true ↦ result | false ↦ other ])) ≡ (result unless lines then (λ m. other))
unfolding tried
unless-but result other [] [] number e f = refl
unless-but result other [] (m when true ∷ more) number e f =
    let h = (both_true (eqb m number) (every_number (λ k. eqb k number) more) f).0 in
    ap (λ (t : Bool). elim t [ true ↦ result | false ↦ other ]) h
unless-but result other [] (m when false ∷ more) number e f =
    unless-but result other [] more number e (both_true (eqb m number) (every_number (λ k. eqb k number) more) f).1
unless-but result other (m when true ∷ lines) more number e f =
    let h = (both_true (not (eqb m number)) (every_number (λ k. not (eqb k number)) lines) e).0 in
    ap (λ (t : Bool). elim t [ true ↦ result | false ↦ other ]) (not-true (eqb m number) h)
unless-but result other (m when false ∷ lines) more number e f =
    unless-but result other lines more number (both_true (not (eqb m number)) (every_number (λ k. not (eqb k number)) lines) e).1 f

-- ---- calls that fill a result buffer

pub filled-refused : {m : ℕ} {lines : List Line} (n : ℕ) (vs buffer : List ℕ) → Refused m ≡ tried lines → Filled lines n vs buffer (refuses m) buffer
filled-refused {lines = lines} n vs buffer e = record {
  answer = refused lines (gives n) (λ (i : ℕ). refuses i) e;
  result = refused lines (written vs buffer) (λ (i : ℕ). buffer) e;
}

pub filled-done : {lines : List Line} {n m : ℕ} {vs buffer buffer' : List ℕ} → tried lines ≡ Passed → m ≡ n → buffer' ≡ written vs buffer
    → Filled lines n vs buffer (gives m) buffer'
filled-done p z e = record { answer = rw p (ap (λ (t : ℕ). gives t) z); result = rw p e }

-- the two ways through a door
pub filled-at-door : (door own : List Line) (n : ℕ) (vs buffer : List ℕ) {m : ℕ} → Refused m ≡ tried door → Filled (door ++ own) n vs buffer (refuses m) buffer
filled-at-door door own n vs buffer e = filled-refused n vs buffer (refused-first door own e)

pub filled-past-door : (door : List Line) {own : List Line} {n : ℕ} {vs buffer buffer' : List ℕ} {s : Says ℕ} → tried door ≡ Passed
    → Filled own n vs buffer s buffer'
    → Filled (door ++ own) n vs buffer s buffer'
filled-past-door door {own} {n} {vs} {buffer} p f = record {
  answer = f.answer ∙ past-door door own (gives n) (λ (i : ℕ). refuses i) p;
  result = f.result ∙ past-door door own (written vs buffer) (λ (i : ℕ). buffer) p;
}

-- what the cases of the answer tell
pub filled-counted : {lines : List Line} {n m : ℕ} {vs buffer buffer' : List ℕ} → Filled lines n vs buffer (gives m) buffer'
    → (tried lines ≡ Passed) × (m ≡ n) × (buffer' ≡ written vs buffer)
filled-counted {lines} {n} {m} {vs} {buffer} {buffer'} f = go (tried lines) f.answer f.result
  where
    go : (k : Checked) → gives m ≡ decided k (gives n) refuses → buffer' ≡ decided k (written vs buffer) (λ number. buffer)
        → (k ≡ Passed) × (m ≡ n) × (buffer' ≡ written vs buffer)
    go Passed e b = (refl, cc, b)
    go (Refused number) e b = let z : ◌≡◌ {A = ℕ} 0 1 = cc in absurd (omega arith)

-- a call that answered m wrote m entries to the buffer's front
pub filled-entries : {lines : List Line} {n m : ℕ} {vs buffer buffer' : List ℕ} → Filled lines n vs buffer (gives m) buffer' → (k : ℕ) → k ≡ length vs
    → (take k buffer' ≡ vs) × (k ≤ length buffer')
filled-entries {vs = vs} {buffer = buffer} f k e =
    rw ((filled-counted f).2, e) (take_at vs (drop (length vs) buffer) (length vs) refl, rw length-append (omega arith))

pub filled-front : {lines : List Line} {m : ℕ} {vs buffer buffer' : List ℕ} → Filled lines (length vs) vs buffer (gives m) buffer'
    → (take m buffer' ≡ vs) × (m ≤ length buffer')
filled-front {m = m} f = filled-entries f m (filled-counted f).1

pub filled-number : {lines : List Line} {n m : ℕ} {vs buffer buffer' : List ℕ} → Filled lines n vs buffer (refuses m) buffer'
    → (tried lines ≡ Refused m) × (buffer' ≡ buffer)
filled-number {lines} {n} {m} {vs} {buffer} {buffer'} f = go (tried lines) f.answer f.result
  where
    go : (k : Checked) → refuses m ≡ decided k (gives n) refuses → buffer' ≡ decided k (written vs buffer) (λ number. buffer)
        → (k ≡ Refused m) × (buffer' ≡ buffer)
    go Passed x b = let z : ◌≡◌ {A = ℕ} 0 1 = cc in absurd (omega arith)
    go (Refused number) x b = (cc, b)
