-- The places of a batch as replies: the turns of the loop (Replied), each at a place whose count fits (place-small); after the last one every place is in its
-- reply (replied-all).
use mathlib.Core.Path.{◌≡◌, refl, ap, sym, ◌∙◌}
use mathlib.Core.List.{List, [], ◌∷◌, ◌++◌, map, map-append, append_assoc}
use Prim.Native.Nat.{ℕ, zero, suc, ◌+◌, ◌-◌, ◌≤◌, ◌<◌, min}
use native.Mathlib.Numerals.{add-one}
use native.Mathlib.Omega.{arith}
use lib.ListN.{get_or-map, length, take, get_or, set, replicate, length-append, length-map, length-replicate}
use lib.Seq.{take-suc, set_at, length-take-le}
use Rattle.std.specs.Prelude.{Result, Ok}
use Rattle.conditions.specs.Conditions.{most_records}
use Rattle.checks.specs.Answers.{Says, gives, count_says}
use Rattle.checks.specs.declared.refusals.Refusal.{Refusal}
use Rattle.batch.specs.Batch.{says_of, places_of}
use Rattle.numbers.specs.declared.Reply.{Reply}
use Rattle.numbers.specs.Numbers.{numbers_or, count_numbers, reply_of, SmallCount, SmallBatch}

-- ---- what the places say of some answers, and of blank ones past them

abbrev blank : Says ℕ
blank = gives 0

placed-length : (answers : List (Says ℕ)) → length answers ≤ most_records → length (places_of answers) ≡ most_records
placed-length answers few =
    length-append answers (replicate (most_records - length answers) blank) ∙ omega (arith, length-replicate (most_records - length answers) blank)

blanks-small : (n i : ℕ) → SmallCount (get_or (replicate n blank) i blank)
blanks-small zero i = omega arith
blanks-small (suc n) zero = omega arith
blanks-small (suc n) (suc i) = blanks-small n i

placed-small : (answers : List (Says ℕ)) (n i : ℕ) → SmallCount (get_or answers i blank) → SmallCount (get_or (answers ++ replicate n blank) i blank)
placed-small [] n i h = blanks-small n i
placed-small (a ∷ answers) n zero h = h
placed-small (a ∷ answers) n (suc i) h = placed-small answers n i h

-- what the place at i says
says_at : (places : List (Result ℕ Refusal)) (i : ℕ) → count_says (get_or places i (Ok 0)) ≡ get_or (says_of places) i blank
says_at places i = sym (get_or-map count_says places i (Ok 0))

blank-past : (ps : List (Says ℕ)) (m i : ℕ) → length ps ≤ i → i ≤ length ps + m
    → take i (ps ++ replicate m blank) ++ replicate (length ps + m - i) blank ≡ ps ++ replicate m blank
blank-past [] m zero p q = let z : 0 + m - 0 ≡ m = omega arith in rw z refl
blank-past [] zero (suc i) p q = absurd (omega (arith, q))
blank-past [] (suc m) (suc i) p q =
    let z : 0 + suc m - suc i ≡ 0 + m - i = omega arith in
    rw z (ap (λ (t : List (Says ℕ)). blank ∷ t) (blank-past [] m i (omega arith) (omega arith)))
blank-past (x ∷ ps) m zero p q = absurd (omega (arith, p))
blank-past (x ∷ ps) m (suc i) p q =
    let z : suc (length ps) + m - suc i ≡ length ps + m - i = omega arith in
    rw z (ap (λ (t : List (Says ℕ)). x ∷ t) (blank-past ps m i (omega arith) (omega arith)))

placed_past : (answers : List (Says ℕ)) (i : ℕ) → length answers ≤ i → i ≤ most_records
    → take i (places_of answers) ++ replicate (most_records - i) blank ≡ places_of answers
placed_past answers i p q =
    let z : length answers + (most_records - length answers) - i ≡ most_records - i = omega arith in
    rw z at (blank-past answers (most_records - length answers) i p (omega arith))

-- ---- the loop

-- what the places before i say is in their replies, and all others are at 0
pub record Replied (places : List (Result ℕ Refusal)) (replies : List Reply) (i : ℕ) : Type 0 where
  pub front : replies ≡ map reply_of (take i (says_of places) ++ replicate (most_records - i) blank)
  pub inside : i ≤ most_records

pub replied-starts : (places : List (Result ℕ Refusal)) → Replied places (map reply_of (places_of [])) 0
replied-starts places = record { front = refl; inside = omega arith }

module _ (places : List (Result ℕ Refusal)) {records : ℕ} (s : SmallBatch (0, says_of places) records) where
  pub place-small : (i : ℕ) → SmallCount (count_says (get_or places i (Ok 0)))
  place-small i = rw (says_at places i, s.placed) (placed-small s.answers (most_records - length s.answers) i (s.small i))

  pub replied-on : {replies : List Reply} {i : ℕ} (x : Reply) → Replied places replies i → i < most_records
      → (x.refusal, x.count) ≡ count_numbers (count_says (get_or places i (Ok 0))) → Replied places (set replies i x) (i + 1)
  replied-on {replies} {i} x g l e =
      let said = says_of places in
      let full : length said ≡ most_records = ap length s.placed ∙ placed-length s.answers s.few in
      let done = take i said in
      let rest = replicate (most_records - suc i) blank in
      let m : most_records - i ≡ suc (most_records - suc i) = omega arith in
      let told : (x.refusal, x.count) ≡ numbers_or 0 (get_or said i blank) = e ∙ ap (numbers_or 0) (says_at places i) in
      record {
        front = rw (add-one i)
            (ap (λ (t : List Reply). set t i x) g.front
            ∙ ap (λ (k : ℕ). set (map reply_of (done ++ replicate k blank)) i x) m
            ∙ ap (λ (t : List Reply). set t i x) (map-append reply_of done (blank ∷ rest))
            ∙ set_at (map reply_of done) (reply_of blank) (map reply_of rest) x i (length-map done reply_of ∙ length-take-le i said (omega (arith, full)))
            ∙ ap (λ (t : ℕ × ℕ). map reply_of done ++ record { refusal = t.0; count = t.1 } ∷ map reply_of rest) told
            ∙ sym (map-append reply_of done (get_or said i blank ∷ rest))
            ∙ ap (map reply_of)
            (sym (append_assoc done (get_or said i blank ∷ []) rest)
            ∙ ap (λ (t : List (Says ℕ)). t ++ rest) (sym (take-suc said i blank (omega (arith, full))))));
        inside = omega arith;
      }

  -- past the last record, or past the last place, the replies at 0 are right
  pub replied-all : {replies : List Reply} {i : ℕ} → Replied places replies i → min records most_records ≤ i → replies ≡ map reply_of (says_of places)
  replied-all {i = i} g past =
      let all : take i (says_of places) ++ replicate (most_records - i) blank ≡ says_of places =
      rw s.placed (placed_past s.answers i (omega (arith, s.few, s.within, past)) g.inside)
      in
      g.front ∙ ap (map reply_of) all
