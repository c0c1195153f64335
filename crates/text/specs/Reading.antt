-- DEFINITIONS. Text that is read: a reader takes a value of its kind from the front of a text, or finds none there. The readers of numbers, of lists and
-- of lines are the other half of what Text writes.
use Rattle.std.specs.Prelude.{Bool, true, false, List, [], ◌∷◌, ◌++◌, ℕ, zero, suc, ◌+◌, ◌-◌, ◌*◌, ◌%◌, length, ltb, eqb}
use Rattle.text.specs.Text.{ascii}

infix 60 ◌then◌
-- nothing, or a value and the text after it
pub data Read (A : Type 0) : Type 0 where
  nothing : Read A
  found : A → List ℕ → Read A

abbrev pub Reader : Type 0 → Type 0
Reader A = List ℕ → Read A

-- what is done with the value and the text after it
abbrev pub follow : {A B : Type 0} → Read A → (A → List ℕ → Read B) → Read B
follow nothing f = nothing
follow (found a y) f = f a y

-- "at most 4,096"
abbrev pub most_number : ℕ
most_number = 4096

-- the digit that a byte is, 10 where it is none
unfoldable pub digit_value : ℕ → ℕ
digit_value c = elim (ltb c 48) [ true ↦ 10 | false ↦ elim (ltb 57 c) [ true ↦ 10 | false ↦ c - 48 ] ]

-- further digits, after those that are worth v: none may follow a 0, and the number is "at most 4,096"
unfoldable pub digits_on : ℕ → Reader ℕ
unfolding digit_value
digits_on v [] = found v []
digits_on v (c ∷ x) =
    let n : ℕ = 10 * v + digit_value c in
    let more : Read ℕ = digits_on n x in
    elim (ltb 9 (digit_value c)) [
      | true ↦ found v (c ∷ x)
      | false ↦ elim (eqb v 0) [ true ↦ nothing | false ↦ elim (ltb most_number n) [ true ↦ nothing | false ↦ more ] ]
    ]

-- a number "in decimal without leading zeros and at most 4,096"
unfoldable pub number : Reader ℕ
unfolding digits_on
number [] = nothing
number (c ∷ x) = elim (ltb 9 (digit_value c)) [ true ↦ nothing | false ↦ digits_on (digit_value c) x ]

-- these bytes, then a value
unfoldable pub past : {A : Type 0} → List ℕ → Reader A → Reader A
past [] r x = r x
past (c ∷ cs) r [] = nothing
past (c ∷ cs) r (d ∷ x) = elim (eqb c d) [ true ↦ past cs r x | false ↦ nothing ]

-- a value, then these bytes
unfoldable pub upto : {A : Type 0} → List ℕ → Reader A → Reader A
unfolding past
upto cs r x = follow (r x) (λ a y. past cs (λ z. found a z) y)

-- two values, one after the other
unfoldable pub ◌then◌ : {A B : Type 0} → Reader A → Reader B → Reader (A × B)
(r then s) x = follow (r x) (λ a y. follow (s y) (λ b z. found (a, b) z))

-- numbers, before them the bytes s and t in turn, as long as that byte follows; fewer than k of them
unfoldable pub each_within : ℕ → ℕ → ℕ → Reader (List ℕ)
unfolding number
each_within zero s t x = nothing
each_within (suc k) s t [] = found [] []
each_within (suc k) s t (c ∷ x) =
    let more : Read (List ℕ) = follow (number x) (λ n y. follow (each_within k t s y) (λ ns z. found (n ∷ ns) z)) in
    elim (eqb c s) [ true ↦ more | false ↦ found [] (c ∷ x) ]

-- "a nonempty list": numbers, between them the bytes s and t in turn; after the first there are no more than bytes left
unfoldable pub numbers_by : ℕ → ℕ → Reader (List ℕ)
unfolding number each_within
numbers_by s t x = follow (number x) (λ n y. follow (each_within (suc (length y)) s t y) (λ ns z. found (n ∷ ns) z))

-- a list, if a test of its length holds
unfoldable pub counted : {A : Type 0} → (ℕ → Bool) → Reader (List A) → Reader (List A)
counted test r x = follow (r x) (λ vs y. elim (test (length vs)) [ true ↦ found vs y | false ↦ nothing ])

-- a list of n values
abbrev pub exactly : {A : Type 0} → ℕ → Reader (List A) → Reader (List A)
exactly n r = counted (λ k. eqb k n) r

-- a list of an even number of values
abbrev pub evenly : {A : Type 0} → Reader (List A) → Reader (List A)
evenly r = counted (λ k. eqb (k % 2) 0) r

-- "a nonempty list .. of numbers", with commas (44) between them
abbrev pub numbers : Reader (List ℕ)
numbers = numbers_by 44 44

-- "a nonempty list of pairs `end:count`", one number after the other: a colon (58) in each pair, commas between them
abbrev pub pairs : Reader (List ℕ)
pairs = evenly (numbers_by 58 44)

-- a line `key=value`, "ended by byte 10"
unfoldable pub line_of : {A : Type 0} → List ℕ → Reader A → Reader A
unfolding past upto
line_of key r = past (key ++ ascii "=") (upto (ascii "\n") r)
