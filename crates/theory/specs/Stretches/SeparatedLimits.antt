-- THEOREMS over-separators-fails, over-larger-letters-fails, over-larger-letters-table. Both conditions of demand 3's first sentence are needed: it fails over whole
-- pieces that hold separators (ff ff 61, the two separators), and in a word with a letter above the separator; there the table's law fails too.
use Rattle.std.specs.Prelude.{◌≡◌, refl, List, [], ◌∷◌, ℕ, length, pos, negsuc}
use mathlib.Core.List.Memᴰ
use Rattle.std.proofs.Common.{arith}
use Rattle.words.specs.Words.{sign}
use Rattle.words.specs.Factorizations.{lyndon_table}
use Rattle.theory.specs.Statements.{WholePieces, Compatible}
use Rattle.words.specs.Separated.{separator, separated_icfl_ends, separated_table}
use Rattle.theory.specs.SeparatedStatements.{SeparatedDemand3}
use Rattle.theory.specs.Stretches.Unmarked.{unmarked-empty, unmarked-cons}

after-is-not-before : pos 1 ≡ negsuc 0 → ⊥
after-is-not-before e = let b : ◌≡◌ {A = ℕ} 0 1 = cc in absurd (omega arith)

-- over 0 to 2 the starts 0 and 1 give +1, to the record's end −1
pub over-separators-fails : (let w : List ℕ = separator ∷ separator ∷ 97 ∷ [] in ¬ Compatible (WholePieces (separated_icfl_ends w)) (length w) (sign w))
unfolding separated_icfl_ends sign
over-separators-fails f = after-is-not-before (f 0 2 0 1 (Memᴰ.head refl, Memᴰ.tail (Memᴰ.head refl))
    (omega arith) (omega arith) (omega arith) (omega arith) (λ e. omega arith))

pub over-larger-letters-fails : ¬ SeparatedDemand3 (256 ∷ 256 ∷ separator ∷ [])
unfolding separated_icfl_ends sign
over-larger-letters-fails d =
    after-is-not-before (d.compatible 0 2 0 1 (
      (Memᴰ.head refl, Memᴰ.head refl),
      unmarked-cons (λ e. omega arith) (unmarked-cons (λ e. omega arith) unmarked-empty),
    ) (omega arith) (omega arith) (omega arith) (omega arith) (λ e. omega arith))

-- at a letter above the separator the whole word's entry may reach over a separator
pub over-larger-letters-table : (separated_table (256 ∷ separator ∷ []) ≡ 1 ∷ 1 ∷ []) × (lyndon_table (256 ∷ separator ∷ []) ≡ 2 ∷ 1 ∷ [])
unfolding separated_table lyndon_table
over-larger-letters-table = (refl, refl)
