-- DEFINITIONS. A break in its buffer.
use Rattle.std.specs.Prelude.{List, [], ◌∷◌, ℕ}
use Rattle.buffers.specs.Buffers.{grouped}
use Rattle.words.specs.declared.Fate.{Fate}
use Rattle.words.specs.declared.Fate.TheVariants.{Kept, Joined}
use Rattle.words.specs.declared.Break.{Break}

-- "In its buffer a break fills five 16-bit entries: the three numbers, then a and b, or 256 and the number it was joined with."
abbrev pub fate_entries : Fate → List ℕ
fate_entries (Kept a b) = a ∷ b ∷ []
fate_entries (Joined shortfall) = 256 ∷ shortfall ∷ []

abbrev pub break_entries : Break → List ℕ
break_entries b = b.place ∷ b.begun ∷ b.border ∷ fate_entries b.fate

abbrev pub entries_of_breaks : List Break → List ℕ
entries_of_breaks = grouped break_entries
