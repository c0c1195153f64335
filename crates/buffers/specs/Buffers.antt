-- DEFINITIONS. What a lent buffer holds after it was cleared or written to; it keeps its length. And items in a buffer.
use mathlib.Core.List.{List, ◌++◌, map, flatten}
use Rattle.std.specs.Prelude.{ℕ, length, drop, replicate}

-- the first n entries "are zero and later ones unchanged"
abbrev pub cleared : ℕ → List ℕ → List ℕ
cleared n buffer = replicate n 0 ++ drop n buffer

-- vs stands from entry 0 on, later entries as they were
abbrev pub written : List ℕ → List ℕ → List ℕ
written vs buffer = vs ++ drop (length vs) buffer

-- the entries of each item, after those of the one before
abbrev pub grouped : {A : Type 0} → (A → List ℕ) → List A → List ℕ
grouped entries items = flatten (map entries items)
