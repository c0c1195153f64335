-- DEFINITIONS. The form of a listing (request 109): "seven lines of our keys in order, each value of the kind that we print there (a number; a nonempty
-- list ..; thirteen counts ..) in decimal without leading zeros and at most 4,096". The readers are those of text.
use Rattle.std.specs.Prelude.{Bool, true, false, List, [], ◌∷◌, ℕ}
use Rattle.text.specs.Text.{ascii}
use Rattle.text.specs.Reading.{Read, nothing, found, Reader, number, numbers_by, counted, numbers, pairs, exactly, line_of, ◌then◌}

-- the seven values: length, pieces, ends (each end, then its count), strict, longest, from, bands
abbrev pub Values : Type 0
Values = ℕ × (ℕ × (List ℕ × (List ℕ × (ℕ × (ℕ × List ℕ)))))

-- the last three lines: the summary but for the number of pieces
abbrev pub last_values : Reader (ℕ × (ℕ × List ℕ))
last_values =
    line_of (ascii "longest") number
    then (line_of (ascii "from") number
    then line_of (ascii "bands") (exactly 13 numbers))

-- "seven lines of our keys in order"
unfoldable pub seven_values : Reader Values
unfolding number numbers_by counted line_of ◌then◌
seven_values =
    line_of (ascii "length") number
    then (line_of (ascii "pieces") number
    then (line_of (ascii "ends") pairs
    then (line_of (ascii "strict") numbers
    then last_values)))

-- "the last byte is 10 and nothing follows"
abbrev pub is_whole : {A : Type 0} → Read A → Bool
is_whole nothing = false
is_whole (found a []) = true
is_whole (found a (c ∷ y)) = false

-- a text has the form of a listing
unfoldable pub is_listing : List ℕ → Bool
unfolding seven_values
is_listing t = is_whole (seven_values t)
