-- DEFINITIONS. Text as bytes: ASCII characters, numbers in decimal, lists of them with commas, and lines `key=value`.
use Rattle.std.specs.Prelude.{true, false, List, [], ◌∷◌, ◌++◌, ℕ, zero, suc, ◌+◌, ◌/◌, ◌%◌, ltb}
use Prim.Native.String.{String, [] as empty, ◌∷◌ as ◌before◌}
use Prim.Native.Char.{code}

-- the bytes of a text of ASCII characters
abbrev pub ascii : String → List ℕ
ascii empty = []
ascii (c before cs) = code c ∷ ascii cs

-- a number of at most k decimal digits; a digit d is the byte 48 + d
unfoldable pub decimal_within : ℕ → ℕ → List ℕ
decimal_within zero n = []
decimal_within (suc k) n = elim (ltb n 10) [ true ↦ (48 + n) ∷ [] | false ↦ decimal_within k (n / 10) ++ (48 + n % 10) ∷ [] ]

-- a number in decimal, without leading zeros; n has at most n + 1 digits
unfoldable pub decimal : ℕ → List ℕ
unfolding decimal_within
decimal n = decimal_within (suc n) n

-- numbers in decimal, before them s and t in turn
unfoldable pub each_after : List ℕ → List ℕ → List ℕ → List ℕ
unfolding decimal
each_after s t [] = []
each_after s t (n ∷ ns) = s ++ decimal n ++ each_after t s ns

-- numbers in decimal, between them s and t in turn
unfoldable pub list_by : List ℕ → List ℕ → List ℕ → List ℕ
unfolding decimal each_after
list_by s t [] = []
list_by s t (n ∷ ns) = decimal n ++ each_after s t ns

-- numbers with commas between them; pairs with commas between them, and a colon in each: `13:2,17:2`
abbrev pub comma_list : List ℕ → List ℕ
comma_list ns = list_by (ascii ",") (ascii ",") ns

abbrev pub pair_list : List ℕ → List ℕ
pair_list ps = list_by (ascii ":") (ascii ",") ps

-- a line `key=value`, "ended by byte 10"
unfoldable pub line : List ℕ → List ℕ → List ℕ
line key value = key ++ ascii "=" ++ value ++ ascii "\n"
