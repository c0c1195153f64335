-- DEFINITIONS. What is said of a list of words, of one step of the piece cut, of its breaks, of two starts (which comes first, how far they agree), and
-- demand 3 of a word. The product of a list of words is the library's flatten.
use Rattle.std.specs.Prelude.{◌≡◌, ◌⊎◌, ℕ, suc, ◌+◌, ◌-◌, ◌≤◌, ◌<◌, max, length, take, drop, get_or, ℤ, pos, negsuc}
use mathlib.Core.List.{List, [], ◌∷◌, ◌++◌, flatten, Memᴰ}
use Rattle.std.proofs.Math.Seq.{slice}
use Rattle.words.specs.Words.{◌≪◌, ◌⊑◌, ◌<ₗ◌, ◌≺◌, InverseLyndon, AntiLyndon, remainder, sign}
use Rattle.words.specs.Factorizations.{icfl, icfl_ends, cfl_in_ends}
use Rattle.words.specs.declared.Fate.{Fate}
use Rattle.words.specs.declared.Fate.TheVariants.{Kept, Joined}
use Rattle.words.specs.declared.Break.{Break}

-- m has R to the first word of the list, if there is one
pub data Next (R : List ℕ → List ℕ → Type 0) (m : List ℕ) : List (List ℕ) → Type 0 where
  end : Next R m []
  by : {n : List ℕ} {ns : List (List ℕ)} → R m n → Next R m (n ∷ ns)

-- every word has P, and each has R to the next
pub data Linked (P : List ℕ → Type 0) (R : List ℕ → List ℕ → Type 0) : List (List ℕ) → Type 0 where
  none : Linked P R []
  more : {m : List ℕ} {ms : List (List ℕ)} → P m → Next R m ms → Linked P R ms → Linked P R (m ∷ ms)

abbrev pub EqualOrAfter : List ℕ → List ℕ → Type 0
EqualOrAfter l m = (l ≡ m) ⊎ (m ≺ l)

-- strict cut: "division into strict words in which each word is equal to the next one or comes after it in the inverse order"
pub record CflInOf (w : List ℕ) (ls : List (List ℕ)) : Type 0 where
  pub product : flatten ls ≡ w
  pub words : Linked AntiLyndon EqualOrAfter ls

-- every nonempty suffix of m, m itself too, is below n by a mismatch
abbrev pub DominatedBy : List ℕ → List ℕ → Type 0
DominatedBy m n = (u s : List ℕ) → u ++ s ≡ m → 0 < length s → s ≪ n

-- request 109: "each loses to the next at a shared byte, and no nonempty proper beginning of a piece that also ends it begins the next"
abbrev pub BelowByBorders : List ℕ → List ℕ → Type 0
BelowByBorders m n = (m ≪ n) × ((u s : List ℕ) → u ++ s ≡ m → 0 < length u → 0 < length s → s ⊑ m → ¬ (s ⊑ n))

-- "It can be written r a u r b, where a and b are bytes, a is less than b, and r and u may be empty", with |r| = k
pub data BorderedBy (k : ℕ) (x : List ℕ) : Type 0 where
  bordered : (r u : List ℕ) (a b : ℕ) → x ≡ r ++ a ∷ u ++ r ++ b ∷ [] → a < b → length r ≡ k → BorderedBy k x

-- bounded right extension: L, |p| and |r| of a word that is not inverse Lyndon
pub record BoundedExtension (w : List ℕ) (failing prefix border : ℕ) : Type 0 where
  -- "take its shortest beginning that is not falling, of length L" (nonempty)
  pub positive : 0 < failing
  pub inside : failing ≤ length w
  pub fails : ¬ InverseLyndon (take failing w)
  pub shortest : (n : ℕ) → 0 < n → n < failing → InverseLyndon (take n w)
  -- "It can be written r a u r b ..; take the shortest such r."
  pub written : BorderedBy border (take failing w)
  pub least : (k : ℕ) → k < border → ¬ BorderedBy k (take failing w)
  -- "The first L − |r| − 1 bytes are p."
  pub before : prefix ≡ failing - border - 1

-- ---- breaks (request 102)

-- from place i to place n: the first step begins at i and each later one where the break before it lies; the places rise, and lie before n
pub data Chained (n : ℕ) : ℕ → List Break → Type 0 where
  end : {i : ℕ} → i < n → Chained n i []
  next : {b : Break} {bs : List Break} → b.begun < b.place → Chained n b.place bs → Chained n b.begun (b ∷ bs)

-- the places of the kept breaks
abbrev pub place_if_kept : Fate → ℕ → List ℕ → List ℕ
place_if_kept (Kept a b) place es = place ∷ es
place_if_kept (Joined shortfall) place es = es

unfoldable pub kept_places : List Break → List ℕ
kept_places [] = []
kept_places (b ∷ bs) = place_if_kept b.fate b.place (kept_places bs)

-- j is the first of the ends after i
pub record NextEnd (es : List ℕ) (i j : ℕ) : Type 0 where
  pub among : Memᴰ j es
  pub after : i < j
  pub first : (e : ℕ) → Memᴰ e es → i < e → j ≤ e

-- the joined piece is the first one of what follows the place, and runs to the next piece end; s is what it lacks of |r|
pub record JoinedTo (w : List ℕ) (place border s : ℕ) : Type 0 where
  pub piece : List ℕ
  pub others : List (List ℕ)
  pub first : icfl (drop place w) ≡ piece ∷ others
  pub lacks : s + length piece ≡ border
  pub below : s < border
  pub ends : NextEnd (icfl_ends w) place (place + length piece)

pub record BreaksOf (w : List ℕ) (bs : List Break) : Type 0 where
  pub chained : Chained (length w) 0 bs
  pub few : length bs < length w
  -- "The kept breaks and the record's end are exactly the piece ends."
  pub ends : kept_places bs ++ length w ∷ [] ≡ icfl_ends w
  -- "the place where p ends, the place where that step began, and |r|"
  pub step : (b : Break) → Memᴰ b bs
      → BoundedExtension (drop b.begun w) (suc (b.place - b.begun + b.border)) (b.place - b.begun) b.border
  -- "kept with the two bytes a and b that differed"
  pub letters : (k : Break) (a b : ℕ) → Memᴰ k bs → k.fate ≡ Kept a b
      → (a ≡ get_or w (k.begun + k.border) 0) × (b ≡ get_or w (k.place + k.border) 0) × (a < b)
  -- "or joined with the number |r| less the joined piece's length"
  pub joined : (b : Break) (s : ℕ) → Memᴰ b bs → b.fate ≡ Joined s → JoinedTo w b.place b.border s

-- ---- two starts of a stretch

-- "It compares the two remainders of the stretch in the inverse order: −1 if the first start's comes first, 0 if the starts are equal, +1 otherwise."
pub data SignOf (w : List ℕ) (first end start other : ℕ) : ℤ → Type 0 where
  before : ¬ (start ≡ other) → remainder w first end start ≺ remainder w first end other → SignOf w first end start other (negsuc 0)
  equal : start ≡ other → SignOf w first end start other (pos 0)
  after : ¬ (start ≡ other) → ¬ (remainder w first end start ≺ remainder w first end other) → SignOf w first end start other (pos 1)

-- ---- how far two starts agree before end (request 104)

-- n letters from both starts on lie before end, and are equal
pub record Shared (w : List ℕ) (end start other n : ℕ) : Type 0 where
  pub inside : max start other + n ≤ end
  pub equal : (t : ℕ) → t < n → get_or w (start + t) 0 ≡ get_or w (other + t) 0

-- "the number of equal leading bytes before the stretch ends for either of them"
pub record SharedMost (w : List ℕ) (end start other n : ℕ) : Type 0 where
  pub shared : Shared w end start other n
  -- the later remainder ends there, or the next two letters differ
  pub parts : (max start other + n ≡ end) ⊎ (¬ (get_or w (start + n) 0 ≡ get_or w (other + n) 0))
  pub largest : (m : ℕ) → Shared w end start other m → m ≤ n

-- ---- ends

-- j follows i in the list
pub data Adjacent (i j : ℕ) : List ℕ → Type 0 where
  here : {es : List ℕ} → Adjacent i j (i ∷ j ∷ es)
  there : {e : ℕ} {es : List ℕ} → Adjacent i j es → Adjacent i j (e ∷ es)

-- "The pieces of a record lie between neighbouring ends of its piece cut, the first from place 0"; so do the strict pieces
abbrev pub Part : List ℕ → ℕ → ℕ → Type 0
Part es i j = Adjacent i j (0 ∷ es)

-- "A stretch of whole neighbouring pieces has 0 or a piece end as its first place, and a later piece end as its end."
abbrev pub WholePieces : List ℕ → ℕ → ℕ → Type 0
WholePieces es i j = Memᴰ i (0 ∷ es) × Memᴰ j es

-- for two different starts inside it, the order found from each stretch that is Chosen is the one found from 0 to n
abbrev pub Compatible : {A : Type 0} (Chosen : ℕ → ℕ → Type 0) (n : ℕ) (order : ℕ → ℕ → ℕ → ℕ → A) → Type 0
Compatible Chosen n order = (first end start other : ℕ) → Chosen first end
    → first ≤ start → start < end → first ≤ other → other < end → ¬ (start ≡ other)
    → order first end start other ≡ order 0 n start other

pub record Demand3 (w : List ℕ) : Type 0 where
  -- "For every stretch of whole neighbouring pieces and every two different starting minutes inside it, the inverse order
  -- found from that stretch alone is exactly the one found when both run to the record's end."
  pub compatible : Compatible (WholePieces (icfl_ends w)) (length w) (sign w)
  -- "In natural byte order each piece exceeds every shorter ending of its own"
  pub exceeds : (i j : ℕ) → Part (icfl_ends w) i j → (u s : List ℕ) → u ++ s ≡ slice i j w → 0 < length u → 0 < length s → s <ₗ slice i j w
  -- "and each but the last loses to the next piece at a byte that both have."
  pub loses : (i j k : ℕ) → Part (icfl_ends w) i j → Part (icfl_ends w) j k → slice i j w ≪ slice j k w
  -- "Every piece ends where a strict piece ends"
  pub strict : (e : ℕ) → Memᴰ e (icfl_ends w) → Memᴰ e (cfl_in_ends w)
  -- "and wherever a strict piece and the one after it lie in one piece, the first begins with the whole of the second."
  pub nested : (a b i j k : ℕ) → Part (icfl_ends w) a b → Part (cfl_in_ends w) i j → Part (cfl_in_ends w) j k → a ≤ i → k ≤ b
      → slice j k w ⊑ slice i j w
