-- What the functions that read text ask and promise. No call's promise cites this file.
--   DigitRead, NumberRead, ListRead  what stands from a place on, and the place after it
--   Standing, Left, ItemGiven        the numbers of a list that was read before, one after another
--   PairsLeft, PairGiven             two at a time
use Rattle.std.specs.Prelude.{◌≡◌, List, [], ◌∷◌, ◌++◌, ℕ, suc, ◌+◌, ◌-◌, ◌≤◌, ◌<◌, length, get_or, drop, Option, Some, None}
use Rattle.text.specs.Text.{list_by}
use Rattle.text.specs.Reading.{nothing, found, digit_value, number, numbers_by}
use Rattle.text.proofs.ListReaders.{Separator, Bounded}
use Rattle.parsing.specs.declared.Number.{Number}
use Rattle.parsing.specs.declared.Span.{Span}
use Rattle.parsing.specs.declared.Items.{Items}
use Rattle.parsing.specs.declared.Pair.{Pair}
use Rattle.parsing.specs.declared.Pairs.{Pairs}

-- the digit that a byte is
abbrev pub DigitRead : ℕ → Option ℕ → Type 0
DigitRead byte None = 9 < digit_value byte
DigitRead byte (Some d) = (d ≡ digit_value byte) × (d ≤ 9)

-- the number from a place on, and the place after it
pub record NumberAt (t : List ℕ) (at : ℕ) (r : Number) : Type 0 where
  pub is : number (drop at t) ≡ found r.value (drop r.end t)
  pub after : at < r.end
  pub inside : r.end ≤ length t

abbrev pub NumberRead : List ℕ → ℕ → Option Number → Type 0
NumberRead t at None = number (drop at t) ≡ nothing
NumberRead t at (Some r) = NumberAt t at r

-- the list from a place on, with s and u between its numbers in turn
pub record ListAt (s u : ℕ) (t : List ℕ) (at : ℕ) (r : Span) : Type 0 where
  pub values : List ℕ
  pub is : numbers_by s u (drop at t) ≡ found values (drop r.end t)
  pub count : r.count ≡ length values
  pub after : at < r.end
  pub inside : r.end ≤ length t

abbrev pub ListRead : ℕ → ℕ → List ℕ → ℕ → Option Span → Type 0
ListRead s u t at None = numbers_by s u (drop at t) ≡ nothing
ListRead s u t at (Some r) = ListAt s u t at r

-- numbers stand from a place on, s and u between them in turn, and their line ends after them
pub record Standing (s u : ℕ) (t : List ℕ) (at : ℕ) (vs : List ℕ) : Type 0 where
  pub first : Separator s
  pub second : Separator u
  pub bounded : Bounded vs
  pub tail : List ℕ
  pub is : drop at t ≡ list_by (s ∷ []) (u ∷ []) vs ++ 10 ∷ tail

-- the same, where no number has no place
pub data Left (s u : ℕ) (t : List ℕ) : Option ℕ → List ℕ → Type 0 where
  none : Left s u t None []
  some : {at v : ℕ} {vs : List ℕ} → Standing s u t at (v ∷ vs) → Left s u t (Some at) (v ∷ vs)

-- where the next of them stands, after one that ends at a place
abbrev pub NextPlace : List ℕ → ℕ → Option ℕ → Type 0
NextPlace t end None = end < length t → get_or t end 0 ≡ 10
NextPlace t end (Some next) = (end < length t) × (¬ (get_or t end 0 ≡ 10)) × (next ≡ end + 1)

-- how many bytes can be left of numbers
abbrev pub bytes_left : List ℕ → Option ℕ → ℕ
bytes_left t None = 0
bytes_left t (Some at) = suc (length t - at)

-- the first of them is given, and the others are left: what is between them comes in the other turn
pub record ItemGiven (i : Items) (r : Option ℕ) (j : Items) : Type 0 where
  pub text : j.text.now ≡ i.text.now
  pub some : {s u v : ℕ} {vs : List ℕ} → Left s u i.text.now i.next (v ∷ vs) → (r ≡ Some v) × Left u s i.text.now j.next vs
  pub none : {s u : ℕ} → Left s u i.text.now i.next [] → r ≡ None

-- two entries for each pair
pub data Paired : List ℕ → Type 0 where
  none : Paired []
  pair : {e c : ℕ} {ps : List ℕ} → Paired ps → Paired (e ∷ c ∷ ps)

-- pairs stand from a place on, a colon (58) in each and commas (44) between them
pub record PairsLeft (t : List ℕ) (place : Option ℕ) (ps : List ℕ) : Type 0 where
  pub paired : Paired ps
  pub left : Left 58 44 t place ps

pub record PairGiven (i : Pairs) (r : Option Pair) (j : Pairs) : Type 0 where
  pub text : j.items.text.now ≡ i.items.text.now
  pub some : {e c : ℕ} {ps : List ℕ} → Left 58 44 i.items.text.now i.items.next (e ∷ c ∷ ps)
      → (r ≡ Some (record { end = e; count = c })) × Left 58 44 i.items.text.now j.items.next ps
  pub none : Left 58 44 i.items.text.now i.items.next [] → r ≡ None
