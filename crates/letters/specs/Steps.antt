-- What the comparison's inner functions ask and promise; sign_of stands in compare's promise.
use Rattle.std.specs.Prelude.{◌≡◌, Option, Some, None, List, ℕ, ◌<◌, min, length, ℤ, pos, negsuc}
use Rattle.std.specs.declared.cmp.Ordering.{Ordering}
use Rattle.std.specs.declared.cmp.Ordering.TheVariants.{Less, Equal, Greater}
use Rattle.words.specs.Words.{common_length_of}
use Rattle.theory.specs.Orders.CommonLength.{Agree}
use Rattle.theory.specs.Orders.WordSigns.{SignOfWords}
use Rattle.letters.specs.declared.Order.{Order}

-- both words have more than l letters, of which the first l are equal and the next two are not
pub record PartedAt (x y : List ℕ) (l : ℕ) : Type 0 where
  pub agree : Agree x y l
  pub left : l < length x
  pub right : l < length y

-- where two words part, if they do; else one is a prefix of the other
abbrev pub Parting : List ℕ → List ℕ → Option ℕ → Type 0
Parting x y (Some l) = PartedAt x y l
Parting x y None = Agree x y (min (length x) (length y))

-- the sign as the paper's number
abbrev pub sign_of : Ordering → ℤ
sign_of Less = negsuc 0
sign_of Equal = pos 0
sign_of Greater = pos 1

-- the sign of a word of m letters and one of n, of which one is a prefix of the other
pub data PrefixSign (m n : ℕ) : Ordering → Type 0 where
  before : m < n → PrefixSign m n Less
  same : m ≡ n → PrefixSign m n Equal
  after : n < m → PrefixSign m n Greater

pub record PrefixOrdered (m n : ℕ) (r : Order) : Type 0 where
  pub sign-is : PrefixSign m n r.sign
  pub common-is : r.common ≡ min m n

-- two words compared
pub record Ordered (x y : List ℕ) (r : Order) : Type 0 where
  pub sign-is : SignOfWords x y (sign_of r.sign)
  pub common-is : r.common ≡ common_length_of x y
