-- DEFINITIONS. What the list program does with an input, where that says which bytes it has left, and with outputs that say what they hold.
use Rattle.std.specs.Prelude.{ℕ, List, ◌⊎◌, codes}
use Rattle.std.specs.declared.option.Option.{Option}
use Rattle.std.specs.Io.KnownBytes.{Keeps, Appends, Consumes, IsAtEnd}
use Rattle.listing.specs.Listing.{listing_of}

-- what is said of a read that failed
abbrev pub not_read : List ℕ
not_read = codes "list: the record could not be read\n"

-- the input is read to its end, the listing of all its bytes is written, and nothing is said
pub record WroteListing (input input' output output' errors errors' : Option (List ℕ)) : Type 0 where
  pub word : List ℕ
  pub read : Consumes input input' word
  pub end : IsAtEnd input'
  pub wrote : Appends output output' (listing_of word)
  pub quiet : Keeps errors errors'

-- one line is said, and nothing is written
pub record SaidFailed (output output' errors errors' : Option (List ℕ)) : Type 0 where
  pub kept : Keeps output output'
  pub said : Appends errors errors' not_read

-- the listing, or after a read that failed the one line
abbrev pub Lists : Option (List ℕ) → Option (List ℕ) → Option (List ℕ) → Option (List ℕ) → Option (List ℕ) → Option (List ℕ) → Type 0
Lists input input' output output' errors errors' = WroteListing input input' output output' errors errors' ⊎ SaidFailed output output' errors errors'
