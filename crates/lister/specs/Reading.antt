-- What the functions that read ask of each other. Which bytes are read is said where the input says which it has left.
use Rattle.std.specs.Prelude.{◌≡◌, ℕ, ◌<◌, ◌≤◌, List, [], ◌++◌, length, take, Option, Some, None}
use Rattle.std.specs.Io.KnownBytes.{Consumes, IsAtEnd}

-- no more bytes than there is room for
abbrev pub Within : Option ℕ → ℕ → Type 0
Within (Some k) room = k ≤ room
Within None room = Unit {0}

-- the bytes of one read are the first that were left, and stand at the front of the buffer; none in a buffer with room are the input's end
abbrev pub ReadOnce : Option (List ℕ) → Option (List ℕ) → Option ℕ → List ℕ → Type 0
ReadOnce old new (Some k) buffer = Consumes old new (take k buffer) × (k ≡ 0 → 0 < length buffer → IsAtEnd new)
ReadOnce old new None buffer = Unit {0}

-- the same of reading until the buffer is full or the input ends
abbrev pub ReadFull : Option (List ℕ) → Option (List ℕ) → Option ℕ → List ℕ → Type 0
ReadFull old new (Some k) word = Consumes old new (take k word) × (k < length word → IsAtEnd new)
ReadFull old new None word = Unit {0}

-- bytes that were left were read and not kept; none of them are the input's end
abbrev pub ReadRest : Option (List ℕ) → Option (List ℕ) → Option ℕ → Type 0
ReadRest old new (Some k) = ((rest : List ℕ) × Consumes old new rest) × (k ≡ 0 → IsAtEnd new)
ReadRest old new None = Unit {0}

-- the bytes at the front of the buffer, and others only behind more than a record may have, were left; and they are all if the buffer has room for more
-- than a record
abbrev pub ReadAll : Option (List ℕ) → Option (List ℕ) → Option ℕ → List ℕ → Type 0
ReadAll old new (Some k) word = ((rest : List ℕ) × Consumes old new (take k word ++ rest) × (k ≤ 4096 → rest ≡ [])) × (4096 < length word → IsAtEnd new)
ReadAll old new None word = Unit {0}
