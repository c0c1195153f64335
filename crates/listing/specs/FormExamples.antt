-- THEOREM examples. The form computes: the listing of record H has it, also with other numbers, and of length 0; not with pairs that are cut off or have other
-- bytes between their numbers, a leading zero, a number of 4,097 or of thirty digits, an empty list, twelve bands, lines that are missing, exchanged or
-- misspelt, a byte too few or too many; nor has a refusal, nor no text.
use Rattle.std.specs.Prelude.{◌≡◌, refl, true, false, List, [], ◌∷◌, ◌++◌, map, ℕ, replicate}
use Rattle.text.specs.Text.{ascii}
use Rattle.listing.specs.Form.{is_listing}

abbrev front : List ℕ
front = ascii "length=9\npieces=2\n"

abbrev back : List ℕ
back = ascii "longest=5\nfrom=0\nbands=0,0,2,0,0,0,0,0,0,0,0,0,0\n"

-- record H's listing, with these two lists, and with all else too
abbrev with_lists : List ℕ → List ℕ → List ℕ
with_lists ends strict = front ++ ascii "ends=" ++ ends ++ ascii "\nstrict=" ++ strict ++ ascii "\n" ++ back

abbrev with_ends : List ℕ → List ℕ
with_ends ends = with_lists ends (ascii "5,8,9")

abbrev with_strict : List ℕ → List ℕ
with_strict strict = with_lists (ascii "5:1,9:2") strict

abbrev lists : List ℕ
lists = ascii "ends=5:1,9:2\nstrict=5,8,9\n"

pub record FormExamples : Type 0 where
  pub formed : map is_listing (
      with_ends (ascii "5:1,9:2")
      ∷ with_ends (ascii "0:0")
      ∷ with_strict (ascii "0,4096,7,7")
      ∷ (ascii "length=0\npieces=0\n" ++ lists ++ back)
      ∷ [])
      ≡ replicate 4 true
  pub pairs : map is_listing (
      with_ends (ascii "5:1,9")
      ∷ with_ends (ascii "5,1,9,2")
      ∷ with_ends (ascii "5:1:9:2")
      ∷ with_ends (ascii "5,9")
      ∷ with_ends (ascii "5:1,9:")
      ∷ with_ends [] ∷ [])
      ≡ replicate 6 false
  pub numbers : map is_listing (
      with_strict (ascii "05,8,9")
      ∷ with_strict (ascii "5,8,4097")
      ∷ with_strict (ascii "5,8,123456789012345678901234567890")
      ∷ with_strict []
      ∷ with_strict (ascii "5,,9")
      ∷ with_strict (ascii "5,8,9,")
      ∷ with_strict (ascii "5:8")
      ∷ (ascii "length=\npieces=2\n" ++ lists ++ back)
      ∷ (ascii "length=9,9\npieces=2\n" ++ lists ++ back)
      ∷ [])
      ≡ replicate 9 false
  pub lines : map is_listing (
      (front ++ back)
      ∷ (front ++ ascii "Ends=5:1,9:2\nstrict=5,8,9\n" ++ back)
      ∷ (front ++ ascii "strict=5,8,9\nends=5:1,9:2\n" ++ back)
      ∷ (front ++ ascii "ends=5:1,9:2\nstrict=5,8,9" ++ back)
      ∷ (front ++ lists ++ back ++ ascii "\n")
      ∷ (front ++ lists ++ ascii "longest=5\nfrom=0\nbands=0,0,2,0,0,0,0,0,0,0,0,0\n")
      ∷ (front ++ lists ++ ascii "longest=5\nfrom=0\nbands=0,0,2,0,0,0,0,0,0,0,0,0,0")
      ∷ ascii "refused=1\n"
      ∷ []
      ∷ [])
      ≡ replicate 9 false

pub form-examples : FormExamples
unfolding is_listing
form-examples = record { formed = refl; pairs = refl; numbers = refl; lines = refl }
