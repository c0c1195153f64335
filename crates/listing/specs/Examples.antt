-- THEOREM examples. The definitions compute paper 01's listing of record H, byte for byte; further record I, record E, of whose equally long pieces
-- request 101 wants the latest, H twice with a mark between (request 103), an empty record and one too long by one.
use Rattle.std.specs.Prelude.{◌≡◌, refl, [], ◌∷◌, ◌++◌, replicate}
use Rattle.text.specs.Text.{ascii}
use Rattle.listing.specs.Listing.{listing_of}

pub record Examples : Type 0 where
  pub h : listing_of (ascii "cbabacbac")
      ≡ ascii "length=9\npieces=2\nends=5:1,9:2\nstrict=5,8,9\nlongest=5\nfrom=0\nbands=0,0,2,0,0,0,0,0,0,0,0,0,0\n"
  pub i : listing_of (ascii "cbabacaacbabacbac")
      ≡ ascii "length=17\npieces=2\nends=13:2,17:2\nstrict=8,13,16,17\nlongest=13\nfrom=0\nbands=0,0,1,1,0,0,0,0,0,0,0,0,0\n"
  pub e : listing_of (ascii "abc")
      ≡ ascii "length=3\npieces=3\nends=1:1,2:1,3:1\nstrict=1,2,3\nlongest=1\nfrom=2\nbands=3,0,0,0,0,0,0,0,0,0,0,0,0\n"
  pub mark : listing_of (ascii "cbabacbac" ++ 255 ∷ ascii "cbabacbac")
      ≡ ascii "length=19\npieces=5\nends=5:1,9:2,10:1,15:1,19:2\nstrict=5,8,9,10,15,18,19\nlongest=5\nfrom=10\nbands=1,0,4,0,0,0,0,0,0,0,0,0,0\n"
  pub empty : listing_of [] ≡ ascii "refused=1\n"
  pub long : listing_of (replicate 4097 97) ≡ ascii "refused=2\n"

pub examples : Examples
unfolding listing_of
examples = record { h = refl; i = refl; e = refl; mark = refl; empty = refl; long = refl }
