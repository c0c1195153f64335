-- The listing of a record that is too long is that of a refusal, whatever its bytes are; and what the promise of a listing tells of the buffer.
use Rattle.std.proofs.Common.{◌≡◌, ℕ, ◌<◌, ◌≤◌, List, [], ◌∷◌, ◌++◌, Bool, true, false, length, take, drop}
use Rattle.std.proofs.Common.{arith, ap, sym, ◌∙◌, refl, length-append, append-nil}
use Rattle.std.proofs.lemmas.Bool.{cases_lt}
use Rattle.std.proofs.Math.Logic.{inl, inr}
use lib.Seq.{take-append_seam}
use borrow.Author.Tests.{ne_eqb, lt-ltb}
use Rattle.checks.specs.Lines.{◌when◌, tried, decided, Checked, Refused}
use Rattle.listing.specs.Listing.{listing_door, listing_of, refused_line, Listed}

-- the second of two lines is met
second : (m n : ℕ) (a b : Bool) → a ≡ false → b ≡ true → tried (m when a ∷ n when b ∷ []) ≡ Refused n
unfolding tried
second m n a b p q = rw (p, q) refl

pub long-refused : (w : List ℕ) → 4096 < length w → tried (listing_door w) ≡ Refused 2
long-refused w long = second 1 2 _ _ (ne_eqb (length w) 0 (λ z. omega arith)) (lt-ltb 4096 (length w) long)

what-refused : {A : Type 0} (k : Checked) (result : A) (refusal : ℕ → A) (n : ℕ) → k ≡ Refused n → decided k result refusal ≡ refusal n
what-refused k result refusal n e = rw e refl

pub long-listing : (w : List ℕ) → 4096 < length w → listing_of w ≡ refused_line 2
unfolding listing_of
long-listing w long = what-refused (tried (listing_door w)) _ refused_line 2 (long-refused w long)

-- bytes that stand only behind a record that is too long
pub same-listing : (w v : List ℕ) → (length w ≤ 4096 → v ≡ []) → listing_of w ≡ listing_of (w ++ v)
same-listing w v none = elim (cases_lt 4096 (length w)) [
  | inl long ↦ long-listing w long ∙ sym (long-listing (w ++ v) (omega (arith, length-append w v)))
  | inr short ↦ ap listing_of (sym (ap (λ l. w ++ l) (none short) ∙ append-nil w))
]

-- the listing stands at the front of the buffer
pub listed-text : {w work pairs strict out work' pairs' strict' out' : List ℕ} {r : ℕ} → Listed w work pairs strict out r work' pairs' strict' out'
    → take r out' ≡ listing_of w
listed-text {w} {out = out} {out' = out'} d =
    ap (λ n. take n out') d.size ∙ ap (take _) d.text ∙ take-append_seam (listing_of w) (drop (length (listing_of w)) out)
