-- What was read, with what stands behind a record that is too long, has the listing that is written.
use Rattle.std.proofs.Common.{arith, length, take, ◌++◌, ◌≡◌, ◌≤◌, [], ◌∙◌, subst, length-take-le}
use Rattle.std.proofs.Math.Logic.{inl, inr}
use Rattle.std.proofs.lemmas.Result.{on_ok_weaker}
use Rattle.std.specs.Io.KnownBytes.{Appends}
use Rattle.std.proofs.KnownBytes.{Keeps-refl}
use Rattle.lister.proofs.ListingLaws.{same-listing, listed-text}
use Rattle.lister.proofs.list.Goals as goal

pub returns-in_default : goal.returns-in_default
returns-in_default g c = on_ok_weaker _ (λ said. inr (record { kept = Keeps-refl _; said = said })) c.write_all.ensures.bytes

pub returns : goal.returns
returns g c =
    let k = c.in-Some.length in
    let word = c.read_record.new.word in
    let read = c.in-Some.ensures.read in
    let size : length (take k word) ≡ k = length-take-le k word (omega (arith, c.in-Some.ensures.within)) in
    let none : length (take k word) ≤ 4096 → read.0.0 ≡ [] = λ short. read.0.2 (omega arith) in
    on_ok_weaker _ (λ w. inl (record {
      word = take k word ++ read.0.0;
      read = read.0.1;
      end = read.1 (omega arith);
      wrote = subst (Appends _ _) (listed-text c.write_listing-size.ensures ∙ same-listing (take k word) read.0.0 none) w;
      quiet = Keeps-refl _;
    })) c.write_all-2.ensures.bytes
