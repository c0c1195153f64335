-- The library but for one call: what each careless library is. Each says only the call in which it differs.
use Rattle.std.specs.Prelude.{List, ℕ, ℤ, Option}
use Rattle.numbers.specs.declared.SummaryReply.{SummaryReply}
use Rattle.checks.specs.Answers.{Says}
use Rattle.extension.specs.declared.Extension.{Extension}
use Rattle.demands.specs.Calls.{Calls, library}

abbrev pub Test : Type 1
Test = (w work : List ℕ) (r : Says (Option Extension)) (work' : List ℕ) → Type 0

abbrev pub Cut : Type 1
Cut = (w work pairs : List ℕ) (r : Says ℕ) (work' pairs' : List ℕ) → Type 0

abbrev pub ReasonedCut : Type 1
ReasonedCut = (w work pairs breaks : List ℕ) (r : Says (ℕ × ℕ)) (work' pairs' breaks' : List ℕ) → Type 0

abbrev pub Card : Type 1
Card = (bytes es work pairs : List ℕ) (r : ℕ × List (Says ℕ)) (work' pairs' : List ℕ) → Type 0

abbrev pub Listing : Type 1
Listing = (w out : List ℕ) (r : Says ℕ) (out' : List ℕ) → Type 0

abbrev pub Comparing : Type 1
Comparing = (w : List ℕ) (first end start other : ℕ) (r : Says (ℤ × ℕ)) → Type 0

abbrev pub Reader : Type 1
Reader = (w ps : List ℕ) (k : ℕ) (part : List ℕ) (number : ℕ) → Type 0

abbrev pub Summing : Type 1
Summing = (w ps : List ℕ) (r : SummaryReply) → Type 0

abbrev calls : Test → Cut → ReasonedCut → Card → Listing → Comparing → Reader → Summing → Calls
calls test cut reasoned_cut card listing comparing reader summing = record {
  Test = test;
  PieceCut = cut;
  ReasonedCut = reasoned_cut;
  CardCut = card;
  StrictCut = library.StrictCut;
  StartTable = library.StartTable;
  Repetitions = listing;
  Comparing = comparing;
  Reading = reader;
  Summing = summing;
}

abbrev pub tester : Test → Calls
tester test =
    calls test library.PieceCut library.ReasonedCut library.CardCut library.Repetitions library.Comparing library.Reading library.Summing

abbrev pub cutter : Cut → Calls
cutter cut =
    calls library.Test cut library.ReasonedCut library.CardCut library.Repetitions library.Comparing library.Reading library.Summing

abbrev pub reasoner : ReasonedCut → Calls
reasoner reasoned =
    calls library.Test library.PieceCut reasoned library.CardCut library.Repetitions library.Comparing library.Reading library.Summing

abbrev pub card_cutter : Card → Calls
card_cutter card =
    calls library.Test library.PieceCut library.ReasonedCut card library.Repetitions library.Comparing library.Reading library.Summing

abbrev pub lister : Listing → Calls
lister listing =
    calls library.Test library.PieceCut library.ReasonedCut library.CardCut listing library.Comparing library.Reading library.Summing

abbrev pub comparer : Comparing → Calls
comparer comparing =
    calls library.Test library.PieceCut library.ReasonedCut library.CardCut library.Repetitions comparing library.Reading library.Summing

abbrev pub reader : Reader → Calls
reader reading =
    calls library.Test library.PieceCut library.ReasonedCut library.CardCut library.Repetitions library.Comparing reading library.Summing

abbrev pub summer : Summing → Calls
summer summing =
    calls library.Test library.PieceCut library.ReasonedCut library.CardCut library.Repetitions library.Comparing library.Reading summing
